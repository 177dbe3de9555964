use Rattle.std.proofs.Common.{length, sym, subst}
use Rattle.std.specs.Str.{IsUtf8}
use Rattle.std.proofs.lemmas.Str.{IsUtf8-from_ascii}
use Rattle.base64.specs.GeneralPurpose.{encode_of, encoded_size_of}
use Rattle.base64.specs.Engines.{standard}
use Rattle.base64.specs.declared.encode.EncodeSliceError.TheVariants.{OutputSliceTooSmall}
use Rattle.base64.proofs.EngineFacts.{IsAscii-encode_of, encoded_prefix}
use Rattle.shared_core_json.proofs.write.write_base64.Goals as goal

pub from_utf8_unchecked-requires : goal.from_utf8_unchecked-requires
from_utf8_unchecked-requires c =
    let bytes = c.args.bytes.now in
    let text = encoded_prefix (encode_of standard bytes) c.as_mut_slice-text.result.now c.encode_slice.new.output
    (encoded_size_of standard (length bytes)) c.in-Ok.len c.encode_slice.result OutputSliceTooSmall
    c.encode_slice.auto.output c.encode_slice.ensures.fits c.encode_slice.ensures.too_small c.in-Ok.is
    c.in-Ok.ensures.written in
    subst IsUtf8 (sym text) (IsUtf8-from_ascii (encode_of standard bytes) (IsAscii-encode_of standard bytes))
