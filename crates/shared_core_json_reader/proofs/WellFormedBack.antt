-- The JSON of a well-formed payload is read as its canonical payload.
use Rattle.std.proofs.Common.{ℕ, Bool, ap, ◌∙◌, option_map, arith}
use Rattle.json.specs.Tree.{json_tokens}
use Rattle.json.specs.Print.{print}
use Rattle.shared_core_json.specs.Form.{json_with}
use Rattle.shared_core_json.proofs.Meanings.{accepted_means}
use Rattle.shared_core_wire.specs.Canonical.{canonical_payload}
use Rattle.shared_core_codec.specs.Table.{table}
use Rattle.shared_core_codec.specs.Payloads.{payload_meaning}
use Rattle.shared_core_json_reader.specs.Rows.{protocol}
use Rattle.shared_core_json_reader.specs.Readable.{protocol_is_readable}
use Rattle.shared_core_json_reader.specs.Laws.{WellFormedIsReadBack, PrintedIsReadBack}
use Rattle.shared_core_json_reader.proofs.LawOfJson.{value_low, value_back}
use Rattle.shared_core_json_reader.proofs.Printed.{printed_back}
use Rattle.shared_core_json_reader.proofs.PrintedValues.{value_may}
use Rattle.shared_core_json_reader.proofs.Whole.{text_of_value}
use Rattle.shared_core_json_reader.proofs.TreeBack.{message_back}

pub well_formed_back : (texts : Bool) (s : ℕ) → WellFormedIsReadBack texts s
well_formed_back texts s payload text a i utf8 lexed =
    let is = accepted_means s payload a i in
    value_back protocol protocol_is_readable texts s (payload_meaning s payload) text is.fits is.low is.bytes utf8 lexed

pub printed_well_formed : (texts : Bool) (s : ℕ) → PrintedIsReadBack texts s
printed_well_formed texts s payload a i =
    let v = payload_meaning s payload in
    let is = accepted_means s payload a i in
    let value = printed_back (json_with texts s v) (value_may texts s v is.fits)
    (omega (arith, value_low protocol texts s v is.fits, is.low)) in
    text_of_value protocol s (print (json_tokens (json_with texts s v))) (json_with texts s v) value ∙ ap
    (option_map (canonical_payload table s)) (message_back protocol protocol_is_readable texts 100 s v is.fits is.low
    is.bytes)
