-- Base64 read, and the bytes of original names.
use Rattle.std.proofs.Common.{◌≡◌, ℕ, List, Bool, true}
use Rattle.std.proofs.Common.{cond, Option, Some, None, option_and_then, Result, Ok, Err, sym, ap, subst}
use Rattle.std.proofs.Common.{◌∙◌}
use Rattle.std.specs.Result.{result_ok}
use Rattle.std.specs.Option.{option_or}
use Rattle.std.specs.Str.{is_utf8}
use Rattle.base64.specs.GeneralPurpose.{decode_of, IsDecodeFailure}
use Rattle.base64.specs.Engines.{standard_pad_indifferent, url_safe_pad_indifferent}
use Rattle.base64.specs.declared.decode.DecodeError.{DecodeError}
use Rattle.base64.specs.declared.decode.DecodeAllocError.{DecodeAllocError}
use Rattle.base64.specs.declared.decode.DecodeAllocError.TheVariants.{DecodeError as Failed}
use Rattle.json.specs.Json.{Json}
use Rattle.json.specs.Find.{as_str}
use Rattle.shared_core_json_reader.specs.Scalars.{utf8_text, text_read, base64_bytes}

pub standard_bytes : (s b : List ℕ) → decode_of standard_pad_indifferent s ≡ Ok b → base64_bytes s ≡ Some b
unfolding base64_bytes
standard_bytes s b d = ap (λ (r : Result (List ℕ) DecodeError). option_or (result_ok r)
    (result_ok (decode_of url_safe_pad_indifferent s))) d

pub other_bytes : (s : List ℕ) (x : DecodeError) (o : Option (List ℕ)) → decode_of standard_pad_indifferent s ≡ Err x →
    result_ok (decode_of url_safe_pad_indifferent s) ≡ o → base64_bytes s ≡ o
unfolding base64_bytes
other_bytes s x o d u = ap (λ (r : Result (List ℕ) DecodeError). option_or (result_ok r)
    (result_ok (decode_of url_safe_pad_indifferent s))) d ∙ u

pub failed_with : (s : List ℕ) (e : DecodeAllocError) (d : DecodeError) → e ≡ Failed d → IsDecodeFailure
    standard_pad_indifferent s e → decode_of standard_pad_indifferent s ≡ Err d
failed_with s e d is f = subst (IsDecodeFailure standard_pad_indifferent s) is f

pub text_is : (j : Json) (s t : List ℕ) → Some s ≡ as_str j → t ≡ s → is_utf8 t ≡ true → text_read j ≡ Some t
text_is j s t e q u = ap (λ (o : Option (List ℕ)). option_and_then utf8_text o) (sym e) ∙ ap utf8_text (sym q) ∙ ap
    (λ (b : Bool). cond b (Some t) None) u
