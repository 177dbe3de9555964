use Rattle.std.proofs.Common.{List, ℕ, refl, ap, sym, ◌∙◌}
use Rattle.std.proofs.lemmas.Result.{MatchResult-weaker}
use Rattle.std.specs.Result.{result_ok}
use Rattle.base64.specs.GeneralPurpose.{decode_of}
use Rattle.base64.specs.Engines.{url_safe_pad_indifferent}
use Rattle.shared_core_json_reader.specs.Appended.{after}
use Rattle.shared_core_json_reader.proofs.Texts.{standard_bytes, other_bytes, failed_with}
use Rattle.shared_core_json_reader.proofs.Placed.{appended_bytes}
use Rattle.shared_core_json_reader.proofs.bytes.append_decoded.Goals as goal

pub returns-in-Ok-clause-appended : goal.returns-in-Ok-clause-appended
returns-in-Ok-clause-appended c = appended_bytes _ c.args.out.now.items c.decode_vec.new.buffer.items _
    (standard_bytes c.args.text.now _ c.in-Ok.ensures.ok) c.in-Ok.ensures.front

pub returns-in-Err-DecodeError-clause-appended : goal.returns-in-Err-DecodeError-clause-appended
returns-in-Err-DecodeError-clause-appended c =
    let f = c.in-Err-DecodeError in
    let failed = failed_with c.args.text.now f.field-0 f.field-0-0 f.field-0-is f.ensures.err in
    let all = other_bytes c.args.text.now f.field-0-0 _ failed refl in
    MatchResult-weaker c.append_decoded_url_safe.result c.append_decoded_url_safe.ensures.appended
    (λ x p. ap (after c.args.out.now.items) all
    ∙ ap (λ (xs : List ℕ). after xs (result_ok (decode_of url_safe_pad_indifferent c.args.text.now)))
    (sym f.ensures.same) ∙ p)
    (λ r p n. all ∙ p n)
