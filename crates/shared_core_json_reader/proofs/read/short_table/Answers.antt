use Rattle.std.proofs.Common.{◌≡◌, Some, Result, Ok, Err, IfOk, ap, ◌∙◌, sym}
use Rattle.std.proofs.lemmas.Str.{is_utf8-from_IsUtf8}
use Rattle.std.specs.Option.{IfSome}
use Rattle.std.specs.Result.{result_ok}
use Rattle.json.specs.Json.{document}
use Rattle.shared_core_json_reader.specs.Reading.{json_of_text}
use Rattle.shared_core_json_reader.proofs.Whole.{of_document}
use Rattle.shared_core_json_reader.proofs.read.short_table.Goals as goal

-- A property of the value of an `Ok` carries over to the option that `Result::ok` returns.
kept : {T E : Type 0} (P Q : T → Type 0) (r : Result T E) → ((x : T) → P x → Q x) → IfOk r P → IfSome (result_ok r) Q
kept P Q (Ok x) more h = more x h
kept P Q (Err e) more h = tt

pub returns : goal.returns
returns c =
    let text = c.in-Ok.ensures.cases in
    let parsed = kept (λ table. document c.in-Ok.text.now ≡ Some table) (λ table. json_of_text c.args.text.now ≡ Some
    table) c.parse.result (λ table is. of_document c.args.text.now table (is_utf8-from_IsUtf8 c.args.text.now text.1)
    (sym (ap document text.0) ∙ is)) c.parse.ensures.ok in
    rw c.ok.ensures.value parsed
