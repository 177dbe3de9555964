use Rattle.std.proofs.Common.{◌≡◌, ◌^◌, ◌%◌, ◌∷◌, ◌++◌, [], ℕ, List, ap, sym, ◌∙◌, subst}
use Rattle.std.specs.Prelude.{OnOk}
use Rattle.json.specs.Token.{Token, number}
use Rattle.json.specs.Tree.{json_tokens}
use Rattle.shared_core_codec.specs.ProgramRows.{kind_view}
use Rattle.shared_core_codec.specs.declared.rows.Kind.{Kind}
use Rattle.shared_core_fields.specs.NumberValues.{number_value}
use Rattle.shared_core_json.specs.Form.{digits_of, number_json}
use Rattle.shared_core_json.proofs.write.write_number.Goals as goal

pub returns-in-U32-clause-tokens : goal.returns-in-U32-clause-tokens
returns-in-U32-clause-tokens c =
    let n : ℕ = c.args.number in
    let low : c.args.number % 2 ^ 32 ≡ c.args.number = ap (λ (k : Kind). number_value (kind_view k) c.args.number)
    (sym c.in-U32.is) ∙ c.requires in
    let same : number (digits_of c.args.how (2 ^ 31) c.low_32.result) ∷ [] ≡ json_tokens
    (number_json c.args.how (kind_view c.args.kind) c.args.number) =
    ap (λ (m : ℕ). number (digits_of c.args.how (2 ^ 31) m) ∷ []) (c.low_32.ensures ∙ low)
    ∙ ap (λ (k : Kind). json_tokens (number_json c.args.how (kind_view k) c.args.number)) (sym c.in-U32.is) in
    subst (λ (ts : List Token). OnOk c.write_u32.result (c.write_u32.new.out.tokens ≡ c.args.out.now.tokens ++ ts)) same
    c.write_u32.ensures.tokens
