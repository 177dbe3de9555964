use Rattle.std.proofs.Common.{◌++◌, List, ℕ, ap, ◌∙◌}
use Rattle.std.proofs.lemmas.Result.{on_ok_weaker}
use Rattle.std.specs.Prelude.{codes, decimal, string_bytes}
use Rattle.explain_lines.specs.Texts.{after_space, field_text, own_name}
use Rattle.explain_lines.proofs.Shown.{joined_five}
use Rattle.explain_lines.proofs.piece.push_field.Goals as goal

pub returns : goal.returns
unfolding field_text
returns c =
    let field = c.args.field in
    let began = string_bytes c.push_str.new.self in
    let numbered = string_bytes c.push_number.new.text in
    let typed = string_bytes c.push_str-2.new.self in
    on_ok_weaker c.push_number-2.result (λ same. joined_five (string_bytes c.args.text.now) began numbered
    (string_bytes c.push_after_space.new.text) typed (string_bytes c.push_number-2.new.text) (codes "field ")
    (decimal field.number) (after_space (own_name field)) (codes ", wire type ") (decimal c.args.wire)
    c.in_ok-push_str.ensures.bytes
    (c.in_ok-push_number.ensures ∙ ap (λ n. began ++ decimal n) c.from.ensures)
    (c.in_ok-push_after_space.ensures ∙ ap (λ (l : List ℕ). numbered ++ after_space l) c.name_of.ensures)
    c.in_ok-push_str-2.ensures.bytes (same ∙ ap (λ n. typed ++ decimal n) c.from-2.ensures))
    c.push_number-2.ensures
