use Rattle.std.proofs.Common.{◌++◌, List, ℕ, ap, ◌∙◌, arith}
use Rattle.std.proofs.lemmas.Result.{on_ok_weaker}
use Rattle.explain_lines.specs.Lines.{spaced_bytes}
use Rattle.explain_lines.proofs.Fronts.{columns_filled}
use Rattle.explain_lines.proofs.columns.push_columns.Goals as goal

pub returns : goal.returns
returns c =
    let old = c.args.text.now.items in
    let with_bytes = c.push_bytes.new.text.items in
    on_ok_weaker c.push_spaces.result (λ same. same ∙ columns_filled c.args.bytes.now old with_bytes
    c.extend_from_slice.new.self.items c.saturating_sub.result
    (c.in_ok-push_bytes.ensures ∙ ap (λ (l : List ℕ). old ++ spaced_bytes l) c.front.ensures)
    (c.in_ok-extend_from_slice.ensures.items
    ∙ ap (λ (l : List ℕ). with_bytes ++ l) (c.as_bytes.ensures.value ∙ c.dots.ensures))
    (omega (arith, c.saturating_sub.ensures, c.saturating_sub-columns.ensures, c.len.ensures, c.len-start.ensures)))
    c.push_spaces.ensures
