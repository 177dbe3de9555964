use Rattle.std.proofs.lemmas.Result.{on_ok_weaker}
use Rattle.diff_lines.proofs.Parts.{three_parts}
use Rattle.diff_lines.proofs.verdict_line.push_difference.Goals as goal

pub returns : goal.returns
returns c =
    on_ok_weaker c.push_fields.result
    (three_parts c.args.line.now.items _ _ _ _ _ _ c.in_ok-push_index.ensures
    (rw (c.as_bytes.ensures.value, c.in_ok-head.ensures.ok, c.in_ok-ty.ensures)
    at c.in_ok-extend_from_slice.ensures.items))
    (rw c.as_slice.ensures.value at c.push_fields.ensures)
