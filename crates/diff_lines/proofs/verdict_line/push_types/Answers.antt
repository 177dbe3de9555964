use Rattle.std.proofs.lemmas.Result.{on_ok_weaker}
use Rattle.diff_lines.proofs.Parts.{five_parts}
use Rattle.diff_lines.proofs.verdict_line.push_types.Goals as goal

pub returns : goal.returns
returns c =
    on_ok_weaker c.push-2.result
    (five_parts c.args.line.now.items _ _ _ _ _ _ _ _ _ _ c.in_ok-push_index.ensures
    c.in_ok-extend_from_slice.ensures.items
    (rw (c.as_str.ensures.value, c.in_ok-recorded-2.ensures.ok, c.in_ok-recorded.ensures) at c.in_ok-push.ensures)
    c.in_ok-extend_from_slice-2.ensures.items)
    (rw (c.as_str-2.ensures.value, c.in_ok-replayed-2.ensures.ok, c.in_ok-replayed.ensures) at c.push-2.ensures)
