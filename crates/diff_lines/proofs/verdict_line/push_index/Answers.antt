use Rattle.std.specs.Prelude.{codes}
use Rattle.shared_core_errors.specs.Mismatch.{mismatch_head}
use Rattle.diff_lines.proofs.Parts.{three_parts}
use Rattle.diff_lines.proofs.verdict_line.push_index.Goals as goal

pub returns : goal.returns
returns c =
    three_parts c.args.line.now.items _ _ _ _ (codes ": ") mismatch_head
    (rw (c.as_str.ensures.value, c.in_ok-text.ensures.ok) at c.in_ok-push.ensures)
    c.in_ok-extend_from_slice.ensures.items
    (rw (c.as_bytes.ensures.value, c.mismatch_head.ensures) at c.in_ok-extend_from_slice-2.ensures.items)
