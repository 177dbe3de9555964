use Rattle.std.proofs.Common.{◌≡◌, ℕ, List, length, ◌++◌, ◌+◌, ◌≤◌, false, Some}
use Rattle.make_lines.specs.Lines.{line_made}
use Rattle.make_lines.specs.Making.{making}
use Rattle.make_lines.specs.Made.{has_newline, made, counted, BeginWith}
use Rattle.make_lines.proofs.maker.Maker.take_chunk.Given as goal

abbrev pub invariant-loop-at : goal.invariant-loop-at
invariant-loop-at g l =
    (has_newline l.lines.pending.items ≡ false)
    × (lines : List (List ℕ)) × (more : List ℕ) × BeginWith (l.fn.lines.pending.items ++ l.chunk) lines
    (l.lines.pending.items ++ l.rest)
    × (made (line_made (making (g.M.LineTable.messages l.self.messages.now) l.self.version)) lines ≡ Some more)
    × (l.lines.made.items ≡ l.fn.lines.made.items ++ more) × (l.lines.taken ≡ counted (l.fn.lines.taken + length lines))
    × (length l.rest ≤ length l.chunk)

abbrev pub decreases-loop-at : goal.decreases-loop-at
decreases-loop-at g l = length l.rest
