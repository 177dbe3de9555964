use Rattle.std.proofs.Common.{length}
use Rattle.explain_lines.proofs.piece.+push_low_first.Given as goal

abbrev pub decreases-push_low_first : goal.decreases-push_low_first
decreases-push_low_first l = length l.bytes.now
