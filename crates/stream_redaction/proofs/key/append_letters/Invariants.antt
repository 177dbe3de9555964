use Rattle.std.proofs.Common.{◌≡◌, ◌++◌}
use Rattle.stream_redaction.specs.Replacement.{letters}
use Rattle.stream_redaction.proofs.key.append_letters.Given as goal

abbrev pub invariant-loop-place : goal.invariant-loop-place
invariant-loop-place l = l.out.items ≡ l.fn.out.items ++ letters l.digest l.place
