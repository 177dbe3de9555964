use Rattle.std.proofs.Common.{◌≡◌, ◌++◌}
use Rattle.stream_redaction.specs.Replacement.{zeros}
use Rattle.stream_redaction.proofs.key.append_zeros.Given as goal

abbrev pub invariant-loop : goal.invariant-loop
invariant-loop l = l.out.items ≡ l.fn.out.items ++ zeros l.counter
