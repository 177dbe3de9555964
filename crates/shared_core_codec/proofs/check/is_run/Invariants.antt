use Rattle.std.proofs.Common.{◌≡◌, length}
use Rattle.std.specs.Option.{is_some}
use Rattle.shared_core_wire.specs.Reader.{packed_numbers}
use Rattle.shared_core_codec.proofs.check.is_run.Given as goal

abbrev pub invariant-loop-rest : goal.invariant-loop-rest
invariant-loop-rest l = is_some (packed_numbers l.rest) ≡ is_some (packed_numbers l.run)

abbrev pub decreases-loop-rest : goal.decreases-loop-rest
decreases-loop-rest l = length l.rest
