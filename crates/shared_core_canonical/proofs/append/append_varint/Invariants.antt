use Rattle.std.proofs.Common.{◌≡◌, ◌++◌}
use Rattle.shared_core_wire.specs.Encoding.{shortest_varint}
use Rattle.shared_core_canonical.proofs.append.append_varint.Given as goal

abbrev pub invariant-loop-rest : goal.invariant-loop-rest
invariant-loop-rest l = l.out.items ++ shortest_varint l.rest ≡ l.initial.out.items ++ shortest_varint l.number

abbrev pub decreases-loop-rest : goal.decreases-loop-rest
decreases-loop-rest l = l.rest
