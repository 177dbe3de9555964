use Rattle.std.proofs.Common.{◌≡◌, ◌-◌, ◌≤◌, ◌++◌, length, max, take, drop}
use Rattle.shared_core_wire.specs.Encoding.{shortest_varint}
use Rattle.shared_core_json_reader.proofs.lengths.put_length.Given as goal

abbrev pub invariant-loop-rest : goal.invariant-loop-rest
invariant-loop-rest l =
    (l.at ≤ length l.out.items) × (l.end ≤ length l.out.items)
    × (take l.at l.out.items ++ (shortest_varint l.rest ++ drop (max l.at l.end) l.out.items) ≡ take l.place
    l.initial.out.items ++ (shortest_varint (length l.initial.out.items - l.end) ++ drop l.end l.initial.out.items))

abbrev pub decreases-loop-rest : goal.decreases-loop-rest
decreases-loop-rest l = l.rest
