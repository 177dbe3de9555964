use Rattle.std.proofs.Common.{◌≡◌, ◌+◌, ◌*◌, ◌≤◌, length}
use Rattle.shared_core_wire.specs.Reader.{group_end_at, record_with, group_content_at}
use Rattle.shared_core_wire.proofs.record.+value.Given as goal

abbrev pub decreases-read_group : goal.decreases-read_group
decreases-read_group l = 2 * l.left + 1

abbrev pub decreases-read_value : goal.decreases-read_value
decreases-read_value l = 2 * l.left

abbrev pub invariant-read_group-loop-rest : goal.invariant-read_group-loop-rest
invariant-read_group-loop-rest l = record {
  short : length l.rest ≤ length l.bytes;
  end : group_end_at (record_with (group_content_at l.left)) l.number 0 l.rest ≡ group_end_at
      (record_with (group_content_at l.left)) l.number 0 l.bytes;
}

abbrev pub decreases-read_group-loop-rest : goal.decreases-read_group-loop-rest
decreases-read_group-loop-rest l = length l.rest
