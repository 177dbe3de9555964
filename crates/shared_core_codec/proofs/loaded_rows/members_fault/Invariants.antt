use Rattle.std.proofs.Common.{◌≡◌, map, length}
use Rattle.shared_core_wire.specs.Schema.{all_numbers}
use Rattle.shared_core_codec.specs.ProgramRows.{field_view}
use Rattle.shared_core_codec.specs.LoadedRows.{rows_view}
use Rattle.shared_core_codec.specs.TableErrors.{members_fault}
use Rattle.shared_core_codec.proofs.loaded_rows.members_fault.Given as goal

abbrev pub invariant-loop-member : goal.invariant-loop-member
invariant-loop-member l = members_fault l.count (all_numbers (rows_view l.later)) (map field_view l.rest) ≡
    members_fault
    l.count (all_numbers (rows_view l.later)) (map field_view l.members)

abbrev pub decreases-loop-member : goal.decreases-loop-member
decreases-loop-member l = length l.rest
