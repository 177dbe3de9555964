use Rattle.std.proofs.Common.{◌≡◌, ◌-◌, ◌≤◌, ◌++◌, ℕ, List, Some, length}
use Rattle.shared_core_wire.specs.Schema.{Row}
use Rattle.shared_core_codec.specs.ProgramRows.{kind_view}
use Rattle.shared_core_fields_writer.specs.Room.{Wrote}
use Rattle.shared_core_fields_writer.specs.Walk.{Numbers, walk, entries_from, rest_of, varints, run_numbers}
use Rattle.shared_core_fields_writer.proofs.walk.write_numbers.Given as goal

abbrev pub invariant-loop-at : goal.invariant-loop-at
invariant-loop-at l =
    (l.initial.at.entry ≤ l.at.entry) × (l.at.entry ≤ length l.source.entries.now)
    × ((bytes : List ℕ) × (varints (run_numbers l.level l.field.number (entries_from l.source l.initial.at.entry)) ≡
    bytes
    ++ varints (run_numbers l.level l.field.number (entries_from l.source l.at.entry)))
    × Wrote l.initial.out l.initial.at.byte l.out l.at.byte bytes)
    × ((s : ℕ) (rows : List Row) (depth : ℕ) → walk l.source.bytes.now s rows (Some l.field.number) (Numbers (kind_view
    l.field.kind)) l.level depth
    (entries_from l.source l.at.entry) ≡ walk l.source.bytes.now s rows (Some l.field.number) (Numbers (kind_view
    l.field.kind)) l.level depth
    (entries_from l.source l.initial.at.entry))
    × (rest_of l.level (entries_from l.source l.at.entry) ≡ rest_of l.level (entries_from l.source
    l.initial.at.entry))

abbrev pub decreases-loop-at : goal.decreases-loop-at
decreases-loop-at l = length l.source.entries.now - l.at.entry
