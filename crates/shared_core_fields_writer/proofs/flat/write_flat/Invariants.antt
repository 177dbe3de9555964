use Rattle.std.proofs.Common.{◌≡◌, ◌-◌, ◌≤◌, ℕ, List, Option, None, map, length}
use Rattle.shared_core_codec.specs.Table.{table}
use Rattle.shared_core_codec.specs.ProgramRows.{row_view}
use Rattle.shared_core_fields_writer.specs.Room.{Wrote}
use Rattle.shared_core_fields_writer.specs.Walk.{Nothing, onto, walk, entries_from, rest_of}
use Rattle.shared_core_fields_writer.proofs.flat.write_flat.Given as goal

abbrev pub invariant-loop-end : goal.invariant-loop-end
invariant-loop-end l =
    (l.initial.end.entry ≤ l.end.entry) × (l.end.entry ≤ length l.source.entries.now)
    × ((last : Option ℕ) × (bytes : List ℕ) × ((depth : ℕ) → walk l.source.bytes.now l.schema
    (table l.schema) None Nothing l.level depth (entries_from l.source l.initial.end.entry) ≡ onto bytes
    (walk l.source.bytes.now l.schema (map row_view l.rows) last Nothing l.level depth
    (entries_from l.source l.end.entry)))
    × Wrote l.initial.out l.initial.end.byte l.out l.end.byte bytes)
    × (rest_of l.level (entries_from l.source l.end.entry)
    ≡ rest_of l.level (entries_from l.source l.initial.end.entry))

abbrev pub decreases-loop-end : goal.decreases-loop-end
decreases-loop-end l = length l.source.entries.now - l.end.entry
