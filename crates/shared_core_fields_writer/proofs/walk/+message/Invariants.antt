use Rattle.std.proofs.Common.{◌≡◌, ◌+◌, ◌*◌, ◌-◌, ◌≤◌, ℕ, List, None, map, length}
use Rattle.shared_core_codec.specs.Table.{table}
use Rattle.shared_core_codec.specs.ProgramRows.{row_view}
use Rattle.shared_core_fields_writer.specs.Room.{Wrote}
use Rattle.shared_core_fields_writer.specs.Walk.{Nothing, onto, walk, entries_from, rest_of}
use Rattle.shared_core_fields_writer.proofs.walk.+message.Given as goal

abbrev pub decreases-write_message : goal.decreases-write_message
decreases-write_message l = 6 * (100 - l.level) + 2

abbrev pub decreases-write_field : goal.decreases-write_field
decreases-write_field l = 6 * (100 - l.entry.now.level) + 1

abbrev pub decreases-write_nested : goal.decreases-write_nested
decreases-write_nested l = 6 * (100 - l.level) + 6

abbrev pub decreases-write_measured : goal.decreases-write_measured
decreases-write_measured l = 6 * (100 - l.level) + 5

abbrev pub decreases-write_likely : goal.decreases-write_likely
decreases-write_likely l = 6 * (100 - l.level) + 4

abbrev pub decreases-write_within : goal.decreases-write_within
decreases-write_within l = 6 * (100 - l.level) + 3

abbrev pub decreases-write_again : goal.decreases-write_again
decreases-write_again l = 6 * (100 - l.level) + 3

abbrev pub invariant-write_message-loop-at : goal.invariant-write_message-loop-at
invariant-write_message-loop-at l =
    (l.initial.at.entry ≤ l.at.entry) × (l.at.entry ≤ length l.source.entries.now)
    × ((bytes : List ℕ) × (walk l.source.bytes.now l.schema (table l.schema) None Nothing l.level (100 - l.level)
    (entries_from l.source l.initial.at.entry) ≡ onto bytes (walk l.source.bytes.now l.schema (map row_view l.rows)
    l.last Nothing l.level (100 - l.level) (entries_from l.source l.at.entry))) × Wrote l.initial.out
    l.initial.at.byte l.out l.at.byte bytes)
    × (rest_of l.level (entries_from l.source l.at.entry) ≡ rest_of l.level (entries_from l.source
    l.initial.at.entry))

abbrev pub decreases-write_message-loop-at : goal.decreases-write_message-loop-at
decreases-write_message-loop-at l = length l.source.entries.now - l.at.entry
