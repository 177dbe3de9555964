use Rattle.std.proofs.Common.{◌≡◌, ℕ, ◌≤◌, ◌+◌, ◌-◌, ◌*◌, ◌++◌, drop, flat_map, length, map, true}
use Rattle.std.specs.List.{list_all}
use Rattle.shared_core_wire.specs.Acceptance.{accepts_message, accepts_record}
use Rattle.shared_core_canonical.specs.Places.{at_place, rise_from}
use Rattle.shared_core_canonical.specs.Found.{found_records, found_views, places_record}
use Rattle.shared_core_canonical.specs.Places.{values_at}
use Rattle.shared_core_canonical.specs.Rows.{nested_bytes, message_element, message_allows}
use Rattle.shared_core_canonical.proofs.canonical.+message.Given as goal

abbrev pub decreases-message : goal.decreases-message
decreases-message g l = 7 * l.source.now.left + 6

abbrev pub decreases-append_rows : goal.decreases-append_rows
decreases-append_rows g l = 7 * l.source.now.left + 5

abbrev pub decreases-append_row : goal.decreases-append_row
decreases-append_row g l = 7 * l.source.now.left + 4

abbrev pub decreases-append_single : goal.decreases-append_single
decreases-append_single g l = 7 * l.source.now.left + 3

abbrev pub decreases-append_repeated : goal.decreases-append_repeated
decreases-append_repeated g l = 7 * l.source.now.left + 3

abbrev pub decreases-append_messages : goal.decreases-append_messages
decreases-append_messages g l = 7 * l.source.now.left + 2

abbrev pub decreases-nested : goal.decreases-nested
decreases-nested g l = 7 * l.source.now.left

abbrev pub invariant-append_messages-loop-found : goal.invariant-append_messages-loop-found
invariant-append_messages-loop-found g l = record {
  allowed : list_all (message_allows (accepts_message (g.T.Schemas.table l.schemas) l.source.left) l.field.number
      l.field.schema) (found_records (drop l.found-index l.source.records.now)) ≡ true;
  written : l.out.items ++ flat_map (message_element (nested_bytes (g.T.Schemas.table l.schemas) l.source.left)
      l.field.number l.field.schema) (found_records (drop l.found-index l.source.records.now)) ≡ l.initial.out.items ++
      flat_map
      (message_element (nested_bytes (g.T.Schemas.table l.schemas) l.source.left) l.field.number l.field.schema)
      (found_records l.source.records.now);
}

abbrev pub invariant-append_rows-loop-row : goal.invariant-append_rows-loop-row
invariant-append_rows-loop-row g l = record {
  within : length l.rest ≤ length l.rows;
  started : l.start ≤ length l.source.records.now;
  allowed : (place : ℕ) → list_all (accepts_record (accepts_message (g.T.Schemas.table l.schemas) l.source.left)
      (map g.T.Row.SchemaRow.view l.rest)) (values_at place (found_views l.source.records.now)) ≡ true;
  rising : rise_from (length l.rows - length l.rest) (drop l.start l.source.records.now) ≡ true;
  same : (place : ℕ) → length l.rows - length l.rest ≤ place → at_place place
      (drop l.start l.source.records.now) ≡ at_place place l.source.records.now;
  written : l.out.items ++ places_record (nested_bytes (g.T.Schemas.table l.schemas) l.source.left)
      (map g.T.Row.SchemaRow.view l.rest) (length l.rows - length l.rest) (found_views l.source.records.now) ≡
      l.initial.out.items ++ places_record (nested_bytes (g.T.Schemas.table l.schemas) l.source.left)
      (map g.T.Row.SchemaRow.view l.rows) 0 (found_views l.source.records.now);
}

abbrev pub decreases-append_rows-loop-row : goal.decreases-append_rows-loop-row
decreases-append_rows-loop-row g l = length l.rest
