use Rattle.std.proofs.Common.{◌≡◌, ◌+◌, ◌-◌, ◌*◌, ◌≤◌, ℕ, List, map, length}
use Rattle.shared_core_wire.specs.Places.{EachLies}
use Rattle.shared_core_wire.specs.Reader.{record_at}
use Rattle.shared_core_wire.specs.ReadRecords.{read_records, records_past}
use Rattle.shared_core_codec.specs.Canonicity.{all_come_read, is_canonical_message, is_canonical_payload}
use Rattle.shared_core_codec.specs.ProgramRows.{row_view}
use Rattle.shared_core_codec.specs.Table.{table}
use Rattle.shared_core_fields.specs.Checked.{WritesTo}
use Rattle.shared_core_fields.specs.Rows.{fields_rows}
use Rattle.shared_core_fields.specs.Views.{item_fields, unplaced}
use Rattle.shared_core_fields.specs.declared.table.FieldEntry.{FieldEntry}
use Rattle.shared_core_fields.proofs.table.check.+check.Given as goal

abbrev pub decreases-check_message : goal.decreases-check_message
decreases-check_message l = 3 * l.place.left + 2

abbrev pub decreases-check_record : goal.decreases-check_record
decreases-check_record l = 3 * l.place.left + 1

abbrev pub decreases-check_content : goal.decreases-check_content
decreases-check_content l = 3 * l.place.left

abbrev pub invariant-check_message-loop-rows : goal.invariant-check_message-loop-rows
invariant-check_message-loop-rows l = record {
  canonical : all_come_read (is_canonical_message l.place.left) (map row_view l.rows, length l.left)
      (records_past (record_at 0) (length l.bytes) 0 l.left) ≡ is_canonical_payload l.place.left l.schema l.bytes;
  lies : EachLies l.bytes (records_past (record_at 0) (length l.bytes) 0 l.left);
  inside : length l.left ≤ length l.bytes;
  few : l.count + length l.left ≤ l.at + length l.bytes;
  rows : (new : List FieldEntry) (n : ℕ) → WritesTo l.place.whole.now (fields_rows l.place.left (100 - l.place.left)
      (map unplaced (item_fields (map row_view l.rows) (records_past (record_at 0) (length l.bytes) 0 l.left)))) l.count
      l.out new n
      → WritesTo l.place.whole.now (fields_rows l.place.left (100 - l.place.left)
      (map unplaced (item_fields (table l.schema) (read_records 0 l.bytes)))) l.at l.initial.out new n;
}

abbrev pub decreases-check_message-loop-rows : goal.decreases-check_message-loop-rows
decreases-check_message-loop-rows l = length l.left
