use Rattle.std.proofs.Common.{◌≡◌, ◌+◌, List, length}
use Rattle.shared_core_codec.specs.Payloads.{payload_meaning}
use Rattle.shared_core_codec.specs.Table.{table}
use Rattle.shared_core_fields.specs.Fields.{message_fields}
use Rattle.shared_core_fields.specs.Rows.{fields_rows, WritesRows}
use Rattle.shared_core_fields.specs.Views.{EachIsAt, fields_left, places_left}
use Rattle.shared_core_fields.specs.declared.table.FieldEntry.{FieldEntry}
use Rattle.shared_core_fields.proofs.table.write.+write_within.Given as goal

abbrev pub decreases-write_within : goal.decreases-write_within
decreases-write_within l = l.left

abbrev pub invariant-loop-field : goal.invariant-loop-field
invariant-loop-field l =
    EachIsAt l.payload.bytes.now (places_left l.field-iterator)
    × (l.count + length (fields_rows l.left l.place.level (fields_left l.field-iterator)) ≡ l.at + length
    (fields_rows l.left l.place.level
    (message_fields (table l.payload.schema) (payload_meaning l.payload.schema l.payload.bytes.now))))
    × ((new : List FieldEntry) → WritesRows l.place.whole.now
    (fields_rows l.left l.place.level (fields_left l.field-iterator)) l.count l.out new
    → WritesRows l.place.whole.now (fields_rows l.left l.place.level
    (message_fields (table l.payload.schema) (payload_meaning l.payload.schema l.payload.bytes.now))) l.at
    l.initial.out new)
