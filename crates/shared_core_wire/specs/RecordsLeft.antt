-- What an iterator over records has still to return.
use Rattle.std.specs.Prelude.{List, Result, Ok, Err}
use Rattle.shared_core_wire.specs.declared.error.WireError.{WireError}
use Rattle.shared_core_wire.specs.declared.records.Record.{Record}
use Rattle.shared_core_wire.specs.declared.records.Records.{Records}
use Rattle.shared_core_wire.specs.View.{value_of}
use Rattle.shared_core_wire.specs.Reader.{record_at}
use Rattle.shared_core_wire.specs.ReadRecords.{PlacedRecord, records_past}

-- A record of the program, with its offsets.
abbrev pub placed_of : Record → PlacedRecord
placed_of r = record {
  field_record = record { number = r.number; value = value_of r.value };
  from = r.span.0;
  to =
      r.span.1;
}

-- What the program returns, with the offsets of a record.
abbrev pub placed_result : Result Record WireError → Result PlacedRecord WireError
placed_result (Ok r) = Ok (placed_of r)
placed_result (Err e) = Err e

-- What an iterator has still to return: the items of the bytes that it has not read.
unfoldable pub records_left : Records → List (Result PlacedRecord WireError)
records_left r = records_past (record_at r.left) r.end 0 r.rest.now
