-- What is known of a table whose dumps are made again.
use Rattle.std.proofs.Common.{◌≡◌, ℕ, ◌≤◌, List, true, IsUtf8}
use Rattle.base64.specs.GeneralPurpose.{IsBytes}
use Rattle.shared_core_wire.specs.Schema.{Table}
use Rattle.shared_core_wire.specs.Value.{Part, Parts, Absent, Number, Bytes, Nested, Elements, Member, nil, cons}
use Rattle.shared_core_wire.specs.Acceptance.{accepts_payload}
use Rattle.shared_core_wire.specs.Canonical.{levels}
use Rattle.shared_core_wire.specs.Fitting.{Fits}
use Rattle.shared_core_wire.specs.Overlay.{meaning}
use Rattle.shared_core_json.specs.Fields.{name_of}
use Rattle.shared_core_canonical.proofs.Meanings as means
use Rattle.shared_core_json.proofs.Meanings.{PartBytes, PartsBytes, accepted_means}
use Rattle.shared_core_json_reader.specs.Rows.{EnumValues, enum_values}
use Rattle.shared_core_json_reader.specs.Readable.{IsReadable, protocol_is_readable}
use Rattle.shared_core_json_reader.proofs.PrintedValues.{names_utf8}
use Rattle.dump_lines.specs.Reading.{Reading, protocol}
use Rattle.make_lines.specs.Making.{messages_of}
use Rattle.make_lines.specs.MadeAgain.{IsMadeAgainBy}

-- what a well-formed payload means
pub record MeansWell (table : Table) (s : ℕ) (v : Parts) : Type 0 where
  pub fits : Fits table v (table s)
  pub low : levels v ≤ 100
  pub bytes : PartsBytes v

pub record ReadsBack (reading : Reading) (values : EnumValues) : Type 0 where
  pub readable : IsReadable (messages_of reading values).format
  pub utf8 : (s n : ℕ) → IsUtf8 (name_of (reading.names s) n)
  pub well : (s : ℕ) (payload : List ℕ) → accepts_payload reading.table 100 s payload ≡ true → IsBytes payload
      → MeansWell reading.table s (meaning reading.table 100 s payload)

pub protocol_back : ReadsBack protocol enum_values
protocol_back = record {
  readable = protocol_is_readable;
  utf8 = names_utf8;
  well = λ s payload accepted small.
      let is = accepted_means s payload accepted small in
      record { fits = is.fits; low = is.low; bytes = is.bytes };
}

-- ---- another table

mutual
  part_bytes : (p : Part) → means.PartBytes p → PartBytes p
  part_bytes Absent h = tt
  part_bytes (Number n) h = tt
  part_bytes (Bytes b) h = h
  part_bytes (Nested ps) h = parts_bytes ps h
  part_bytes (Elements ps) h = parts_bytes ps h
  part_bytes (Member n p) h = part_bytes p h

  parts_bytes : (ps : Parts) → means.PartsBytes ps → PartsBytes ps
  parts_bytes nil h = tt
  parts_bytes (cons p ps) h = (part_bytes p h.0, parts_bytes ps h.1)

pub other_back : (reading : Reading) (values : EnumValues) → IsMadeAgainBy reading values → ReadsBack reading values
other_back reading values by = record {
  readable = by.readable;
  utf8 = by.utf8;
  well = λ s payload accepted small.
      let is = means.accepted_means reading.table by.readable.rows s payload accepted small in
      record { fits = is.fits; low = is.low; bytes = parts_bytes (meaning reading.table 100 s payload) is.bytes };
}
