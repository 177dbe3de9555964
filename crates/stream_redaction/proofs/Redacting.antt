-- Redacting the records of a payload one after the other.
use Rattle.std.proofs.Common.{◌≡◌, ℕ, zero, suc, ◌+◌, ◌-◌, ◌≤◌, List, [], ◌∷◌, ◌++◌, length, take, drop, Result}
use Rattle.std.proofs.Common.{Ok, Err, refl, sym, ap, subst, ◌∙◌, arith}
use Rattle.std.proofs.Math.Seq.{drop-append_seam}
use Rattle.std.proofs.lemmas.List.{length-append, append_assoc, append-nil}
use Rattle.shared_core_wire.specs.Grammar.{IsRecordWithin}
use Rattle.shared_core_wire.specs.ReadRecords.{PlacedRecord, read_records}
use Rattle.shared_core_wire.specs.Schema.{Row}
use Rattle.shared_core_wire.specs.declared.error.WireError.{WireError}
use Rattle.shared_core_wire.proofs.ReadRecords.{ReadsInOrder, read_reading}
use Rattle.shared_core_codec.specs.ProgramRows.{field_numbered}
use Rattle.stream_redaction.specs.declared.key.Key.{Key}
use Rattle.stream_redaction.specs.Redaction.{redacted_bytes, redacted_items, redacted_nested, redacted_records}
use Rattle.stream_redaction.specs.Replacement.{zeros}

-- The records before the rest of a payload are appended, and these items are still to be read of it.
pub record Going (key : Key) (left : ℕ) (rows : List Row) (before payload out rest : List ℕ)
    (items : List (Result PlacedRecord WireError)) : Type 0 where
  pub same : out ++ redacted_items key (redacted_nested key left) rows rest items
      ≡ before ++ redacted_records key left rows payload
  pub place : ℕ
  pub read : ReadsInOrder (IsRecordWithin left) place rest items

pub reads_whole : (left : ℕ) (payload : List ℕ) → ReadsInOrder (IsRecordWithin left) 0 payload
    (read_records left payload)
unfolding read_records
reads_whole left payload =
    read_reading left (length payload) 0 (length payload) payload (omega arith) (omega arith)

-- A record's place among the bytes.
pub record Placed (r : PlacedRecord) (rest : List ℕ) : Type 0 where
  pub ordered : r.from ≤ r.to
  pub within : r.to - r.from ≤ length rest

module _ (key : Key) (left : ℕ) (rows : List Row) (before payload : List ℕ) where
  pub going_start : (items : List (Result PlacedRecord WireError)) → items ≡ read_records left payload → Going key left
      rows before payload before payload items
  going_start items e = record {
    same = ap (λ (is : List (Result PlacedRecord WireError)). before ++ redacted_items key (redacted_nested key left)
        rows payload is) e;
    place = 0;
    read = subst (ReadsInOrder (IsRecordWithin left) 0 payload) (sym e) (reads_whole left payload);
  }

  module _ (out rest : List ℕ) where
    pub going_record : (r : PlacedRecord) (items : List (Result PlacedRecord WireError)) → Going key left rows before
        payload out rest (Ok r ∷ items) → Placed r rest
    going_record r items g =
        let long : length rest ≡ length g.read.0 + length g.read.1 =
        ap length g.read.2 ∙ length-append g.read.0 g.read.1 in
        record {
          ordered = omega (arith, g.read.4, g.read.5);
          within = omega (arith, g.read.4, g.read.5);
        }

    pub going_next : (r : PlacedRecord) (items : List (Result PlacedRecord WireError)) (longer : List ℕ) → Going key
        left rows before payload out rest (Ok r ∷ items)
        → longer ≡ out ++ redacted_bytes key (redacted_nested key left) (field_numbered rows r.field_record.number)
        r.field_record.value (take (r.to - r.from) rest)
        → Going key left rows before payload longer (drop (r.to - r.from) rest) items
    going_next r items longer g e = record {
      same = rw e (append_assoc out _ _ ∙ g.same);
      place = r.to;
      read =
          let size : r.to - r.from ≡ length g.read.0 = omega (arith, g.read.4, g.read.5) in
          let after : drop (r.to - r.from) rest ≡ g.read.1 =
          ap (λ n. drop n rest) size ∙ ap (drop (length g.read.0)) g.read.2
          ∙ drop-append_seam g.read.0 g.read.1 in
          subst (λ (bytes : List ℕ). ReadsInOrder (IsRecordWithin left) r.to bytes items) (sym after) g.read.6;
    }

    pub going_end : Going key left rows before payload out rest [] → out ≡ before ++ redacted_records key left rows
        payload
    going_end g = sym (append-nil out) ∙ g.same

    pub going_stop : (e : WireError) (items : List (Result PlacedRecord WireError)) → Going key left rows before payload
        out rest (Err e ∷ items) → out ++ zeros (length rest) ≡ before ++ redacted_records key left rows payload
    going_stop e items g = g.same

-- ---- one level down

pub nested_zero : (key : Key) (left : ℕ) (rows : List Row) (bytes : List ℕ) → left ≡ 0 → redacted_nested key left rows
    bytes ≡ zeros (length bytes)
unfolding redacted_nested
nested_zero key zero rows bytes h = refl
nested_zero key (suc left) rows bytes h = absurd (omega (arith, h))

pub nested_below : (key : Key) (below left : ℕ) (rows : List Row) (bytes : List ℕ) → below + 1 ≡ left → redacted_nested
    key left rows bytes ≡ redacted_records key below rows bytes
unfolding redacted_nested
nested_below key below zero rows bytes h = absurd (omega (arith, h))
nested_below key below (suc left) rows bytes h =
    let same : left ≡ below = omega (arith, h) in
    ap (λ level. redacted_records key level rows bytes) same
