-- What redaction keeps: lengths, and the records of payloads.
use Rattle.std.proofs.Common.{◌≡◌, ℕ, zero, suc, ◌+◌, ◌-◌, ◌*◌, ◌<◌, List, [], ◌∷◌, ◌++◌, length, take, drop, map}
use Rattle.std.proofs.Common.{Bool, true, Option, Some, None, Result, Ok, Err, refl, sym, ap, subst, ◌∙◌, arith}
use Rattle.std.specs.Option.{option_map_or}
use Rattle.std.specs.Str.{IsAscii, is_utf8}
use Rattle.std.proofs.Math.Seq.{drop-append_seam, take-append_seam}
use Rattle.std.proofs.lemmas.List.{length-append, length-replicate, append_assoc, take-append-drop}
use Rattle.std.proofs.lemmas.List.FromFn.{get_or-map-range_with_len, length-map-range_with_len}
use Rattle.std.proofs.lemmas.Str.{IsUtf8-from_ascii, is_utf8-from_IsUtf8}
use Rattle.std.proofs.lemmas.Str.Ascii.{IsAscii-from_reads}
use Rattle.sha2.specs.Sha256.{sha256}
use Rattle.shared_core_wire.specs.Grammar.{RecordValue, Varint, Fixed64, Length, Group, Fixed32, FieldRecord, IsVarint}
use Rattle.shared_core_wire.specs.Grammar.{IsFieldRecord, IsGroupContent, IsRecordListWithin, IsSequence}
use Rattle.shared_core_wire.specs.Reader.{varint_at}
use Rattle.shared_core_wire.specs.ReadRecords.{PlacedRecord, read_records, without_place}
use Rattle.shared_core_wire.specs.Schema.{Kind, Row, U32, U64, Boolean, Enumeration, Text, ByteString, Message}
use Rattle.shared_core_wire.specs.declared.error.WireError.{WireError}
use Rattle.shared_core_wire.proofs.Groups.{front_taken}
use Rattle.shared_core_wire.proofs.ReadRecords.{ReadsInOrder, read_only}
use Rattle.shared_core_wire.proofs.Readers.{varint_again}
use Rattle.shared_core_codec.specs.ProgramRows.{field_numbered}
use Rattle.shared_core_codec.specs.Table.{table}
use Rattle.stream_redaction.specs.declared.key.Key.{Key}
use Rattle.stream_redaction.specs.Redaction.{Nested, after_varint, content_of_field, content_of_kind, redacted_bytes}
use Rattle.stream_redaction.specs.Redaction.{redacted_items, redacted_nested, redacted_record, redacted_records}
use Rattle.stream_redaction.specs.Redaction.{redacted_value, with_group}
use Rattle.stream_redaction.specs.Replacement.{letter, replacement}
use Rattle.stream_redaction.proofs.Redacting.{reads_whole}

-- ---- replacements

pub length_replacement : (key : Key) (content : List ℕ) → length (replacement key content) ≡ length content
unfolding replacement
length_replacement key content =
    length-map-range_with_len (letter (sha256 (key.digest ++ content))) 0 (length content)

letter_low : (digest : List ℕ) (place : ℕ) → letter digest place < 128
letter_low digest place = omega arith

ascii_replacement : (key : Key) (content : List ℕ) → IsAscii (replacement key content)
unfolding replacement
ascii_replacement key content =
    let digest = sha256 (key.digest ++ content) in
    let long = length-map-range_with_len (letter digest) 0 (length content) in
    IsAscii-from_reads (replacement key content) (length content) (omega (arith, long))
    (λ place below. subst (λ n. n < 128)
    (sym (get_or-map-range_with_len (letter digest) 0 (length content) place place 0 below (omega arith)))
    (letter_low digest place))

pub utf8_replacement : (key : Key) (content : List ℕ) → is_utf8 (replacement key content) ≡ true
utf8_replacement key content =
    is_utf8-from_IsUtf8 (replacement key content)
    (IsUtf8-from_ascii (replacement key content) (ascii_replacement key content))

-- ---- a record

after_key : (bytes text rest : List ℕ) (n : ℕ) → IsVarint text n → bytes ≡ text ++ rest → after_varint bytes ≡ rest
unfolding after_varint
after_key bytes text rest n h e =
    ap (λ (o : Option (ℕ × List ℕ)). option_map_or (λ x. x.1) o []) (ap varint_at e ∙ varint_again text rest n h)

-- The redacted bytes of a record encode the redacted record, and are as many.
pub record KeptRecord (C : List ℕ → Type 0) (bytes other : List ℕ) (r : FieldRecord) : Type 0 where
  pub encodes : IsFieldRecord C other r
  pub long : length other ≡ length bytes

module _ (key : Key) (nested : Nested) (long : (rows : List Row) (bytes : List ℕ) → length (nested rows bytes) ≡ length
    bytes) where
  length_kind : (kind : Kind) (bytes : List ℕ) → length (content_of_kind key nested kind bytes) ≡ length bytes
  length_kind U32 bytes = refl
  length_kind U64 bytes = refl
  length_kind Boolean bytes = refl
  length_kind Enumeration bytes = refl
  length_kind (Message s) bytes = long (table s) bytes
  length_kind Text bytes = length_replacement key bytes
  length_kind ByteString bytes = length_replacement key bytes

  length_field : (field : Option (Kind × Bool)) (bytes : List ℕ) → length (content_of_field key nested field bytes) ≡
      length bytes
  length_field None bytes = length_replacement key bytes
  length_field (Some field) bytes = length_kind field.0 bytes

  module _ (C : List ℕ → Type 0) (group : (content : List ℕ) → C content → C (nested [] content)) where
    keeps_value : (number : ℕ) (field : Option (Kind × Bool)) (v : RecordValue) (bytes : List ℕ) → IsFieldRecord C bytes
        (record { number = number; value = v })
        → KeptRecord C bytes (redacted_bytes key nested field v bytes)
        (record { number = number; value = redacted_value key nested field v })
    keeps_value number field (Varint n) bytes h = record { encodes = h; long = refl }
    keeps_value number field (Fixed64 content) bytes h = record { encodes = h; long = refl }
    keeps_value number field (Fixed32 content) bytes h = record { encodes = h; long = refl }
    keeps_value number field (Length content) bytes h =
        let len = h.valued.0 in
        let other = content_of_field key nested field content in
        let whole : bytes ≡ (h.key ++ len) ++ content =
        h.parts ∙ ap (λ body. h.key ++ body) h.valued.2 ∙ sym (append_assoc h.key len content) in
        let front = front_taken bytes (h.key ++ len) content whole in
        let joined : redacted_bytes key nested field (Length content) bytes ≡ (h.key ++ len) ++ other =
        ap (λ before. before ++ other) front in
        record {
          encodes = record {
            key = h.key;
            body = len ++ other;
            parts = joined ∙ append_assoc h.key len other;
            keyed = h.keyed;
            valued = (len, subst (IsVarint len) (sym (length_field field content)) h.valued.1, refl);
          };
          long =
              ap length joined ∙ length-append (h.key ++ len) other
              ∙ ap (λ n. length (h.key ++ len) + n) (length_field field content)
              ∙ sym (length-append (h.key ++ len) content) ∙ sym (ap length whole);
        }
    keeps_value number field (Group content) bytes h =
        let end = h.valued.0 in
        let other = nested [] content in
        let after = after_key bytes h.key h.body (8 * number + 3) h.keyed.encoding h.parts in
        let closed : after_varint bytes ≡ content ++ end = after ∙ h.valued.3 in
        let front : take (length bytes - length (after_varint bytes)) bytes ≡ h.key =
        front_taken bytes h.key (after_varint bytes) (h.parts ∙ ap (λ body. h.key ++ body) (sym after)) in
        let back : drop (length content) (after_varint bytes) ≡ end =
        ap (drop (length content)) closed ∙ drop-append_seam content end in
        let joined : with_group other content bytes ≡ h.key ++ (other ++ end) =
        ap (λ before. before ++ (other ++ drop (length content) (after_varint bytes))) front
        ∙ ap (λ rest. h.key ++ (other ++ rest)) back in
        record {
          encodes = record {
            key = h.key;
            body = other ++ end;
            parts = joined;
            keyed = h.keyed;
            valued = (end, h.valued.1, group content h.valued.2, refl);
          };
          long =
              ap length joined ∙ length-append h.key (other ++ end)
              ∙ ap (λ n. length h.key + n) (length-append other end ∙ ap (λ n. n + length end) (long [] content)
              ∙ sym (length-append content end) ∙ sym (ap length h.valued.3))
              ∙ sym (length-append h.key h.body) ∙ sym (ap length h.parts);
        }

    -- the first record of some bytes, at its place
    keeps_first : (rows : List Row) (r : PlacedRecord) (items : List (Result PlacedRecord WireError)) (place : ℕ)
        (bytes : List ℕ) → ReadsInOrder (IsFieldRecord C) place bytes (Ok r ∷ items)
        → KeptRecord C (take (r.to - r.from) bytes)
        (redacted_bytes key nested (field_numbered rows r.field_record.number) r.field_record.value
        (take (r.to - r.from) bytes))
        (redacted_record key nested rows r.field_record)
        × ReadsInOrder (IsFieldRecord C) r.to (drop (r.to - r.from) bytes) items
    keeps_first rows r items place bytes h =
        let size : r.to - r.from ≡ length h.0 = omega (arith, h.4, h.5) in
        let first : take (r.to - r.from) bytes ≡ h.0 =
        ap (λ n. take n bytes) size ∙ ap (take (length h.0)) h.2 ∙ take-append_seam h.0 h.1 in
        let others : drop (r.to - r.from) bytes ≡ h.1 =
        ap (λ n. drop n bytes) size ∙ ap (drop (length h.0)) h.2 ∙ drop-append_seam h.0 h.1 in (
          keeps_value r.field_record.number (field_numbered rows r.field_record.number) r.field_record.value
              (take (r.to - r.from) bytes)
              (subst (λ (text : List ℕ). IsFieldRecord C text r.field_record) (sym first) h.3),
          subst (λ (rest : List ℕ). ReadsInOrder (IsFieldRecord C) r.to rest items) (sym others) h.6,
        )

    halves : (n : ℕ) (bytes : List ℕ) → length (take n bytes) + length (drop n bytes) ≡ length bytes
    halves n bytes = sym (length-append (take n bytes) (drop n bytes)) ∙ ap length (take-append-drop n bytes)

    length_items : (rows : List Row) (items : List (Result PlacedRecord WireError)) (place : ℕ) (bytes : List ℕ)
        → ReadsInOrder (IsFieldRecord C) place bytes items
        → length (redacted_items key nested rows bytes items) ≡ length bytes
    length_items rows [] place bytes h = sym (ap length h)
    length_items rows (Err e ∷ items) place bytes h = length-replicate (length bytes) 0
    length_items rows (Ok r ∷ items) place bytes h =
        let kept = keeps_first rows r items place bytes h in
        length-append (redacted_bytes key nested (field_numbered rows r.field_record.number) r.field_record.value
        (take (r.to - r.from) bytes)) (redacted_items key nested rows (drop (r.to - r.from) bytes) items)
        ∙ ap (λ n. n + length (redacted_items key nested rows (drop (r.to - r.from) bytes) items)) kept.0.long
        ∙ ap (λ n. length (take (r.to - r.from) bytes) + n)
        (length_items rows items r.to (drop (r.to - r.from) bytes) kept.1)
        ∙ halves (r.to - r.from) bytes

    encode_items : (rows : List Row) (items : List (Result PlacedRecord WireError)) (rs : List FieldRecord) (place : ℕ)
        (bytes : List ℕ) → ReadsInOrder (IsFieldRecord C) place bytes items → map without_place items ≡ map Ok rs
        → IsSequence (IsFieldRecord C) (redacted_items key nested rows bytes items)
        (map (redacted_record key nested rows) rs)
    encode_items rows [] [] place bytes h e = refl
    encode_items rows [] (x ∷ rs) place bytes h e = absurd cc
    encode_items rows (Err error ∷ items) [] place bytes h e = absurd cc
    encode_items rows (Err error ∷ items) (x ∷ rs) place bytes h e = absurd cc
    encode_items rows (Ok r ∷ items) [] place bytes h e = absurd cc
    encode_items rows (Ok r ∷ items) (x ∷ rs) place bytes h e =
        let head : r.field_record ≡ x = cc in
        let tail : map without_place items ≡ map Ok rs = cc in
        let kept = keeps_first rows r items place bytes h in
        let first = redacted_bytes key nested (field_numbered rows r.field_record.number) r.field_record.value
        (take (r.to - r.from) bytes) in (
          first,
          redacted_items key nested rows (drop (r.to - r.from) bytes) items,
          refl,
          subst (λ (y : FieldRecord). IsFieldRecord C first (redacted_record key nested rows y)) head kept.0.encodes,
          encode_items rows items rs r.to (drop (r.to - r.from) bytes) kept.1 tail,
        )

-- ---- with a nesting depth

-- Redacted messages are as long, and redacted groups have content.
pub record NestedKept (key : Key) (left : ℕ) : Type 0 where
  pub long : (rows : List Row) (bytes : List ℕ) → length (redacted_nested key left rows bytes) ≡ length bytes
  pub group : (content : List ℕ) → IsGroupContent left content → IsGroupContent left
      (redacted_nested key left [] content)

listed : (left : ℕ) (bytes : List ℕ) (rs : List FieldRecord) → IsRecordListWithin left bytes rs → map without_place
    (read_records left bytes) ≡ map Ok rs
unfolding read_records
listed left bytes rs h = read_only left rs (length bytes) bytes h

pub nested_kept : (key : Key) (left : ℕ) → NestedKept key left
unfolding redacted_nested IsGroupContent
nested_kept key zero = record { long = λ rows bytes. length-replicate (length bytes) 0; group = λ content h. h }
nested_kept key (suc left) =
    let below = nested_kept key left in
    record {
      long = λ rows bytes. length_items key (redacted_nested key left) below.long (IsGroupContent left) below.group rows
          (read_records left bytes) 0 bytes (reads_whole left bytes);
      group = λ content h. (
        map (redacted_record key (redacted_nested key left) []) h.0,
        encode_items key (redacted_nested key left) below.long (IsGroupContent left) below.group []
            (read_records left content) h.0 0 content (reads_whole left content) (listed left content h.0 h.1),
      );
    }

pub length_records : (key : Key) (left : ℕ) (rows : List Row) (bytes : List ℕ) → length
    (redacted_records key left rows bytes) ≡ length bytes
length_records key left rows bytes =
    let below = nested_kept key left in
    length_items key (redacted_nested key left) below.long (IsGroupContent left) below.group rows
    (read_records left bytes) 0 bytes (reads_whole left bytes)

pub records_kept : (key : Key) (left : ℕ) (rows : List Row) (bytes : List ℕ) (rs : List FieldRecord)
    → IsRecordListWithin left bytes rs
    → IsRecordListWithin left (redacted_records key left rows bytes)
    (map (redacted_record key (redacted_nested key left) rows) rs)
records_kept key left rows bytes rs h =
    let below = nested_kept key left in
    encode_items key (redacted_nested key left) below.long (IsGroupContent left) below.group rows
    (read_records left bytes) rs 0 bytes (reads_whole left bytes) (listed left bytes rs h)
