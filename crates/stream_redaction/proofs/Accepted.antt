-- A redacted payload is well-formed if and only if the payload is.
use Rattle.std.proofs.Common.{◌≡◌, ℕ, zero, suc, ◌<◌, List, [], ◌∷◌, length, map, Bool, true, false, Option, Some, None}
use Rattle.std.proofs.Common.{cond, refl, sym, ap, ◌∙◌, arith}
use Rattle.std.specs.Prelude.{is_some}
use Rattle.std.specs.List.{list_all}
use Rattle.std.proofs.lemmas.List.{length-replicate}
use Rattle.shared_core_base.specs.declared.header.MessageType.{MessageType}
use Rattle.shared_core_base.specs.declared.version.Version.{Version}
use Rattle.shared_core_wire.specs.Acceptance.{NestedAcceptance, accepts_element, accepts_message, accepts_numbers}
use Rattle.shared_core_wire.specs.Acceptance.{accepts_payload}
use Rattle.shared_core_wire.specs.Acceptance.{accepts_record, accepts_records, accepts_value, some_passes}
use Rattle.shared_core_wire.specs.Grammar.{RecordValue, Varint, Fixed64, Length, Group, Fixed32, FieldRecord}
use Rattle.shared_core_wire.specs.Reader.{key_at, packed_numbers, record_at, record_list, record_with, varint_at}
use Rattle.shared_core_wire.specs.Reader.{varint_within}
use Rattle.shared_core_wire.specs.Schema.{Kind, Row, U32, U64, Boolean, Enumeration, Text, ByteString, Message}
use Rattle.shared_core_wire.specs.Schema.{all_numbers, are_distinct}
use Rattle.shared_core_wire.proofs.Merging.{accepted_payload_records}
use Rattle.shared_core_wire.proofs.RecordLists.{records_again, records_empty, records_reads}
use Rattle.shared_core_wire.proofs.Runs.{and_join, and_split}
use Rattle.shared_core_wire.proofs.Sequences.{all_stop}
use Rattle.shared_core_codec.specs.Checking.{accepts_found}
use Rattle.shared_core_codec.specs.ProgramRows.{field_numbered}
use Rattle.shared_core_codec.specs.Table.{table}
use Rattle.shared_core_codec.specs.Tables.{protocol_is_table}
use Rattle.shared_core_codec.proofs.Checked.{distinct_rows, field_accepts}
use Rattle.shared_core_message.specs.Schemas.{is_well_formed_at, is_well_formed_for, schema_at}
use Rattle.stream_redaction.specs.declared.key.Key.{Key}
use Rattle.stream_redaction.specs.Redaction.{Nested, content_of_kind, redacted_for, redacted_nested, redacted_payload}
use Rattle.stream_redaction.specs.Redaction.{redacted_record}
use Rattle.stream_redaction.specs.Redaction.{redacted_records, redacted_value}
use Rattle.stream_redaction.specs.Replacement.{zeros}
use Rattle.stream_redaction.proofs.Kept.{length_records, length_replacement, records_kept, utf8_replacement}

module _ (key : Key) (accepts : NestedAcceptance) (nested : Nested)
    (messages : (s : ℕ) (bytes : List ℕ) → accepts s bytes ≡ true → accepts s (nested (table s) bytes) ≡ true) where
  value_kept : (kind : Kind) (repeated : Bool) (v : RecordValue) → accepts_value accepts kind v ≡ true → accepts_value
      accepts kind (redacted_value key nested (Some (kind, repeated)) v) ≡ true
  value_kept kind repeated (Varint n) h = h
  value_kept kind repeated (Fixed64 bytes) h = h
  value_kept kind repeated (Group bytes) h = h
  value_kept kind repeated (Fixed32 bytes) h = h
  value_kept U32 repeated (Length bytes) h = h
  value_kept U64 repeated (Length bytes) h = h
  value_kept Boolean repeated (Length bytes) h = h
  value_kept Enumeration repeated (Length bytes) h = h
  value_kept Text repeated (Length bytes) h = utf8_replacement key bytes
  value_kept ByteString repeated (Length bytes) h = refl
  value_kept (Message s) repeated (Length bytes) h = messages s bytes h

  list_kept : (kind : Kind) → ((bytes : List ℕ) → content_of_kind key nested kind bytes ≡ bytes) → (v : RecordValue) →
      accepts_numbers v ≡ true → accepts_numbers (redacted_value key nested (Some (kind, true)) v) ≡ true
  list_kept kind e (Varint n) h = h
  list_kept kind e (Fixed64 bytes) h = h
  list_kept kind e (Length bytes) h = ap (λ bs. is_some (packed_numbers bs)) (e bytes) ∙ h
  list_kept kind e (Group bytes) h = h
  list_kept kind e (Fixed32 bytes) h = h

  element_kept : (kind : Kind) (v : RecordValue) → accepts_element accepts kind v ≡ true → accepts_element accepts kind
      (redacted_value key nested (Some (kind, true)) v) ≡ true
  element_kept U32 v h = list_kept U32 (λ bytes. refl) v h
  element_kept U64 v h = list_kept U64 (λ bytes. refl) v h
  element_kept Boolean v h = list_kept Boolean (λ bytes. refl) v h
  element_kept Enumeration v h = list_kept Enumeration (λ bytes. refl) v h
  element_kept Text v h = value_kept Text true v h
  element_kept ByteString v h = value_kept ByteString true v h
  element_kept (Message s) v h = value_kept (Message s) true v h

  found_kept : (field : Option (Kind × Bool)) (v : RecordValue) → accepts_found accepts field v ≡ true → accepts_found
      accepts field (redacted_value key nested field v) ≡ true
  found_kept None v h = refl
  found_kept (Some (kind, true)) v h = element_kept kind v h
  found_kept (Some (kind, false)) v h = value_kept kind false v h

  module _ (rows : List Row) (distinct : are_distinct (all_numbers rows) ≡ true) where
    record_kept : (r : FieldRecord) → accepts_record accepts rows r ≡ true → accepts_record accepts rows
        (redacted_record key nested rows r) ≡ true
    record_kept r h =
        sym (field_accepts accepts (redacted_record key nested rows r) rows distinct)
        ∙ found_kept (field_numbered rows r.number) r.value (field_accepts accepts r rows distinct ∙ h)

    all_kept : (rs : List FieldRecord) → list_all (accepts_record accepts rows) rs ≡ true → list_all
        (accepts_record accepts rows) (map (redacted_record key nested rows) rs) ≡ true
    all_kept [] h = refl
    all_kept (r ∷ rs) h =
        let both = and_split (accepts_record accepts rows r) (list_all (accepts_record accepts rows) rs) h in
        and_join (accepts_record accepts rows (redacted_record key nested rows r))
        (list_all (accepts_record accepts rows) (map (redacted_record key nested rows) rs))
        (record_kept r both.0) (all_kept rs both.1)

-- ---- with a nesting depth

abbrev MessagesKept : Key → ℕ → Type 0
MessagesKept key left = (s : ℕ) (bytes : List ℕ) → accepts_message table left s bytes ≡ true
    → accepts_message table left s (redacted_nested key left (table s) bytes) ≡ true

payload_kept : (key : Key) (left : ℕ) → MessagesKept key left → (s : ℕ) (bytes : List ℕ) → accepts_payload table left s
    bytes ≡ true → accepts_payload table left s (redacted_records key left (table s) bytes) ≡ true
payload_kept key left messages s bytes h =
    let x = accepted_payload_records table left s bytes h in
    let rs = map (redacted_record key (redacted_nested key left) (table s)) x.0 in
    ap (some_passes (accepts_records table left s))
    (records_again left (redacted_records key left (table s) bytes) rs
    (records_kept key left (table s) bytes x.0 (records_reads left bytes x.0 x.1)))
    ∙ all_kept key (accepts_message table left) (redacted_nested key left) messages (table s)
    (distinct_rows table protocol_is_table s (table s) refl) x.0 x.2

messages_kept : (key : Key) (left : ℕ) → MessagesKept key left
unfolding accepts_message redacted_nested
messages_kept key zero s bytes h = h
messages_kept key (suc left) s bytes h = payload_kept key left (messages_kept key left) s bytes h

-- ---- zeros

zero_is_no_record : (left : ℕ) (bytes : List ℕ) → record_at left (0 ∷ bytes) ≡ None
unfolding record_at record_with key_at varint_at varint_within
zero_is_no_record left bytes = refl

zeros_malformed : (left s count : ℕ) → 0 < count → accepts_payload table left s (zeros count) ≡ false
unfolding record_list
zeros_malformed left s zero h = absurd (omega (arith, h))
zeros_malformed left s (suc count) h =
    ap (some_passes (accepts_records table left s))
    (all_stop (record_at left) (zeros (suc count)) (omega (arith, length-replicate {A = ℕ} (suc count) 0))
    (zero_is_no_record left (zeros count)))

empty_accepted : (left s : ℕ) → accepts_payload table left s [] ≡ true
empty_accepted left s = ap (some_passes (accepts_records table left s)) (records_empty left)

-- ---- payloads

by_acceptance : (key : Key) (s : ℕ) (payload : List ℕ) (b : Bool) → accepts_payload table 100 s payload ≡ b
    → accepts_payload table 100 s (cond b (redacted_records key 100 (table s) payload) (zeros (length payload))) ≡ b
by_acceptance key s payload true e = payload_kept key 100 (messages_kept key 100) s payload e
by_acceptance key s [] false e = let both : false ≡ true = sym e ∙ empty_accepted 100 s in absurd cc
by_acceptance key s (b ∷ bytes) false e = zeros_malformed 100 s (length (b ∷ bytes)) (omega arith)

kept_for : (key : Key) (schema : Option ℕ) (payload : List ℕ) → is_well_formed_for schema (redacted_for key schema
    payload) ≡ is_well_formed_for schema payload
kept_for key None payload = refl
kept_for key (Some s) payload =
    by_acceptance key s payload (accepts_payload table 100 s payload) refl

pub well_formed_alike : (key : Key) (version : Version) (ty : MessageType) (payload : List ℕ)
    → is_well_formed_at version ty (redacted_payload key version ty payload) ≡ is_well_formed_at version ty payload
well_formed_alike key version ty payload = kept_for key (schema_at version ty) payload

length_by : (key : Key) (s : ℕ) (payload : List ℕ) (b : Bool) → length
    (cond b (redacted_records key 100 (table s) payload) (zeros (length payload))) ≡ length payload
length_by key s payload true = length_records key 100 (table s) payload
length_by key s payload false = length-replicate (length payload) 0

length_for : (key : Key) (schema : Option ℕ) (payload : List ℕ) → length (redacted_for key schema payload) ≡ length
    payload
length_for key None payload = length_replacement key payload
length_for key (Some s) payload = length_by key s payload (accepts_payload table 100 s payload)

pub length_payload : (key : Key) (version : Version) (ty : MessageType) (payload : List ℕ) → length
    (redacted_payload key version ty payload) ≡ length payload
length_payload key version ty payload = length_for key (schema_at version ty) payload
