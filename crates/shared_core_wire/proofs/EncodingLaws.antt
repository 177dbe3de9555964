-- The shortest encodings are read back.
use Rattle.std.proofs.Common.{◌≡◌, ℕ, ◌^◌, ◌<◌, ◌*◌, ◌+◌, List, [], ◌∷◌, ◌++◌, length, Bool, true, false, ◌&&◌, Some}
use Rattle.std.proofs.Common.{refl, sym, ap, ◌∙◌, ltb, append-nil, arith}
use Rattle.std.specs.Prelude.{flat_map, nat_lt}
use Rattle.std.specs.List.{list_all}
use Rattle.std.proofs.lemmas.Bool.{ltb-true}
use Rattle.shared_core_wire.specs.Grammar.{RecordValue, Varint, Fixed64, Length, Group, Fixed32, FieldRecord}
use Rattle.shared_core_wire.specs.Grammar.{IsGroupContent, IsVarint, IsRecordBody, IsRecordWithin, IsRecordListWithin}
use Rattle.shared_core_wire.specs.Grammar.{IsSequence, wire_type}
use Rattle.shared_core_wire.specs.Reader.{packed_numbers, record_list}
use Rattle.shared_core_wire.specs.Encoding.{record_bytes, is_field_number, shortest_varint, key_bytes}
use Rattle.shared_core_wire.proofs.RecordLists.{records_again}
use Rattle.shared_core_wire.proofs.Sequences.{packed_again}
use Rattle.shared_core_wire.proofs.Runs.{and_split}
use Rattle.shared_core_wire.proofs.Shortest.{shortest_is, key_is}

-- values that a canonical payload has: numbers, and bytes with their length
abbrev pub encodable_value : RecordValue → Bool
encodable_value (Varint n) = nat_lt n (2 ^ 64)
encodable_value (Fixed64 bytes) = false
encodable_value (Length bytes) = nat_lt (length bytes) (2 ^ 64)
encodable_value (Group bytes) = false
encodable_value (Fixed32 bytes) = false

abbrev pub encodable : FieldRecord → Bool
encodable r = is_field_number r.number && encodable_value r.value

one_record : (left : ℕ) (text bytes : List ℕ) (n : ℕ) (v : RecordValue) → is_field_number n ≡ true → (k : ℕ) → k ≡ 8 * n
    + wire_type v → text ≡ shortest_varint k ++ bytes → wire_type v < 8 → IsRecordBody (IsGroupContent left) bytes n v →
    IsRecordWithin left text (record { number = n; value = v })
one_record left text bytes n v h key whole e w b =
    let k = and_split _ _ h in
    record {
      key = key_bytes n (wire_type v);
      body = bytes;
      parts = e ∙ ap (λ (m : ℕ). shortest_varint m ++ bytes)
          whole;
      keyed = key_is n (wire_type v) (ltb-true _ _ k.0) (ltb-true _ _ k.1) w;
      valued = b;
    }

encoded_is : (left n : ℕ) (v : RecordValue) → is_field_number n ≡ true → encodable_value v ≡ true → IsRecordWithin left
    (record_bytes (record { number = n; value = v })) (record { number = n; value = v })
encoded_is left n (Varint m) h s = one_record left _ (shortest_varint m) n (Varint m) h (8 * n + 0) (omega arith) refl
    (omega arith) (shortest_is m (ltb-true _ _ s))
encoded_is left n (Fixed64 bytes) h s = absurd cc
encoded_is left n (Length bytes) h s = one_record left _ (shortest_varint (length bytes) ++ bytes) n (Length bytes) h
    (8 * n + 2) refl refl (omega arith) (
      shortest_varint (length bytes),
      shortest_is (length bytes) (ltb-true _ _ s),
      refl,
    )
encoded_is left n (Group bytes) h s = absurd cc
encoded_is left n (Fixed32 bytes) h s = absurd cc

one_list : (left : ℕ) (text : List ℕ) (r : FieldRecord) → IsRecordWithin left text r → IsRecordListWithin left text
    (r ∷ [])
one_list left text r h = (text, [], sym (append-nil text), h, refl)

varints_joined : (ns : List ℕ) → list_all (λ n. ltb n (2 ^ 64)) ns ≡ true → IsSequence IsVarint
    (flat_map shortest_varint ns) ns
varints_joined [] h = refl
varints_joined (n ∷ ns) h = let e = and_split _ _ h in (
  shortest_varint n,
  flat_map shortest_varint ns,
  refl,
  shortest_is n (ltb-true _ _ e.0),
  varints_joined ns e.1,
)

pub record_encoded : (left : ℕ) (r : FieldRecord) → encodable r ≡ true → record_list left (record_bytes r) ≡ Some
    (r ∷ [])
record_encoded left r h = let e = and_split _ _ h in records_again left (record_bytes r) (r ∷ [])
    (one_list left (record_bytes r) r (encoded_is left r.number r.value e.0 e.1))

pub varints_encoded : (ns : List ℕ) → list_all (λ n. nat_lt n (2 ^ 64)) ns ≡ true → packed_numbers
    (flat_map shortest_varint ns) ≡ Some ns
varints_encoded ns h = packed_again (flat_map shortest_varint ns) ns (varints_joined ns h)
