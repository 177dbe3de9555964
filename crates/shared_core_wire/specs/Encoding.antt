-- The shortest encodings. Canonical payloads consist of them.
use Rattle.std.specs.Prelude.{ℕ, zero, suc, ◌+◌, ◌*◌, ◌/◌, ◌%◌, ◌^◌, Bool, ◌&&◌, List, [], ◌∷◌, ◌++◌, length, nat_lt}
use Rattle.std.specs.Prelude.{if◌then◌else◌, flat_map}
use Rattle.shared_core_wire.specs.Grammar.{Varint, Fixed64, Length, Group, Fixed32, FieldRecord}

-- A number in groups of seven bits, with at most the given number of bytes before the last.
unfoldable pub shortest_within : ℕ → ℕ → List ℕ
shortest_within zero n = n ∷ []
shortest_within (suc most) n = if nat_lt n 128 then n ∷ [] else (n % 128 + 128) ∷ shortest_within most (n / 128)

-- The shortest encoding of a number as a varint; a number of more than 64 bits is encoded in the same manner.
unfoldable pub shortest_varint : ℕ → List ℕ
shortest_varint n = shortest_within n n

-- The shortest encoding of a key.
abbrev pub key_bytes : ℕ → ℕ → List ℕ
key_bytes number wire = shortest_varint (8 * number + wire)

-- The encoding of a record whose key, number and length are the shortest.
abbrev pub record_bytes : FieldRecord → List ℕ
record_bytes r = elim r.value [
  | Varint n ↦ key_bytes r.number 0 ++ shortest_varint n
  | Fixed64 bytes ↦ key_bytes r.number 1 ++ bytes
  | Length bytes ↦ key_bytes r.number 2 ++ (shortest_varint (length bytes) ++ bytes)
  | Group bytes ↦ key_bytes r.number 3 ++ (bytes ++ key_bytes r.number 4)
  | Fixed32 bytes ↦ key_bytes r.number 5 ++ bytes
]

-- The encoding of a record list.
abbrev pub record_list_bytes : List FieldRecord → List ℕ
record_list_bytes rs = flat_map record_bytes rs

-- Whether this is a field number: from 1 to 536,870,911.
abbrev pub is_field_number : ℕ → Bool
is_field_number n = nat_lt 0 n && nat_lt n (2 ^ 29)
