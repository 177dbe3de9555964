-- The records of which a payload is written forward: what is appended for a number and for bytes.
use Rattle.std.specs.Prelude.{ℕ, ◌+◌, ◌-◌, ◌^◌, Bool, ◌&&◌, List, [], ◌++◌, length, min, nat_eq, if◌then◌else◌}
use Rattle.shared_core_wire.specs.Encoding.{shortest_varint, key_bytes}

-- The record of a number; 0 is left out in a plain field.
abbrev pub number_record : Bool → ℕ → ℕ → List ℕ
number_record plain n value = if plain && nat_eq value 0 then [] else (key_bytes n 0 ++ shortest_varint value)

-- The record of bytes; no bytes are left out in a plain field.
abbrev pub content_record : Bool → ℕ → List ℕ → List ℕ
content_record plain n bytes = if plain && nat_eq (length bytes) 0 then [] else
    (key_bytes n 2 ++ (shortest_varint (length bytes) ++ bytes))

-- The length of the record of bytes, by how many these are.
abbrev pub content_size : Bool → ℕ → ℕ → ℕ
content_size plain n size = if plain && nat_eq size 0 then 0 else
    (length (key_bytes n 2) + length (shortest_varint size) + size)

-- A number, or the greatest one of 64 bits if that is less.
abbrev pub at_most_64_bits : ℕ → ℕ
at_most_64_bits n = min n (2 ^ 64 - 1)
