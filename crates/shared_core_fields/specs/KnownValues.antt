-- Reading the records of a payload that is known to be canonical.
use Rattle.std.specs.Prelude.{ℕ, Bool, false, ◌&&◌, List, Option, Some, None, if◌then◌else◌, ◌==◌}
use Rattle.shared_core_wire.specs.Grammar.{RecordValue, Varint, Length, content}
use Rattle.shared_core_wire.specs.Reader.{◌>>=◌, varint_at, key_at, bytes_at}
use Rattle.shared_core_wire.specs.Schema.{Table, Kind}
use Rattle.shared_core_wire.specs.Value.{Part}
use Rattle.shared_core_fields.specs.Coming.{is_short, is_typed_in}
use Rattle.shared_core_fields.specs.Fields.{record_part_in}

-- The field number and the wire type of the record that the bytes begin with, the varint after its key, which is its
-- number or how long its content is, and the bytes after that.
abbrev pub front_at : List ℕ → Option (ℕ × ℕ × ℕ × List ℕ)
front_at bytes = key_at bytes >>= λ k. varint_at k.2 >>= λ n. Some (k.0, k.1, n.0, n.1)

-- The value of a wire type whose varint is this, before these bytes, and the bytes after it: bytes of that length, or
-- the varint.
abbrev pub value_after : ℕ → ℕ × List ℕ → Option (RecordValue × List ℕ)
value_after wire n = if wire == 2 then (bytes_at n.0 n.1 >>= λ x. Some (Length x.0, x.1)) else Some (Varint n.0, n.1)

-- Whether there is a value, which a field of a kind, repeated or not, may have.
abbrev pub is_known_in : Table → Kind × Bool → Option (RecordValue × List ℕ) → Bool
is_known_in table f None = false
is_known_in table f (Some x) = is_short x.0 && is_typed_in table f x.0

-- What a value gives to a field of a kind, repeated or not: the kind, the part, the bytes that it holds; and the bytes
-- after it.
abbrev pub typed_parts_in : Table → Kind × Bool → RecordValue × List ℕ → Kind × Part × List ℕ × List ℕ
typed_parts_in table f x = (f.0, record_part_in table f x.0, content x.0, x.1)
