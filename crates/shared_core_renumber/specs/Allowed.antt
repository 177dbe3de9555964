-- Which payloads can be written at other field numbers.
use Rattle.std.specs.Prelude.{ℕ, zero, suc, ◌-◌, Bool, true, false, List, Option, Some, None, nat_eq, if◌then◌else◌}
use Rattle.shared_core_wire.specs.Grammar.{RecordValue, Varint, Length, FieldRecord}
use Rattle.shared_core_wire.specs.ReadRecords.{read_records}
use Rattle.shared_core_codec.specs.Checking.{all_read}
use Rattle.shared_core_canonical.specs.declared.places.Placed.{Placed}
use Rattle.shared_core_renumber.specs.declared.entries.Renumbering.{Renumbering}
use Rattle.shared_core_renumber.specs.Entries.{find_in, from_schema}

-- Whether the bytes of a message within, of the schema with this number, can be written.
abbrev pub NestedTest : Type 0
NestedTest = ℕ → List ℕ → Bool

-- Whether an entry allows a value: a number if it is of no message, and bytes, which have to be a message if it is of
-- one.
abbrev pub value_allows : NestedTest → Renumbering → RecordValue → Bool
value_allows inner e (Varint v) = nat_eq e.nested 0
value_allows inner e (Length b) = if nat_eq e.nested 0 then true else inner (e.nested - 1) b
value_allows inner e w = false

-- The same of an entry that was found or not.
abbrev pub found_allows : NestedTest → Option (Placed Renumbering) → RecordValue → Bool
found_allows inner None w = true
found_allows inner (Some p) w = value_allows inner p.value w

-- Whether the entries of a schema, which are at the front, allow a record: they have no entry of its number, or the
-- first one allows its value.
abbrev pub record_allows : NestedTest → ℕ → List Renumbering → FieldRecord → Bool
record_allows inner s es r = found_allows inner (find_in s r.number es) r.value

-- Whether the bytes of a message within can be written, where the record that holds them allows `left` levels of
-- nesting.
unfoldable pub nested_allows : List Renumbering → ℕ → NestedTest
nested_allows es zero s bytes = false
nested_allows es (suc left) s bytes = all_read (record_allows (nested_allows es left) s (from_schema s es))
    (read_records left bytes)

-- Whether a payload can be written, whose records allow `left` levels of nesting.
abbrev pub payload_allows : List Renumbering → ℕ → ℕ → List ℕ → Bool
payload_allows es left s bytes = all_read (record_allows (nested_allows es left) s (from_schema s es))
    (read_records left bytes)
