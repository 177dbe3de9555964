-- The bytes that are appended for a JSON value, record by record.
use Rattle.std.specs.Prelude.{◌≡◌, ◌≢◌, ℕ, zero, suc, Bool, true, false, List, [], ◌∷◌, ◌++◌}
use Rattle.std.specs.Prelude.{if◌then◌else◌, Option, Some, None, option_map, option_and_then, Result, MatchResult}
use Rattle.json.specs.Json.{Json, null, boolean, number, string, array, object, Items, no_items, item, Members}
use Rattle.shared_core_wire.specs.Schema.{Kind, U32, U64, Boolean, Enumeration, Text, ByteString, Message}
use Rattle.shared_core_wire.specs.Encoding.{shortest_varint}
use Rattle.shared_core_wire.specs.Acceptance.{accepts_number}
use Rattle.shared_core_wire.specs.Canonical.{written_number}
use Rattle.shared_core_wire.specs.WrittenRecords.{number_record, content_record}
use Rattle.shared_core_json_reader.specs.declared.error.Reason.{Reason}
use Rattle.shared_core_json_reader.specs.declared.error.Reason.TheVariants.{OutOfMemory}
use Rattle.shared_core_json_reader.specs.Rows.{NamedField, NamedRow, Plain, Optional, Repeated, OneOf, named_rows}
use Rattle.shared_core_json_reader.specs.Rows.{Format, NumberForm}
use Rattle.shared_core_json_reader.specs.Scalars.{u32_read, u64_read, boolean_read, enum_read, text_read, bytes_read}
use Rattle.shared_core_json_reader.specs.Reading.{are_known, given, or_absent}

-- A list and after it another one, if both lists exist.
abbrev pub both : Option (List ℕ) → Option (List ℕ) → Option (List ℕ)
both a b = option_and_then (λ xs. option_map (λ ys. xs ++ ys) b) a

-- The record of a single value; a default is left out in a plain field.
abbrev pub single_bytes : (ℕ → Json → Option (List ℕ)) → Bool → ℕ → Kind → NumberForm → Json → Option (List ℕ)
single_bytes nested plain n U32 form j = option_map (number_record plain n) (u32_read form.digits j)
single_bytes nested plain n U64 form j = option_map (number_record plain n) (u64_read form.digits j)
single_bytes nested plain n Boolean form j = option_map (number_record plain n) (boolean_read j)
single_bytes nested plain n Enumeration form j = option_map
    (λ m. number_record plain n (written_number Enumeration m)) (enum_read form.values j)
single_bytes nested plain n Text form j = option_map (content_record plain n) (text_read j)
single_bytes nested plain n ByteString form j = option_map (content_record plain n) (bytes_read j)
single_bytes nested plain n (Message s) form j = option_map (content_record false n) (nested s j)

-- The record of a value of a field.
abbrev pub field_bytes : (ℕ → Json → Option (List ℕ)) → Bool → NamedField → Json → Option (List ℕ)
field_bytes nested plain f j = single_bytes nested plain f.number f.kind f.form j

-- The records of the elements of an array.
abbrev pub items_bytes : (ℕ → Json → Option (List ℕ)) → NamedField → Items → Option (List ℕ)
items_bytes nested f no_items = Some []
items_bytes nested f (item j js) = both (field_bytes nested false f j) (items_bytes nested f js)

-- The number that is written for a value of a kind of numbers.
abbrev pub number_read : Kind → NumberForm → Json → Option ℕ
number_read U32 form j = u32_read form.digits j
number_read U64 form j = u64_read form.digits j
number_read Boolean form j = boolean_read j
number_read Enumeration form j = option_map (written_number Enumeration) (enum_read form.values j)
number_read Text form j = None
number_read ByteString form j = None
number_read (Message s) form j = None

-- The varints of the elements of an array of a field of numbers.
abbrev pub run_bytes : NamedField → Items → Option (List ℕ)
run_bytes f no_items = Some []
run_bytes f (item j js) = both (option_map shortest_varint (number_read f.kind f.form j)) (run_bytes f js)

-- The records of an array: numbers are packed into one.
abbrev pub array_bytes : (ℕ → Json → Option (List ℕ)) → NamedField → Items → Option (List ℕ)
array_bytes nested f js = if accepts_number f.kind then option_map (content_record true f.number) (run_bytes f js) else
    items_bytes nested f js

-- The records of a repeated field.
abbrev pub list_bytes : (ℕ → Json → Option (List ℕ)) → NamedField → Json → Option (List ℕ)
list_bytes nested f null = None
list_bytes nested f (boolean b) = None
list_bytes nested f (number s) = None
list_bytes nested f (string s) = None
list_bytes nested f (array js) = array_bytes nested f js
list_bytes nested f (object ms) = None

-- The record of a oneof's member, if none is held.
abbrev pub member_bytes : (ℕ → Json → Option (List ℕ)) → Bool → NamedField → Json → Option (List ℕ)
member_bytes nested true f j = None
member_bytes nested false f j = field_bytes nested false f j

-- Whether a oneof holds a member after a field that has this value.
abbrev pub held_after : Bool → Option Json → Bool
held_after held None = held
held_after held (Some j) = true

-- The record of a oneof. A member of it is held before these fields, or none is.
abbrev pub oneof_bytes : (ℕ → Json → Option (List ℕ)) → Members → Bool → List NamedField → Option (List ℕ)
oneof_bytes nested ms held [] = Some []
oneof_bytes nested ms held (f ∷ fs) =
    option_and_then (λ o. both (or_absent [] (member_bytes nested held f) o)
    (oneof_bytes nested ms (held_after held o) fs)) (given f ms)

-- What is appended for what an object gives a field: nothing, if that is nothing.
abbrev pub given_bytes : (Json → Option (List ℕ)) → Option (Option Json) → Option (List ℕ)
given_bytes read o = option_and_then (or_absent [] read) o

-- The records of a row.
abbrev pub row_bytes : (ℕ → Json → Option (List ℕ)) → Members → NamedRow → Option (List ℕ)
row_bytes nested ms (Plain f) = given_bytes (field_bytes nested true f) (given f ms)
row_bytes nested ms (Optional f) = given_bytes (field_bytes nested false f) (given f ms)
row_bytes nested ms (Repeated f) = given_bytes (list_bytes nested f) (given f ms)
row_bytes nested ms (OneOf fs) = oneof_bytes nested ms false fs

-- The records of some rows.
abbrev pub rows_bytes : (ℕ → Json → Option (List ℕ)) → Members → List NamedRow → Option (List ℕ)
rows_bytes nested ms [] = Some []
rows_bytes nested ms (r ∷ rs) = both (row_bytes nested ms r) (rows_bytes nested ms rs)

-- The records of an object, if each of its members has a name of a field.
abbrev pub members_bytes : (ℕ → Json → Option (List ℕ)) → List NamedRow → Members → Option (List ℕ)
members_bytes nested rows ms = if are_known rows ms then rows_bytes nested ms rows else None

-- The records of a value, which has to be an object.
abbrev pub object_bytes : (ℕ → Json → Option (List ℕ)) → List NamedRow → Json → Option (List ℕ)
object_bytes nested rows null = None
object_bytes nested rows (boolean b) = None
object_bytes nested rows (number s) = None
object_bytes nested rows (string s) = None
object_bytes nested rows (array js) = None
object_bytes nested rows (object ms) = members_bytes nested rows ms

-- The payload of a message that may be nested this deep, itself included.
unfoldable pub message_bytes : Format → ℕ → ℕ → Json → Option (List ℕ)
message_bytes d zero s j = None
message_bytes d (suc levels) s j = object_bytes (message_bytes d levels) (named_rows d s) j

-- The bytes with what is appended to them.
abbrev pub after : List ℕ → Option (List ℕ) → Option (List ℕ)
after old o = option_map (λ bytes. old ++ bytes) o

-- A call appends these bytes, if they exist; otherwise it fails. It may also fail because an allocation fails.
abbrev pub Appends : {T : Type 0} → Result T Reason → Option (List ℕ) → List ℕ → List ℕ → Type 0
Appends r o old new = MatchResult r (λ _. after old o ≡ Some new) (λ reason. reason ≢ OutOfMemory → o ≡ None)
