-- Which value of a schema a JSON text means.
use Rattle.std.specs.Prelude.{◌≡◌, ℕ, zero, suc, ◌+◌, Bool, true, false, ◌&&◌, ◌||◌, List, [], ◌∷◌, nat_le, flat_map}
use Rattle.std.specs.Prelude.{if◌then◌else◌, Option, Some, None, option_map, option_and_then}
use Rattle.std.specs.Str.{is_utf8, bytes_eq}
use Rattle.json.specs.Json.{Json, null, boolean, number, string, array, object, Items, no_items, item, Members}
use Rattle.json.specs.Json.{no_members, member, if_last}
use Rattle.json.specs.Json as json
use Rattle.json.specs.Token.{Token}
use Rattle.json_table.specs.Places.{present}
use Rattle.json.specs.Lex.{tokens}
use Rattle.shared_core_wire.specs.Schema.{Kind, U32, U64, Boolean, Enumeration, Text, ByteString, Message}
use Rattle.shared_core_wire.specs.Value.{Part, Parts, Absent, Number, Bytes, Nested, Elements, Member, nil, cons}
use Rattle.shared_core_wire.specs.Value.{default_of}
use Rattle.shared_core_wire.specs.Canonical.{canonical_payload}
use Rattle.shared_core_wire.specs.Overlay.{meaning}
use Rattle.shared_core_codec.specs.Tables.{IsAcceptedIn}
use Rattle.shared_core_json_reader.specs.Rows.{NamedField, NamedRow, Plain, Optional, Repeated, OneOf, named_rows}
use Rattle.shared_core_json_reader.specs.Rows.{Format, NumberForm, protocol}
use Rattle.shared_core_json_reader.specs.Scalars.{u32_read, u64_read, boolean_read, enum_read, text_read, bytes_read}

-- ---- members

-- A byte of a name in lower camel case, as the original name has it: for a capital letter an underscore and the small
-- letter.
abbrev pub original_byte : ℕ → List ℕ
original_byte c = if nat_le 65 c && nat_le c 90 then 95 ∷ (c + 32) ∷ [] else c ∷ []

-- The original name of a field, by its name in lower camel case.
abbrev pub original_name : List ℕ → List ℕ
original_name name = flat_map original_byte name

-- Whether a key is one of a field's two names: the one in lower camel case, or the original one.
abbrev pub is_named : NamedField → List ℕ → Bool
is_named f k = bytes_eq k f.name || bytes_eq k (original_name f.name)

-- Whether a key is a name of one of some fields.
abbrev pub names_field : List NamedField → List ℕ → Bool
names_field [] k = false
names_field (f ∷ fs) k = is_named f k || names_field fs k

-- Whether a key is a name of a field of a row.
abbrev pub row_names : NamedRow → List ℕ → Bool
row_names (Plain f) k = is_named f k
row_names (Optional f) k = is_named f k
row_names (Repeated f) k = is_named f k
row_names (OneOf fs) k = names_field fs k

-- Whether a key is a name of a field of some rows.
abbrev pub names_row : List NamedRow → List ℕ → Bool
names_row [] k = false
names_row (r ∷ rs) k = row_names r k || names_row rs k

-- Whether each key is a name of a field of the rows.
abbrev pub are_known : List NamedRow → Members → Bool
are_known rows no_members = true
are_known rows (member k j ms) = names_row rows k && are_known rows ms

-- The values of the members that have a name of a field.
abbrev pub values_named : NamedField → Members → List Json
values_named f no_members = []
values_named f (member k j ms) = if is_named f k then j ∷ values_named f ms else values_named f ms

-- The one value, or none if it is null or absent; several values have no meaning.
abbrev pub the_only : List Json → Option (Option Json)
the_only [] = Some None
the_only (j ∷ []) = Some (present j)
the_only (j ∷ i ∷ js) = None

-- The value that an object gives a field.
abbrev pub given : NamedField → Members → Option (Option Json)
given f ms = the_only (values_named f ms)

-- ---- values, where nested reads a nested message

-- A single value of a kind.
abbrev pub single_read : (ℕ → Json → Option Parts) → Kind → NumberForm → Json → Option Part
single_read nested U32 form j = option_map Number (u32_read form.digits j)
single_read nested U64 form j = option_map Number (u64_read form.digits j)
single_read nested Boolean form j = option_map Number (boolean_read j)
single_read nested Enumeration form j = option_map Number (enum_read form.values j)
single_read nested Text form j = option_map Bytes (text_read j)
single_read nested ByteString form j = option_map Bytes (bytes_read j)
single_read nested (Message s) form j = option_map Nested (nested s j)

-- A value of a field.
abbrev pub field_read : (ℕ → Json → Option Parts) → NamedField → Json → Option Part
field_read nested f j = single_read nested f.kind f.form j

-- The elements of a repeated field.
abbrev pub elements_read : (ℕ → Json → Option Parts) → NamedField → Items → Option Parts
elements_read nested f no_items = Some nil
elements_read nested f (item j js) = option_and_then (λ p. option_map (cons p) (elements_read nested f js))
    (field_read nested f j)

-- A repeated field, as an array.
abbrev pub list_read : (ℕ → Json → Option Parts) → NamedField → Json → Option Part
list_read nested f null = None
list_read nested f (boolean b) = None
list_read nested f (number s) = None
list_read nested f (string s) = None
list_read nested f (array js) = option_map Elements (elements_read nested f js)
list_read nested f (object ms) = None

-- The absent value if there is no JSON value, otherwise what that is read as.
abbrev pub or_absent : {A : Type 0} → A → (Json → Option A) → Option Json → Option A
or_absent absent read None = Some absent
or_absent absent read (Some j) = read j

-- The member of a oneof that held no member before.
abbrev pub member_read : (ℕ → Json → Option Parts) → Part → NamedField → Json → Option Part
member_read nested Absent f j = option_map (Member f.number) (field_read nested f j)
member_read nested (Number n) f j = None
member_read nested (Bytes bytes) f j = None
member_read nested (Nested ps) f j = None
member_read nested (Elements ps) f j = None
member_read nested (Member n p) f j = None

-- A oneof that held a part before these members: at most one member may be present.
abbrev pub oneof_read : (ℕ → Json → Option Parts) → Members → Part → List NamedField → Option Part
oneof_read nested ms held [] = Some held
oneof_read nested ms held (f ∷ fs) =
    option_and_then (λ o. option_and_then (λ now. oneof_read nested ms now fs)
    (or_absent held (member_read nested held f) o)) (given f ms)

-- What an object gives a row.
abbrev pub row_read : (ℕ → Json → Option Parts) → Members → NamedRow → Option Part
row_read nested ms (Plain f) = option_and_then (or_absent (default_of f.kind) (field_read nested f)) (given f ms)
row_read nested ms (Optional f) = option_and_then (or_absent Absent (field_read nested f)) (given f ms)
row_read nested ms (Repeated f) = option_and_then (or_absent (Elements nil) (list_read nested f)) (given f ms)
row_read nested ms (OneOf fs) = oneof_read nested ms Absent fs

-- What an object gives some rows.
abbrev pub rows_read : (ℕ → Json → Option Parts) → Members → List NamedRow → Option Parts
rows_read nested ms [] = Some nil
rows_read nested ms (r ∷ rs) = option_and_then (λ p. option_map (cons p) (rows_read nested ms rs))
    (row_read nested ms r)

-- What an object means for some rows, if each of its members has a name of one of their fields.
abbrev pub members_read : (ℕ → Json → Option Parts) → List NamedRow → Members → Option Parts
members_read nested rows ms = if are_known rows ms then rows_read nested ms rows else None

-- What a value means for some rows: only an object means something.
abbrev pub object_read : (ℕ → Json → Option Parts) → List NamedRow → Json → Option Parts
object_read nested rows null = None
object_read nested rows (boolean b) = None
object_read nested rows (number s) = None
object_read nested rows (string s) = None
object_read nested rows (array js) = None
object_read nested rows (object ms) = members_read nested rows ms

-- The value of the schema s that a JSON value means, if messages are nested at most this deep, itself included.
unfoldable pub message_read : Format → ℕ → ℕ → Json → Option Parts
message_read d zero s j = None
message_read d (suc levels) s j = object_read (message_read d levels) (named_rows d s) j

-- The canonical payload of the value of the schema s that a JSON value means.
abbrev pub value_payload_in : Format → ℕ → Json → Option (List ℕ)
value_payload_in d s j = option_map (canonical_payload d.table s) (message_read d 101 s j)

-- A payload is accepted for the schema s, and means what a JSON value means.
abbrev pub Means : Format → ℕ → Json → List ℕ → Type 0
Means d s j payload = IsAcceptedIn d.table s payload × (message_read d 101 s j ≡ Some (meaning d.table 100 s payload))

-- ---- texts

-- How deep arrays and objects may be nested in a text; a message one hundred levels deep needs 202 at most.
abbrev pub max_depth : ℕ
max_depth = 1000

-- The value that some tokens are, if they are one value and no more.
unfoldable pub only_value : List Token → Option Json
only_value ts = option_and_then (λ p. if_last p.0 p.1) (json.value max_depth ts)

-- The JSON value that a text is.
abbrev pub json_of_text : List ℕ → Option Json
json_of_text text = if is_utf8 text then only_value (tokens text) else None

-- The value of the schema s that a text means.
abbrev pub text_meaning_in : Format → ℕ → List ℕ → Option Parts
text_meaning_in d s text = option_and_then (message_read d 101 s) (json_of_text text)

-- The canonical payload of the value that a text means.
abbrev pub text_payload_in : Format → ℕ → List ℕ → Option (List ℕ)
text_payload_in d s text = option_map (canonical_payload d.table s) (text_meaning_in d s text)

-- ---- for the messages of the protocol

-- The canonical payload of the value of the schema s that a JSON value means.
abbrev pub value_payload : ℕ → Json → Option (List ℕ)
value_payload = value_payload_in protocol

-- The value of the schema s that a text means.
abbrev pub text_meaning : ℕ → List ℕ → Option Parts
text_meaning = text_meaning_in protocol

-- The canonical payload of the value that a text means.
abbrev pub text_payload : ℕ → List ℕ → Option (List ℕ)
text_payload = text_payload_in protocol
