-- Which error a JSON value has: the first one, and the path to the rejected value.
use Rattle.std.specs.Prelude.{◌≡◌, ◌≢◌, ◌≤◌, ℕ, zero, suc, ◌+◌, Bool, true, false, List, [], ◌∷◌, ◌++◌, length}
use Rattle.std.specs.Prelude.{codes, if◌then◌else◌, Option, Some, None, option_map, Result, MatchResult}
use Rattle.std.specs.Option.{option_or}
use Rattle.std.specs.Fmt.{decimal}
use Rattle.std.specs.String.{string_bytes}
use Rattle.std.specs.Str.{is_utf8}
use Rattle.std.specs.Str.Lossy.{utf8_valid_len}
use Rattle.json.specs.Word.{after_number}
use Rattle.json.specs.Find.{as_str}
use Rattle.json.specs.Json.{Json, null, boolean, number, string, array, object, Items, no_items, item, Members}
use Rattle.json.specs.Json.{no_members, member}
use Rattle.shared_core_wire.specs.Schema.{Kind, U32, U64, Boolean, Enumeration, Text, ByteString, Message}
use Rattle.shared_core_wire.specs.Acceptance.{accepts_number}
use Rattle.shared_core_json_reader.specs.declared.error.Reason.{Reason}
use Rattle.shared_core_json_reader.specs.declared.error.Reason.TheVariants.{NotJson, UnknownMember, RepeatedMember}
use Rattle.shared_core_json_reader.specs.declared.error.Reason.TheVariants.{SeveralMembers, WrongKind, UnknownName}
use Rattle.shared_core_json_reader.specs.declared.error.Reason.TheVariants.{OutOfRange, NotBase64, TooDeep, OutOfMemory}
use Rattle.shared_core_json_reader.specs.declared.error.JsonReadError.{JsonReadError}
use Rattle.shared_core_json_reader.specs.declared.payload.Step as program
use Rattle.shared_core_json_reader.specs.declared.payload.Step.TheVariants as variants
use Rattle.shared_core_json_reader.specs.Rows.{NamedField, NamedRow, Plain, Optional, Repeated, OneOf, named_rows}
use Rattle.shared_core_json_reader.specs.Rows.{Format, NumberForm, protocol}
use Rattle.shared_core_json_reader.specs.Scalars.{ends_there, number_text, u32_read, u64_read, boolean_read, enum_read}
use Rattle.shared_core_json_reader.specs.Scalars.{text_read, bytes_read}
use Rattle.shared_core_json_reader.specs.Reading.{names_row, given}
use Rattle.shared_core_json_reader.specs.Appended.{number_read}

-- A step of the path to a value: a member by its name, or an element by its index.
pub data Step : Type 0 where
  Member : List ℕ → Step
  Element : ℕ → Step

-- Why a value is rejected, and the path to it.
abbrev pub PathError : Type 0
PathError = Reason × List Step

-- ---- single values

-- Why a text that should be a number is rejected: it is not the text of a number, or one that is not whole or out of
-- range.
abbrev pub number_text_reason : Option (List ℕ) → Reason
number_text_reason None = WrongKind
number_text_reason (Some s) = if ends_there (after_number s) then OutOfRange else WrongKind

-- Why a value that should be a number is rejected.
abbrev pub number_reason : Json → Reason
number_reason j = number_text_reason (number_text j)

-- Why a value that should be of an enum is rejected, by its text, if it is one, and why no number is read of it.
abbrev pub named_reason : Option (List ℕ) → Reason → Reason
named_reason (Some s) WrongKind = UnknownName
named_reason o reason = reason

-- Why a value that should be of an enum is rejected: a text that is not that of a number is an unknown name.
abbrev pub enum_reason : Json → Reason
enum_reason j = named_reason (as_str j) (number_reason j)

-- Why a text that should be base64 is rejected.
abbrev pub base64_reason : Option (List ℕ) → Reason
base64_reason None = WrongKind
base64_reason (Some s) = NotBase64

-- Why a value that should be base64 is rejected.
abbrev pub bytes_reason : Json → Reason
bytes_reason j = base64_reason (as_str j)

-- The error of what is one step further in, seen from here.
abbrev pub within : Step → Option PathError → Option PathError
within step None = None
within step (Some error) = Some (error.0, step ∷ error.1)

-- The error of what is read as nothing.
abbrev pub unread : {A : Type 0} → Option A → Reason → Option PathError
unread None reason = Some (reason, [])
unread (Some a) reason = None

-- The error of a single value of a kind, where nested has that of a nested message.
abbrev pub single_error : (ℕ → Json → Option PathError) → Kind → NumberForm → Json → Option PathError
single_error nested U32 form j = unread (u32_read form.digits j) (number_reason j)
single_error nested U64 form j = unread (u64_read form.digits j) (number_reason j)
single_error nested Boolean form j = unread (boolean_read j) WrongKind
single_error nested Enumeration form j = unread (enum_read form.values j) (enum_reason j)
single_error nested Text form j = unread (text_read j) WrongKind
single_error nested ByteString form j = unread (bytes_read j) (bytes_reason j)
single_error nested (Message s) form j = nested s j

-- The error of a value of a field.
abbrev pub field_error : (ℕ → Json → Option PathError) → NamedField → Json → Option PathError
field_error nested f j = single_error nested f.kind f.form j

-- ---- rows

-- The error of the elements of an array from an index on.
abbrev pub items_error : (ℕ → Json → Option PathError) → NamedField → ℕ → Items → Option PathError
items_error nested f i no_items = None
items_error nested f i (item j js) = option_or (within (Element i) (field_error nested f j))
    (items_error nested f (i + 1) js)

-- Why a value of a kind of numbers is rejected.
abbrev pub kind_reason : Kind → Json → Reason
kind_reason U32 j = number_reason j
kind_reason U64 j = number_reason j
kind_reason Boolean j = WrongKind
kind_reason Enumeration j = enum_reason j
kind_reason Text j = WrongKind
kind_reason ByteString j = WrongKind
kind_reason (Message s) j = WrongKind

-- The error of the elements of an array of a field of numbers from an index on.
abbrev pub run_error : NamedField → ℕ → Items → Option PathError
run_error f i no_items = None
run_error f i (item j js) = option_or
    (within (Element i) (unread (number_read f.kind f.form j) (kind_reason f.kind j))) (run_error f (i + 1) js)

-- The error of an array.
abbrev pub array_error : (ℕ → Json → Option PathError) → NamedField → Items → Option PathError
array_error nested f js = if accepts_number f.kind then run_error f 0 js else items_error nested f 0 js

-- The error of a repeated field.
abbrev pub list_error : (ℕ → Json → Option PathError) → NamedField → Json → Option PathError
list_error nested f null = Some (WrongKind, [])
list_error nested f (boolean b) = Some (WrongKind, [])
list_error nested f (number s) = Some (WrongKind, [])
list_error nested f (string s) = Some (WrongKind, [])
list_error nested f (array js) = array_error nested f js
list_error nested f (object ms) = Some (WrongKind, [])

-- The error of what an object gives a field: it is there twice, or its value has one.
abbrev pub given_error : (Json → Option PathError) → NamedField → Option (Option Json) → Option PathError
given_error read f None = Some (RepeatedMember, Member f.name ∷ [])
given_error read f (Some None) = None
given_error read f (Some (Some j)) = within (Member f.name) (read j)

-- The error of a member of a oneof. A member of the oneof is there before, or none is.
abbrev pub member_error : (ℕ → Json → Option PathError) → Bool → NamedField → Json → Option PathError
member_error nested true f j = Some (SeveralMembers, [])
member_error nested false f j = field_error nested f j

-- Whether a member of a oneof is there, after a field that is given this.
abbrev pub holds_after : Bool → Option (Option Json) → Bool
holds_after held None = held
holds_after held (Some None) = held
holds_after held (Some (Some j)) = true

-- The error of a oneof. A member of it is there before these fields, or none is.
abbrev pub oneof_error : (ℕ → Json → Option PathError) → Members → Bool → List NamedField → Option PathError
oneof_error nested ms held [] = None
oneof_error nested ms held (f ∷ fs) =
    option_or (given_error (member_error nested held f) f (given f ms))
    (oneof_error nested ms (holds_after held (given f ms)) fs)

-- The error of what an object gives a row.
abbrev pub row_error : (ℕ → Json → Option PathError) → Members → NamedRow → Option PathError
row_error nested ms (Plain f) = given_error (field_error nested f) f (given f ms)
row_error nested ms (Optional f) = given_error (field_error nested f) f (given f ms)
row_error nested ms (Repeated f) = given_error (list_error nested f) f (given f ms)
row_error nested ms (OneOf fs) = oneof_error nested ms false fs

-- The error of what an object gives some rows: that of the first row that has one.
abbrev pub rows_error : (ℕ → Json → Option PathError) → Members → List NamedRow → Option PathError
rows_error nested ms [] = None
rows_error nested ms (r ∷ rs) = option_or (row_error nested ms r) (rows_error nested ms rs)

-- ---- messages

-- The first key of an object that is not a name of a field of the rows.
abbrev pub first_unknown : List NamedRow → Members → Option (List ℕ)
first_unknown rows no_members = None
first_unknown rows (member k j ms) = if names_row rows k then first_unknown rows ms else Some k

-- The error of the members of an object. This is its first unknown key.
abbrev pub known_error : (ℕ → Json → Option PathError) → List NamedRow → Members → Option (List ℕ) → Option PathError
known_error nested rows ms (Some k) = Some (UnknownMember, Member k ∷ [])
known_error nested rows ms None = rows_error nested ms rows

-- The error of the members of an object: an unknown key, and otherwise that of a row.
abbrev pub members_error : (ℕ → Json → Option PathError) → List NamedRow → Members → Option PathError
members_error nested rows ms = known_error nested rows ms (first_unknown rows ms)

-- The error of a value that should be an object.
abbrev pub object_error : (ℕ → Json → Option PathError) → List NamedRow → Json → Option PathError
object_error nested rows null = Some (WrongKind, [])
object_error nested rows (boolean b) = Some (WrongKind, [])
object_error nested rows (number s) = Some (WrongKind, [])
object_error nested rows (string s) = Some (WrongKind, [])
object_error nested rows (array js) = Some (WrongKind, [])
object_error nested rows (object ms) = members_error nested rows ms

-- The error of a value that should be a message of the schema s, if messages are nested at most this deep, itself
-- included; its path begins in the value.
unfoldable pub message_error : Format → ℕ → ℕ → Json → Option PathError
message_error d zero s j = Some (TooDeep, [])
message_error d (suc levels) s j = object_error (message_error d levels) (named_rows d s) j

-- ---- errors

-- The text of a step; a name has a point before it, unless it is first.
abbrev pub step_text : Bool → Step → List ℕ
step_text true (Member name) = name
step_text false (Member name) = codes "." ++ name
step_text first (Element i) = codes "[" ++ (decimal i ++ codes "]")

-- The text of the steps of a path, from its first one on or from a later one, as headers[2].key.
abbrev pub path_text : Bool → List Step → List ℕ
path_text first [] = []
path_text first (step ∷ steps) = step_text first step ++ path_text false steps

-- The error of a value that should be a message of the schema s: its reason, and the text of the path to the rejected
-- value.
abbrev pub value_error_in : Format → ℕ → Json → Option (Reason × List ℕ)
value_error_in d s j = option_map (λ r. (r.0, path_text true r.1)) (message_error d 101 s j)

-- The same for a schema of the protocol.
abbrev pub value_error : ℕ → Json → Option (Reason × List ℕ)
value_error = value_error_in protocol

-- What an error says of a value that has this first one.
abbrev pub SaysError : JsonReadError → Option (Reason × List ℕ) → Type 0
SaysError error first = (first ≡ Some (error.reason, string_bytes error.path)) × (error.offset ≡ None)

-- Where a text stops being JSON: at its end or before, and after its bytes that are UTF-8, if not all are.
abbrev pub IsPlace : List ℕ → Option ℕ → Type 0
IsPlace text None = ⊥
IsPlace text (Some n) = (n ≤ length text) × (is_utf8 text ≡ false → n ≡ utf8_valid_len text)

-- The offset of an error: there is one if a text is not JSON.
abbrev pub offset_of : Reason → ℕ → Option ℕ
offset_of NotJson n = Some n
offset_of UnknownMember n = None
offset_of RepeatedMember n = None
offset_of SeveralMembers n = None
offset_of WrongKind n = None
offset_of UnknownName n = None
offset_of OutOfRange n = None
offset_of NotBase64 n = None
offset_of TooDeep n = None
offset_of OutOfMemory n = None

-- What an error says of a text that is not JSON.
abbrev pub IsNotJson : JsonReadError → List ℕ → Type 0
IsNotJson error text = (error.reason ≡ NotJson) × (string_bytes error.path ≡ []) × IsPlace text error.offset

-- ---- what the program goes by

-- The step that one of the program is.
abbrev pub step_view : program.Step → Step
step_view (variants.Member name) = Member name.now
step_view (variants.Element i) = Element i

-- The path that is noted by its steps from the rejected value outwards.
abbrev pub trail_view : List program.Step → List Step
trail_view [] = []
trail_view (step ∷ steps) = trail_view steps ++ step_view step ∷ []

-- How a call ended: without an error, if there is none, and then no step is noted; otherwise with this error, to which
-- the noted steps lead.
-- It may fail too if an allocation fails.
abbrev pub HasError : {T : Type 0} → Result T Reason → Option PathError → List program.Step → Type 0
HasError r error trail =
    MatchResult r (λ _. (error ≡ None) × (trail ≡ []))
    (λ reason. reason ≢ OutOfMemory → error ≡ Some (reason, trail_view trail))
