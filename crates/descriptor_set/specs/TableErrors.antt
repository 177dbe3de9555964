-- The errors of making a table of a set.
use Rattle.std.specs.Prelude.{◌≡◌, ℕ, ◌==◌, if◌then◌else◌, List, [], ◌∷◌, Option, Some, None, Result, Ok, Err}
use Rattle.std.specs.Prelude.{slice_get, String, ⊤}
use Rattle.std.specs.Option.{option_map, option_or}
use Rattle.std.specs.String.{string_bytes}
use Rattle.std.specs.declared.alloc.Global.{Global}
use Rattle.shared_core_codec.specs.TableErrors.{table_error}
use Rattle.shared_core_codec.specs.declared.table_error.TableError.{TableError}
use Rattle.shared_core_codec.specs.declared.table_error.TableFault.{TableFault}
use Rattle.descriptor_set.specs.declared.error.DescriptorError.{DescriptorError}
use Rattle.descriptor_set.specs.declared.error.DescriptorError.TheVariants as error
use Rattle.descriptor_set.specs.declared.error.Place.{Place}
use Rattle.descriptor_set.specs.declared.field.FieldDescriptor.{FieldDescriptor}
use Rattle.descriptor_set.specs.declared.set.DescriptorSet.{DescriptorSet}
use Rattle.descriptor_set.specs.declared.set.MessageDescriptor.{MessageDescriptor}
use Rattle.descriptor_set.specs.Tables.{schemas_of, unknown_in}

-- The names of a place.
pub record Names : Type 0 where
  pub file : List ℕ
  pub message : List ℕ
  pub field : List ℕ

abbrev pub place_view : Place → Names
place_view place =
    record {
      file = string_bytes place.file;
      message = string_bytes place.message;
      field = string_bytes place.field;
    }

-- A text that may be there; empty if there is none.
abbrev pub text_or_empty : Option (String Global) → List ℕ
text_or_empty None = []
text_or_empty (Some text) = string_bytes text

abbrev pub text_at : List (String Global) → ℕ → List ℕ
text_at texts index = text_or_empty (slice_get texts index)

-- The place of a message of a set, and of a field's name.
abbrev pub place_at : DescriptorSet → MessageDescriptor → List ℕ → Names
place_at set message field =
    record { file = text_at set.files.items message.file; message = string_bytes message.name; field = field }

-- ---- a message that the set does not have

-- An error has the place of a field and the name of its type.
abbrev pub IsSaid : DescriptorSet → MessageDescriptor → FieldDescriptor → Place → List ℕ → Type 0
IsSaid set message f place name =
    (place_view place ≡ place_at set message (string_bytes f.name)) × (name ≡ string_bytes f.type_name)

abbrev pub IsUnknown : DescriptorSet → MessageDescriptor → FieldDescriptor → DescriptorError → Type 0
IsUnknown set message f (error.UnknownMessage place name) = IsSaid set message f place (string_bytes name)
IsUnknown set message f e = ⊥

-- An error is that of a field of a message, or no allocation.
abbrev pub IsSaidOf : DescriptorSet → MessageDescriptor → Option FieldDescriptor → Place → List ℕ → Type 0
IsSaidOf set message None place name = ⊥
IsSaidOf set message (Some f) place name = IsSaid set message f place name

abbrev pub IsUnknownOf : DescriptorSet → MessageDescriptor → Option FieldDescriptor → DescriptorError → Type 0
IsUnknownOf set message found error.OutOfMemory = Unit {0}
IsUnknownOf set message found (error.UnknownMessage place name) =
    IsSaidOf set message found place (string_bytes name)
IsUnknownOf set message found e = ⊥

-- The first field of some messages that is a message which the set does not have, with its message.
abbrev pub unknown_from : DescriptorSet → List MessageDescriptor → Option (MessageDescriptor × FieldDescriptor)
unknown_from set [] = None
unknown_from set (message ∷ messages) =
    option_or (option_map (λ f. (message, f)) (unknown_in set message.fields.items)) (unknown_from set messages)

abbrev pub unknown_of : DescriptorSet → Option (MessageDescriptor × FieldDescriptor)
unknown_of set = unknown_from set set.messages.items

abbrev pub IsSaidAmong : DescriptorSet → Option (MessageDescriptor × FieldDescriptor) → Place → List ℕ → Type 0
IsSaidAmong set None place name = ⊥
IsSaidAmong set (Some found) place name = IsSaid set found.0 found.1 place name

abbrev pub IsUnknownAmong : DescriptorSet → Option (MessageDescriptor × FieldDescriptor) → DescriptorError → Type 0
IsUnknownAmong set found error.OutOfMemory = Unit {0}
IsUnknownAmong set found (error.UnknownMessage place name) = IsSaidAmong set found place (string_bytes name)
IsUnknownAmong set found e = ⊥

-- ---- a field that no table may have

-- The last of some fields that has a number, or else this one.
abbrev pub last_numbered : Option FieldDescriptor → ℕ → List FieldDescriptor → Option FieldDescriptor
last_numbered found number [] = found
last_numbered found number (f ∷ fields) = last_numbered (if f.number == number then Some f else found) number fields

-- The name of a field that may be there; empty if there is none.
abbrev pub name_or_empty : Option FieldDescriptor → List ℕ
name_or_empty None = []
name_or_empty (Some f) = string_bytes f.name

-- A place is that of a field of a message that may be there, by its number.
abbrev pub IsPlaceOf : DescriptorSet → ℕ → Option MessageDescriptor → Place → Type 0
IsPlaceOf set number None place = ⊥
IsPlaceOf set number (Some message) place =
    place_view place ≡ place_at set message (name_or_empty (last_numbered None number message.fields.items))

-- An error says the fault of a field, and where that is.
abbrev pub IsFault : DescriptorSet → TableError → Place → TableFault → Type 0
IsFault set e place fault =
    (fault ≡ e.fault) × IsPlaceOf set e.number (slice_get set.messages.items e.schema) place

abbrev pub IsInvalid : DescriptorSet → TableError → DescriptorError → Type 0
IsInvalid set e error.OutOfMemory = Unit {0}
IsInvalid set e (error.InvalidField place fault) = IsFault set e place fault
IsInvalid set e other = ⊥

-- The same of a field that may be there.
abbrev pub IsFaultOf : DescriptorSet → Option TableError → Place → TableFault → Type 0
IsFaultOf set None place fault = ⊥
IsFaultOf set (Some e) place fault = IsFault set e place fault

-- What comes of a set, where this field is the first one that no table may have. Errors: the first field that is a
-- message which the set does not have; or else that field; or an allocation failed.
abbrev pub ReturnsBy : {Z : Type 0} → DescriptorSet → Option TableError → Result Z DescriptorError → Type 0
ReturnsBy set found (Ok table) = (unknown_of set ≡ None) × (found ≡ None)
ReturnsBy set found (Err (error.UnknownMessage place name)) = IsSaidAmong set (unknown_of set) place (string_bytes name)
ReturnsBy set found (Err (error.InvalidField place fault)) =
    (unknown_of set ≡ None) × IsFaultOf set found place fault
ReturnsBy set found (Err error.OutOfMemory) = Unit {0}
ReturnsBy set found (Err other) = ⊥

-- The same of the table of a set.
abbrev pub ReturnsTable : {Z : Type 0} → DescriptorSet → Result Z DescriptorError → Type 0
ReturnsTable set result = ReturnsBy set (table_error (schemas_of set)) result

-- A table comes of a set: it has the messages of all its fields, and each field is one that a table may have.
abbrev pub HasTable : DescriptorSet → Type 0
HasTable set = (unknown_of set ≡ None) × (table_error (schemas_of set) ≡ None)

-- An error is the one that a set has in the place of a table.
abbrev pub IsTableError : DescriptorSet → DescriptorError → Type 0
IsTableError set e = ReturnsTable {Z = ⊤} set (Err e)
