-- The values of the enums of a set, and what comes of it where a table is made by which JSON is read.
use Rattle.std.specs.Prelude.{◌≡◌, ℕ, ◌%◌, ◌^◌, List, [], ◌∷◌, map, Option, Some, None, Result, Ok, Err, slice_get}
use Rattle.std.specs.Int.{cast_unsigned, w32}
use Rattle.std.specs.List.{cons_option}
use Rattle.std.specs.Option.{option_map}
use Rattle.std.specs.String.{string_bytes}
use Rattle.shared_core_codec.specs.TableErrors.{table_error}
use Rattle.shared_core_json_reader.specs.LoadedEnums.{enum_of, list_at, values_if}
use Rattle.shared_core_json_reader.specs.Readable.{unreadable_from}
use Rattle.shared_core_json_reader.specs.Rows.{EnumValues}
use Rattle.descriptor_set.specs.declared.error.DescriptorError.{DescriptorError}
use Rattle.descriptor_set.specs.declared.error.DescriptorError.TheVariants as error
use Rattle.descriptor_set.specs.declared.error.Place.{Place}
use Rattle.descriptor_set.specs.declared.field.FieldDescriptor.{FieldDescriptor}
use Rattle.descriptor_set.specs.declared.field.FieldKind.{FieldKind}
use Rattle.descriptor_set.specs.declared.field.FieldKind.TheVariants as field
use Rattle.descriptor_set.specs.declared.set.DescriptorSet.{DescriptorSet}
use Rattle.descriptor_set.specs.declared.set.EnumDescriptor.{EnumDescriptor}
use Rattle.descriptor_set.specs.declared.set.EnumValue.{EnumValue}
use Rattle.descriptor_set.specs.declared.set.MessageDescriptor.{MessageDescriptor}
use Rattle.descriptor_set.specs.Found.{index_of}
use Rattle.descriptor_set.specs.Tables.{schemas_of}
use Rattle.descriptor_set.specs.TableErrors.{IsFaultOf, IsSaidAmong, place_at, place_view, unknown_of}
use Rattle.descriptor_set.specs.TableNames.{all_names}

-- ---- enums

-- The names of enums.
abbrev pub enum_names : List EnumDescriptor → List (List ℕ)
enum_names enums = map (λ descriptor. string_bytes descriptor.name) enums

-- The index of the enum of a field of a kind and of the name of its type.
abbrev pub enum_index : DescriptorSet → FieldKind → List ℕ → Option ℕ
enum_index set field.Enumeration name = index_of (enum_names set.enums.items) name
enum_index set other name = None

-- The fields of a message that have an enum of the set, with its index.
abbrev pub enum_fields : DescriptorSet → List FieldDescriptor → List (ℕ × ℕ)
enum_fields set [] = []
enum_fields set (f ∷ fields) =
    cons_option (option_map (λ index. (f.number, index)) (enum_index set f.kind (string_bytes f.type_name)))
    (enum_fields set fields)

abbrev pub message_enums : DescriptorSet → MessageDescriptor → List (ℕ × ℕ)
message_enums set message = enum_fields set message.fields.items

abbrev pub all_enum_fields : DescriptorSet → List (List (ℕ × ℕ))
all_enum_fields set = map (message_enums set) set.messages.items

-- The name of a value, and the low 32 bits of its number.
abbrev pub value_of : EnumValue → List ℕ × ℕ
value_of value = (string_bytes value.name, cast_unsigned w32 value.number % 2 ^ 32)

abbrev pub values_of : EnumDescriptor → List (List ℕ × ℕ)
values_of descriptor = map value_of descriptor.values.items

abbrev pub all_values : DescriptorSet → List (List (List ℕ × ℕ))
all_values set = map values_of set.enums.items

-- The values of each field's enum by these lists, and by those of a set.
abbrev pub values_by : List (List (ℕ × ℕ)) → List (List (List ℕ × ℕ)) → EnumValues
values_by fields values s n = values_if values (enum_of (list_at fields s) n)

abbrev pub set_values : DescriptorSet → EnumValues
set_values set = values_by (all_enum_fields set) (all_values set)

-- ---- errors

-- A place is that of a message that may be there.
abbrev pub IsPlaceOfMessage : DescriptorSet → Option MessageDescriptor → Place → Type 0
IsPlaceOfMessage set None place = ⊥
IsPlaceOfMessage set (Some message) place = place_view place ≡ place_at set message []

-- An error is that of a message in which fields share a name.
abbrev pub IsShared : DescriptorSet → ℕ → DescriptorError → Type 0
IsShared set s error.OutOfMemory = Unit {0}
IsShared set s (error.SharedName place) = IsPlaceOfMessage set (slice_get set.messages.items s) place
IsShared set s e = ⊥

abbrev pub IsSharedOf : DescriptorSet → Option ℕ → Place → Type 0
IsSharedOf set None place = ⊥
IsSharedOf set (Some s) place = IsPlaceOfMessage set (slice_get set.messages.items s) place

-- The index of the first message whose names are not apart, or not those of its fields.
abbrev pub unreadable_of : DescriptorSet → Option ℕ
unreadable_of set = unreadable_from 0 (all_names set) (schemas_of set)

-- What comes of a set where a table is made by which JSON is read. Errors: the first field that is a message which the
-- set does not have; or else the first one that no table may have; or else the first message in which fields share a
-- name; or an allocation failed.
abbrev pub ReturnsReadable : {Z : Type 0} → DescriptorSet → Result Z DescriptorError → Type 0
ReturnsReadable set (Ok table) =
    (unknown_of set ≡ None) × (table_error (schemas_of set) ≡ None) × (unreadable_of set ≡ None)
ReturnsReadable set (Err (error.UnknownMessage place name)) =
    IsSaidAmong set (unknown_of set) place (string_bytes name)
ReturnsReadable set (Err (error.InvalidField place fault)) =
    (unknown_of set ≡ None) × IsFaultOf set (table_error (schemas_of set)) place fault
ReturnsReadable set (Err (error.SharedName place)) =
    (unknown_of set ≡ None) × (table_error (schemas_of set) ≡ None) × IsSharedOf set (unreadable_of set) place
ReturnsReadable set (Err error.OutOfMemory) = Unit {0}
ReturnsReadable set (Err other) = ⊥
