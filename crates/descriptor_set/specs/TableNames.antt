-- The names that the fields of a set's table have in JSON.
use Rattle.std.specs.Prelude.{ℕ, List, [], ◌∷◌, map, Option, Some, None, Result}
use Rattle.std.specs.List.{cons_option}
use Rattle.std.specs.Option.{option_map, option_or}
use Rattle.std.specs.String.{string_bytes}
use Rattle.shared_core_codec.specs.TableErrors.{table_error}
use Rattle.shared_core_codec.specs.declared.table_error.TableError.{TableError}
use Rattle.shared_core_codec.specs.declared.table_error.TableFault.TheVariants.{NumberTwice}
use Rattle.shared_core_json.specs.Fields.{Names, names_at}
use Rattle.shared_core_json.specs.LoadedNames.{digits_in, name_error}
use Rattle.shared_core_json.specs.declared.digits.Digits.{Digits}
use Rattle.shared_core_json.specs.declared.name_error.NameError.{NameError}
use Rattle.descriptor_set.specs.declared.error.DescriptorError.{DescriptorError}
use Rattle.descriptor_set.specs.declared.field.FieldDescriptor.{FieldDescriptor}
use Rattle.descriptor_set.specs.declared.form.Form.{Form}
use Rattle.descriptor_set.specs.declared.form.Form.TheVariants as form
use Rattle.descriptor_set.specs.declared.set.DescriptorSet.{DescriptorSet}
use Rattle.descriptor_set.specs.declared.set.MessageDescriptor.{MessageDescriptor}
use Rattle.descriptor_set.specs.Tables.{digits_of, form_of, schemas_of}
use Rattle.descriptor_set.specs.TableErrors.{ReturnsBy}

-- The number of a field, with something else of it, if a table has a row for it.
abbrev pub if_formed : {A : Type 0} → ℕ → A → Form → Option (ℕ × A)
if_formed number x (form.Kind k) = Some (number, x)
if_formed number x (form.None why) = None
if_formed number x form.Unknown = None

-- The names in JSON of the fields that a table has a row for.
abbrev pub names_in : DescriptorSet → List FieldDescriptor → List (ℕ × List ℕ)
names_in set [] = []
names_in set (f ∷ fields) =
    cons_option (if_formed f.number (string_bytes f.json_name) (form_of set f)) (names_in set fields)

-- How their numbers are written.
abbrev pub digits_by : DescriptorSet → List FieldDescriptor → List (ℕ × Digits)
digits_by set [] = []
digits_by set (f ∷ fields) =
    cons_option (if_formed f.number (digits_of f.kind) (form_of set f)) (digits_by set fields)

-- Those of each message of a set.
abbrev pub message_names_in : DescriptorSet → MessageDescriptor → List (ℕ × List ℕ)
message_names_in set message = names_in set message.fields.items

abbrev pub message_digits : DescriptorSet → MessageDescriptor → List (ℕ × Digits)
message_digits set message = digits_by set message.fields.items

abbrev pub all_names : DescriptorSet → List (List (ℕ × List ℕ))
all_names set = map (message_names_in set) set.messages.items

abbrev pub all_digits : DescriptorSet → List (List (ℕ × Digits))
all_digits set = map (message_digits set) set.messages.items

-- What JSON adds to the fields of each schema by these lists.
abbrev pub names_by : List (List (ℕ × List ℕ)) → List (List (ℕ × Digits)) → Names
names_by names digits s = record { names = names_at names s; digits = digits_in (names_at digits s) }

-- What it adds to those of a set.
abbrev pub set_names : DescriptorSet → Names
set_names set = names_by (all_names set) (all_digits set)

-- A name whose number is not greater than the one before it is an error of a number that occurs twice.
abbrev pub number_twice : NameError → TableError
number_twice e = record { schema = e.schema; number = e.number; fault = NumberTwice }

-- The first field of a set that no table with names may have.
abbrev pub named_error : DescriptorSet → Option TableError
named_error set = option_or (table_error (schemas_of set)) (option_map number_twice (name_error (all_names set)))

-- What comes of a set where a table with names is made.
abbrev pub ReturnsNamed : {Z : Type 0} → DescriptorSet → Result Z DescriptorError → Type 0
ReturnsNamed set result = ReturnsBy set (named_error set) result
