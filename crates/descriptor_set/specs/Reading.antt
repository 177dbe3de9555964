-- How the reading of a set goes on, file by file and message by message.
use Rattle.std.specs.Prelude.{◌≡◌, ℕ, true, false, ⊤, List, ◌++◌, map}
use Rattle.std.specs.List.{list_any}
use Rattle.std.specs.String.{string_bytes}
use Rattle.descriptor_set.specs.Comments.{codes_at}
use Rattle.descriptor_set.specs.declared.contents.Contents.{Contents}
use Rattle.descriptor_set.specs.declared.error.DescriptorError.{DescriptorError}
use Rattle.descriptor_set.specs.declared.error.DescriptorError.TheVariants.{MessageTwice, NameTooLong, OutOfMemory}
use Rattle.descriptor_set.specs.declared.error.DescriptorError.TheVariants.{TooManyFields}
use Rattle.descriptor_set.specs.declared.reading.Reading.{Reading}
use Rattle.descriptor_set.specs.declared.reading.Scope.{Scope}
use Rattle.descriptor_set.specs.declared.set.DescriptorSet.{DescriptorSet}
use Rattle.descriptor_set.specs.declared.set.MessageDescriptor.{MessageDescriptor}
use Rattle.descriptor_set.specs.Sets.{AllTwo, AreInOrder, IsEnum, IsMessage, SaidEnum, SaidMessage, Surroundings}
use Rattle.descriptor_set.specs.Sets.{enum_less, enums_of, has_equal_neighbours, has_long_name, has_many_fields}
use Rattle.descriptor_set.specs.Sets.{is_long_name, message_less, messages_of}
use Rattle.descriptor_set.specs.Values.{contents_in, contents_of, text_in}
use Rattle.shared_core_canonical.specs.Rows.{records_of}
use Rattle.shared_core_wire.specs.RecordsLeft.{records_left}

-- The contents that are left.
abbrev pub contents_left : Contents → List (List ℕ)
contents_left c = contents_of c.number (records_of (records_left c.records))

-- What a scope of the program is.
abbrev pub around : Scope → Surroundings
around scope = record {
  file = scope.file;
  is_proto3 = scope.is_proto3;
  codes = codes_at scope.file_bytes.now;
  name = scope.name.now;
  path = scope.path.now;
}

-- A list has also what some things say, in order.
pub record Appends {A B : Type 0} (Is : A → B → Type 0) (said : List A) (old new : List B) : Type 0 where
  pub added : List B
  pub is : new ≡ old ++ added
  pub each : AllTwo Is said added

-- These files, messages and enums are read too; a file by its name.
pub record Reads (files : List (List ℕ)) (messages : List SaidMessage) (enums : List SaidEnum) (old new : Reading)
    : Type 0 where
  pub files_read : map string_bytes new.files.items ≡ map string_bytes old.files.items ++ files
  pub messages_read : Appends IsMessage messages old.messages.items new.messages.items
  pub enums_read : Appends IsEnum enums old.enums.items new.enums.items

-- What was read of a set, in its order.
pub record IsReadingOf (set : List ℕ) (read : Reading) : Type 0 where
  pub files : map string_bytes read.files.items ≡ map (text_in 1) (contents_in 1 set)
  pub messages : AllTwo IsMessage (messages_of set) read.messages.items
  pub enums : AllTwo IsEnum (enums_of set) read.enums.items

-- What an error says of the messages and the enums that were to be read.
abbrev pub Blames : DescriptorError → List SaidMessage → List SaidEnum → Type 0
Blames (NameTooLong place) messages enums = has_long_name messages enums ≡ true
Blames (TooManyFields place) messages enums = list_any has_many_fields messages ≡ true
Blames OutOfMemory messages enums = ⊤
Blames error messages enums = ⊥

-- What an error says of a full name.
abbrev pub BlamesName : DescriptorError → List ℕ → Type 0
BlamesName (NameTooLong place) name = is_long_name name ≡ true
BlamesName OutOfMemory name = ⊤
BlamesName error name = ⊥

-- A set of what was read, sorted, where no two messages have one name.
pub record IsSortedOf (read : Reading) (set : DescriptorSet) : Type 0 where
  pub files : set.files.items ≡ read.files.items
  pub messages : AreInOrder message_less read.messages.items set.messages.items
  pub enums : AreInOrder enum_less read.enums.items set.enums.items
  pub distinct : has_equal_neighbours set.messages.items ≡ false

-- What an error says of the messages that were to be sorted.
pub record HasTwiceSorted (unsorted : List MessageDescriptor) : Type 0 where
  pub sorted : List MessageDescriptor
  pub order : AreInOrder message_less unsorted sorted
  pub twice : has_equal_neighbours sorted ≡ true

abbrev pub BlamesOrder : DescriptorError → List MessageDescriptor → Type 0
BlamesOrder (MessageTwice place) messages = HasTwiceSorted messages
BlamesOrder OutOfMemory messages = ⊤
BlamesOrder error messages = ⊥
