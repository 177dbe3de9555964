-- What a FileDescriptorSet says: its files, and the messages and enums of all of them, at all levels.
use Rattle.std.specs.Prelude.{◌≡◌, ℕ, zero, suc, ◌+◌, ◌<◌, ◌≤◌, min, Bool, true, false, ◌||◌, nat_lt, ⊤}
use Rattle.std.specs.Prelude.{List, [], ◌∷◌, ◌++◌, map, length, flat_map, codes}
use Rattle.std.specs.Int.{w32, cast_signed}
use Rattle.std.specs.List.{count_by, list_any}
use Rattle.std.specs.List.Sorted.{IsNonDecreasingBy, IsPermutation, IsSortedBy, IsStableBy, IsStableByKey}
use Rattle.std.specs.Ordering.{is_lt, nat_cmp}
use Rattle.std.specs.Str.{bytes_eq}
use Rattle.std.specs.String.{string_bytes, string_cmp, string_eq}
use Rattle.descriptor_set.specs.declared.codes.SaidCode.{SaidCode}
use Rattle.descriptor_set.specs.declared.error.DescriptorError.{DescriptorError}
use Rattle.descriptor_set.specs.declared.error.DescriptorError.TheVariants.{Malformed, MessageTwice, NameTooLong}
use Rattle.descriptor_set.specs.declared.error.DescriptorError.TheVariants.{OutOfMemory, TooLong, TooManyFields}
use Rattle.descriptor_set.specs.declared.field.FieldDescriptor.{FieldDescriptor}
use Rattle.descriptor_set.specs.declared.set.DescriptorSet.{DescriptorSet}
use Rattle.descriptor_set.specs.declared.set.EnumDescriptor.{EnumDescriptor}
use Rattle.descriptor_set.specs.declared.set.EnumValue.{EnumValue}
use Rattle.descriptor_set.specs.declared.set.MessageDescriptor.{MessageDescriptor}
use Rattle.descriptor_set.specs.Comments.{codes_at}
use Rattle.descriptor_set.specs.Descriptors.{IsDescriptorSet}
use Rattle.descriptor_set.specs.FieldReading.{IsField, int_in}
use Rattle.descriptor_set.specs.Values.{contents_in, is_map_entry, text_in}

-- ---- what a set says

-- The full name of what has a name within a message or a package; that of no package is empty.
abbrev pub full_name : List ℕ → List ℕ → List ℕ
full_name [] name = name
full_name (b ∷ within) name = (b ∷ within) ++ 46 ∷ name

-- Whether a file is of proto3, by its syntax.
abbrev pub is_proto3 : List ℕ → Bool
is_proto3 file = bytes_eq (text_in 12 file) (codes "proto3")

-- What a message is within: a file, by its index, and the codes that its comments say at a path. The name and the path
-- are those of the message around it. If there is none, they are the file's package and empty.
pub record Surroundings : Type 0 where
  pub file : ℕ
  pub is_proto3 : Bool
  pub codes : List ℕ → List SaidCode
  pub name : List ℕ
  pub path : List ℕ

-- A message of a set, by its full name and its bytes, with the index of its file and the codes that comments say at it.
pub record SaidMessage : Type 0 where
  pub file : ℕ
  pub is_proto3 : Bool
  pub name : List ℕ
  pub codes : List SaidCode
  pub bytes : List ℕ

-- An enum of a set: its full name and its bytes.
pub record SaidEnum : Type 0 where
  pub name : List ℕ
  pub bytes : List ℕ

-- What is within a message of a path.
abbrev pub inside : Surroundings → List ℕ → List ℕ → Surroundings
inside around path bytes = record {
  file = around.file;
  is_proto3 = around.is_proto3;
  codes = around.codes;
  name = full_name around.name (text_in 1 bytes);
  path = path;
}

-- A message of a full name, by its codes, its bytes and what it is within; and the message of a path.
abbrev pub message_named : Surroundings → List ℕ → List SaidCode → List ℕ → SaidMessage
message_named around name codes bytes = record {
  file = around.file;
  is_proto3 = around.is_proto3;
  name = name;
  codes = codes;
  bytes = bytes;
}

abbrev pub message_at : Surroundings → List ℕ → List ℕ → SaidMessage
message_at around path bytes =
    message_named around (full_name around.name (text_in 1 bytes)) (around.codes path) bytes

-- The index after one; an index has 32 bits.
abbrev pub next_index : ℕ → ℕ
next_index index = min (index + 1) 4294967295

-- What each of some contents gives at its path: that of what they are within, then their field number and their index.
abbrev pub each_at : (List ℕ → List ℕ → List SaidMessage) → List ℕ → ℕ → ℕ → List (List ℕ) → List SaidMessage
each_at given path number index [] = []
each_at given path number index (content ∷ contents) =
    given (path ++ number ∷ index ∷ []) content ++ each_at given path number (next_index index) contents

-- The messages of a field within something, each after those within it, as many levels deep.
unfoldable pub messages_within : ℕ → Surroundings → ℕ → List ℕ → List SaidMessage
messages_within zero around number bytes = []
messages_within (suc levels) around number bytes =
    each_at (λ path content. messages_within levels (inside around path content) 3 content
    ++ message_at around path content ∷ []) around.path number 0 (contents_in number bytes)

-- A message of a path, after those within it.
abbrev pub messages_at : ℕ → Surroundings → List ℕ → List ℕ → List SaidMessage
messages_at levels around path bytes =
    messages_within levels (inside around path bytes) 3 bytes ++ message_at around path bytes ∷ []

-- An enum within a message or a package.
abbrev pub enum_at : List ℕ → List ℕ → SaidEnum
enum_at within bytes = record { name = full_name within (text_in 1 bytes); bytes = bytes }

-- The enums of a field of a message or a file of this name.
abbrev pub enums_within : List ℕ → ℕ → List ℕ → List SaidEnum
enums_within within number bytes = map (enum_at within) (contents_in number bytes)

-- The enums of the messages of a field, each after those of the messages within its own, as many levels deep.
unfoldable pub nested_enums : ℕ → List ℕ → ℕ → List ℕ → List SaidEnum
nested_enums zero within number bytes = []
nested_enums (suc levels) within number bytes =
    flat_map (λ content. nested_enums levels (full_name within (text_in 1 content)) 3 content
    ++ enums_within (full_name within (text_in 1 content)) 4 content) (contents_in number bytes)

-- Those of a message within something of this name.
abbrev pub enums_at : ℕ → List ℕ → List ℕ → List SaidEnum
enums_at levels within bytes =
    nested_enums levels (full_name within (text_in 1 bytes)) 3 bytes
    ++ enums_within (full_name within (text_in 1 bytes)) 4 bytes

-- What the messages of a file are within, by its index and its bytes.
abbrev pub file_around : ℕ → List ℕ → Surroundings
file_around index bytes = record {
  file = index;
  is_proto3 = is_proto3 bytes;
  codes = codes_at bytes;
  name = text_in 2 bytes;
  path = [];
}

-- The messages and the enums of a file.
abbrev pub file_messages : ℕ → List ℕ → List SaidMessage
file_messages index bytes = messages_within 100 (file_around index bytes) 4 bytes

abbrev pub file_enums : List ℕ → List SaidEnum
file_enums bytes = nested_enums 100 (text_in 2 bytes) 4 bytes ++ enums_within (text_in 2 bytes) 5 bytes

-- The messages of files; the first one has this index.
abbrev pub files_messages : ℕ → List (List ℕ) → List SaidMessage
files_messages index [] = []
files_messages index (file ∷ files) = file_messages index file ++ files_messages (index + 1) files

-- The messages and the enums of a set.
abbrev pub messages_of : List ℕ → List SaidMessage
messages_of set = files_messages 0 (contents_in 1 set)

abbrev pub enums_of : List ℕ → List SaidEnum
enums_of set = flat_map file_enums (contents_in 1 set)

-- ---- what is read of it

-- Each of the second list is what the one at its place in the first says.
abbrev pub AllTwo : {A B : Type 0} → (A → B → Type 0) → List A → List B → Type 0
AllTwo Is [] [] = ⊤
AllTwo Is [] (y ∷ ys) = ⊥
AllTwo Is (x ∷ xs) [] = ⊥
AllTwo Is (x ∷ xs) (y ∷ ys) = Is x y × AllTwo Is xs ys

-- Fields sorted by their numbers; those of one number keep their order.
pub record AreSorted (unsorted sorted : List FieldDescriptor) : Type 0 where
  pub same : IsPermutation unsorted sorted
  pub rising : IsNonDecreasingBy (λ field. field.number) sorted
  pub stable : IsStableByKey (λ field. field.number) nat_cmp unsorted sorted

-- The fields of these bytes, sorted.
pub record AreFields (of_proto3 : Bool) (contents : List (List ℕ)) (read : List FieldDescriptor) : Type 0 where
  pub unsorted : List FieldDescriptor
  pub each : AllTwo (IsField of_proto3) contents unsorted
  pub sorted : AreSorted unsorted read

-- This is the message that a set says. Its full name has at most 1024 bytes, and it has at most 4096 fields.
pub record IsMessage (said : SaidMessage) (read : MessageDescriptor) : Type 0 where
  pub name : string_bytes read.name ≡ said.name
  pub name_fits : length said.name ≤ 1024
  pub file : read.file ≡ said.file
  pub few_fields : length (contents_in 2 said.bytes) ≤ 4096
  pub fields : AreFields said.is_proto3 (contents_in 2 said.bytes) read.fields.items
  pub is_map_entry : read.is_map_entry ≡ is_map_entry said.bytes
  pub codes : read.codes.items ≡ said.codes

-- This is the value of an enum that the bytes say.
pub record IsValue (bytes : List ℕ) (read : EnumValue) : Type 0 where
  pub number : read.number ≡ cast_signed w32 (int_in 2 bytes)
  pub name : string_bytes read.name ≡ text_in 1 bytes

-- This is the enum that a set says, with its values in order, and its full name has at most 1024 bytes.
pub record IsEnum (said : SaidEnum) (read : EnumDescriptor) : Type 0 where
  pub name : string_bytes read.name ≡ said.name
  pub name_fits : length said.name ≤ 1024
  pub values : AllTwo IsValue (contents_in 2 said.bytes) read.values.items

-- The same items, sorted: none is less than the one before it, and two keep their order if neither is less.
pub record AreInOrder {X : Type 0} (less : X → X → Bool) (unsorted sorted : List X) : Type 0 where
  pub same : IsPermutation unsorted sorted
  pub rising : IsSortedBy less sorted
  pub stable : IsStableBy less unsorted sorted

-- The order of full names, byte by byte.
abbrev pub message_less : MessageDescriptor → MessageDescriptor → Bool
message_less one other = is_lt (string_cmp one.name other.name)

abbrev pub enum_less : EnumDescriptor → EnumDescriptor → Bool
enum_less one other = is_lt (string_cmp one.name other.name)

-- These are what a set says, sorted.
pub record AreRead {A B : Type 0} (Is : A → B → Type 0) (less : B → B → Bool) (said : List A) (read : List B) : Type 0
  where
    pub unsorted : List B
    pub each : AllTwo Is said unsorted
    pub order : AreInOrder less unsorted read

-- Whether a message has the name of the first of some; and whether a message has the name of the next one.
abbrev pub equals_first : MessageDescriptor → List MessageDescriptor → Bool
equals_first message [] = false
equals_first message (next ∷ rest) = string_eq message.name next.name

abbrev pub has_equal_neighbours : List MessageDescriptor → Bool
has_equal_neighbours [] = false
has_equal_neighbours (message ∷ rest) = equals_first message rest || has_equal_neighbours rest

-- This is what a set says: the names of its files, in its order, and its messages and enums, by their full names. No
-- two messages have one full name.
pub record IsSetOf (set : List ℕ) (read : DescriptorSet) : Type 0 where
  pub files : map string_bytes read.files.items ≡ map (text_in 1) (contents_in 1 set)
  pub messages : AreRead IsMessage message_less (messages_of set) read.messages.items
  pub enums : AreRead IsEnum enum_less (enums_of set) read.enums.items
  pub distinct : has_equal_neighbours read.messages.items ≡ false

-- ---- why no set is read

-- Whether a name has more than 1024 bytes, and whether a message has more than 4096 fields.
abbrev pub is_long_name : List ℕ → Bool
is_long_name name = nat_lt 1024 (length name)

abbrev pub has_many_fields : SaidMessage → Bool
has_many_fields message = nat_lt 4096 (length (contents_in 2 message.bytes))

-- Whether some full name has more than 1024 bytes.
abbrev pub has_long_name : List SaidMessage → List SaidEnum → Bool
has_long_name messages enums =
    list_any (λ m. is_long_name m.name) messages || list_any (λ e. is_long_name e.name) enums

-- How many messages have a full name.
abbrev pub count_named : List ℕ → List SaidMessage → ℕ
count_named name messages = count_by (λ m. bytes_eq m.name name) messages

-- Two messages have one full name.
pub record HasTwice (messages : List SaidMessage) : Type 0 where
  pub name : List ℕ
  pub twice : 2 ≤ count_named name messages

-- What each error says of the bytes.
abbrev pub IsReason : DescriptorError → List ℕ → Type 0
IsReason (Malformed place) set = IsDescriptorSet set → ⊥
IsReason TooLong set = 16777216 < length set
IsReason (NameTooLong place) set = has_long_name (messages_of set) (enums_of set) ≡ true
IsReason (TooManyFields place) set = list_any has_many_fields (messages_of set) ≡ true
IsReason (MessageTwice place) set = HasTwice (messages_of set)
IsReason OutOfMemory set = ⊤
IsReason error set = ⊥
