-- The values of a message's fields, by their numbers. Where a field comes more than once, the last record counts.
use Rattle.std.specs.Prelude.{ℕ, Bool, not, ◌==◌, if◌then◌else◌, List, [], ◌∷◌, flat_map}
use Rattle.std.specs.Str.{is_utf8}
use Rattle.shared_core_wire.specs.Grammar.{RecordValue, Varint, Length, FieldRecord}
use Rattle.shared_core_wire.specs.View.{value_of}
use Rattle.shared_core_wire.specs.declared.records.Record.{Record}
use Rattle.shared_core_canonical.specs.Rows.{records_read}

-- The records of a message.
abbrev pub records_in : List ℕ → List FieldRecord
records_in bytes = records_read 100 bytes

-- A record of the program, without where its bytes are.
abbrev pub record_view : Record → FieldRecord
record_view r = record { number = r.number; value = value_of r.value }

-- The last of some values; this one if there is none.
abbrev pub last_of : {A : Type 0} → A → List A → A
last_of last [] = last
last_of last (value ∷ values) = last_of value values

-- The content of a length-delimited value, and the number of a varint; nothing of any other value.
abbrev pub contents_held : RecordValue → List (List ℕ)
contents_held (Length bytes) = bytes ∷ []
contents_held w = []

abbrev pub numbers_held : RecordValue → List ℕ
numbers_held (Varint n) = n ∷ []
numbers_held w = []

-- The same of a record, if it has this field number.
abbrev pub contents_at : ℕ → FieldRecord → List (List ℕ)
contents_at number r = if r.number == number then contents_held r.value else []

abbrev pub numbers_at : ℕ → FieldRecord → List ℕ
numbers_at number r = if r.number == number then numbers_held r.value else []

-- The contents and the numbers of all records of a field number, in order.
abbrev pub contents_of : ℕ → List FieldRecord → List (List ℕ)
contents_of number rs = flat_map (contents_at number) rs

abbrev pub numbers_of : ℕ → List FieldRecord → List ℕ
numbers_of number rs = flat_map (numbers_at number) rs

-- The same of the records of a message: its messages, texts or bytes of a field number, and its numbers.
abbrev pub contents_in : ℕ → List ℕ → List (List ℕ)
contents_in number bytes = contents_of number (records_in bytes)

abbrev pub numbers_in : ℕ → List ℕ → List ℕ
numbers_in number bytes = numbers_of number (records_in bytes)

-- The last content of a field number; empty if there is none.
abbrev pub content_in : ℕ → List ℕ → List ℕ
content_in number bytes = last_of [] (contents_in number bytes)

-- A content that is a text; empty if it is not UTF-8.
abbrev pub text_of : List ℕ → List ℕ
text_of content = if is_utf8 content then content else []

-- The last text of a field number.
abbrev pub text_in : ℕ → List ℕ → List ℕ
text_in number bytes = text_of (content_in number bytes)

-- The last number of a field number; 0 if there is none.
abbrev pub number_in : ℕ → List ℕ → ℕ
number_in number bytes = last_of 0 (numbers_in number bytes)

-- Whether the last number is true.
abbrev pub is_set : ℕ → List ℕ → Bool
is_set number bytes = not (number_in number bytes == 0)

-- The numbers of a field of an embedded message, which merges the contents of all its records: those of each content,
-- in order.
abbrev pub merged_numbers : ℕ → List (List ℕ) → List ℕ
merged_numbers number contents = flat_map (numbers_in number) contents

-- Whether a message is the entry of a map: its options have map_entry.
abbrev pub is_map_entry : List ℕ → Bool
is_map_entry message = not (last_of 0 (merged_numbers 7 (contents_in 7 message)) == 0)
