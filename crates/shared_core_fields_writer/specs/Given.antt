-- What an entry of a table gives to the field that it is of.
use Rattle.std.specs.Prelude.{ℕ, ◌+◌, Bool, false, ◌&&◌, List, length, take, drop, nat_lt, nat_le, nat_eq}
use Rattle.std.specs.Prelude.{if◌then◌else◌, Option, Some, None, is_some, Result, Ok, Err}
use Rattle.std.specs.List.{list_any}
use Rattle.std.specs.Str.{is_utf8}
use Rattle.shared_core_wire.specs.Schema.{Kind, U32, U64, Boolean, Enumeration, Text, ByteString, Message, Row}
use Rattle.shared_core_wire.specs.Schema.{OneOf}
use Rattle.shared_core_codec.specs.Canonicity.{Next, next_field, is_written_number}
use Rattle.shared_core_codec.specs.ProgramRows.{field_in_row, field_numbered}
use Rattle.shared_core_fields.specs.Rows.{kind_number}
use Rattle.shared_core_fields.specs.declared.table.FieldEntry.{FieldEntry}
use Rattle.shared_core_fields_writer.specs.declared.error.Reason.{Reason}
use Rattle.shared_core_fields_writer.specs.declared.error.Reason.TheVariants.{UnknownField, OutOfOrder, SeveralMembers}
use Rattle.shared_core_fields_writer.specs.declared.error.Reason.TheVariants.{WrongKind, OutOfRange, NotUtf8}
use Rattle.shared_core_fields_writer.specs.declared.error.Reason.TheVariants.{OutOfBounds}
use Rattle.shared_core_fields_writer.specs.declared.entry.Given as program
use Rattle.shared_core_fields_writer.specs.declared.entry.Given.TheVariants as variants

-- What an entry gives: a number as a varint has it, bytes, or a message of a schema, whose fields come next.
pub data Given : Type 0 where
  Number : ℕ → Given
  Content : List ℕ → Given
  Opens : ℕ → Given

-- The same of the program.
abbrev pub given_view : program.Given → Given
given_view (variants.Number n) = Number n
given_view (variants.Content bytes) = Content bytes.now
given_view (variants.Message s) = Opens s

-- A result, by a view of what it has.
abbrev pub ok_view : {X Y E : Type 0} → (X → Y) → Result X E → Result Y E
ok_view view (Ok x) = Ok (view x)
ok_view view (Err e) = Err e

-- The bytes of an entry, if all of them are there.
abbrev pub content : List ℕ → FieldEntry → Result (List ℕ) Reason
content bytes e = if nat_le (e.offset + e.length) (length bytes) then Ok (take e.length (drop e.offset bytes)) else Err
    OutOfBounds

-- A text of these bytes.
abbrev pub text_given : Result (List ℕ) Reason → Result Given Reason
text_given (Ok bytes) = if is_utf8 bytes then Ok (Content bytes) else Err NotUtf8
text_given (Err reason) = Err reason

-- These bytes.
abbrev pub bytes_given : Result (List ℕ) Reason → Result Given Reason
bytes_given (Ok bytes) = Ok (Content bytes)
bytes_given (Err reason) = Err reason

-- A number of a kind.
abbrev pub number_given : Kind → FieldEntry → Result Given Reason
number_given k e = if nat_lt e.value 18446744073709551616 && is_written_number k e.value then Ok (Number e.value) else
    Err OutOfRange

-- What an entry whose kind is that of the field gives it.
abbrev pub value_given : List ℕ → Kind → FieldEntry → Result Given Reason
value_given bytes U32 e = number_given U32 e
value_given bytes U64 e = number_given U64 e
value_given bytes Boolean e = number_given Boolean e
value_given bytes Enumeration e = number_given Enumeration e
value_given bytes Text e = text_given (content bytes e)
value_given bytes ByteString e = bytes_given (content bytes e)
value_given bytes (Message s) e = if nat_eq e.value s then Ok (Opens s) else Err WrongKind

-- What an entry gives a field of a kind, where these are the bytes that entries point to.
abbrev pub given : List ℕ → Kind → FieldEntry → Result Given Reason
given bytes k e = if nat_eq e.kind (kind_number k) then value_given bytes k e else Err WrongKind

-- ---- which field it is

-- Whether a row is a oneof that has both of these members.
abbrev pub has_both : Row → ℕ → ℕ → Bool
has_both (OneOf members) m n = is_some (field_in_row (OneOf members) m) && is_some (field_in_row (OneOf members) n)
has_both row m n = false

-- Whether two fields are members of one oneof.
abbrev pub share_oneof : List Row → ℕ → ℕ → Bool
share_oneof rows m n = list_any (λ row. has_both row m n) rows

-- Whether the last field, if there is one, is another member of the oneof that a field is of, or the same one.
abbrev pub is_second : List Row → Option ℕ → ℕ → Bool
is_second rows None n = false
is_second rows (Some m) n = share_oneof rows m n

-- Why no field of a number may come after the last one, in a message of these rows.
abbrev pub absence : List Row → Option ℕ → ℕ → Reason
absence rows last n = if is_some (field_numbered rows n) then (if is_second rows last n then SeveralMembers else
    OutOfOrder)
    else UnknownField

-- The field that was found among the rows that are left.
abbrev pub found_next : List Row → Option ℕ → ℕ → Option Next → Result Next Reason
found_next all last n None = Err (absence all last n)
found_next all last n (Some next) = Ok next

-- The field of a number, if it may come next where these rows are left, in a message of all these rows.
abbrev pub field_next : List Row → List Row → Option ℕ → ℕ → Result Next Reason
field_next all left last n = if nat_lt n 4294967296 then found_next all last n (next_field left n) else Err UnknownField
