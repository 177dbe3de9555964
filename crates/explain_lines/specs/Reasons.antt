-- Why bytes do not begin with a record, and the texts of reasons.
use Rattle.std.specs.Prelude.{ℕ, ◌/◌, ◌%◌, ◌&&◌, nat_le, nat_lt, List, ◌++◌, length, codes, decimal}
use Rattle.std.specs.Prelude.{◌==◌, if◌then◌else◌, Option, Some, None}
use Rattle.std.specs.List.{list_all}
use Rattle.shared_core_wire.specs.Reader.{varint_at}
use Rattle.shared_core_wire.specs.Schema.{Kind, U32, U64, Boolean, Enumeration, Text, ByteString, Message}
use Rattle.shared_core_codec.specs.ProgramRows.{kind_view}
use Rattle.explain_lines.specs.declared.reason.Reason.{Reason}
use Rattle.explain_lines.specs.declared.reason.Reason.TheVariants.{CutVarint, LongVarint, LongKey, NoNumber}
use Rattle.explain_lines.specs.declared.reason.Reason.TheVariants.{NoWireType, NoGroup, OpenGroup, Beyond, WireType}
use Rattle.explain_lines.specs.declared.reason.Reason.TheVariants.{NotUtf8, TooDeep}

-- What a field of a kind is, in words.
abbrev pub kind_text : Kind → List ℕ
kind_text U32 = codes "a uint32"
kind_text U64 = codes "a uint64"
kind_text Boolean = codes "a bool"
kind_text Enumeration = codes "an enum"
kind_text Text = codes "a text"
kind_text ByteString = codes "bytes"
kind_text (Message s) = codes "a message"

-- The wire type of a field of a kind.
abbrev pub kind_wire : Kind → ℕ
kind_wire Text = 2
kind_wire ByteString = 2
kind_wire (Message s) = 2
kind_wire k = 0

-- That a field of a kind has another wire type.
unfoldable pub misplaced_text : Kind → List ℕ
misplaced_text k =
    codes "the field is " ++ (kind_text k ++ (codes ", which has wire type " ++ decimal (kind_wire k)))

-- The text of a reason.
abbrev pub reason_text : Reason → List ℕ
reason_text CutVarint = codes "the varint goes on after the last byte"
reason_text LongVarint = codes "the varint has more than 64 bits"
reason_text LongKey = codes "the key has more than 32 bits"
reason_text NoNumber = codes "the key has the field number 0"
reason_text (NoWireType wire) = codes "there is no wire type " ++ decimal wire
reason_text (NoGroup n) = codes "group " ++ (decimal n ++ codes " ends and did not begin")
reason_text (OpenGroup n) = codes "group " ++ (decimal n ++ codes " does not end, or is malformed")
reason_text (Beyond size) = codes "the value has " ++ (decimal size ++ codes " bytes, and fewer are left")
reason_text (WireType k) = misplaced_text (kind_view k)
reason_text NotUtf8 = codes "the text is not UTF-8"
reason_text TooDeep = codes "messages are nested more than 100 levels deep"

-- Why bytes do not begin with a varint.
abbrev pub varint_reason : List ℕ → Reason
varint_reason bytes =
    if nat_lt (length bytes) 10 && list_all (λ byte. nat_le 128 byte) bytes then CutVarint else LongVarint

-- Why bytes do not begin with a length and as many bytes, by the length that they begin with.
abbrev pub length_reason : Option (ℕ × List ℕ) → List ℕ → Reason
length_reason None bytes = varint_reason bytes
length_reason (Some size) bytes = Beyond size.0

-- Why bytes do not begin with a group that may be nested `left` deep.
abbrev pub group_reason : ℕ → ℕ → Reason
group_reason left number = if left == 0 then TooDeep else OpenGroup number

-- Why the bytes after a key, of this number and this wire type, do not begin with a value; groups may be nested `left`
-- deep.
abbrev pub value_reason : ℕ → ℕ → ℕ → List ℕ → Reason
value_reason left number wire bytes =
    if wire == 0 then varint_reason bytes else (if wire == 1 then Beyond 8 else
    (if wire == 2 then length_reason (varint_at bytes) bytes else (if wire == 3 then group_reason left number else
    (if wire == 4 then NoGroup number else (if wire == 5 then Beyond 4 else NoWireType wire)))))

-- The number of the field in the key that bytes begin with, if that is one, and why they do not begin with a record, by
-- the varint that they begin with.
abbrev pub key_fault : ℕ → Option (ℕ × List ℕ) → List ℕ → Option ℕ × Reason
key_fault left None bytes = (None, varint_reason bytes)
key_fault left (Some key) bytes =
    if nat_lt 4294967295 key.0 then (None, LongKey) else (if nat_lt key.0 8 then (None, NoNumber) else
    (Some (key.0 / 8), value_reason left (key.0 / 8) (key.0 % 8) key.1))

-- The same of bytes.
abbrev pub record_fault : ℕ → List ℕ → Option ℕ × Reason
record_fault left bytes = key_fault left (varint_at bytes) bytes
