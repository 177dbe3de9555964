-- The explanation of a payload: the lines of its bytes, up to the first fault.
use Rattle.std.specs.Prelude.{ℕ, zero, suc, ◌-◌, Bool, true, false, not, ◌&&◌, List, [], ◌∷◌, ◌++◌, length, take, drop}
use Rattle.std.specs.Prelude.{codes, decimal, ◌==◌, if◌then◌else◌, Option, Some, None}
use Rattle.std.specs.Str.{is_utf8}
use Rattle.shared_core_wire.specs.Acceptance.{accepts_message, accepts_number, accepts_payload}
use Rattle.shared_core_wire.specs.Grammar.{FieldRecord, RecordValue, Varint, Fixed64, Length, Group, Fixed32}
use Rattle.shared_core_wire.specs.Reader.{record_at, varint_at}
use Rattle.shared_core_wire.specs.Schema.{Kind, Text, ByteString, Message}
use Rattle.shared_core_codec.specs.ProgramRows.{field_numbered}
use Rattle.shared_core_codec.specs.Table.{table}
use Rattle.explain_lines.specs.declared.piece.FieldAt.{FieldAt}
use Rattle.explain_lines.specs.declared.reason.Reason.TheVariants.{NotUtf8, TooDeep}
use Rattle.explain_lines.specs.Lines.{Line, bytes_of}
use Rattle.explain_lines.specs.Reasons.{misplaced_text, reason_text, record_fault, varint_reason}
use Rattle.explain_lines.specs.Texts.{fixed_text, group_start_text, group_end_text, length_text, number_text}
use Rattle.explain_lines.specs.Texts.{path_text, quoted_text}

-- Lines, and whether they end at a fault, which the last of them names.
pub record Explanation : Type 0 where
  pub lines : List Line
  pub ended : Bool

-- How the bytes of a nested message are explained, by the fields that it is within and its schema.
abbrev pub NestedExplanation : Type 0
NestedExplanation = List FieldAt → ℕ → List ℕ → Explanation

-- No line.
abbrev pub nothing : Explanation
nothing = record { lines = []; ended = false }

-- One line of bytes.
abbrev pub one_line : List FieldAt → List ℕ → List ℕ → Explanation
one_line path bytes says =
    record { lines = record { path = path; bytes = bytes; says = says } ∷ []; ended = false }

-- What the line of a fault says: the fields that it is within, and the reason.
unfoldable pub fault_text : List FieldAt → List ℕ → List ℕ
fault_text path reason =
    codes "malformed: " ++ (path_text path ++ reason)

-- The line of a fault, which has no bytes.
abbrev pub fault_line : List FieldAt → List ℕ → Line
fault_line path reason = record { path = path; bytes = []; says = fault_text path reason }

-- A fault.
abbrev pub fault : List FieldAt → List ℕ → Explanation
fault path reason = record { lines = fault_line path reason ∷ []; ended = true }

-- A line, and an explanation after it.
abbrev pub after_line : Line → Explanation → Explanation
after_line line next = record { lines = line ∷ next.lines; ended = next.ended }

-- An explanation, and after it another one, unless the first ends at a fault.
abbrev pub followed_by : Explanation → Explanation → Explanation
followed_by first next =
    if first.ended then first else record { lines = first.lines ++ next.lines; ended = next.ended }

-- The explanation if nothing was read, or else of what was.
abbrev pub if_read : {X : Type 0} → Option X → Explanation → (X → Explanation) → Explanation
if_read None nothing_read read = nothing_read
if_read (Some x) nothing_read read = read x

-- The bytes before others, which are the end of the same.
abbrev pub taken : List ℕ → List ℕ → List ℕ
taken bytes rest = take (length bytes - length rest) bytes

-- ---- values

-- The line of the bytes before the content of a record.
abbrev pub front_line : List FieldAt → FieldAt → List ℕ → List ℕ → List ℕ → Line
front_line path field what content bytes = record {
  path = path;
  bytes = taken bytes content;
  says = length_text field (length content) what;
}

-- A record whose content is a text or bytes: its front, and its content if there is any.
abbrev pub content_explained : List FieldAt → FieldAt → List ℕ → List ℕ → List ℕ → Explanation
content_explained path field what content bytes =
    after_line (front_line path field what content bytes)
    (if length content == 0 then nothing else one_line (path ++ field ∷ []) content (quoted_text content))

-- A field of a kind whose record has another wire type.
abbrev pub misplaced : List FieldAt → FieldAt → Kind → Explanation
misplaced path field k = fault (path ++ field ∷ []) (misplaced_text k)

-- A record of a text.
abbrev pub text_explained : List FieldAt → FieldAt → List ℕ → List ℕ → Explanation
text_explained path field content bytes =
    if is_utf8 content then content_explained path field (codes "a text") content bytes else
    fault (path ++ field ∷ []) (reason_text NotUtf8)

-- A record that is a number.
abbrev pub number_explained : List FieldAt → FieldAt → Kind → ℕ → List ℕ → Explanation
number_explained path field k n bytes =
    if accepts_number k then one_line path bytes (number_text field n (Some k)) else misplaced path field k

-- A record whose content is a message of a schema.
abbrev pub message_explained : NestedExplanation → List FieldAt → FieldAt → List ℕ → ℕ → List ℕ → List ℕ → Explanation
message_explained nested path field what s content bytes =
    after_line (front_line path field what content bytes) (nested (path ++ field ∷ []) s content)

-- A record with these bytes, of a field of a kind.
abbrev pub value_explained : NestedExplanation → List FieldAt → FieldAt → Kind → RecordValue → List ℕ → Explanation
value_explained nested path field k (Varint n) bytes = number_explained path field k n bytes
value_explained nested path field Text (Length content) bytes = text_explained path field content bytes
value_explained nested path field ByteString (Length content) bytes =
    content_explained path field (codes "bytes") content bytes
value_explained nested path field (Message s) (Length content) bytes =
    message_explained nested path field (codes "a message") s content bytes
value_explained nested path field k w bytes = misplaced path field k

-- ---- packed numbers

-- The numbers of a run, each in a line, where the next `past` bytes are skipped first.
unfoldable pub numbers_past : List FieldAt → ℕ → List ℕ → Explanation
numbers_past path past [] = nothing
numbers_past path (suc past) (b ∷ bs) = numbers_past path past bs
numbers_past path zero (b ∷ bs) =
    if_read (varint_at (b ∷ bs)) (fault path (reason_text (varint_reason (b ∷ bs))))
    (λ x. followed_by (one_line path (taken (b ∷ bs) x.1) (decimal x.0))
    (numbers_past path (length bs - length x.1) bs))

-- A record of a packed field.
abbrev pub run_explained : List FieldAt → FieldAt → List ℕ → List ℕ → Explanation
run_explained path field run bytes =
    after_line (front_line path field (codes "numbers") run bytes) (numbers_past (path ++ field ∷ []) 0 run)

-- A record of a list of numbers of a kind.
abbrev pub list_explained : List FieldAt → FieldAt → Kind → RecordValue → List ℕ → Explanation
list_explained path field k (Varint n) bytes = number_explained path field k n bytes
list_explained path field k (Length run) bytes = run_explained path field run bytes
list_explained path field k w bytes = misplaced path field k

-- A record of a repeated field of a kind.
abbrev pub element_explained : NestedExplanation → List FieldAt → FieldAt → Kind → RecordValue → List ℕ → Explanation
element_explained nested path field k w bytes =
    if accepts_number k then list_explained path field k w bytes else value_explained nested path field k w bytes

-- ---- records of no field of their schema

-- The schema of payloads that have none. It is past the end of the table, so it has no fields.
abbrev pub raw : ℕ
raw = 4294967295

-- Whether bytes are read as a message, if their records may be nested one less than `left` deep.
abbrev pub reads_as_message : ℕ → List ℕ → Bool
reads_as_message left bytes = not (length bytes == 0) && accepts_message table left raw bytes

-- What bytes are that are not those of a message.
abbrev pub guess_text : List ℕ → List ℕ
guess_text bytes = if is_utf8 bytes then codes "a text" else codes "bytes"

-- A record with these bytes whose content is a message if it can be read as one, or else a text or bytes.
abbrev pub guess_explained : NestedExplanation → ℕ → List FieldAt → FieldAt → List ℕ → List ℕ → Explanation
guess_explained nested left path field content bytes =
    if reads_as_message left content
    then message_explained nested path field (codes "read as a message") raw content bytes
    else content_explained path field (guess_text content) content bytes

-- The bytes after a varint, if that is what was read.
abbrev pub after_varint : Option (ℕ × List ℕ) → List ℕ
after_varint None = []
after_varint (Some x) = x.1

-- A record with these bytes that is a group: its first key, its records, and its last key.
abbrev pub group_explained : NestedExplanation → List FieldAt → FieldAt → List ℕ → List ℕ → Explanation
group_explained nested path field content bytes =
    let after = after_varint (varint_at bytes) in record {
      lines = record { path = path; bytes = taken bytes after; says = group_start_text field }
          ∷ (nested (path ++ field ∷ []) raw content).lines
          ++ record { path = path; bytes = drop (length content) after; says = group_end_text field } ∷ [];
      ended = false;
    }

-- A record with these bytes of no field of its schema.
abbrev pub unknown_explained : NestedExplanation → ℕ → List FieldAt → FieldAt → RecordValue → List ℕ → Explanation
unknown_explained nested left path field (Varint n) bytes = one_line path bytes (number_text field n None)
unknown_explained nested left path field (Fixed64 bs) bytes =
    one_line path bytes (fixed_text field bs)
unknown_explained nested left path field (Fixed32 bs) bytes =
    one_line path bytes (fixed_text field bs)
unknown_explained nested left path field (Length content) bytes =
    guess_explained nested left path field content bytes
unknown_explained nested left path field (Group content) bytes = group_explained nested path field content bytes

-- ---- payloads

-- A record with these bytes, by its field if it is one of its schema: the kind, and whether it is repeated.
abbrev pub found_explained : NestedExplanation → ℕ → List FieldAt → FieldAt → Option (Kind × Bool) → RecordValue →
    List ℕ → Explanation
found_explained nested left path field None w bytes = unknown_explained nested left path field w bytes
found_explained nested left path field (Some (k, true)) w bytes = element_explained nested path field k w bytes
found_explained nested left path field (Some (k, false)) w bytes = value_explained nested path field k w bytes

-- A record with these bytes, of a message of a schema.
abbrev pub record_explained : NestedExplanation → ℕ → List FieldAt → ℕ → FieldRecord → List ℕ → Explanation
record_explained nested left path s r bytes =
    found_explained nested left path (record { schema = s; number = r.number }) (field_numbered (table s) r.number)
    r.value bytes

-- The fields that a fault is within, by those that its record is within, and the number in its key.
abbrev pub path_of_fault : List FieldAt → ℕ → Option ℕ → List FieldAt
path_of_fault path s None = path
path_of_fault path s (Some n) = path ++ record { schema = s; number = n } ∷ []

-- Bytes that do not begin with a record.
abbrev pub no_record : ℕ → List FieldAt → ℕ → List ℕ → Explanation
no_record left path s bytes =
    let found = record_fault left bytes in fault (path_of_fault path s found.0) (reason_text found.1)

-- The records of a message of a schema, where the next `past` bytes are skipped first.
unfoldable pub records_past : NestedExplanation → ℕ → List FieldAt → ℕ → ℕ → List ℕ → Explanation
records_past nested left path s past [] = nothing
records_past nested left path s (suc past) (b ∷ bs) = records_past nested left path s past bs
records_past nested left path s zero (b ∷ bs) =
    if_read (record_at left (b ∷ bs)) (no_record left path s (b ∷ bs))
    (λ x. followed_by (record_explained nested left path s x.0 (taken (b ∷ bs) x.1))
    (records_past nested left path s (length bs - length x.1) bs))

-- A nested message of a schema, in a record that allows `left` levels of nesting.
unfoldable pub nested_explained : ℕ → NestedExplanation
nested_explained zero path s bytes = fault path (reason_text TooDeep)
nested_explained (suc left) path s bytes = records_past (nested_explained left) left path s 0 bytes

-- A message of a schema, whose records allow `left` levels of nesting.
abbrev pub explained : ℕ → NestedExplanation
explained left path s bytes = records_past (nested_explained left) left path s 0 bytes

-- ---- all bytes

-- The line of the bytes after a fault, if there are any.
abbrev pub rest_line : List ℕ → List Line
rest_line rest =
    if length rest == 0 then [] else record { path = []; bytes = rest; says = codes "not explained" } ∷ []

-- The lines of an explanation of bytes, and at last one of those after a fault, if there are any.
abbrev pub all_lines : Explanation → List ℕ → List Line
all_lines e bytes = e.lines ++ rest_line (drop (length (bytes_of e.lines)) bytes)

-- A payload without a schema: its records, if it can be read as a message, or else a text or bytes.
abbrev pub opaque_lines : List ℕ → List Line
opaque_lines bytes =
    if length bytes == 0 then [] else (if accepts_payload table 100 raw bytes
    then all_lines (explained 100 [] raw bytes) bytes
    else record { path = []; bytes = bytes; says = quoted_text bytes } ∷ [])

-- A payload, by its schema if it has one.
abbrev pub payload_lines : Option ℕ → List ℕ → List Line
payload_lines None bytes = opaque_lines bytes
payload_lines (Some s) bytes = all_lines (explained 100 [] s bytes) bytes
