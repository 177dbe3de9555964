-- The printed difference of two commands: what values print, and the lines.
use Rattle.std.specs.Prelude.{ℕ, Bool, true, ◌&&◌, ◌||◌, not, List, [], ◌∷◌, map, flat_map, filter, nat_eq, codes}
use Rattle.std.specs.Prelude.{if◌then◌else◌, IsOk, Result}
use Rattle.std.specs.Fmt.{decimal, comma_space}
use Rattle.std.specs.List.{FoldsTo, join_by, list_any}
use Rattle.std.specs.declared.fmt.Error.{Error}
use Rattle.shared_core_base.specs.Differences.{bytes_text, diff_line}
use Rattle.shared_core_wire.specs.Schema.{Kind, Row, Boolean, Text, ByteString, Message, Plain, Optional, Repeated}
use Rattle.shared_core_wire.specs.Schema.{OneOf, numbers, includes, member_kind}
use Rattle.shared_core_wire.specs.Value.{Part, Parts, Number, Bytes, Nested, Elements, Member, nil, cons}
use Rattle.shared_core_wire.specs.Template.{part_at}
use Rattle.shared_core_codec.specs.Table.{table}
use Rattle.shared_core_codec.specs.Table as schema
use Rattle.shared_core_codec.specs.PartFields.{value_content, failure_code, failure_message, header_key, header_value}
use Rattle.shared_core_codec.specs.PartFields.{state_keys_keys}
use Rattle.shared_core_codec.specs.Equality.{is_present, part_equal}
use Rattle.shared_core_parts.specs.Texts.{value_text, failure_text, header_text, state_keys_text}
use Rattle.shared_core_compare.specs.Commands.{command_fields, first_part, rest_parts, name_number}
use Rattle.shared_core_compare.specs.Erasure.{has_any}

-- ---- what values print

-- The bytes that a part holds.
abbrev pub bytes_of : Part → List ℕ
bytes_of (Bytes b) = b
bytes_of p = []

-- The number that a part holds.
abbrev pub number_of : Part → ℕ
number_of (Number n) = n
number_of p = 0

-- The parts in order.
abbrev pub listed : Parts → List Part
listed nil = []
listed (cons p ps) = p ∷ listed ps

-- The elements that a part holds.
abbrev pub elements_of : Part → List Part
elements_of (Elements ps) = listed ps
elements_of p = []

-- What a message prints, by its schema: a target other than an invocation's id prints its type.
abbrev pub message_text : ℕ → Parts → List ℕ
message_text s v =
    let at = part_at (table s) v in
    if nat_eq s schema.void then codes "void"
    else (if nat_eq s schema.value then value_text (bytes_of (at value_content))
    else (if nat_eq s schema.failure then failure_text (number_of (at failure_code)) (bytes_of (at failure_message))
    else (if nat_eq s schema.header then header_text (bytes_of (at header_key)) (bytes_of (at header_value))
    else (if nat_eq s schema.state_keys then state_keys_text (map bytes_of (elements_of (at state_keys_keys)))
    else (if nat_eq s schema.idempotent_request_target then codes "IdempotentRequestTarget"
    else (if nat_eq s schema.workflow_target then codes "WorkflowTarget"
    else []))))))

-- What a part of a kind prints: a number in decimal digits, which are those of the low 32 bits of a negative enum.
abbrev pub kind_text : Kind → Part → List ℕ
kind_text Text (Bytes b) = b
kind_text ByteString (Bytes b) = bytes_text b
kind_text (Message s) (Nested v) = message_text s v
kind_text Boolean (Number n) = if nat_eq n 0 then codes "false" else codes "true"
kind_text k (Number n) = decimal n
kind_text k p = []

-- What the member of a oneof prints.
abbrev pub member_text : List (ℕ × Kind) → Part → List ℕ
member_text members (Member n p) = kind_text (member_kind members n) p
member_text members p = []

-- What an optional part prints: `<empty>` if it is absent.
abbrev pub present_text : (Part → List ℕ) → Part → List ℕ
present_text text p = if is_present p then text p else codes "<empty>"

-- What elements print: their texts, joined by `, `.
abbrev pub elements_text : (Part → List ℕ) → Part → List ℕ
elements_text text p = join_by text comma_space (elements_of p)

-- What the part of a row prints.
abbrev pub row_text : Row → Part → List ℕ
row_text (Plain n k) = kind_text k
row_text (Optional n k) = present_text (kind_text k)
row_text (Repeated n k) = elements_text (kind_text k)
row_text (OneOf members) = present_text (member_text members)

-- ---- the fields in which two commands differ, and their lines

-- A printed field in which two commands differ: its name, and what it prints in each.
pub record FieldTexts : Type 0 where
  pub name : List ℕ
  pub actual : List ℕ
  pub expected : List ℕ

-- The field of this name, with what it prints in each of two commands.
abbrev pub field_texts : List ℕ → List ℕ → List ℕ → FieldTexts
field_texts name actual expected = record { name = name; actual = actual; expected = expected }

-- The field of this name, with what prints it, if the two differ in it.
unfoldable pub field_difference : List ℕ → (Part → List ℕ) → Part → Part → List FieldTexts
field_difference name text actual expected =
    if part_equal actual expected then [] else (field_texts name (text actual) (text expected) ∷ [])

-- The field with this number and name, if the two differ in it.
abbrev pub numbered_difference : ℕ × List ℕ → List Row → Parts → Parts → List FieldTexts
numbered_difference field [] actual expected = []
numbered_difference field (row ∷ rows) actual expected =
    if includes (numbers row) field.0 then field_difference field.1 (row_text row) (first_part actual)
    (first_part expected)
    else numbered_difference field rows (rest_parts actual) (rest_parts expected)

-- The printed fields in which two commands of a schema differ, in their order.
abbrev pub differing_fields : ℕ → Parts → Parts → List FieldTexts
differing_fields s actual expected =
    flat_map (λ field. numbered_difference field (table s) actual expected) (command_fields s).printed

-- The line of a field, at an indentation.
abbrev pub field_line : List ℕ → FieldTexts → List ℕ
field_line indentation field = diff_line indentation field.name field.actual field.expected

-- The difference of two commands of a schema: one line per printed field in which they differ, in their order.
abbrev pub difference : ℕ → List ℕ → Parts → Parts → List ℕ
difference s indentation actual expected = flat_map (field_line indentation) (differing_fields s actual expected)

-- Some fields are written one after the other, each as this relation says.
pub record HasWrittenFields {T : Type 0} (writes : T → FieldTexts → T → Type 0) (old : T) (fields : List FieldTexts)
    (new : T) : Type 0 where
  pub folds : FoldsTo writes old fields new

-- The same, if the result is `Ok`.
abbrev pub WritesFields : {T : Type 0} → (T → FieldTexts → T → Type 0) → T → Result (Unit {0}) Error → List FieldTexts →
    T → Type 0
WritesFields writes old result fields new = IsOk result → HasWrittenFields writes old fields new

-- ---- what a difference leaves out

-- Whether each of these rows is never compared, or has one of these fields.
abbrev pub are_covered : List ℕ → List (ℕ × List ℕ) → List Row → Bool
are_covered not_compared fields [] = true
are_covered not_compared fields (row ∷ rows) =
    (has_any not_compared row || list_any (λ field. includes (numbers row) field.0) fields)
    && are_covered not_compared (filter (λ field. not (includes (numbers row) field.0)) fields) rows

-- Whether each field of a command that is compared is its name or printed.
abbrev pub is_printed_whole : ℕ → Bool
is_printed_whole s = are_covered (command_fields s).not_compared ((name_number, []) ∷ (command_fields s).printed)
    (table s)
