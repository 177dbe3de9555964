-- The fields of messages by their paths.
use Rattle.std.specs.Prelude.{ℕ, zero, suc, ◌+◌, ◌-◌, ◌^◌, Bool, not, ◌&&◌, ◌==◌, min, List, [], ◌∷◌, ◌++◌, codes}
use Rattle.std.specs.Prelude.{decimal, drop, eqb, length, if◌then◌else◌}
use Rattle.std.specs.List.{starts_with}
use Rattle.shared_core_wire.specs.Acceptance.{accepts_number}
use Rattle.shared_core_wire.specs.Schema.{Kind, Message}
use Rattle.shared_core_wire.specs.Value.{Parts, Nested}
use Rattle.shared_core_fields.specs.Fields.{FieldPart}
use Rattle.shared_core_fields.specs.Views.{field_part}
use Rattle.shared_core_json.specs.Fields.{names_of, name_of}
use Rattle.show_lines.specs.Contents.{value_fields}
use Rattle.field_paths.specs.declared.find.Lookup.{Lookup}
use Rattle.field_paths.specs.declared.find.Lookup.TheVariants as found
use Rattle.field_paths.specs.declared.label.Step.{Step as AnyStep}
use Rattle.field_paths.specs.declared.label.Step.TheVariants as step

-- ---- one step

-- Whether a field is one element of a list; a list of numbers is one field.
abbrev pub is_element : Kind × Bool → Bool
is_element f = not (accepts_number f.0) && f.1

-- What a path calls a field of a schema that is the element of its list with this index, if it is one.
abbrev pub label_of : ℕ → FieldPart → ℕ → List ℕ
label_of s field index =
    name_of (names_of s) field.0
    ++ (if is_element field.1 then codes "[" ++ (decimal index ++ codes "]") else [])

-- Whether a path leads past a field, to it, or on within it.
pub data Step : Type 0 where
  Past : Step
  Here : Step
  Within : List ℕ → Step

-- What the program has of it.
abbrev pub step_view : AnyStep → Step
step_view step.Past = Past
step_view step.Here = Here
step_view (step.Within rest) = Within rest.now

-- What follows a label in a path: nothing, or a point and a path.
abbrev pub step_after : List ℕ → Step
step_after [] = Here
step_after (byte ∷ rest) = if byte == 46 then Within rest else Past

-- The step of a path at a field that it calls by this label.
abbrev pub step_at : List ℕ → List ℕ → Step
step_at label path = if starts_with eqb path label then step_after (drop (length label) path) else Past

-- The index of a field in its list, by the number and the index of the field before it.
abbrev pub next_index : ℕ → ℕ → ℕ → ℕ
next_index before index number = if number == before then min (index + 1) (2 ^ 64 - 1) else 0

-- ---- a path

-- What a path leads to: a field; a message of this schema that lacks what is left of the path; or a field that is not
-- a message, though this is left of the path.
pub data Found : Type 0 where
  FoundField : FieldPart → Found
  Lacking : ℕ → List ℕ → Found
  NoMessage : List ℕ → Found

-- What the program has of it.
abbrev pub found_view : Lookup → Found
found_view (found.Field field) = FoundField (field_part field)
found_view (found.Lacking schema rest) = Lacking schema rest.now
found_view (found.NoMessage rest) = NoMessage rest.now

-- What a path leads to within a field, where this decides of messages.
abbrev pub within_by : (ℕ → Parts → List ℕ → Found) → FieldPart → List ℕ → Found
within_by nested (n, (Message s, repeated), Nested value) rest = nested s value rest
within_by nested field rest = NoMessage rest

-- What a path leads to by its step at a field, where this is what it leads to among the later ones.
abbrev pub found_by : (ℕ → Parts → List ℕ → Found) → FieldPart → Step → Found → Found
found_by nested field Past later = later
found_by nested field Here later = FoundField field
found_by nested field (Within rest) later = within_by nested field rest

-- What a path leads to among fields of a schema. The field before them has this number and this index.
abbrev pub found_among : (ℕ → Parts → List ℕ → Found) → ℕ → List ℕ → ℕ → ℕ → List FieldPart → Found
found_among nested s path before index [] = Lacking s path
found_among nested s path before index (field ∷ fields) =
    found_by nested field (step_at (label_of s field (next_index before index field.0)) path)
    (found_among nested s path field.0 (next_index before index field.0) fields)

-- What a path leads to in a value of a schema, over a number of levels.
abbrev pub found_at : ℕ → ℕ → Parts → List ℕ → Found
found_at zero s value path = Lacking s path
found_at (suc levels) s value path = found_among (found_at levels) s path 0 0 (value_fields s value)
