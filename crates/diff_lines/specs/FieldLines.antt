-- The lines of the fields in which two commands differ.
use Rattle.std.specs.Prelude.{ℕ, Bool, true, false, List, [], ◌∷◌, ◌++◌, length, codes, nat_eq, ◌||◌, ◌&&◌}
use Rattle.std.specs.Prelude.{if◌then◌else◌}
use Rattle.std.specs.List.{starts_with}
use Rattle.std.specs.String.{string_bytes}
use Rattle.shared_core_base.specs.Differences.{diff_line}
use Rattle.terminal_text.specs.declared.colors.Style.TheVariants.{Red, Green}
use Rattle.replay_bench.specs.declared.fields.FieldDifference.{FieldDifference}
use Rattle.diff_lines.specs.declared.look.Look.{Look}
use Rattle.diff_lines.specs.Excerpts.{excerpt, is_long, position_text, quotes}
use Rattle.diff_lines.specs.Parted.{back, between, front}
use Rattle.diff_lines.specs.Shown.{shown_part, shown_value}

-- Whether a text has ` != `.
abbrev pub has_unequal : List ℕ → Bool
has_unequal [] = false
has_unequal (byte ∷ bytes) = starts_with nat_eq (byte ∷ bytes) (codes " != ") || has_unequal bytes

-- Whether the values of a field have colors: if there are colors, and none of them has ` != ` itself.
abbrev pub has_colors : Look → FieldDifference → Bool
has_colors look field =
    if look.is_colored then (if has_unequal (string_bytes field.recorded) then false else
    (if has_unequal (string_bytes field.replayed) then false else true)) else false

-- The line of two values that are shown so, in colors or not.
abbrev pub values_line : Bool → List ℕ → List ℕ → List ℕ → List ℕ
values_line is_colored name recorded replayed =
    diff_line (codes "   ") name (shown_part is_colored Red recorded) (shown_part is_colored Green replayed)

-- The line of two values that are shown whole.
abbrev pub whole_line : Bool → Bool → List ℕ → List ℕ → List ℕ → List ℕ
whole_line is_colored is_escaped name recorded replayed =
    values_line is_colored name (shown_value is_escaped recorded) (shown_value is_escaped replayed)

-- The line of two values that are shown around their difference, and where that is.
abbrev pub short_line : Bool → Bool → List ℕ → List ℕ → List ℕ → List ℕ
short_line is_colored is_escaped name recorded replayed =
    let begin = front recorded replayed in
    let end = back recorded replayed in
    values_line is_colored
    (name ++ position_text (quotes begin end) (length begin) (length recorded) (length replayed))
    (excerpt is_escaped begin (between recorded replayed recorded) end)
    (excerpt is_escaped begin (between recorded replayed replayed) end)

-- The line of two values, short or whole.
abbrev pub line_in : Bool → Bool → Bool → List ℕ → List ℕ → List ℕ → List ℕ
line_in true is_colored is_escaped name recorded replayed = short_line is_colored is_escaped name recorded replayed
line_in false is_colored is_escaped name recorded replayed = whole_line is_colored is_escaped name recorded replayed

-- Whether a field is shown around its difference: if that is wanted, and a value of it is long.
abbrev pub is_shortened : Look → FieldDifference → Bool
is_shortened look field = look.is_short && is_long (string_bytes field.recorded) (string_bytes field.replayed)

-- The line of a field in a look.
abbrev pub field_line : Look → FieldDifference → List ℕ
field_line look field =
    line_in (is_shortened look field) (has_colors look field) look.is_escaped field.name.now
    (string_bytes field.recorded) (string_bytes field.replayed)
