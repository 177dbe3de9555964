-- Commands that wait for their completions, and notifications for their commands, by the ids that they have in common.
use Rattle.std.specs.Prelude.{ℕ, Bool, true, false, List, [], ◌++◌, codes, decimal, map, flat_map}
use Rattle.std.specs.Prelude.{Option, Some, None, if◌then◌else◌, ◌&&◌, string_bytes}
use Rattle.std.specs.Ordering.{nat_cmp}
use Rattle.std.specs.BTreeMap.{insert_entry, is_at}
use Rattle.std.specs.Map.{lookup, remove_entry}
use Rattle.show_lines.specs.declared.waiting.Coming.{Coming}
use Rattle.show_lines.specs.declared.waiting.Half.{Half}

-- One half of a command and its completion: which of the two it is, whether its item is one of those that have lines,
-- and the text by which the line of the other half names it.
pub record Shown : Type 0 where
  pub is_command : Bool
  pub is_selected : Bool
  pub text : List ℕ

-- What waits, by the ids in ascending order.
abbrev pub Waiting : Type 0
Waiting = List (ℕ × Shown)

-- The half that a half of the program is.
abbrev pub half_view : Half → Shown
half_view half = record {
  is_command = half.is_command;
  is_selected = half.is_selected;
  text = string_bytes half.text;
}

-- The half that a coming half of the program is.
abbrev pub coming_view : Coming → Shown
coming_view half = record { is_command = half.is_command; is_selected = half.is_selected; text = half.text.now }

-- The halves of the program, by their ids.
abbrev pub halves_view : List (ℕ × Half) → Waiting
halves_view entries = map (λ entry. (entry.0, half_view entry.1)) entries

-- A half if it is the other one: of a command a notification, and of a notification a command.
abbrev pub if_other : Bool → Option Shown → Option Shown
if_other is_command None = None
if_other true (Some half) = if half.is_command then None else Some half
if_other false (Some half) = if half.is_command then Some half else None

-- The other half of a half, if it waits for this id.
abbrev pub other_half : Bool → ℕ → Waiting → Option Shown
other_half is_command id waiting = if_other is_command (lookup (is_at (nat_cmp id)) waiting)

-- What a line says of the other half: its text, or of a notification without one the id.
abbrev pub joined_text : Bool → ℕ → Option Shown → List ℕ
joined_text true id None = []
joined_text true id (Some other) = codes " completed by " ++ other.text
joined_text false id None = codes " completes id " ++ decimal id
joined_text false id (Some other) = codes " completes " ++ other.text

-- What waits after a half was read: no longer its other half, or itself too.
abbrev pub waiting_with : ℕ → Shown → Option Shown → Waiting → Waiting
waiting_with id half None waiting = insert_entry nat_cmp waiting id half
waiting_with id half (Some other) waiting = remove_entry (is_at (nat_cmp id)) waiting

-- What a line says of the other half of an item that has this id, if it has one.
abbrev pub joined : Option ℕ → Bool → Waiting → List ℕ
joined None is_command waiting = []
joined (Some id) is_command waiting = joined_text is_command id (other_half is_command id waiting)

-- What waits after that item.
abbrev pub waiting_after : Option ℕ → Shown → Waiting → Waiting
waiting_after None half waiting = waiting
waiting_after (Some id) half waiting = waiting_with id half (other_half half.is_command id waiting) waiting

-- The line of a command that nothing has completed, with the id for which it waits; none of a notification, or of an
-- item without a line.
abbrev pub open_line : ℕ → Shown → List ℕ
open_line id half =
    if half.is_command && half.is_selected
    then codes "open id " ++ (decimal id ++ (codes ": " ++ (half.text ++ codes "\n"))) else []

-- The lines of the commands that nothing has completed.
abbrev pub open_lines : Waiting → List ℕ
open_lines waiting = flat_map (λ entry. open_line entry.0 entry.1) waiting
