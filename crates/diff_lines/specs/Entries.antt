-- The entries of two journals that are aligned: runs of commands that are the same, and the differences between them.
use Rattle.std.specs.Prelude.{ℕ, ◌+◌, ◌-◌, ◌^◌, Bool, true, false, List, [], ◌∷◌, ◌++◌, length, nat_eq, nat_lt}
use Rattle.std.specs.Prelude.{if◌then◌else◌, Option, Some, None, slice_get}
use Rattle.shared_core_base.specs.declared.header.MessageType.{MessageType}
use Rattle.shared_core_stream.specs.declared.encoding.raw_message.RawMessage.{RawMessage}
use Rattle.edit_script.specs.declared.sequences.Change.{Change}
use Rattle.edit_script.specs.declared.sequences.Change.TheVariants.{Removed, Inserted, Changed}
use Rattle.edit_script.specs.declared.sequences.Difference.{Difference}
use Rattle.edit_script.specs.Scripts.{recorded_taken, replayed_taken}
use Rattle.replay_bench.specs.declared.aligned.AlignedComparison.{AlignedComparison}
use Rattle.replay_bench.specs.Journals.{type_of}
use Rattle.replay_bench.specs.Verdicts.{stopped_index}
use Rattle.diff_lines.specs.declared.entries.Entry.{Entry}
use Rattle.diff_lines.specs.declared.entries.EntryKind.{EntryKind}
use Rattle.diff_lines.specs.declared.entries.EntryKind.TheVariants.{Same, Differs}

-- The entry of this number of commands in a row that are the same, if there are any, from these indices on.
abbrev pub same_run : ℕ → ℕ → ℕ → List Entry
same_run count recorded replayed =
    if nat_eq count 0 then [] else record { kind = Same count; recorded = recorded; replayed = replayed } ∷ []

-- The entry of a difference, whose indices begin at a start.
abbrev pub entry_of : ℕ → Difference → Entry
entry_of start difference = record {
  kind = Differs difference.change;
  recorded = start + difference.recorded;
  replayed = start + difference.replayed;
}

-- The entries from these indices on, up to the end of the recorded journal: the differences, which begin at a start,
-- and what is the same before, between and after them.
abbrev pub entries_from : ℕ → ℕ → ℕ → ℕ → List Difference → List Entry
entries_from start end recorded replayed [] = same_run (end - recorded) recorded replayed
entries_from start end recorded replayed (difference ∷ differences) =
    same_run ((start + difference.recorded) - recorded) recorded replayed ++ (entry_of start difference
    ∷ entries_from start end ((start + difference.recorded) + recorded_taken difference.change)
    ((start + difference.replayed) + replayed_taken difference.change) differences)

-- The index after the recorded journal's last command.
abbrev pub recorded_end : AlignedComparison → ℕ
recorded_end found = stopped_index found.comparison.verdict + length found.recorded.commands.items

-- The entries of two journals: what is the same up to the verdict's index, and the entries from there on.
abbrev pub entries_of : AlignedComparison → List Entry
entries_of found =
    same_run (stopped_index found.comparison.verdict) 0 0
    ++ entries_from (stopped_index found.comparison.verdict) (recorded_end found)
    (stopped_index found.comparison.verdict) (stopped_index found.comparison.verdict) found.alignment.differences.items

-- Whether two kinds of differences are the same.
abbrev pub is_change : Change → Change → Bool
is_change Removed Removed = true
is_change Removed Inserted = false
is_change Removed Changed = false
is_change Inserted Removed = false
is_change Inserted Inserted = true
is_change Inserted Changed = false
is_change Changed Removed = false
is_change Changed Inserted = false
is_change Changed Changed = true

-- How many differences are of this kind.
abbrev pub count_of : Change → List Difference → ℕ
count_of kind [] = 0
count_of kind (difference ∷ differences) =
    (if is_change kind difference.change then 1 else 0) + count_of kind differences

-- How many commands are the same in both journals: all that were recorded but those that were removed or changed.
abbrev pub same_count : AlignedComparison → ℕ
same_count found =
    stopped_index found.comparison.verdict + (length found.recorded.commands.items
    - (count_of Removed found.alignment.differences.items + count_of Changed found.alignment.differences.items))

-- The place of an index among what is held from a start on, if there is any in a memory of 64 bits.
abbrev pub place_of : ℕ → ℕ → Option ℕ
place_of start index =
    if nat_lt index start then None else if nat_lt (index - start) (2 ^ 64) then Some (index - start) else None

-- The element at a place, if there are both.
abbrev pub at_place : {T : Type 0} → List T → Option ℕ → Option T
at_place items None = None
at_place items (Some place) = slice_get items place

-- The element of an index among those that are held from a start on.
abbrev pub at_index : {T : Type 0} → List T → ℕ → ℕ → Option T
at_index items start index = at_place items (place_of start index)

-- The command that an entry of this kind and of these indices is of, if it is one: the recorded one, unless it was
-- inserted.
abbrev pub kind_command : AlignedComparison → EntryKind → ℕ → ℕ → Option RawMessage
kind_command found (Same count) recorded replayed = None
kind_command found (Differs Inserted) recorded replayed =
    at_index found.replayed.commands.items (stopped_index found.comparison.verdict) replayed
kind_command found (Differs Removed) recorded replayed =
    at_index found.recorded.commands.items (stopped_index found.comparison.verdict) recorded
kind_command found (Differs Changed) recorded replayed =
    at_index found.recorded.commands.items (stopped_index found.comparison.verdict) recorded

-- The command that an entry is of.
abbrev pub entry_command : AlignedComparison → Entry → Option RawMessage
entry_command found entry = kind_command found entry.kind entry.recorded entry.replayed

-- The type of the command that an entry is of.
abbrev pub entry_type : AlignedComparison → Entry → Option MessageType
entry_type found entry = type_of (entry_command found entry)
