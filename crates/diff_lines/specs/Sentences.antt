-- The sentence on what moved between two journals.
use Rattle.std.specs.Prelude.{◌≡◌, ℕ, ◌+◌, ◌-◌, Bool, true, false, List, [], ◌∷◌, ◌++◌, length, codes, decimal, nat_eq}
use Rattle.std.specs.Prelude.{if◌then◌else◌, Option, Some, None}
use Rattle.shared_core_base.specs.declared.header.MessageType.{MessageType}
use Rattle.shared_core_base.specs.MessageType.{debug_name_of}
use Rattle.shared_core_stream.specs.declared.encoding.raw_message.RawMessage.{RawMessage}
use Rattle.edit_script.specs.declared.sequences.Change.{Change}
use Rattle.edit_script.specs.declared.sequences.Change.TheVariants.{Removed, Inserted, Changed}
use Rattle.edit_script.specs.declared.sequences.Difference.{Difference}
use Rattle.edit_script.specs.Scripts.{recorded_taken}
use Rattle.replay_bench.specs.declared.aligned.AlignedComparison.{AlignedComparison}
use Rattle.replay_bench.specs.Keys.{HasKey}
use Rattle.replay_bench.specs.Verdicts.{stopped_index}
use Rattle.diff_lines.specs.declared.entries.Entry.{Entry}
use Rattle.diff_lines.specs.Entries.{count_of, entry_command, entry_of, entry_type, same_count}
use Rattle.diff_lines.specs.Shown.{shown_value}

-- `is` or `are`, by the number of what is.
abbrev pub are_word : ℕ → List ℕ
are_word count = if nat_eq count 1 then codes "is" else codes "are"

-- `command` or `commands`, by their number.
abbrev pub commands_word : ℕ → List ℕ
commands_word count = if nat_eq count 1 then codes "command" else codes "commands"

-- The sentence of journals that are the same.
abbrev pub same_sentence : ℕ → List ℕ
same_sentence count = codes "same, " ++ (decimal count ++ (codes " " ++ commands_word count))

-- What one command is.
abbrev pub moved_words : Change → List ℕ
moved_words Inserted = codes "more"
moved_words Removed = codes "fewer"
moved_words Changed = codes "changed"

-- What comes before the index of a command that moved: it is before another one of the replay, unless it was changed.
abbrev pub place_words : Change → List ℕ
place_words Inserted = codes ", before command "
place_words Removed = codes ", before command "
place_words Changed = codes ", command "

-- A space and the name of a type, if there is one.
abbrev pub name_text : Option MessageType → List ℕ
name_text None = []
name_text (Some ty) = codes " " ++ debug_name_of ty

-- How many commands after one that moved are the same.
abbrev pub after_text : ℕ → List ℕ
after_text count =
    if nat_eq count 0 then codes "; none comes after it" else if nat_eq count 1
    then codes "; the one after it is the same" else codes "; the " ++ (decimal count ++ codes " after it are the same")

-- How many recorded commands come after a difference.
abbrev pub after_count : AlignedComparison → Difference → ℕ
after_count found difference =
    length found.recorded.commands.items - (difference.recorded + recorded_taken difference.change)

-- A space and what identifies a command within its type, if there is anything.
abbrev pub key_text : Bool → Option (List ℕ) → List ℕ
key_text is_terminal None = []
key_text is_terminal (Some key) = codes " " ++ shown_value is_terminal key

-- The entry of a difference.
abbrev pub moved_entry : AlignedComparison → Difference → Entry
moved_entry found difference = entry_of (stopped_index found.comparison.verdict) difference

-- The sentence of one difference: what it is, its type, what identifies it within its type, its command, and how many
-- after it are the same.
abbrev pub moved_sentence : Bool → Option (List ℕ) → AlignedComparison → Difference → List ℕ
moved_sentence is_terminal key found difference =
    codes "the replay has one command " ++ (moved_words difference.change ++ (codes "," ++
    (name_text (entry_type found (moved_entry found difference)) ++
    (key_text is_terminal key ++
    (place_words difference.change ++
    (decimal (stopped_index found.comparison.verdict + difference.replayed) ++
    after_text (after_count found difference)))))))

-- What identifies a command within its type, if there is one.
abbrev pub HasKeyOf : Option RawMessage → Option (List ℕ) → Type 0
HasKeyOf None key = key ≡ None
HasKeyOf (Some command) key = HasKey command key

-- This is the sentence of one difference.
pub record IsMovedSentence (is_terminal : Bool) (found : AlignedComparison) (difference : Difference) (text : List ℕ)
    : Type 0 where
  pub key : Option (List ℕ)
  pub has_key : HasKeyOf (entry_command found (moved_entry found difference)) key
  pub is : text ≡ moved_sentence is_terminal key found difference

-- How many commands are the same.
abbrev pub same_text : ℕ → List ℕ
same_text same = codes "; " ++ (decimal same ++ (codes " " ++ (are_word same ++ codes " the same")))

-- How many commands were removed and changed.
abbrev pub counts_text : List Difference → List ℕ
counts_text differences =
    codes ", " ++ (decimal (count_of Removed differences) ++ (codes " fewer and " ++
    (decimal (count_of Changed differences) ++ codes " changed")))

-- The sentence of several differences, by how many commands are the same.
abbrev pub several_sentence : List Difference → ℕ → List ℕ
several_sentence differences same =
    codes "the replay has " ++ (decimal (count_of Inserted differences) ++ (codes " " ++
    (commands_word (count_of Inserted differences) ++ (codes " more" ++ (counts_text differences ++ same_text same)))))

-- The sentence of more differences than were looked for, by how many commands are the same.
abbrev pub limit_sentence : ℕ → ℕ → List ℕ
limit_sentence limit same =
    codes "more than " ++ (decimal limit ++ (codes " commands moved" ++
    (codes ", so they are compared index by index" ++ same_text same)))

-- This is the sentence of the fewest differences, on a terminal or not.
abbrev pub IsLeastSentence : Bool → AlignedComparison → List Difference → List ℕ → Type 0
IsLeastSentence is_terminal found [] text = text ≡ same_sentence (same_count found)
IsLeastSentence is_terminal found (difference ∷ []) text = IsMovedSentence is_terminal found difference text
IsLeastSentence is_terminal found (difference ∷ (other ∷ rest)) text =
    text ≡ several_sentence (difference ∷ (other ∷ rest)) (same_count found)

-- The same, or the sentence of more differences than were looked for.
abbrev pub IsSentenceOf : Bool → Bool → ℕ → AlignedComparison → List ℕ → Type 0
IsSentenceOf true is_terminal limit found text =
    IsLeastSentence is_terminal found found.alignment.differences.items text
IsSentenceOf false is_terminal limit found text = text ≡ limit_sentence limit (same_count found)

-- This is the sentence of two journals that were aligned with this limit, on a terminal or not.
abbrev pub IsSentence : Bool → ℕ → AlignedComparison → List ℕ → Type 0
IsSentence is_terminal limit found text = IsSentenceOf found.alignment.is_least is_terminal limit found text
