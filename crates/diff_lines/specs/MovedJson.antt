-- The lines of JSON of two journals that are aligned.
use Rattle.std.specs.Prelude.{◌≡◌, ℕ, Bool, false, List, [], ◌∷◌, ◌++◌, codes, decimal, Option, Some, None}
use Rattle.std.specs.Option.{option_flatten}
use Rattle.json.specs.Token.{Token}
use Rattle.json.specs.Json.{Json, boolean, number, string, object, Members, no_members, member}
use Rattle.json.specs.Tree.{json_tokens}
use Rattle.json.specs.Print.{print}
use Rattle.shared_core_base.specs.declared.header.MessageType.{MessageType}
use Rattle.shared_core_base.specs.MessageType.{debug_name_of}
use Rattle.edit_script.specs.declared.sequences.Change.TheVariants.{Removed, Inserted, Changed}
use Rattle.replay_bench.specs.declared.aligned.AlignedComparison.{AlignedComparison}
use Rattle.replay_bench.specs.declared.commands.HeldCommands.{HeldCommands}
use Rattle.replay_bench.specs.declared.fields.FieldDifference.{FieldDifference}
use Rattle.replay_bench.specs.declared.journals.Ignored.{Ignored}
use Rattle.replay_bench.specs.Verdicts.{stopped_index}
use Rattle.diff_lines.specs.declared.entries.Entry.{Entry}
use Rattle.diff_lines.specs.declared.entries.EntryKind.{EntryKind}
use Rattle.diff_lines.specs.declared.entries.EntryKind.TheVariants.{Same, Differs}
use Rattle.diff_lines.specs.Entries.{at_index, count_of, entries_of, entry_type, same_count}
use Rattle.diff_lines.specs.EntryLines.{HasFields}
use Rattle.diff_lines.specs.Json.{fields_members, number_member, offset_member, offset_tokens}
use Rattle.diff_lines.specs.Sentences.{IsSentence}

-- The line of a value.
abbrev pub line_of : Json → List ℕ
line_of value = print (json_tokens value) ++ codes "\n"

-- ---- the whole alignment

-- How many commands are the same, and how many differences there are of each kind, as members.
abbrev pub counts_members : AlignedComparison → Members
counts_members found =
    number_member (codes "same") (same_count found)
    (number_member (codes "inserted") (count_of Inserted found.alignment.differences.items)
    (number_member (codes "removed") (count_of Removed found.alignment.differences.items)
    (number_member (codes "changed") (count_of Changed found.alignment.differences.items) no_members)))

-- The sentence, and whether there are no fewer differences, before other members.
abbrev pub said_member : AlignedComparison → List ℕ → Members → Members
said_member found sentence others =
    member (codes "sentence") (string sentence)
    (member (codes "isLeast") (boolean found.alignment.is_least) others)

-- The object of the whole alignment, with its sentence.
abbrev pub whole_json : AlignedComparison → List ℕ → Json
whole_json found sentence = object (said_member found sentence (counts_members found))

-- This is the line of the whole alignment.
pub record IsWholeLine (limit : ℕ) (found : AlignedComparison) (line : List ℕ) : Type 0 where
  pub sentence : List ℕ
  pub is_sentence : IsSentence false limit found sentence
  pub is : line ≡ line_of (whole_json found sentence)

-- ---- an entry

-- What an entry is.
abbrev pub change_word : EntryKind → List ℕ
change_word (Same count) = codes "same"
change_word (Differs Inserted) = codes "inserted"
change_word (Differs Removed) = codes "removed"
change_word (Differs Changed) = codes "changed"

-- The number of commands of an entry before other members, if they are the same.
abbrev pub count_member : EntryKind → Members → Members
count_member (Same count) others = number_member (codes "count") count others
count_member (Differs kind) others = others

-- The tokens of that number.
abbrev pub count_tokens : EntryKind → List Token
count_tokens (Same count) = Token.key (codes "count") ∷ Token.number (decimal count) ∷ []
count_tokens (Differs kind) = []

-- A type before other members, if there is one.
abbrev pub type_member : Option MessageType → Members → Members
type_member None others = others
type_member (Some ty) others = member (codes "type") (string (debug_name_of ty)) others

-- The tokens of a type, if there is one.
abbrev pub type_tokens : Option MessageType → List Token
type_tokens None = []
type_tokens (Some ty) = Token.key (codes "type") ∷ Token.string (debug_name_of ty) ∷ []

-- The index of a command and its offset, if it is known, before other members.
abbrev pub place_member : List ℕ → ℕ → List ℕ → Option ℕ → Members → Members
place_member name index at_name at others = number_member name index (offset_member at_name at others)

-- Their tokens.
abbrev pub place_tokens : List ℕ → ℕ → List ℕ → Option ℕ → List Token
place_tokens name index at_name at =
    Token.key name ∷ Token.number (decimal index) ∷ offset_tokens at_name at

-- The offset of the command of an index, if it is known.
abbrev pub offset_of : AlignedComparison → HeldCommands → ℕ → Option ℕ
offset_of found held index =
    option_flatten (at_index held.offsets.items (stopped_index found.comparison.verdict) index)

-- What an entry is, its command's type, and where it is in both journals, before other members.
abbrev pub entry_member : AlignedComparison → Entry → Members → Members
entry_member found entry others =
    member (codes "change") (string (change_word entry.kind))
    (count_member entry.kind
    (type_member (entry_type found entry)
    (place_member (codes "recorded") entry.recorded (codes "recordedAt")
    (offset_of found found.recorded entry.recorded)
    (place_member (codes "replayed") entry.replayed (codes "replayedAt")
    (offset_of found found.replayed entry.replayed) others))))

-- The member with the fields in which the commands of an entry differ, if it is a change.
abbrev pub changed_members : EntryKind → List FieldDifference → Members
changed_members (Same count) fields = no_members
changed_members (Differs Inserted) fields = no_members
changed_members (Differs Removed) fields = no_members
changed_members (Differs Changed) fields = fields_members fields

-- The object of an entry, with these fields.
abbrev pub entry_json : AlignedComparison → Entry → List FieldDifference → Json
entry_json found entry fields = object (entry_member found entry (changed_members entry.kind fields))

-- This is the line of an entry.
pub record IsEntryJson (ignore : Ignored) (found : AlignedComparison) (entry : Entry) (line : List ℕ) : Type 0 where
  pub fields : List FieldDifference
  pub has_fields : HasFields ignore found entry fields
  pub is : line ≡ line_of (entry_json found entry fields)

-- ---- all lines

-- A text goes on with the lines of entries, one after the other.
abbrev pub GoesOnAsJson : Ignored → AlignedComparison → List Entry → List ℕ → List ℕ → Type 0
GoesOnAsJson ignore found [] old new = new ≡ old
GoesOnAsJson ignore found (entry ∷ entries) old new =
    (line : List ℕ) × IsEntryJson ignore found entry line × GoesOnAsJson ignore found entries (old ++ line) new

-- These are the lines of two journals that were aligned with this limit: that of the whole alignment, and those of
-- their entries.
pub record IsJsonText (ignore : Ignored) (limit : ℕ) (found : AlignedComparison) (text : List ℕ) : Type 0 where
  pub whole : List ℕ
  pub is_whole : IsWholeLine limit found whole
  pub goes_on : GoesOnAsJson ignore found (entries_of found) whole text
