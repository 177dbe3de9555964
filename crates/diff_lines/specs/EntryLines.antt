-- The text of two journals that are aligned.
use Rattle.std.specs.Prelude.{◌≡◌, ◌⊎◌, ℕ, Bool, true, false, IsTrue, ◌&&◌, List, [], ◌∷◌, ◌++◌, codes, decimal, nat_eq}
use Rattle.std.specs.Prelude.{Option, Some, None, flat_map}
use Rattle.std.specs.Option.{option_flatten}
use Rattle.shared_core_stream.specs.declared.encoding.raw_message.RawMessage.{RawMessage}
use Rattle.terminal_text.specs.declared.colors.Style.{Style}
use Rattle.terminal_text.specs.declared.colors.Style.TheVariants.{Bold, Green}
use Rattle.edit_script.specs.declared.sequences.Change.TheVariants.{Removed, Inserted, Changed}
use Rattle.edit_script.specs.declared.sequences.Difference.{Difference}
use Rattle.replay_bench.specs.declared.aligned.AlignedComparison.{AlignedComparison}
use Rattle.replay_bench.specs.declared.fields.FieldDifference.{FieldDifference}
use Rattle.replay_bench.specs.declared.journals.Ignored.{Ignored}
use Rattle.replay_bench.specs.Alignments.{HasChangedFields}
use Rattle.replay_bench.specs.Verdicts.{stopped_index}
use Rattle.diff_lines.specs.declared.entries.Entry.{Entry}
use Rattle.diff_lines.specs.declared.entries.EntryKind.{EntryKind}
use Rattle.diff_lines.specs.declared.entries.EntryKind.TheVariants.{Same, Differs}
use Rattle.diff_lines.specs.declared.look.Look.{Look}
use Rattle.diff_lines.specs.Entries.{at_index, entries_of, entry_type}
use Rattle.diff_lines.specs.FieldLines.{field_line}
use Rattle.diff_lines.specs.Sentences.{IsSentence, name_text}
use Rattle.diff_lines.specs.Shown.{shown_part}

-- What an entry is.
abbrev pub head_text : EntryKind → List ℕ
head_text (Same count) = codes "  " ++ (decimal count ++ codes " the same")
head_text (Differs Inserted) = codes "+ inserted"
head_text (Differs Removed) = codes "- removed"
head_text (Differs Changed) = codes "! changed"

-- What comes before the recorded index of an entry: what was inserted is before the command there.
abbrev pub recorded_label : EntryKind → List ℕ
recorded_label (Same count) = codes ", recorded "
recorded_label (Differs Inserted) = codes ", before recorded "
recorded_label (Differs Removed) = codes ", recorded "
recorded_label (Differs Changed) = codes ", recorded "

-- What comes before the replayed index of an entry: what was removed is before the command there.
abbrev pub replayed_label : EntryKind → List ℕ
replayed_label (Same count) = codes ", replayed "
replayed_label (Differs Inserted) = codes ", replayed "
replayed_label (Differs Removed) = codes ", before replayed "
replayed_label (Differs Changed) = codes ", replayed "

-- The offset of a command, if it is known.
abbrev pub offset_text : Option ℕ → List ℕ
offset_text None = []
offset_text (Some offset) = codes " at offset " ++ decimal offset

-- The index of a command, and its offset.
abbrev pub place_text : List ℕ → ℕ → Option ℕ → List ℕ
place_text label index offset = label ++ (decimal index ++ offset_text offset)

-- The line of an entry without its end: what it is, the type of its command, and where it is in both journals.
abbrev pub entry_line : AlignedComparison → Entry → List ℕ
entry_line found entry =
    head_text entry.kind ++ (name_text (entry_type found entry) ++
    (place_text (recorded_label entry.kind) entry.recorded (option_flatten
    (at_index found.recorded.offsets.items (stopped_index found.comparison.verdict) entry.recorded)) ++
    place_text (replayed_label entry.kind) entry.replayed (option_flatten
    (at_index found.replayed.offsets.items (stopped_index found.comparison.verdict) entry.replayed))))

-- The fields in which two commands differ, if there are both.
abbrev pub AreFieldsOfBoth : Ignored → Option RawMessage → Option RawMessage → List FieldDifference → Type 0
AreFieldsOfBoth ignore None replayed fields = fields ≡ []
AreFieldsOfBoth ignore (Some recorded) None fields = fields ≡ []
AreFieldsOfBoth ignore (Some recorded) (Some replayed) fields = HasChangedFields ignore recorded replayed fields

-- Whether an entry is of the commands at the index of the verdict.
abbrev pub is_of_verdict : AlignedComparison → Entry → Bool
is_of_verdict found entry =
    nat_eq entry.recorded (stopped_index found.comparison.verdict)
    && nat_eq entry.replayed (stopped_index found.comparison.verdict)

-- The fields in which the commands of a change differ: those of the verdict, if it is of these commands, otherwise
-- those that are found of both.
abbrev pub AreChanged : Ignored → AlignedComparison → Entry → List FieldDifference → Type 0
AreChanged ignore found entry fields =
    (IsTrue (is_of_verdict found entry) × (fields ≡ found.comparison.fields.items))
    ⊎ AreFieldsOfBoth ignore
    (at_index found.recorded.commands.items (stopped_index found.comparison.verdict) entry.recorded)
    (at_index found.replayed.commands.items (stopped_index found.comparison.verdict) entry.replayed) fields

-- The fields in which the commands of an entry of this kind differ: none, unless it is a change.
abbrev pub HasFieldsOf : EntryKind → Ignored → AlignedComparison → Entry → List FieldDifference → Type 0
HasFieldsOf (Same count) ignore found entry fields = fields ≡ []
HasFieldsOf (Differs Inserted) ignore found entry fields = fields ≡ []
HasFieldsOf (Differs Removed) ignore found entry fields = fields ≡ []
HasFieldsOf (Differs Changed) ignore found entry fields = AreChanged ignore found entry fields

-- The fields in which the commands of an entry differ.
abbrev pub HasFields : Ignored → AlignedComparison → Entry → List FieldDifference → Type 0
HasFields ignore found entry fields = HasFieldsOf entry.kind ignore found entry fields

-- The line of an entry and the lines of its fields.
abbrev pub entry_text : Look → AlignedComparison → Entry → List FieldDifference → List ℕ
entry_text look found entry fields =
    entry_line found entry ++ (flat_map (field_line look) fields ++ codes "\n")

-- A text goes on with the line of an entry and the lines of its fields.
pub record IsEntryText (ignore : Ignored) (look : Look) (found : AlignedComparison) (entry : Entry) (old new : List ℕ)
    : Type 0 where
  pub fields : List FieldDifference
  pub has_fields : HasFields ignore found entry fields
  pub is : new ≡ old ++ entry_text look found entry fields

-- A text goes on with the lines of entries, one after the other.
abbrev pub GoesOn : Ignored → Look → AlignedComparison → List Entry → List ℕ → List ℕ → Type 0
GoesOn ignore look found [] old new = new ≡ old
GoesOn ignore look found (entry ∷ entries) old new =
    (text : List ℕ) × IsEntryText ignore look found entry old text × GoesOn ignore look found entries text new

-- The style of a sentence: green if the journals are the same.
abbrev pub style_of : Bool → List Difference → Style
style_of true [] = Green
style_of true (difference ∷ differences) = Bold
style_of false differences = Bold

-- The line of a sentence.
abbrev pub sentence_line : Look → AlignedComparison → List ℕ → List ℕ
sentence_line look found sentence =
    shown_part look.is_colored (style_of found.alignment.is_least found.alignment.differences.items) sentence
    ++ codes "\n"

-- This is the text of two journals that were aligned with this limit: a heading, their sentence, and the lines of
-- their entries.
pub record IsText (ignore : Ignored) (look : Look) (limit : ℕ) (heading : List ℕ) (found : AlignedComparison)
    (text : List ℕ) : Type 0 where
  pub sentence : List ℕ
  pub is_sentence : IsSentence look.is_escaped limit found sentence
  pub goes_on : GoesOn ignore look found (entries_of found) (heading ++ sentence_line look found sentence) text
