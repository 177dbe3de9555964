-- The fields in which two commands differ, in a list.
use Rattle.std.specs.Prelude.{◌≡◌, ℕ, Bool, true, false, List, ◌∷◌, ◌++◌, codes, flat_map, map, length}
use Rattle.std.specs.Prelude.{Option, Some, None, IfSome}
use Rattle.std.specs.Option.{IsSomeAnd}
use Rattle.std.specs.String.{string_bytes}
use Rattle.shared_core_base.specs.declared.header.MessageType.{MessageType}
use Rattle.shared_core_base.specs.declared.version.Version.{Version}
use Rattle.shared_core_codec.specs.Payloads.{payload_meaning}
use Rattle.shared_core_message.specs.Messages.{message_schema}
use Rattle.shared_core_compare.specs.Differences.{FieldTexts, differing_fields, field_line, field_texts}
use Rattle.shared_core_stream.specs.declared.encoding.raw_message.RawMessage.{RawMessage}
use Rattle.replay_bench.specs.declared.fields.FieldDifference.{FieldDifference}
use Rattle.replay_bench.specs.Journals.{IsJournal}

-- The name of a field, and what it prints in each command, the recorded one being the actual one.
abbrev pub texts_of : FieldDifference → FieldTexts
texts_of field = field_texts field.name.now (string_bytes field.recorded) (string_bytes field.replayed)

-- The same of each field of a list.
abbrev pub listed_texts : List FieldDifference → List FieldTexts
listed_texts fields = map texts_of fields

-- The lines of fields, as the text of a mismatch has them.
abbrev pub lines_of : List FieldDifference → List ℕ
lines_of fields = flat_map (field_line (codes "   ")) (listed_texts fields)

-- These are the fields in which two commands of one type differ: those of the lines of their difference, in order.
abbrev pub AreFieldsOf : RawMessage → RawMessage → List FieldDifference → Type 0
AreFieldsOf recorded replayed fields = IsSomeAnd (message_schema recorded.header.ty)
    (λ s. listed_texts fields ≡ differing_fields s (payload_meaning s recorded.payload)
    (payload_meaning s replayed.payload))

-- A journal has this command after this number of others.
pub record IsCommandAt (version : Version) (journal : List ℕ) (index : ℕ) (command : RawMessage) : Type 0 where
  pub before : List RawMessage
  pub after : List RawMessage
  pub is : IsJournal version journal (before ++ (command ∷ after))
  pub place : length before ≡ index

-- The same of a journal whose bytes are known.
abbrev pub IsKnownCommandAt : Version → Option (List ℕ) → ℕ → RawMessage → Type 0
IsKnownCommandAt version known index command = IfSome known (λ journal. IsCommandAt version journal index command)

-- These are the fields in which the commands at an index of two journals differ.
abbrev pub AreFieldsAt : Version → Option (List ℕ) → Option (List ℕ) → ℕ → List FieldDifference → Type 0
AreFieldsAt version recorded replayed index fields =
    (one other : RawMessage) × IsKnownCommandAt version recorded index one × IsKnownCommandAt version replayed index
    other
    × AreFieldsOf one other fields

-- The type of the command at an index of a journal, unless it has ended there.
abbrev pub IsTypeAt : Version → Option (List ℕ) → Bool → ℕ → Option MessageType → Type 0
IsTypeAt version known true index ty = ty ≡ None
IsTypeAt version known false index ty =
    (command : RawMessage) × IsKnownCommandAt version known index command × (ty ≡ Some command.header.ty)
