-- The commands of a journal from where a comparison stopped.
use Rattle.std.specs.Prelude.{◌≡◌, ℕ, ◌+◌, ◌<◌, Bool, List, [], ◌∷◌, ◌++◌, length, is_none, Option, Some, None, IfSome}
use Rattle.std.specs.Prelude.{slice_index_or}
use Rattle.shared_core_base.specs.declared.version.Version.{Version}
use Rattle.shared_core_stream.specs.declared.encoding.raw_message.RawMessage.{RawMessage}
use Rattle.replay_bench.specs.Journals.{IsCommand, IsJournal}
use Rattle.replay_bench.specs.Reading.{IsKnownLast}

-- A journal has this number of commands, and then these.
pub record HasAfter (version : Version) (journal : List ℕ) (index : ℕ) (commands : List RawMessage) : Type 0 where
  pub before : List RawMessage
  pub place : length before ≡ index
  pub is : IsJournal version journal (before ++ commands)

-- A journal whose bytes are known has this number of commands, and then those that are held, the next one, if it has
-- not ended, and those of what is left.
abbrev pub IsHeld : Version → Option (List ℕ) → ℕ → List RawMessage → Option RawMessage → Option (List ℕ) → Type 0
IsHeld version None index held next left = Unit {0}
IsHeld version (Some journal) index held None left = HasAfter version journal index held
IsHeld version (Some journal) index held (Some command) None = ⊥
IsHeld version (Some journal) index held (Some command) (Some left) =
    (commands : List RawMessage) → IsJournal version left commands
    → HasAfter version journal index (held ++ (command ∷ commands))

-- These are the offsets of the commands of a journal. The first is the command of this number, counted from 1.
abbrev pub HasOffsets : Version → Option (List ℕ) → ℕ → List (Option ℕ) → Type 0
HasOffsets version first number offsets = (i : ℕ) → i < length offsets
    → IsKnownLast version first (number + i) (slice_index_or offsets i None)

-- A comparison has stopped in a journal, which has ended, or at its next command, after this number of others.
pub record IsStopped (version : Version) (first : Option (List ℕ)) (index : ℕ) (has_ended : Bool)
    (next : Option RawMessage) (left : Option (List ℕ)) : Type 0 where
  pub held : IsHeld version first index [] next left
  pub ended : is_none next ≡ has_ended
  pub command : IfSome next IsCommand
