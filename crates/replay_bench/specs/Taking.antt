-- Commands taken from the beginning of a journal.
use Rattle.std.specs.Prelude.{◌≡◌, ℕ, ◌^◌, ◌<◌, Bool, List, [], Option, Some, None, IfSome}
use Rattle.shared_core_base.specs.declared.version.Version.{Version}
use Rattle.shared_core_stream.specs.declared.encoding.raw_message.RawMessage.{RawMessage}
use Rattle.replay_bench.specs.declared.survey.Survey.{Survey}
use Rattle.replay_bench.specs.Journals.{IsJournal, with_first}
use Rattle.replay_bench.specs.Reading.{HasRead}

-- A journal whose bytes are known has this command first, if there is any, and then those of the new bytes.
abbrev pub TakesFirst : Version → Option (List ℕ) → Option RawMessage → Option (List ℕ) → Type 0
TakesFirst version None first new = Unit {0}
TakesFirst version (Some old) first None = ⊥
TakesFirst version (Some old) first (Some new) =
    (commands : List RawMessage) → IsJournal version new commands → IsJournal version old (with_first first commands)

-- A journal, where its bytes are known, has no command.
abbrev pub HasNoCommand : Version → Option (List ℕ) → Type 0
HasNoCommand version known = IfSome known (λ bytes. IsJournal version bytes [])

-- A journal was read on, and no command was taken of it.
pub record IsStill (version : Version) (old : Option (List ℕ)) (reads : Version) (limit : ℕ) (before : Survey)
    (new : Option (List ℕ)) (reads_now : Version) (limit_now : ℕ) (after : Survey) : Type 0 where
  pub passed : TakesFirst version old None new
  pub reads_is : reads_now ≡ reads
  pub limit_is : limit_now ≡ limit
  pub fits : after.size < 2 ^ 64
  pub counted : after.commands ≡ before.commands
  pub read : (is_strict : Bool) (first : Option (List ℕ)) → HasRead version is_strict first old 0 before
      → HasRead version is_strict first new 0 after
