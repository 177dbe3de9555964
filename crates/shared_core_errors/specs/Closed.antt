-- The text of a closed state machine's error, and what a formatter may write instead.
use Rattle.std.specs.Prelude.{◌≡◌, ◌⊎◌, ℕ, List, ◌++◌, codes, Result, IsOk}
use Rattle.std.specs.Fmt.{IsPlainFormatter, HasWritten}
use Rattle.std.specs.declared.fmt.Formatter.{Formatter}
use Rattle.std.specs.declared.fmt.Error.{Error}

-- The text for an event that the closed state machine rejects.
abbrev pub closed_text : List ℕ → List ℕ
closed_text event = codes "State machine was closed when invoking '" ++ (event ++ codes "'")

-- The text is the default one of an event, or one of the formatter's own.
abbrev pub IsClosedText : (List ℕ → List ℕ → Type 0) → List ℕ → List ℕ → Type 0
IsClosedText own event text = (text ≡ closed_text event) ⊎ own event text

-- If the formatter is plain and the result is `Ok`, the formatter has written some text that meets this condition.
abbrev pub WritesSome : {W : Type 0} → (W → List ℕ → W → Type 0) → Formatter W → Result (Unit {0}) Error →
    (List ℕ → Type 0) → Formatter W → Type 0
WritesSome took old result IsAllowed new = IsPlainFormatter old → IsOk result → (text : List ℕ) × HasWritten took old
    text new × IsAllowed text
