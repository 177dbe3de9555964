-- Which versions a stream fits.
use Rattle.std.specs.Prelude.{◌≡◌, ℕ, Bool, All, nat_eq, ◌&&◌, List, [], if◌then◌else◌}
use Rattle.std.specs.Prelude.{Option, Some, None, is_none, Result, Ok, Err}
use Rattle.std.specs.Io.KnownBytes.{IsAtEnd}
use Rattle.shared_core_base.specs.declared.version.Version.{Version}
use Rattle.shared_core_message.specs.Schemas.{is_well_formed_at}
use Rattle.shared_core_stream.specs.declared.encoding.item.Item.{Item}
use Rattle.shared_core_stream.specs.declared.encoding.item.Item.TheVariants.{Message, Unknown, Skipped}
use Rattle.shared_core_stream.specs.Items.{SplitsInto}
use Rattle.stream_lines.specs.declared.report.Report.{Report}
use Rattle.stream_lines.specs.declared.report.Trouble.{Trouble}
use Rattle.stream_lines.specs.declared.report.Trouble.TheVariants.{UnknownCode, Malformed}
use Rattle.stream_lines.specs.declared.error.PrintError.{PrintError}
use Rattle.stream_lines.specs.declared.error.PrintError.TheVariants.{Input, Output, OutOfMemory, TooLong}
use Rattle.stream_lines.specs.declared.error.PrintError.TheVariants.{MessageTooLong}
use Rattle.stream_lines.specs.Printing.{AreWithin, EndsTooLong, IsReport}

-- What does not fit a version in an item: a payload that is not well-formed for its type, or an unknown header. A
-- version that skips messages of unknown types has no unknown headers.
abbrev pub fault_of : Version → Item → Option Trouble
fault_of version (Message message) =
    if is_well_formed_at version message.header.ty message.payload then None else Some (Malformed message.header.ty)
fault_of version (Unknown code) = Some (UnknownCode code)
fault_of version (Skipped code payload) = None

-- The stream is these items, none of which has a fault, and no byte is after them.
pub record Fits (version : Version) (stream : List ℕ) (items : List Item) : Type 0 where
  pub split : SplitsInto version stream items []
  pub clean : All (λ item. fault_of version item ≡ None) items

-- Whether a stream of which this is reported fits.
abbrev pub fits : Report → Bool
fits report = is_none report.trouble && nat_eq report.rest 0

-- What the check of a stream says: at its end, its first fault, and where and how long the trailing bytes are; or which
-- message is longer than the limit.
abbrev pub IsChecked : Version → ℕ → Result Report PrintError → List ℕ → Option (List ℕ) → Type 0
IsChecked version limit (Ok report) read left =
    IsAtEnd left × ((items : List Item) × (rest : List ℕ) × SplitsInto version read items rest
    × AreWithin version limit items rest × IsReport (fault_of version) items rest report)
IsChecked version limit (Err (MessageTooLong error)) read left =
    (items : List Item) × EndsTooLong version limit read items error
IsChecked version limit (Err TooLong) read left = ⊥
IsChecked version limit (Err Output) read left = ⊥
IsChecked version limit (Err Input) read left = Unit {0}
IsChecked version limit (Err OutOfMemory) read left = Unit {0}
