-- What is written when a stream is described.
use Rattle.std.specs.Prelude.{◌≡◌, ℕ, List, [], Result, Ok, Err, Option}
use Rattle.std.specs.Io.KnownBytes.{IsAtEnd}
use Rattle.shared_core_base.specs.declared.version.Version.{Version}
use Rattle.shared_core_stream.specs.declared.encoding.item.Item.{Item}
use Rattle.shared_core_stream.specs.Items.{SplitsInto}
use Rattle.stream_lines.specs.declared.report.Report.{Report}
use Rattle.stream_lines.specs.declared.error.PrintError.{PrintError}
use Rattle.stream_lines.specs.declared.error.PrintError.TheVariants.{Input, Output, OutOfMemory, TooLong}
use Rattle.stream_lines.specs.declared.error.PrintError.TheVariants.{MessageTooLong}
use Rattle.stream_lines.specs.Printing.{AreWithin, Begins, EndsTooLong, IsLongIn}
use Rattle.show_lines.specs.Showing.{report_on, IsLong}
use Rattle.stream_summary.specs.Summary.{description, seen_of}

-- What is written for each result: at the input's end the description of all items, or a prefix of it if the output
-- failed; otherwise nothing.
abbrev pub IsDescribed : Version → ℕ → Result Report PrintError → List ℕ → List ℕ → Option (List ℕ) → Type 0
IsDescribed version limit (Ok report) read written left =
    IsAtEnd left × ((items : List Item) × (rest : List ℕ) × SplitsInto version read items rest
    × AreWithin version limit items rest × (written ≡ description (seen_of version items))
    × (report ≡ report_on items rest))
IsDescribed version limit (Err Output) read written left =
    IsAtEnd left × ((items : List Item) × (rest : List ℕ) × SplitsInto version read items rest
    × AreWithin version limit items rest × Begins written (description (seen_of version items)))
IsDescribed version limit (Err (MessageTooLong error)) read written left =
    ((items : List Item) × EndsTooLong version limit read items error) × (written ≡ [])
IsDescribed version limit (Err TooLong) read written left =
    IsLongIn (IsLong version) version read × (written ≡ [])
IsDescribed version limit (Err Input) read written left = written ≡ []
IsDescribed version limit (Err OutOfMemory) read written left = written ≡ []
