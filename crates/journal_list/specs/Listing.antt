-- The result of a listing, and what is written for it.
use Rattle.std.specs.Prelude.{◌≡◌, ℕ, List, [], codes, Result, Ok, Err, Option}
use Rattle.list_lines.specs.Listing as lines
use Rattle.shared_core_base.specs.declared.version.Version.{Version}
use Rattle.shared_core_stream.specs.Errors.{message_too_long_text}
use Rattle.stream_lines.specs.declared.report.Report.{Report}
use Rattle.stream_lines.specs.declared.error.PrintError.{PrintError}
use Rattle.stream_lines.specs.declared.error.PrintError.TheVariants as print_error
use Rattle.journal_list.specs.declared.error.ListError.{ListError}
use Rattle.journal_list.specs.declared.error.ListError.TheVariants.{Input, Output, OutOfMemory, MessageTooLong}

-- The result of printing a stream, for each result of a listing.
abbrev pub IsPrintedAs : Result (Unit {0}) ListError → Result Report PrintError → Type 0
IsPrintedAs (Ok done) printed = (report : Report) × (printed ≡ Ok report)
IsPrintedAs (Err Input) printed = printed ≡ Err print_error.Input
IsPrintedAs (Err Output) printed = printed ≡ Err print_error.Output
IsPrintedAs (Err OutOfMemory) printed = printed ≡ Err print_error.OutOfMemory
IsPrintedAs (Err (MessageTooLong message)) printed = printed ≡ Err (print_error.MessageTooLong message)

-- For the bytes that were read, the lines of their items are written, as far as the result says, with this limit on the
-- length of a payload; no item is too long for its line.
abbrev pub IsListed : Version → ℕ → Result (Unit {0}) ListError → List ℕ → List ℕ → Option (List ℕ) → Type 0
IsListed version limit result read written left =
    (printed : Result Report PrintError) × IsPrintedAs result printed
    × lines.IsListed [] version limit printed read written left

-- The text of an error.
abbrev pub error_text : ListError → List ℕ
error_text Input = codes "input failed"
error_text Output = codes "output failed"
error_text OutOfMemory = codes "out of memory"
error_text (MessageTooLong message) = message_too_long_text message
