-- A dump on a terminal.
use Rattle.std.specs.Prelude.{ℕ, Bool, false, if◌then◌else◌, nat_lt, List, length, Result, Option}
use Rattle.stream_lines.specs.declared.error.PrintError.{PrintError}
use Rattle.stream_lines.specs.declared.report.Report.{Report}
use Rattle.stream_lines.specs.Printing.{ArePrinted}
use Rattle.dump_lines.specs.declared.options.Options.{Options}
use Rattle.dump_lines.specs.Dump.{IsLong, trouble_of}
use Rattle.dump_lines.specs.Lines.{line_of_in, rest_line}
use Rattle.dump_lines.specs.Reading.{Reading}

-- The options of the last line on a terminal, for this many trailing bytes: more than 64 are left out.
abbrev pub rest_options : Options → ℕ → Options
rest_options options count = if nat_lt 64 count then record options { payloads = false } else options

-- The last line on a terminal.
abbrev pub shown_rest_line : Options → ℕ → List ℕ → List ℕ
shown_rest_line options at rest = rest_line (rest_options options (length rest)) at rest

-- The last line, on a terminal or not.
abbrev pub last_line : Bool → Options → ℕ → List ℕ → List ℕ
last_line is_terminal options = if is_terminal then shown_rest_line options else rest_line options

-- For the bytes that were read, the lines of their items are written, as far as the result says; the last line is that
-- of a terminal.
abbrev pub IsShownIn : Reading → Options → Result Report PrintError → List ℕ → List ℕ → Option (List ℕ) → Type 0
IsShownIn reading options result read written left =
    ArePrinted (line_of_in reading options) (shown_rest_line options) (IsLong reading options)
    (trouble_of reading options) options.version options.limit result read written left
