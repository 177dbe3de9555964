-- What is written when a stream is shown.
use Rattle.std.specs.Prelude.{◌≡◌, ◌⊎◌, ℕ, List, [], ◌∷◌, ◌++◌, length, Result, Ok, Err, Option, None}
use Rattle.std.specs.Io.KnownBytes.{IsAtEnd}
use Rattle.shared_core_base.specs.declared.version.Version.{Version}
use Rattle.shared_core_stream.specs.declared.encoding.item.Item.{Item}
use Rattle.shared_core_stream.specs.declared.encoding.item.Item.TheVariants.{Message}
use Rattle.shared_core_stream.specs.Items.{SplitsInto}
use Rattle.shared_core_message.specs.Schemas.{schema_at}
use Rattle.stream_lines.specs.declared.report.Report.{Report}
use Rattle.stream_lines.specs.declared.error.PrintError.{PrintError}
use Rattle.stream_lines.specs.declared.error.PrintError.TheVariants.{Input, Output, OutOfMemory, TooLong}
use Rattle.stream_lines.specs.declared.error.PrintError.TheVariants.{MessageTooLong}
use Rattle.stream_lines.specs.Printing.{AllWithin, AreFirst, AreWithin, Begins, EndsTooLong, items_size}
use Rattle.dump_lines.specs.Canonical.{IsLongFor}
use Rattle.show_lines.specs.Lines.{all_lines, lines, nothing_known}
use Rattle.show_lines.specs.declared.options.Options.{Options}

-- The item is a message, and the canonical payload of what its payload means is too long to be written.
abbrev pub IsLong : Version → Item → Type 0
IsLong version (Message message) = IsLongFor (schema_at version message.header.ty) message.payload
IsLong version item = ⊥

-- The report on a stream of these items and these remaining bytes.
abbrev pub report_on : List Item → List ℕ → Report
report_on items rest = record { trouble = None; end = items_size items; rest = length rest }

-- What is written for each result, for a stream of these items and these remaining bytes, and what the reader has left:
-- all lines, at the input's end; the lines of all items; a prefix of the lines of the first items or, at the input's
-- end, of all lines; the lines of the first items; those of the items before one that is too long; or those of the
-- items before the first message that is longer than the limit.
abbrev pub IsWrittenFor : Options → Result Report PrintError → List ℕ → List Item → List ℕ → List ℕ →
    Option (List ℕ) → Type 0
IsWrittenFor options (Ok report) stream items rest written left =
    IsAtEnd left × (written ≡ all_lines options items) × (report ≡ report_on items rest)
    × AreWithin options.version options.limit items rest
IsWrittenFor options (Err Input) stream items rest written left =
    (written ≡ lines options nothing_known items) × AreWithin options.version options.limit items rest
IsWrittenFor options (Err Output) stream items rest written left =
    ((done : List Item) × AreFirst options.limit done items × Begins written (lines options nothing_known done))
    ⊎ (IsAtEnd left × Begins written (all_lines options items) × AreWithin options.version options.limit items rest)
IsWrittenFor options (Err OutOfMemory) stream items rest written left =
    (done : List Item) × AreFirst options.limit done items × (written ≡ lines options nothing_known done)
IsWrittenFor options (Err TooLong) stream items rest written left =
    (done : List Item) × (front : List Item) × (item : Item) × Begins (done ++ (front ++ item ∷ [])) items
    × IsLong options.version item × AllWithin options.limit done × (written ≡ lines options nothing_known done)
IsWrittenFor options (Err (MessageTooLong error)) stream items rest written left =
    (done : List Item) × EndsTooLong options.version options.limit stream done error
    × (written ≡ lines options nothing_known done)

-- The bytes that were read split into these items and these remaining bytes, as every stream does in one way, and what
-- is written is as the result says.
pub record AreShown (options : Options) (result : Result Report PrintError) (read written : List ℕ)
    (left : Option (List ℕ)) : Type 0 where
  pub items : List Item
  pub rest : List ℕ
  pub split : SplitsInto options.version read items rest
  pub written_for : IsWrittenFor options result read items rest written left
