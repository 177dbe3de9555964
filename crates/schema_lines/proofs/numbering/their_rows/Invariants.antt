use Rattle.std.proofs.Common.{◌≡◌, ◌++◌, [], length}
use Rattle.schema_lines.specs.Entries.{their_rows}
use Rattle.schema_lines.specs.Messages.{items_of}
use Rattle.schema_lines.proofs.numbering.their_rows.Given as goal

abbrev pub invariant-loop-field : goal.invariant-loop-field
invariant-loop-field l = items_of l.rows.items ++ their_rows l.seen.items l.rest ≡ their_rows [] l.fields

abbrev pub decreases-loop-field : goal.decreases-loop-field
decreases-loop-field l = length l.rest
