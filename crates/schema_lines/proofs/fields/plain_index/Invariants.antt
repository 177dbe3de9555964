use Rattle.std.proofs.Common.{◌≡◌, ◌+◌, length}
use Rattle.schema_lines.specs.Fields.{plain_index}
use Rattle.schema_lines.proofs.fields.plain_index.Given as goal

abbrev pub invariant-loop-field : goal.invariant-loop-field
invariant-loop-field l =
    (plain_index l.key l.index l.rest ≡ plain_index l.key 0 l.fields)
    × (l.index + length l.rest ≡ length l.fields)

abbrev pub decreases-loop-field : goal.decreases-loop-field
decreases-loop-field l = length l.rest
