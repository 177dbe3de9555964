use Rattle.std.proofs.Common.{◌≡◌, ◌++◌, length}
use Rattle.schema_lines.specs.Messages.{items_of, keys_of}
use Rattle.schema_lines.proofs.messages.keys_of.Given as goal

abbrev pub invariant-loop-message : goal.invariant-loop-message
invariant-loop-message l = items_of l.keys.items ++ keys_of l.rest ≡ keys_of l.messages

abbrev pub decreases-loop-message : goal.decreases-loop-message
decreases-loop-message l = length l.rest
