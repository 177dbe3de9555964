use Rattle.std.proofs.Common.{◌≡◌, ◌+◌, length, None}
use Rattle.schema_lines.specs.Messages.{best_from, items_of, keys_of, search_of}
use Rattle.schema_lines.proofs.messages.best_of.Given as goal

abbrev pub invariant-loop-message : goal.invariant-loop-message
invariant-loop-message l =
    (best_from (search_of l.wanted) l.index l.best l.rest ≡ best_from (search_of l.wanted) 0 None l.messages)
    × (items_of l.left ≡ keys_of l.rest)
    × (l.index + length l.rest ≡ length l.messages)

abbrev pub decreases-loop-message : goal.decreases-loop-message
decreases-loop-message l = length l.rest
