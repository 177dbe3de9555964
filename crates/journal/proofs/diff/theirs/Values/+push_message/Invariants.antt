use Rattle.journal.proofs.diff.theirs.Values.+push_message.Given as goal

abbrev pub decreases-push_message : goal.decreases-push_message
decreases-push_message l = l.left

abbrev pub invariant-loop-field : goal.invariant-loop-field
invariant-loop-field l =
    (goal.iterator-loop-field).can_next l.field-iterator × (goal.iterator-loop-field).is_finite l.field-iterator
