use Rattle.bench_ffi.proofs.fields.+sum_within.Given as goal

abbrev pub decreases-sum_within : goal.decreases-sum_within
decreases-sum_within l = l.left

abbrev pub invariant-loop-field : goal.invariant-loop-field
invariant-loop-field l =
    (goal.iterator-loop-field).can_next l.field-iterator ×
    (goal.iterator-loop-field).is_finite l.field-iterator
