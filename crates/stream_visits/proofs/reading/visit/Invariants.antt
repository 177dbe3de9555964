use Rattle.shared_core_io.specs.Buffered.{held_in}
use Rattle.stream_visits.proofs.Visiting.{GoesOn}
use Rattle.stream_visits.proofs.reading.visit.Given as goal

abbrev pub invariant-loop : goal.invariant-loop
invariant-loop g l = GoesOn l.fn.options.version l.fn.options.limit
    (g.V.Visitor.has_seen l.visitor l.fn.options.version) (g.R.Read.remaining l.fn.input) (g.R.Read.remaining l.input)
    (held_in l.items) l.counter
