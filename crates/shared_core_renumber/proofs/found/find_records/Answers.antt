use Rattle.shared_core_renumber.proofs.Ranks.{place_within}
use Rattle.shared_core_renumber.proofs.found.find_records.Goals as goal

pub overflow_sub-own : goal.overflow_sub-own
overflow_sub-own c = place_within c.args.source.now.schema c.in-Ok.record.number c.args.own.now c.in-Some-find_in.placed
    c.in-Some-find_in.ensures
