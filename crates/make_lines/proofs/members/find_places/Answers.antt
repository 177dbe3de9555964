use Rattle.make_lines.proofs.Placing.{places_if, fault_if, unknown_fault}
use Rattle.make_lines.proofs.members.find_places.Goals as goal

pub returns-in-Ok-clause-places : goal.returns-in-Ok-clause-places
returns-in-Ok-clause-places c =
    places_if c.args.members.now c.find_places.new.places c.in-Ok.ensures.places c.in-Ok.are_several
    c.in-Ok.ensures.several

pub returns-in-Ok-clause-fault : goal.returns-in-Ok-clause-fault
returns-in-Ok-clause-fault c =
    fault_if c.args.members.now c.find_places.new.places c.in-Ok.ensures.places c.in-Ok.are_several
    c.in-Ok.ensures.several c.find_places.array_long c.in-Ok.ensures.known

pub returns-in-Err-clause-fault : goal.returns-in-Err-clause-fault
returns-in-Err-clause-fault c = unknown_fault c.args.members.now _ c.in-Err.ensures.known
