use Rattle.std.proofs.Common.{◌+◌, ap, refl, rules}
use Rattle.stream_versions.specs.Fits.{fault_of}
use Rattle.stream_versions.proofs.Checking.{has_room, one_more}
use Rattle.stream_versions.proofs.fit.CheckingVisitor.note.Goals as goal

pub overflow_add-self : goal.overflow_add-self
overflow_add-self c =
    let (items, was, small) = c.requires in
    let room = has_room (fault_of c.args.version) items c.args.item.now c.args.self.now.found _ was c.size.ensures small
    in
    search (rules, room)

pub returns-clause-noted : goal.returns-clause-noted
returns-clause-noted c items was = one_more (fault_of c.args.version) items c.args.item.now c.args.self.now.found _ was
    c.first_fault-self.ensures (ap (λ n. c.args.self.now.found.end + n) c.size.ensures) refl
