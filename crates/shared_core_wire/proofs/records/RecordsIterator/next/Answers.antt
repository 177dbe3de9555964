use Rattle.std.proofs.Common.{◌≡◌, ◌<◌, [], length, refl, ap, arith, rules}
use Rattle.std.proofs.lemmas.List.{nil_from_length}
use Rattle.shared_core_wire.specs.View.{value_of}
use Rattle.shared_core_wire.specs.Reader.{record_at}
use Rattle.shared_core_wire.specs.ReadRecords.{records_past}
use Rattle.shared_core_wire.specs.RecordsLeft.{records_left}
use Rattle.shared_core_wire.proofs.ReadRecords.{Step, step, read_nil, read_stop}
use Rattle.shared_core_wire.proofs.records.RecordsIterator.next.Goals as goal
use Rattle.shared_core_wire.proofs.records.RecordsIterator.next.Goals.{In-Some}

pub returns-then-is_empty-clause-steps : goal.returns-then-is_empty-clause-steps
unfolding records_left
returns-then-is_empty-clause-steps c =
    let s = c.args.self.now in
    let none : length s.rest.now ≡ 0 = search rules in
    let nothing = nil_from_length s.rest.now none in
    let ends : records_past (record_at s.left) s.end 0 s.rest.now ≡ [] = rw nothing (read_nil (record_at s.left) s.end)
    in
    (ends, ends)

pub returns-in_default-clause-steps : goal.returns-in_default-clause-steps
unfolding records_left
returns-in_default-clause-steps c =
    let s = c.args.self.now in
    let some : 0 < length s.rest.now = search rules in
    rw (read_stop (record_at s.left) s.end s.rest.now some c.in_default.ensures, read_nil) refl

pub returns-in_default-clause-goes : goal.returns-in_default-clause-goes
unfolding records_left
returns-in_default-clause-goes c =
    let s = c.args.self.now in
    let some : 0 < length s.rest.now = search rules in
    let before = read_stop (record_at s.left) s.end s.rest.now some c.in_default.ensures in
    let after = read_nil (record_at s.left) s.end in
    let shorter = ap length before in
    let empty = ap length after in
    search rules

stepped : (c : In-Some) → Step c.args.self.now.left c.args.self.now.end c.args.self.now.rest.now
    (record { number = c.in-Some.number; value = value_of c.in-Some.value }) c.in-Some.rest.now
stepped c = step c.args.self.now.left c.args.self.now.end c.args.self.now.rest.now
    (record { number = c.in-Some.number; value = value_of c.in-Some.value }) c.in-Some.rest.now c.in-Some.ensures

pub overflow_sub-span-2 : goal.overflow_sub-span-2
overflow_sub-span-2 c =
    let inside = c.args.self.now.inside in
    let shorter = (stepped c).shorter in
    omega arith

pub invariant_of-self-2 : goal.invariant_of-self-2
invariant_of-self-2 c =
    let inside = c.args.self.now.inside in
    let shorter = (stepped c).shorter in
    record { inside = omega arith }

pub returns-clause-steps : goal.returns-clause-steps
unfolding records_left
returns-clause-steps c = (stepped (goal.at.returns-clause-steps c).In-Some).more

pub returns-clause-goes : goal.returns-clause-goes
unfolding records_left
returns-clause-goes c =
    let more = ap length (stepped (goal.at.returns-clause-goes c).In-Some).more in
    search rules
