use Rattle.std.proofs.Common.{◌≡◌, ℕ, length, sym, ◌∙◌, arith, rules}
use Rattle.std.proofs.lemmas.List.{nil_from_length}
use Rattle.shared_core_wire.specs.Reader.{record_with, group_content_at}
use Rattle.shared_core_wire.specs.View.{value_of}
use Rattle.shared_core_wire.proofs.Groups.{end_no_key, end_nil}
use Rattle.shared_core_wire.proofs.GroupLoop.{Turn, turn, group_fails, value_fails}
use Rattle.shared_core_wire.proofs.record.+value.Goals as goal

pub read_group-returns-in_err-inner : goal.read_group-returns-in_err-inner
read_group-returns-in_err-inner t c =
    rw c.from_residual.ensures (group_fails c.args.left c.args.number c.args.bytes.now c.loop-rest.rest.now
    c.loop-rest.invariant.end (end_no_key (record_with (group_content_at c.args.left)) c.args.number
    c.loop-rest.rest.now c.in_err-inner.ensures))

pub read_group-returns-in_err-beyond : goal.read_group-returns-in_err-beyond
read_group-returns-in_err-beyond t c =
    rw c.from_residual-in_err-beyond.ensures (group_fails c.args.left c.args.number c.args.bytes.now
    c.loop-rest.rest.now c.loop-rest.invariant.end
    (value_fails c.args.left c.args.number c.loop-rest.rest.now c.in_ok-inner.after.now c.in_ok-inner.inner
    c.in_ok-inner.wire c.in_ok-inner.ensures c.if-wire-eq4.false c.in_err-beyond.ensures))

turned : (t : ℕ) (c : goal.read_group-After-beyond-1 t) → Turn c.args.left c.args.number c.loop-rest.rest.now
    c.in_ok-beyond.beyond.now
turned t c = turn c.args.left c.args.number c.loop-rest.rest.now c.in_ok-inner.after.now c.in_ok-beyond.beyond.now
    c.in_ok-inner.inner c.in_ok-inner.wire (value_of c.in_ok-beyond.field-0-0) c.in_ok-inner.ensures c.if-wire-eq4.false
    c.in_ok-beyond.ensures

pub read_group-loop-rest-smaller : goal.read_group-loop-rest-smaller
read_group-loop-rest-smaller t c = (turned t c).shorter

pub read_group-loop-rest-preserved : goal.read_group-loop-rest-preserved
read_group-loop-rest-preserved t c =
    let one = turned t c in
    let shorter = one.shorter in
    record { short = omega arith; end = sym one.same ∙ c.loop-rest.invariant.end }

pub read_group-returns : goal.read_group-returns
read_group-returns t c =
    let none : length c.loop-rest.rest.now ≡ 0 = search rules in
    let nothing = nil_from_length c.loop-rest.rest.now none in
    group_fails c.args.left c.args.number c.args.bytes.now c.loop-rest.rest.now c.loop-rest.invariant.end
    (rw nothing (end_nil (record_with (group_content_at c.args.left)) c.args.number))
