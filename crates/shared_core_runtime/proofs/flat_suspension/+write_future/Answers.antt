use Rattle.std.proofs.Common.{ℕ, ◌≡◌, ◌≤◌, drop, length, arith, rules, subst}
use Rattle.shared_core_parts.specs.declared.future.Future.TheFolds.{the_lemmas}
use Rattle.shared_core_runtime.specs.AwaitedLists.{AwaitedList, Completions, NamedSignals, Signals, end_in, of_list}
use Rattle.shared_core_runtime.proofs.AwaitedLists.{IsWritten, by_list, future_start, future_written, nested_room}
use Rattle.shared_core_runtime.proofs.AwaitedLists.{own_room, written_next, written_none, written_room}
use Rattle.shared_core_runtime.proofs.flat_suspension.+write_future.Goals as goal

pub write_future-write_futures-requires : goal.write_future-write_futures-requires
write_future-write_futures-requires t c = (
  search (rules, the_lemmas),
  (
    c.requires.within,
    λ list. nested_room list c.args.future.now (end_in list c.args.ends.now)
        (c.requires.room list),
  ),
)

pub write_future-write_own-requires-clause-room : goal.write_future-write_own-requires-clause-room
write_future-write_own-requires-clause-room t c = λ list. own_room list c.args.future.now
    (end_in list c.write_futures.new.ends) (end_in list c.args.ends.now) (c.requires.room list)
    (c.write_futures.ensures.starts list)

pub write_future-returns-clause-starts : goal.write_future-returns-clause-starts
write_future-returns-clause-starts t c =
    λ list. future_start list c.args.future.now (end_in list c.args.ends.now) (end_in list c.write_futures.new.ends)
    (end_in list c.write_own.new.ends) (c.write_futures.ensures.starts list) (c.write_own.ensures.starts list)

pub write_future-returns-clause-written : goal.write_future-returns-clause-written
write_future-returns-clause-written t c = λ list. future_written list c.args.future.now _ _ _
    (c.write_futures.ensures.written list) (c.write_own.ensures.written list)

pub write_futures-loop-i-init : goal.write_futures-loop-i-init
write_futures-loop-i-init t c =
    λ list. written_none list c.args.futures.now.items c.len-i.result (end_in list c.args.ends.now)
    (drop (end_in list c.args.ends.now) (of_list list c.args.completions.now c.args.signals.now c.args.names.now))
    (omega arith)

pub write_futures-write_future-requires : goal.write_futures-write_future-requires
write_futures-write_future-requires t c = (
  search (rules, the_lemmas),
  (
    by_list (λ list. end_in list c.loop-i.ends ≤ length (of_list list c.loop-i.completions c.loop-i.signals
        c.loop-i.names)) (omega (arith, (c.loop-i.invariant Completions).begins, c.requires.within Completions))
        (omega (arith, (c.loop-i.invariant Signals).begins, c.requires.within Signals))
        (omega (arith, (c.loop-i.invariant NamedSignals).begins, c.requires.within NamedSignals)),
    λ list. written_room list c.args.futures.now.items c.loop-i.i c.index.result.now (end_in list c.args.ends.now)
        (end_in list c.loop-i.ends) (omega arith) (omega arith) c.index.ensures (c.loop-i.invariant list).begins
        (c.requires.room list),
  ),
)

pub write_futures-loop-i-preserved : goal.write_futures-loop-i-preserved
write_futures-loop-i-preserved t c =
    λ list. written_next list c.args.futures.now.items c.loop-i.i c.index.result.now (end_in list c.args.ends.now)
    (end_in list c.loop-i.ends) (end_in list c.write_future.new.ends)
    (drop (end_in list c.args.ends.now) (of_list list c.args.completions.now c.args.signals.now c.args.names.now))
    (drop (end_in list c.loop-i.ends) (of_list list c.loop-i.completions c.loop-i.signals c.loop-i.names))
    (drop (end_in list c.write_future.new.ends) (of_list list c.write_future.new.completions c.write_future.new.signals
    c.write_future.new.names)) (omega arith) (omega arith) c.index.ensures (c.write_future.ensures.starts list)
    (c.write_future.ensures.written list) (c.loop-i.invariant list)

pub write_futures-returns : goal.write_futures-returns
write_futures-returns t c =
    let z : c.loop-i.i ≡ 0 = omega arith in
    let b = subst
    (λ (i : ℕ).
    (list : AwaitedList)
    → IsWritten list c.args.futures.now.items i (end_in list c.args.ends.now) (end_in list c.loop-i.ends)
    (drop (end_in list c.args.ends.now) (of_list list c.args.completions.now c.args.signals.now c.args.names.now))
    (drop (end_in list c.loop-i.ends) (of_list list c.loop-i.completions c.loop-i.signals c.loop-i.names)))
    z c.loop-i.invariant in
    record { starts = λ list. (b list).begins; written = λ list. (b list).written }
