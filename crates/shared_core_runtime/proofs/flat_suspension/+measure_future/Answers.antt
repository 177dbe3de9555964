use Rattle.std.proofs.Common.{◌≡◌, ◌≤◌, ◌<◌, ◌+◌, ◌-◌, ℕ, get_or, length, subst, arith, rules, tests}
use Rattle.shared_core_runtime.specs.AwaitedLists.{Completions, NamedSignals, Signals, awaited_list, list_bytes}
use Rattle.shared_core_runtime.specs.AwaitedLists.{size_in}
use Rattle.shared_core_codec.specs.RowEncoding.{capped}
use Rattle.shared_core_parts.specs.Futures.{future_elements}
use Rattle.shared_core_runtime.specs.Flattening.{messages_in}
use Rattle.shared_core_runtime.proofs.AwaitedLists.{all_fit, by_list, future_fits, future_measured, measured_all}
use Rattle.shared_core_runtime.proofs.AwaitedLists.{measured_next, measured_none, IsMeasured}
use Rattle.shared_core_runtime.proofs.flat_suspension.+measure_future.Goals as goal

pub measure_future-returns-clause-sum : goal.measure_future-returns-clause-sum
measure_future-returns-clause-sum t c =
    λ list. future_measured list c.args.future.now (size_in list c.args.sizes.now)
    (size_in list c.measure_own.new.sizes) (size_in list c.measure_futures.new.sizes)
    (c.measure_own.ensures.sum list) (c.measure_futures.ensures.sum list)

pub measure_future-returns-clause-fit : goal.measure_future-returns-clause-fit
measure_future-returns-clause-fit t c = λ list. future_fits list c.args.future.now (c.measure_own.ensures.fit list)
    (c.measure_futures.ensures.fit list)

pub measure_futures-returns-then-is_empty-clause-sum : goal.measure_futures-returns-then-is_empty-clause-sum
measure_futures-returns-then-is_empty-clause-sum t c =
    let s = c.args.sizes.now in
    let fs = c.args.futures.now.items in
    let none : length fs ≤ 0 = search (rules, tests) in
    by_list (λ list. size_in list s ≡ capped (size_in list s + length
    (list_bytes list (awaited_list list (messages_in (future_elements fs))))))
    (measured_all Completions fs 0 (size_in Completions s) (size_in Completions s) none
    (measured_none Completions fs (size_in Completions s)
    (omega (arith, c.total.ensures.value, c.total.ensures.bound))))
    (measured_all Signals fs 0 (size_in Signals s) (size_in Signals s) none
    (measured_none Signals fs (size_in Signals s) (omega
    (arith, c.total-2.ensures.value, c.total-2.ensures.bound))))
    (measured_all NamedSignals fs 0 (size_in NamedSignals s) (size_in NamedSignals s) none
    (measured_none NamedSignals fs (size_in NamedSignals s)
    (omega (arith, c.total-3.ensures.value, c.total-3.ensures.bound))))

pub measure_futures-returns-then-is_empty-clause-fit : goal.measure_futures-returns-then-is_empty-clause-fit
measure_futures-returns-then-is_empty-clause-fit t c = λ list. all_fit list c.args.futures.now.items 0 0 0
    (search (rules, tests)) (measured_none list c.args.futures.now.items 0 (omega arith))

pub measure_futures-loop-i-init : goal.measure_futures-loop-i-init
measure_futures-loop-i-init t c =
    let s = c.args.sizes.now in
    by_list (λ list. IsMeasured list c.args.futures.now.items (size_in list s) 0 (size_in list s))
    (measured_none Completions c.args.futures.now.items (size_in Completions s)
    (omega (arith, c.total.ensures.value, c.total.ensures.bound)))
    (measured_none Signals c.args.futures.now.items (size_in Signals s)
    (omega (arith, c.total-2.ensures.value, c.total-2.ensures.bound)))
    (measured_none NamedSignals c.args.futures.now.items (size_in NamedSignals s)
    (omega (arith, c.total-3.ensures.value, c.total-3.ensures.bound)))

pub measure_futures-loop-i-preserved : goal.measure_futures-loop-i-preserved
measure_futures-loop-i-preserved t c =
    λ list. measured_next list c.args.futures.now.items c.loop-i.i c.index.result.now (size_in list c.args.sizes.now)
    (size_in list c.loop-i.sizes) (size_in list c.measure_future.new.sizes) (omega arith) c.index.ensures
    (c.measure_future.ensures.sum list) (c.measure_future.ensures.fit list) (c.loop-i.invariant list)

pub measure_futures-returns-clause-sum : goal.measure_futures-returns-clause-sum
measure_futures-returns-clause-sum t c =
    let fs = c.args.futures.now.items in
    let some : 0 < length fs = search (rules, tests) in
    let z : c.len-last.result - 1 ≡ c.loop-i.i = omega arith in
    let e = subst (λ (n : ℕ). c.index-2.result.now ≡ get_or fs n c.index-2.result.now) z c.index-2.ensures in
    λ list. measured_all list fs (c.loop-i.i + 1) (size_in list c.args.sizes.now)
    (size_in list c.measure_future-2.new.sizes) (omega arith)
    (measured_next list fs c.loop-i.i c.index-2.result.now (size_in list c.args.sizes.now) (size_in list c.loop-i.sizes)
    (size_in list c.measure_future-2.new.sizes) (omega arith) e (c.measure_future-2.ensures.sum list)
    (c.measure_future-2.ensures.fit list) (c.loop-i.invariant list))

pub measure_futures-returns-clause-fit : goal.measure_futures-returns-clause-fit
measure_futures-returns-clause-fit t c =
    let fs = c.args.futures.now.items in
    let some : 0 < length fs = search (rules, tests) in
    let z : c.len-last.result - 1 ≡ c.loop-i.i = omega arith in
    let e = subst (λ (n : ℕ). c.index-2.result.now ≡ get_or fs n c.index-2.result.now) z c.index-2.ensures in
    λ list. all_fit list fs (c.loop-i.i + 1) (size_in list c.args.sizes.now) (size_in list c.measure_future-2.new.sizes)
    (omega arith)
    (measured_next list fs c.loop-i.i c.index-2.result.now (size_in list c.args.sizes.now) (size_in list c.loop-i.sizes)
    (size_in list c.measure_future-2.new.sizes) (omega arith) e (c.measure_future-2.ensures.sum list)
    (c.measure_future-2.ensures.fit list) (c.loop-i.invariant list))
