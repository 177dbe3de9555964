use Rattle.std.proofs.Common.{◌≡◌, ℕ, ◌+◌, List, ◌++◌, ◌∙◌, ap, sym, length, drop, arith}
use Rattle.shared_core_parts.specs.Futures.{future_parts}
use Rattle.shared_core_runtime.specs.AwaitedLists.{Completions, NamedSignals, Signals, end_in, list_bytes, of_list}
use Rattle.shared_core_runtime.specs.AwaitedLists.{own_list}
use Rattle.shared_core_runtime.proofs.AwaitedLists.{by_list, completions_bytes, names_bytes, signals_bytes}
use Rattle.shared_core_runtime.proofs.flat_suspension.write_own.Goals as goal

pub write_run-ends-requires-clause-within : goal.write_run-ends-requires-clause-within
write_run-ends-requires-clause-within c = c.requires.within Completions

pub write_run-ends-requires-clause-room : goal.write_run-ends-requires-clause-room
write_run-ends-requires-clause-room c = omega (
  arith,
  c.requires.room Completions,
  ap length
      (completions_bytes c.args.future.now),
)

pub write_run-ends-requires-2-clause-within : goal.write_run-ends-requires-2-clause-within
write_run-ends-requires-2-clause-within c = c.requires.within Signals

pub write_run-ends-requires-2-clause-room : goal.write_run-ends-requires-2-clause-room
write_run-ends-requires-2-clause-room c = omega (
  arith,
  c.requires.room Signals,
  ap length
      (signals_bytes c.args.future.now),
)

pub write-ends-requires-clause-within : goal.write-ends-requires-clause-within
write-ends-requires-clause-within c = c.requires.within NamedSignals

pub write-ends-requires-clause-room : goal.write-ends-requires-clause-room
write-ends-requires-clause-room c = omega (
  arith,
  c.requires.room NamedSignals,
  ap length
      (names_bytes c.args.future.now),
)

pub returns-clause-starts : goal.returns-clause-starts
returns-clause-starts c =
    by_list (λ list. of_list list c.write_run-ends.result c.write_run-ends-2.result c.write-ends.result + length
    (list_bytes list (own_list list (future_parts c.args.future.now))) ≡ end_in list c.args.ends.now)
    (omega (arith, c.write_run-ends.ensures.start, ap length (completions_bytes c.args.future.now)))
    (omega (arith, c.write_run-ends-2.ensures.start, ap length (signals_bytes c.args.future.now)))
    (omega (arith, c.write-ends.ensures.start, ap length (names_bytes c.args.future.now)))

pub returns-clause-written : goal.returns-clause-written
returns-clause-written c =
    by_list
    (λ list.
    drop (of_list list c.write_run-ends.result c.write_run-ends-2.result c.write-ends.result)
    (of_list list c.write_run-ends.new.out c.write_run-ends-2.new.out c.write-ends.new.out)
    ≡ list_bytes list (own_list list (future_parts c.args.future.now)) ++ drop (end_in list c.args.ends.now)
    (of_list list c.args.completions.now c.args.signals.now c.args.names.now))
    (c.write_run-ends.ensures.written ∙ ap (λ (t : List ℕ). t ++ drop c.args.ends.now.completions
    c.args.completions.now) (sym (completions_bytes c.args.future.now)))
    (c.write_run-ends-2.ensures.written ∙ ap (λ (t : List ℕ). t ++ drop c.args.ends.now.signals c.args.signals.now)
    (sym (signals_bytes c.args.future.now)))
    (c.write-ends.ensures.written ∙ ap (λ (t : List ℕ). t ++ drop c.args.ends.now.names c.args.names.now)
    (sym (names_bytes c.args.future.now)))
