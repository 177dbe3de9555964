use Rattle.std.proofs.Common.{◌≡◌, ℕ, ◌+◌, List, ◌∙◌, ap, sym, length}
use Rattle.shared_core_wire.specs.Fitting.{ElementsFit}
use Rattle.shared_core_codec.specs.RowEncoding.{capped}
use Rattle.shared_core_codec.specs.Table.{table}
use Rattle.shared_core_parts.specs.Futures.{future_parts}
use Rattle.shared_core_runtime.specs.AwaitedLists.{kind_in, list_bytes, of_list, own_list, size_in}
use Rattle.shared_core_runtime.proofs.AwaitedLists.{by_list, completions_bytes, completions_fit, names_bytes, names_fit}
use Rattle.shared_core_runtime.proofs.AwaitedLists.{signals_bytes, signals_fit}
use Rattle.shared_core_runtime.proofs.flat_suspension.measure_own.Goals as goal

pub returns-clause-sum : goal.returns-clause-sum
returns-clause-sum c =
    by_list (λ list. of_list list c.measure_run.new.size c.measure_run-2.new.size c.measure.new.size ≡ capped
    (size_in list c.args.sizes.now + length (list_bytes list (own_list list (future_parts c.args.future.now)))))
    (c.measure_run.ensures.sum ∙ ap (λ (t : List ℕ). capped (c.args.sizes.now.completions + length t))
    (sym (completions_bytes c.args.future.now)))
    (c.measure_run-2.ensures.sum ∙ ap (λ (t : List ℕ). capped (c.args.sizes.now.signals + length t))
    (sym (signals_bytes c.args.future.now)))
    (c.measure.ensures.sum ∙ ap (λ (t : List ℕ). capped (c.args.sizes.now.names + length t))
    (sym (names_bytes c.args.future.now)))

pub returns-clause-fit : goal.returns-clause-fit
returns-clause-fit c =
    by_list (λ list. ElementsFit table (own_list list (future_parts c.args.future.now)) (kind_in list))
    (completions_fit c.args.future.now 0 (c.measure_run.ensures.fit 0))
    (signals_fit c.args.future.now 0 (c.measure_run-2.ensures.fit 0))
    (names_fit c.args.future.now 3 c.measure.ensures.fit)
