use Rattle.std.proofs.Common.{◌≡◌, List, [], ap, sym, subst, length, arith}
use Rattle.shared_core_wire.specs.Fitting.{ElementsFit}
use Rattle.shared_core_wire.specs.Value.{Parts}
use Rattle.shared_core_codec.specs.RowEncoding.{capped}
use Rattle.shared_core_codec.specs.Table.{table}
use Rattle.shared_core_runtime.specs.AwaitedLists.{AwaitedList, Completions, NamedSignals, Signals, awaited_list}
use Rattle.shared_core_runtime.specs.AwaitedLists.{kind_in, list_bytes, of_list, size_in}
use Rattle.shared_core_runtime.specs.Flattening.{messages_in}
use Rattle.shared_core_runtime.proofs.AwaitedLists.{by_list, nothing_awaited, nothing_fits, nothing_sums}
use Rattle.shared_core_runtime.proofs.AwaitedLists.{something_awaited, suspension_of}
use Rattle.shared_core_runtime.proofs.flat_suspension.measure_lists.Goals as goal

pub returns-in_default-clause-sum : goal.returns-in_default-clause-sum
returns-in_default-clause-sum c =
    let ms = messages_in (suspension_of c.args.suspension.now.awaiting_on) in
    let e : ms ≡ [] = nothing_awaited c.args.suspension.now.awaiting_on c.in_default.is in
    by_list (λ list. of_list list c.new.result c.new-2.result c.new-3.result ≡ capped
    (length (list_bytes list (awaited_list list ms)))) (omega (arith, c.new.ensures, nothing_sums Completions ms e))
    (omega (arith, c.new-2.ensures, nothing_sums Signals ms e))
    (omega (arith, c.new-3.ensures, nothing_sums NamedSignals ms e))

pub returns-in_default-clause-fit : goal.returns-in_default-clause-fit
returns-in_default-clause-fit c = λ list. nothing_fits list (messages_in
    (suspension_of c.args.suspension.now.awaiting_on)) (nothing_awaited c.args.suspension.now.awaiting_on
    c.in_default.is)

pub returns-clause-sum : goal.returns-clause-sum
returns-clause-sum c =
    let ms = messages_in (suspension_of c.args.suspension.now.awaiting_on) in
    let e = something_awaited c.args.suspension.now.awaiting_on c.in-Some.future c.in-Some.is in
    let same = λ (list : AwaitedList). ap (λ (ms : List Parts). length (list_bytes list (awaited_list list ms))) e in
    by_list (λ list. size_in list c.measure_future.new.sizes ≡ capped (length (list_bytes list (awaited_list list ms))))
    (omega (arith, c.measure_future.ensures.sum Completions, c.new.ensures, same Completions))
    (omega (arith, c.measure_future.ensures.sum Signals, c.new-2.ensures, same Signals))
    (omega (arith, c.measure_future.ensures.sum NamedSignals, c.new-3.ensures, same NamedSignals))

pub returns-clause-fit : goal.returns-clause-fit
returns-clause-fit c =
    λ list. subst (λ (ms : List Parts). ElementsFit table (awaited_list list ms) (kind_in list))
    (sym (something_awaited c.args.suspension.now.awaiting_on c.in-Some.future c.in-Some.is))
    (c.measure_future.ensures.fit list)
