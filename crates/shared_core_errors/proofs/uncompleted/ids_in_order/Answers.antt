use Rattle.std.proofs.Common.{rules}
use Rattle.std.proofs.lemmas.List.Sorted.{answers_always, ranks_by}
use Rattle.std.specs.Cmp.Lexicographic.{nat_list_cmp_total}
use Rattle.shared_core_errors.specs.Awaited.{order_key}
use Rattle.shared_core_errors.proofs.AwaitedIds.{in_order, none_in_order}
use Rattle.shared_core_errors.proofs.uncompleted.ids_in_order.Goals as goal

pub returns-then-is_empty-clause-ids : goal.returns-then-is_empty-clause-ids
returns-then-is_empty-clause-ids c = none_in_order _ _ (search rules) (search rules)

pub returns-clause-ids : goal.returns-clause-ids
returns-clause-ids c =
    let sorted = c.sort_unstable_by.ensures.sorted _ (ranks_by nat_list_cmp_total order_key)
    (answers_always _ _ _ (λ f a r g called. search rules)) in
    in_order c.args.ids.keys _ (search rules) sorted c.into_iter.ensures.into_iter_gives.3
