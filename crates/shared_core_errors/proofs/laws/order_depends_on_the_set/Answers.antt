use Rattle.std.proofs.Common.{◌++◌, ap}
use Rattle.shared_core_errors.specs.Uncompleted.{uncompleted_head}
use Rattle.shared_core_errors.proofs.AwaitedIds.{same_order, same_lines}
use Rattle.shared_core_errors.proofs.laws.order_depends_on_the_set.Goals as goal

pub returns-clause-order : goal.returns-clause-order
returns-clause-order c = same_order c.args.a.now c.args.b.now

pub returns-clause-text : goal.returns-clause-text
returns-clause-text c same xs ys up rise = ap (λ lines. uncompleted_head ++ lines)
    (same_lines c.args.metadata.now xs ys (same_order c.args.a.now c.args.b.now same xs ys up rise))
