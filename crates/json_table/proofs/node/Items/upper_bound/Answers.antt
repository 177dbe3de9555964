use Rattle.std.proofs.Common.{◌≤◌, ◌-◌, ◌∙◌, length, sym, subst, arith}
use Rattle.json.specs.Json as json
use Rattle.json_table.specs.Counts.{items_count}
use Rattle.json_table.proofs.Seen.{items_inside, items_within, seen_items}
use Rattle.json_table.proofs.Lengths.{few_items}
use Rattle.json_table.proofs.node.Items.upper_bound.Goals as goal

pub overflow_sub-result : goal.overflow_sub-result
overflow_sub-result c = omega (arith, items_inside c.self.inside.entries.now c.self.inside.at _ c.self.invariant.1)

pub returns : goal.returns
returns c =
    let seen = seen_items c.self.inside.entries.now c.self.inside.at _ c.self.invariant.1 in
    let few : items_count c.self.invariant.0 ≤ length c.self.inside.entries.now - c.self.inside.at =
    omega (
      arith,
      items_within c.self.inside.entries.now c.self.inside.at _ c.self.invariant.1,
      few_items
          c.self.invariant.0,
    ) in
    subst (λ (js : json.Items). items_count js ≤ length c.self.inside.entries.now - c.self.inside.at) (sym seen
    ∙ c.self.view_is) few
