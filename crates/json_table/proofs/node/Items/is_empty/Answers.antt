use Rattle.std.proofs.Common.{◌∙◌, sym, arith}
use Rattle.json_table.proofs.Seen.{items_inside, end_of_items, some_items, seen_items}
use Rattle.json_table.proofs.node.Items.is_empty.Goals as goal

pub offset_bounds-self-inside-self-inside : goal.offset_bounds-self-inside-self-inside
offset_bounds-self-inside-self-inside c =
    omega (arith, c.self.told, items_inside c.self.inside.entries.now c.self.inside.at _ c.self.invariant.1)

pub bounds-self-inside-self-inside : goal.bounds-self-inside-self-inside
bounds-self-inside-self-inside c = items_inside c.self.inside.entries.now c.self.inside.at _ c.self.invariant.1

pub returns-in-EndArray : goal.returns-in-EndArray
returns-in-EndArray c =
    let seen = seen_items c.self.inside.entries.now c.self.inside.at _ c.self.invariant.1 in
    sym c.self.view_is ∙ seen
    ∙ end_of_items c.self.inside.entries.now c.self.inside.at _ c.self.invariant.1 c.in-EndArray.is

pub returns-in_default : goal.returns-in_default
returns-in_default c none =
    let seen = seen_items c.self.inside.entries.now c.self.inside.at _ c.self.invariant.1 in
    some_items c.self.inside.entries.now c.self.inside.at _ c.self.invariant.1 (sym seen ∙ c.self.view_is ∙ none)
    c.in_default.not-EndArray
