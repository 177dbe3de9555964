use Rattle.std.proofs.Common.{◌∙◌, sym, arith}
use Rattle.json_table.proofs.Seen.{members_inside, end_of_members, some_members, seen_members}
use Rattle.json_table.proofs.node.Members.is_empty.Goals as goal

pub offset_bounds-self-inside-self-inside : goal.offset_bounds-self-inside-self-inside
offset_bounds-self-inside-self-inside c =
    omega (arith, c.self.told, members_inside c.self.inside.entries.now c.self.inside.at _ _ c.self.invariant.1)

pub bounds-self-inside-self-inside : goal.bounds-self-inside-self-inside
bounds-self-inside-self-inside c = members_inside c.self.inside.entries.now c.self.inside.at _ _ c.self.invariant.1

pub returns-in-EndObject : goal.returns-in-EndObject
returns-in-EndObject c =
    let seen = seen_members c.self.inside.entries.now c.self.inside.at _ _ c.self.invariant.1 in
    sym c.self.view_is ∙ seen
    ∙ end_of_members c.self.inside.entries.now c.self.inside.at _ _ c.self.invariant.1 c.in-EndObject.is

pub returns-in_default : goal.returns-in_default
returns-in_default c none =
    let seen = seen_members c.self.inside.entries.now c.self.inside.at _ _ c.self.invariant.1 in
    some_members c.self.inside.entries.now c.self.inside.at _ _ c.self.invariant.1 (sym seen ∙ c.self.view_is ∙ none)
    c.in_default.not-EndObject
