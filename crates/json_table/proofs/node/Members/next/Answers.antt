use Rattle.std.proofs.Common.{◌∙◌, sym, ap₂, subst, arith}
use Rattle.json.specs.Json.{member}
use Rattle.json_table.specs.Views.{BeginsMembers}
use Rattle.json_table.proofs.Seen.{members_inside, no_key, seen_value, seen_members, first_member}
use Rattle.json_table.proofs.node.Members.next.Goals as goal

pub offset_bounds-entries-self-inside : goal.offset_bounds-entries-self-inside
offset_bounds-entries-self-inside c =
    omega (arith, c.self.told, members_inside c.self.inside.entries.now c.self.inside.at _ _ c.self.invariant.1)

pub bounds-entries-self-inside : goal.bounds-entries-self-inside
bounds-entries-self-inside c = members_inside c.self.inside.entries.now c.self.inside.at _ _ c.self.invariant.1

pub returns-in_default : goal.returns-in_default
returns-in_default c =
    let seen = seen_members c.self.inside.entries.now c.self.inside.at _ _ c.self.invariant.1 in
    let none = sym c.self.view_is ∙ seen ∙ no_key c.self.inside.entries.now c.self.inside.at _ _ c.self.invariant.1
    c.in_default.not-Key in
    (none, none)

pub place_after-requires : goal.place_after-requires
place_after-requires c =
    let first = first_member c.self.inside.entries.now c.self.inside.at _ _ c.in-Key.key c.self.invariant.1
    c.in-Key.is in
    (first.0, first.3)

pub invariant_of-result : goal.invariant_of-result
invariant_of-result c =
    let first = first_member c.self.inside.entries.now c.self.inside.at _ _ c.in-Key.key c.self.invariant.1
    c.in-Key.is in
    (first.0, first.3)

pub invariant_of-self : goal.invariant_of-self
invariant_of-self c =
    let first = first_member c.self.inside.entries.now c.self.inside.at _ _ c.in-Key.key c.self.invariant.1
    c.in-Key.is in (
      first.1,
      subst (λ n. BeginsMembers c.self.inside.entries.now n c.self.inside.end first.1) (sym
          (c.place_after.ensures first.0 first.3)) first.4,
    )

pub returns : goal.returns
returns c =
    let seen = seen_members c.self.inside.entries.now c.self.inside.at _ _ c.self.invariant.1 in
    let first = first_member c.self.inside.entries.now c.self.inside.at _ _ c.in-Key.key c.self.invariant.1
    c.in-Key.is in
    let left = subst (λ n. BeginsMembers c.self.inside.entries.now n c.self.inside.end first.1) (sym
    (c.place_after.ensures first.0 first.3)) first.4 in
    sym c.self.view_is ∙ seen ∙ first.2
    ∙ ap₂ (member c.in-Key.key.now) (sym (seen_value c.self.inside.entries.now _ first.0 first.3))
    (sym (seen_members c.self.inside.entries.now _ c.self.inside.end first.1 left))
