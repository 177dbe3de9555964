use Rattle.std.proofs.Common.{◌∙◌, sym, ap, subst, arith}
use Rattle.json.specs.Json as json
use Rattle.json_table.specs.Tails.{last_members, IsTail}
use Rattle.json_table.proofs.Seen.{seen_members}
use Rattle.json_table.proofs.Tails.{last_in, last_begins}
use Rattle.json_table.proofs.node.Members.last.Goals as goal

pub overflow_sub-result : goal.overflow_sub-result
overflow_sub-result c =
    let seen = seen_members c.self.inside.entries.now c.self.inside.at _ _ c.self.invariant.1 in
    let tail = subst (λ (ms : json.Members). IsTail c.args.left ms) (sym c.self.view_is ∙ seen) c.requires in
    omega (arith, last_in c.args.left _ tail, c.self.invariant.1.2)

pub invariant_of-result : goal.invariant_of-result
invariant_of-result c =
    let seen = seen_members c.self.inside.entries.now c.self.inside.at _ _ c.self.invariant.1 in
    let tail = subst (λ (ms : json.Members). IsTail c.args.left ms) (sym c.self.view_is ∙ seen) c.requires in
    (_, last_begins c.self.inside.entries.now c.self.inside.at c.self.inside.end c.args.left _ c.self.invariant.1 tail)

pub returns : goal.returns
returns c =
    let seen = seen_members c.self.inside.entries.now c.self.inside.at _ _ c.self.invariant.1 in
    let tail = subst (λ (ms : json.Members). IsTail c.args.left ms) (sym c.self.view_is ∙ seen) c.requires in
    seen_members c.self.inside.entries.now _ c.self.inside.end _ (last_begins c.self.inside.entries.now
    c.self.inside.at c.self.inside.end c.args.left _ c.self.invariant.1 tail)
    ∙ ap (last_members c.args.left) (sym seen ∙ c.self.view_is)
