use Rattle.std.proofs.Common.{◌∙◌, sym, ap₂, subst}
use Rattle.json.specs.Json.{item}
use Rattle.json_table.specs.Views.{BeginsItems}
use Rattle.json_table.proofs.Seen.{seen_value, seen_items, first_item}
use Rattle.json_table.proofs.node.Items.next.Goals as goal

pub place_after-requires : goal.place_after-requires
place_after-requires c =
    let seen = seen_items c.self.inside.entries.now c.self.inside.at _ c.self.invariant.1 in
    let first = first_item c.self.inside.entries.now c.self.inside.at _ c.self.invariant.1 (λ none.
    c.if-is_empty.ensures (sym c.self.view_is ∙ seen ∙ none)) in
    (first.0, first.3)

pub invariant_of-result : goal.invariant_of-result
invariant_of-result c =
    let seen = seen_items c.self.inside.entries.now c.self.inside.at _ c.self.invariant.1 in
    let first = first_item c.self.inside.entries.now c.self.inside.at _ c.self.invariant.1 (λ none.
    c.if-is_empty.ensures (sym c.self.view_is ∙ seen ∙ none)) in
    (first.0, first.3)

pub invariant_of-self : goal.invariant_of-self
invariant_of-self c =
    let seen = seen_items c.self.inside.entries.now c.self.inside.at _ c.self.invariant.1 in
    let first = first_item c.self.inside.entries.now c.self.inside.at _ c.self.invariant.1 (λ none.
    c.if-is_empty.ensures (sym c.self.view_is ∙ seen ∙ none)) in (
      first.1,
      subst (λ n. BeginsItems c.self.inside.entries.now n first.1) (sym (c.place_after.ensures first.0 first.3))
          first.4,
    )

pub returns : goal.returns
returns c =
    let seen = seen_items c.self.inside.entries.now c.self.inside.at _ c.self.invariant.1 in
    let first = first_item c.self.inside.entries.now c.self.inside.at _ c.self.invariant.1 (λ none.
    c.if-is_empty.ensures (sym c.self.view_is ∙ seen ∙ none)) in
    let left = subst (λ n. BeginsItems c.self.inside.entries.now n first.1) (sym (c.place_after.ensures first.0
    first.3)) first.4 in
    sym c.self.view_is ∙ seen ∙ first.2 ∙ ap₂ item (sym (seen_value c.self.inside.entries.now _ first.0 first.3))
    (sym (seen_items c.self.inside.entries.now _ first.1 left))
