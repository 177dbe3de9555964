use Rattle.std.proofs.Common.{[], ◌∙◌, append-nil, ap, subst, sym}
use Rattle.json.specs.Tape.{Linked}
use Rattle.json_table.specs.Codes.{json_tokens_back}
use Rattle.json_table.specs.Entries.{first_value}
use Rattle.json_table.specs.Tables.{stored_value, HasValue}
use Rattle.json_table.proofs.Linked.{value_placed}
use Rattle.json_table.proofs.Seen.{seen_value}
use Rattle.json_table.proofs.table.Table.root.Goals as goal

pub of_entries-requires : goal.of_entries-requires
of_entries-requires c =
    let has = subst HasValue c.in-Tape.is c.self.invariant in
    let nodes = c.nodes.result.now in
    let linked = subst (λ ts. Linked ts 0 nodes) (sym c.nodes.ensures.tokens) c.nodes.ensures.links in
    (has.0, (_, value_placed nodes linked has.0 0 [] (c.nodes.ensures.tokens ∙ has.1 ∙ sym (append-nil _))))

pub returns-in-Tape : goal.returns-in-Tape
returns-in-Tape c =
    let has = subst HasValue c.in-Tape.is c.self.invariant in
    let nodes = c.nodes.result.now in
    let linked = subst (λ ts. Linked ts 0 nodes) (sym c.nodes.ensures.tokens) c.nodes.ensures.links in
    let begin = value_placed nodes linked has.0 0 [] (c.nodes.ensures.tokens ∙ has.1 ∙ sym (append-nil _)) in
    c.of_entries.ensures ∙ seen_value nodes 0 has.0 (_, begin) ∙ sym (ap first_value has.1 ∙ json_tokens_back has.0)
    ∙ sym (ap stored_value c.in-Tape.is) ∙ c.self.view_is
