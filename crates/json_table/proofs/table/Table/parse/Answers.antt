use Rattle.std.proofs.Common.{Some, ◌∙◌, sym, ap}
use Rattle.json_table.specs.Entries.{first_value}
use Rattle.json_table.proofs.Spelled.{document_value, document_of_tokens}
use Rattle.json_table.proofs.table.Table.parse.Goals as goal

pub invariant_of-result : goal.invariant_of-result
invariant_of-result c =
    let has = document_value c.args.text.now c.in_ok-tape.ensures.ok.1 in
    (has.0, c.in_ok-tape.ensures.ok.0 ∙ has.1)

pub returns-clause-ok : goal.returns-clause-ok
returns-clause-ok c =
    document_of_tokens c.args.text.now c.in_ok-tape.ensures.ok.1 ∙ ap (λ ts. Some (first_value ts)) (sym
    c.in_ok-tape.ensures.ok.0)
