use Rattle.std.proofs.Common.{ap, ◌∙◌}
use Rattle.journal_c_api.specs.Outcomes.{written_over}
use Rattle.journal_c_api.proofs.FoundItems.{code_is, item_found}
use Rattle.journal_c_api.proofs.items.write_item.Goals as goal

pub numbers_of-requires : goal.numbers_of-requires
numbers_of-requires c =
    code_is c.args.version c.args.bytes.now c.in-Ok.found c.in-Ok.field-0-1.now c.in-Ok.ensures.item

pub returns-in-Ok : goal.returns-in-Ok
returns-in-Ok c =
    item_found c.args.version c.args.bytes.now c.in-Ok.found c.in-Ok.field-0-1.now c.in-Ok.ensures.item c.args.item.now
    c.write_over.new.out
    (c.write_over.ensures ∙ ap (λ l. written_over l c.args.item.now) c.numbers_of.ensures)
