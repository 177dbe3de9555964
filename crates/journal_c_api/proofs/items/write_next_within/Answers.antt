use Rattle.std.proofs.Common.{◌≡◌, ◌-◌, ap, ◌∙◌, arith, length}
use Rattle.journal_c_api.specs.Outcomes.{written_over}
use Rattle.journal_c_api.proofs.FoundItems.{code_is, item_found}
use Rattle.journal_c_api.proofs.items.write_next_within.Goals as goal

pub numbers_of-requires : goal.numbers_of-requires
numbers_of-requires c =
    let start = c.with_limit-items.result in
    code_is start.version start.rest.now c.in-Some.found c.next.new.self.rest.now c.in-Some.ensures.steps.4

pub returns-in-Some : goal.returns-in-Some
returns-in-Some c =
    let given = c.with_limit-items.ensures in
    let steps = rw (given.version, given.limit, given.count, given.bytes) at c.in-Some.ensures.steps in
    let start : length c.args.bytes.now - length c.args.bytes.now ≡ 0 = omega arith in (
      c.in_ok-version.version,
      c.in_ok-version.ensures,
      omega (arith, c.if-item-lt-ITEM_NUMBERS.false),
      rw start at steps.3,
      item_found c.in_ok-version.version c.args.bytes.now c.in-Some.found c.next.new.self.rest.now steps.4
          c.args.item.now c.write_over.new.out
          (c.write_over.ensures ∙ ap (λ l. written_over l c.args.item.now) c.numbers_of.ensures),
    )
