use Rattle.std.proofs.Common.{◌-◌, ◌++◌, ap, arith, drop, length, slice_set, sym, ◌∙◌}
use Rattle.journal_c_api.proofs.FoundItems.{code_is}
use Rattle.journal_c_api.proofs.ListedItems.{one_listed, within_anywhere}
use Rattle.journal_c_api.proofs.items.write_items.Goals as goal

pub of-requires : goal.of-requires
of-requires c =
    let found = c.loop-count.found in
    code_is found.version found.rest.now c.in-Some-next.item c.next.new.self.rest.now c.in-Some-next.ensures.steps.4

pub loop-count-preserved : goal.loop-count-preserved
loop-count-preserved c =
    let (entries, long, fits, written, version_is, limit_is, are) = c.loop-count.invariant in
    let found = c.loop-count.found in
    let start = c.with_limit-found.result in
    let steps = c.in-Some-next.ensures.steps in
    let within = within_anywhere start.version start.limit (found.count - length found.rest.now) 0 found.rest.now
    (rw (version_is, limit_is) at steps.3) in
    let (longer, count_is, added, listed) = one_listed start.version start.limit start.rest.now c.args.items.now entries
    found.rest.now c.next.new.self.rest.now c.in-Some-next.item c.loop-count.count long
    (omega (arith, c.loop-count-test.true, c.loop-count.auto.items)) are within
    (rw version_is at steps.4) in (
      longer,
      count_is,
      omega (arith, c.loop-count-test.true, c.loop-count.auto.items),
      ap (λ items. slice_set items c.loop-count.count c.of.result) written
          ∙ ap (λ e. slice_set (entries ++ drop c.loop-count.count c.args.items.now) c.loop-count.count e) c.of.ensures
          ∙ added,
      steps.0 ∙ version_is,
      steps.1 ∙ limit_is,
      listed,
    )

pub returns-in_default-next : goal.returns-in_default-next
returns-in_default-next c =
    let (entries, long, fits, written, version_is, limit_is, are) = c.loop-count.invariant in
    let found = c.loop-count.found in
    let start = c.with_limit-found.result in
    let given = c.with_limit-found.ensures in
    let steps = c.in_default-next.ensures.steps in
    let version = c.in_ok-version.version in (
      version,
      entries,
      found.rest.now,
      c.in_ok-version.ensures,
      within_anywhere version c.args.limit (start.count - length c.args.bytes.now) 0 c.args.bytes.now
          (rw (given.version, given.limit, given.bytes) at (sym c.rejected.ensures ∙ c.in_default.is)),
      long,
      fits,
      written,
      rw (given.version, given.limit, given.bytes) at are,
      λ short none. rw (version_is ∙ given.version) at (steps.1 (within_anywhere found.version found.limit 0
          (found.count - length found.rest.now) found.rest.now
          (rw (version_is, limit_is, given.version, given.limit) none))),
    )
