use Rattle.std.proofs.Common.{◌≡◌, ◌+◌, ◌-◌, ◌^◌, ◌<◌, ◌≤◌, ◌∙◌, ℕ, Bool, true, false, not, Option, Some, None, arith}
use Rattle.std.proofs.Common.{cond, refl, sym}
use Rattle.std.specs.Prelude.{IfSome, is_none}
use Rattle.std.proofs.lemmas.Result.{err_from_is_err_and}
use Rattle.shared_core_stream.specs.declared.encoding.item.Item.{Item}
use Rattle.replay_bench.proofs.Readings.{on_more, on_whole}
use Rattle.replay_bench.proofs.commands.Commands.finish.Goals as goal

falls : (found : Option Item) (ended was : Bool) (size sum : ℕ) → ended ≡ is_none found → was ≡ false → sum < 2 ^ 64
    → IfSome found (λ item. 8 + size ≤ sum)
    → cond ended 0 ((2 ^ 64 - sum) + 1) < cond was 0 ((2 ^ 64 - size) + 1)
falls None ended was size sum is not_yet fits longer = rw (is, not_yet) (omega arith)
falls (Some item) ended was size sum is not_yet fits longer = rw (is, not_yet) (omega (arith, longer, fits))

turned : (some none : Bool) → some ≡ not none → none ≡ not some
turned some true is = rw is refl
turned some false is = rw is refl

pub next_item-requires-clause-same : goal.next_item-requires-clause-same
next_item-requires-clause-same g c =
    c.loop-has_ended.invariant.version ∙ c.requires.same ∙ sym c.loop-has_ended.invariant.same

pub next_item-requires-clause-read : goal.next_item-requires-clause-read
next_item-requires-clause-read g c =
    let inv = c.loop-has_ended.invariant in
    let (is_strict, first, on) = c.requires.read in
    let now = rw c.loop-has_ended-test.true at (inv.read is_strict first on) in
    (is_strict, first, rw inv.same (on_more c.args.self.version is_strict first _ _ now))

pub loop-has_ended-preserved : goal.loop-has_ended-preserved
loop-has_ended-preserved g c =
    let inv = c.loop-has_ended.invariant in
    let v = c.args.self.version in
    let reads = rw inv.same at c.in_ok-next.ensures.read in
    let ended : c.is_none-has_ended.result ≡ is_none c.in_ok-next.next = turned _ _
    c.is_none-has_ended.ensures in
    record {
      fits = c.in_ok-next.ensures.fits;
      version = c.in_ok-next.ensures.version ∙ inv.version;
      limit = c.in_ok-next.ensures.limit ∙ inv.limit;
      side = c.in_ok-next.ensures.side ∙ inv.side;
      same = c.in_ok-next.ensures.same ∙ inv.same;
      read = λ is_strict first on.
          rw ended (reads is_strict first (on_more v is_strict first _ _
          (rw c.loop-has_ended-test.true at (inv.read is_strict first on))));
    }

pub loop-has_ended-smaller : goal.loop-has_ended-smaller
loop-has_ended-smaller g c =
    falls c.in_ok-next.next _ _ _ _ (turned _ _ c.is_none-has_ended.ensures) c.loop-has_ended-test.true
    c.in_ok-next.ensures.fits c.in_ok-next.ensures.longer

pub returns-clause-survey : goal.returns-clause-survey
returns-clause-survey g c = λ is_strict first on.
    on_whole c.args.self.version is_strict first _ _ (rw c.loop-has_ended-test.false at
    (c.loop-has_ended.invariant.read is_strict first on))

pub returns-in_err-next-clause-rejected : goal.returns-in_err-next-clause-rejected
returns-in_err-next-clause-rejected g c =
    let inv = c.loop-has_ended.invariant in
    let from = err_from_is_err_and c.from_residual.result c.from_residual.ensures.1 in
    let rejected = rw (inv.side, inv.same, inv.limit) at c.in_err-next.ensures.rejected in
    rw (from.1, from.2)
    (λ is_strict first on.
    rejected is_strict first (on_more c.args.self.version is_strict first _ _
    (rw c.loop-has_ended-test.true at (inv.read is_strict first on))))
