use Rattle.std.proofs.Common.{ℕ, ◌+◌, ◌*◌, arith, sym, subst, ◌∙◌}
use Rattle.std.proofs.lemmas.Bool.{eqb-false}
use Rattle.shared_core_json_reader.proofs.ShortNumbers.{Writes, below, one_more, written}
use Rattle.shared_core_json_reader.proofs.scalars.short_number.Goals as goal

pub overflow_mul-number : goal.overflow_mul-number
overflow_mul-number c =
    let l = c.loop-byte in
    omega (
      arith,
      below c.args.text.now l.byte-index l.number l.invariant c.loop-byte-test.true c.if-text-gt-SHORT.false,
    )

pub overflow_add-number : goal.overflow_add-number
overflow_add-number c =
    let l = c.loop-byte in
    omega (
      arith,
      c.from.ensures,
      c.if-not-is_ascii_digit.ensures.cases,
      below c.args.text.now l.byte-index l.number l.invariant c.loop-byte-test.true c.if-text-gt-SHORT.false,
    )

pub loop-byte-preserved : goal.loop-byte-preserved
loop-byte-preserved c =
    let l = c.loop-byte in
    let text = c.args.text.now in
    subst (λ (m : ℕ). Writes text (l.byte-index + 1) (10 * l.number + m)) (sym c.from.ensures)
    (one_more text l.byte-index l.number l.invariant c.loop-byte-test.true c.if-not-is_ascii_digit.ensures.cases)

pub returns : goal.returns
returns c =
    let l = c.loop-byte in
    written c.args.text.now l.byte-index l.number l.invariant (omega (arith, c.loop-byte-test.false))
    (omega (arith, eqb-false _ _ (sym c.is_empty.ensures ∙ c.if-is_empty.false)))
    (omega (arith, c.if-text-gt-SHORT.false)) c.if-text-eq48.false
