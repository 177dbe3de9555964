use Rattle.std.proofs.Common.{◌≡◌, ℕ, ◌*◌, ◌^◌, ◌%◌, None, sym, ap, ◌∙◌, arith}
use Rattle.std.proofs.lemmas.List.{nil_from_length}
use Rattle.std.proofs.lemmas.Grind.{pow_more}
use Rattle.shared_core_wire.specs.Reader.{varint_at}
use Rattle.shared_core_wire.proofs.VarintLoop.{with_low_more, with_low_last, with_low_none, scale_fits, fits_above}
use Rattle.shared_core_wire.proofs.VarintLoop.{read_fits, read_none, tenth_last, tenth_wide}
use Rattle.shared_core_wire.proofs.varint.read_long_varint.Goals as goal

pub returns-in_err-byte : goal.returns-in_err-byte
returns-in_err-byte c =
    let nothing = nil_from_length c.loop.rest.now (c.in_err-byte.ensures).cases in
    let none : varint_at c.args.bytes.now ≡ None = read_none _
    (sym c.loop.invariant.read ∙ rw nothing (with_low_none c.loop.number c.loop.scale 10 c.loop.counter
    (omega arith))) in
    rw c.from_residual.ensures none

pub overflow_mul-result : goal.overflow_mul-result
overflow_mul-result c = omega (
  arith,
  fits_above c.loop.scale c.loop.number c.in_ok-byte.byte.now c.loop.invariant.below
      c.if-byte-lt128.true,
  scale_fits c.loop.counter c.loop-test.true,
  c.loop.invariant.power,
)

pub overflow_add-result : goal.overflow_add-result
overflow_add-result c = omega (
  arith,
  fits_above c.loop.scale c.loop.number c.in_ok-byte.byte.now c.loop.invariant.below
      c.if-byte-lt128.true,
  scale_fits c.loop.counter c.loop-test.true,
  c.loop.invariant.power,
)

pub returns-then-byte-lt128 : goal.returns-then-byte-lt128
returns-then-byte-lt128 c =
    let front = (c.in_ok-byte.ensures).cases.0 in
    read_fits _ _ _ (sym c.loop.invariant.read ∙ rw front (with_low_last c.loop.number c.loop.scale 10 c.loop.counter
    c.in_ok-byte.byte.now c.in_ok-byte.after.now (omega arith) c.if-byte-lt128.true))
    (omega (
      arith,
      fits_above c.loop.scale c.loop.number c.in_ok-byte.byte.now c.loop.invariant.below
          c.if-byte-lt128.true,
      scale_fits c.loop.counter c.loop-test.true,
      c.loop.invariant.power,
    ))

pub overflow_mul-number : goal.overflow_mul-number
overflow_mul-number c = omega (
  arith,
  fits_above c.loop.scale c.loop.number (c.in_ok-byte.byte.now % 128)
      c.loop.invariant.below (omega arith),
  scale_fits c.loop.counter c.loop-test.true,
  c.loop.invariant.power,
)

pub overflow_add-number : goal.overflow_add-number
overflow_add-number c = omega (
  arith,
  fits_above c.loop.scale c.loop.number (c.in_ok-byte.byte.now % 128)
      c.loop.invariant.below (omega arith),
  scale_fits c.loop.counter c.loop-test.true,
  c.loop.invariant.power,
)

pub overflow_mul-scale : goal.overflow_mul-scale
overflow_mul-scale c = omega (arith, scale_fits c.loop.counter c.loop-test.true, c.loop.invariant.power)

pub loop-preserved : goal.loop-preserved
loop-preserved c =
    let front = (c.in_ok-byte.ensures).cases.0 in
    record {
      below = fits_above c.loop.scale c.loop.number (c.in_ok-byte.byte.now % 128) c.loop.invariant.below (omega arith);
      power = ap (λ (n : ℕ). n * 128) c.loop.invariant.power ∙ sym (pow_more 128 c.loop.counter);
      read = sym (with_low_more c.loop.number c.loop.scale 10 c.loop.counter c.in_ok-byte.byte.now
          c.in_ok-byte.after.now (omega arith) c.if-byte-lt128.false) ∙ (rw front at c.loop.invariant.read);
    }

pub returns-in_err-byte-2 : goal.returns-in_err-byte-2
returns-in_err-byte-2 c =
    let nothing = nil_from_length c.loop.rest.now (c.in_err-byte-2.ensures).cases in
    let none : varint_at c.args.bytes.now ≡ None = read_none _
    (sym c.loop.invariant.read ∙ rw nothing (with_low_none c.loop.number c.loop.scale 10 c.loop.counter
    (omega arith))) in
    rw c.from_residual-in_err-byte-2.ensures none

pub returns-then-byte-gt1 : goal.returns-then-byte-gt1
returns-then-byte-gt1 c =
    let nine : c.loop.counter ≡ 9 = omega arith in
    let scale : c.loop.scale ≡ 2 ^ 63 = c.loop.invariant.power ∙ ap (λ (i : ℕ). 128 ^ i) nine in
    tenth_wide c.loop.number c.loop.scale c.in_ok-byte-2.byte.now c.in_ok-byte-2.after.now c.args.bytes.now scale
    (rw (nine, (c.in_ok-byte-2.ensures).cases.0) at c.loop.invariant.read) c.if-byte-gt1.true

pub returns : goal.returns
returns c =
    let nine : c.loop.counter ≡ 9 = omega arith in
    let scale : c.loop.scale ≡ 2 ^ 63 = c.loop.invariant.power ∙ ap (λ (i : ℕ). 128 ^ i) nine in
    tenth_last c.loop.number c.loop.scale c.in_ok-byte-2.byte.now c.in_ok-byte-2.after.now c.args.bytes.now scale
    c.loop.invariant.below (rw (nine, (c.in_ok-byte-2.ensures).cases.0) at c.loop.invariant.read)
    c.if-byte-gt1.false
