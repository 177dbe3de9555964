use Rattle.std.proofs.Common.{◌++◌, Err, List, ℕ, [], subst, sym}
use Rattle.std.proofs.KnownBytes.{Appends-nil, Appends-trans, Consumes-trans}
use Rattle.std.proofs.lemmas.Result.{err_from_is_err_and}
use Rattle.stream_parts.specs.Copying.{IsCopied}
use Rattle.stream_parts.specs.declared.copy.Part.{Part}
use Rattle.stream_parts.proofs.Copies.{on_first, on_second, over_first, over_second}
use Rattle.stream_parts.proofs.copy.copy_part.Goals as goal

pub returns-in_err-pass_over : goal.returns-in_err-pass_over
returns-in_err-pass_over g c =
    let (a, came, passed) = c.in_err-pass_over.ensures.passed in
    let order = c.in_order-part.ensures in
    let error = c.in_err-pass_over.field-0.0 in
    let left = g.R.Read.remaining c.pass_over.new.input in
    let from = err_from_is_err_and c.from_residual-in_err-pass_over.result
    c.from_residual-in_err-pass_over.ensures.1 in
    rw (from.1, from.2) (
      a,
      [],
      came,
      Appends-nil _,
      subst (λ (p : Part). IsCopied p (Err error) a [] left) order.is
          (over_first c.in_order-part.result order.first order.between order.second a error left passed),
    )

pub returns-in_err-pass_on : goal.returns-in_err-pass_on
returns-in_err-pass_on g c =
    let (a, came, is_a) = c.in_ok-pass_over.ensures.passed in
    let (b, written, next, wrote, passed) = c.in_err-pass_on.ensures.passed in
    let order = c.in_order-part.ensures in
    let error = c.in_err-pass_on.field-0.0 in
    let left = g.R.Read.remaining c.pass_on.new.input in
    let from = err_from_is_err_and c.from_residual-in_err-pass_on.result
    c.from_residual-in_err-pass_on.ensures.1 in
    rw (from.1, from.2) (
      a ++ b,
      written,
      Consumes-trans _ _ _ a b came next,
      wrote,
      subst (λ (p : Part). IsCopied p (Err error) (a ++ b) written left) order.is
          (on_first c.in_order-part.result order.first order.between order.second a is_a b error written left passed),
    )

pub returns-in_err-pass_over-2 : goal.returns-in_err-pass_over-2
returns-in_err-pass_over-2 g c =
    let (a, came, is_a) = c.in_ok-pass_over.ensures.passed in
    let (b, written, next, wrote, (is_b, same)) = c.in_ok-pass_on.ensures.passed in
    let (d, then, passed) = c.in_err-pass_over-2.ensures.passed in
    let order = c.in_order-part.ensures in
    let error = c.in_err-pass_over-2.field-0.0 in
    let left = g.R.Read.remaining c.pass_over-2.new.input in
    let from = err_from_is_err_and c.from_residual-in_err-pass_over-2.result
    c.from_residual-in_err-pass_over-2.ensures.1 in
    rw (from.1, from.2) (
      (a ++ b) ++ d,
      written,
      Consumes-trans _ _ _ (a ++ b) d (Consumes-trans _ _ _ a b came next) then,
      wrote,
      subst (λ (p : Part). IsCopied p (Err error) ((a ++ b) ++ d) written left) order.is
          (subst (λ (w : List ℕ). IsCopied c.in_order-part.result (Err error) ((a ++ b) ++ d) w left) (sym same)
          (over_second c.in_order-part.result order.first order.between order.second a is_a b is_b d error left
          passed)),
    )

pub returns : goal.returns
returns g c =
    let (a, came, is_a) = c.in_ok-pass_over.ensures.passed in
    let (b, written, next, wrote, (is_b, same)) = c.in_ok-pass_on.ensures.passed in
    let (d, then, is_d) = c.in_ok-pass_over-2.ensures.passed in
    let (e, more, last, grown, passed) = c.pass_on-2.ensures.passed in
    let order = c.in_order-part.ensures in
    let result = c.pass_on-2.result in
    let left = g.R.Read.remaining c.pass_on-2.new.input in (
      ((a ++ b) ++ d) ++ e,
      written ++ more,
      Consumes-trans _ _ _ ((a ++ b) ++ d) e
          (Consumes-trans _ _ _ (a ++ b) d (Consumes-trans _ _ _ a b came next) then) last,
      Appends-trans _ _ _ written more wrote grown,
      subst (λ (p : Part). IsCopied p result (((a ++ b) ++ d) ++ e) (written ++ more) left) order.is
          (subst (λ (w : List ℕ). IsCopied c.in_order-part.result result (((a ++ b) ++ d) ++ e) (w ++ more) left)
          (sym same)
          (on_second c.in_order-part.result order.first order.between order.second a is_a b is_b d is_d e result more
          left passed)),
    )
