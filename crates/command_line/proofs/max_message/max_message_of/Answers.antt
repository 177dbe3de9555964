use Rattle.std.proofs.Common.{◌∙◌, ℕ, List, [], sym, ap, subst, rules}
use Rattle.std.proofs.lemmas.Option.{none-some}
use Rattle.std.specs.Prelude.{Option, unwrap_or}
use Rattle.command_line.specs.MaxMessage.{IsSize}
use Rattle.command_line.proofs.max_message.max_message_of.Goals as goal

pub returns-in_err-error-clause-sized : goal.returns-in_err-error-clause-sized
returns-in_err-error-clause-sized c text limit small is size =
    let same = ap (λ (o : Option (List ℕ)). unwrap_or o []) (c.in-Some.ensures ∙ is) in
    absurd (c.in_default-limit_of.ensures.rejected (search rules) limit small
    (subst (λ t. IsSize t limit) (sym same) size))

pub returns-in_default-limit_of-clause-sized : goal.returns-in_default-limit_of-clause-sized
returns-in_default-limit_of-clause-sized c text limit small is size =
    let same = ap (λ (o : Option (List ℕ)). unwrap_or o []) (c.in-Some.ensures ∙ is) in
    c.in_default-limit_of.ensures.rejected (search rules) limit small
    (subst (λ t. IsSize t limit) (sym same) size)

pub returns-clause-read : goal.returns-clause-read
returns-clause-read c = (
  λ is. absurd (none-some _ (sym (c.in-Some.ensures ∙ is))),
  λ text is.
      let same = ap (λ (o : Option (List ℕ)). unwrap_or o []) (c.in-Some.ensures ∙ is) in
      subst (λ t. IsSize t c.in-Some-limit_of.limit) same c.in-Some-limit_of.ensures.read,
)
