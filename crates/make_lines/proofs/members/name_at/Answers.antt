use Rattle.std.proofs.Common.{◌∙◌, ℕ, List, sym, ap}
use Rattle.std.proofs.lemmas.Bool.{ltb-true}
use Rattle.std.specs.Borrow.{Bor}
use Rattle.make_lines.specs.Places.{name_at}
use Rattle.make_lines.proofs.Placing.{name_here}
use Rattle.make_lines.proofs.members.name_at.Goals as goal

pub returns-in-Some : goal.returns-in-Some
returns-in-Some c =
    let (within, is, _, _, _) = c.in-Some.ensures.lookup in
    ap (λ (name : Bor (List ℕ)). name.now) is
    ∙ name_here c.names.result.now c.from.result _ c.names.ensures (ltb-true _ _ (sym within))
    ∙ ap name_at c.from.ensures
