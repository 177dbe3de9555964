use Rattle.shared_core_codec.specs.EqualityRules.{equal_elements}
use Rattle.shared_core_compare.proofs.values.same_list.Goals as goal

pub returns : goal.returns
returns g c =
    let decided = equal_elements _ g.K.FieldKind.part (λ x y. g.met.K.PrintedValue.same x y) c.args.values.now.items
    c.args.others.now.items in
    rw c.eq.ensures (decided.sound, decided.complete)
