use Rattle.shared_core_codec.specs.FieldParts.{message_part}
use Rattle.shared_core_codec.specs.EqualityRules.{equal_elements, equal_messages}
use Rattle.shared_core_compare.proofs.equality.same_messages.Goals as goal

pub returns : goal.returns
returns g c =
    let decided = equal_elements _ (message_part g.M.WireRecord.parts)
    (λ x y. equal_messages _ _ _ (g.met.M.WireRecord.equality x y)) c.args.messages.now.items
    c.args.others.now.items in
    rw c.eq.ensures (decided.sound, decided.complete)
