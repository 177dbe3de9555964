use Rattle.shared_core_compare.proofs.Fields.{field_is}
use Rattle.shared_core_compare.proofs.difference.write_message.Goals as goal

pub returns : goal.returns
returns g c ok =
    rw (← field_is c.same_message.result c.args.field.now _ _ _ c.same_message.ensures) (c.write_unless.ensures ok)
