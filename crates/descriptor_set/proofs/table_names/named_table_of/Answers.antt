use Rattle.std.proofs.Common.{◌∙◌}
use Rattle.descriptor_set.proofs.NameSteps.{same_names}
use Rattle.descriptor_set.proofs.table_names.named_table_of.Goals as goal

pub returns-in-Ok-clause-names : goal.returns-in-Ok-clause-names
returns-in-Ok-clause-names c =
    c.in-Ok.ensures.names
    ∙ same_names c.args.set.now c.in_ok-names.names.items c.in_ok-names.ensures.names c.in_ok-names.ensures.digits
