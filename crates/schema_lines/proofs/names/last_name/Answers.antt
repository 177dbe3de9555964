use Rattle.std.proofs.Common.{◌∙◌}
use Rattle.schema_lines.proofs.LastNames.{last_dot, no_dot}
use Rattle.schema_lines.proofs.names.last_name.Goals as goal

pub returns-in-Some : goal.returns-in-Some
returns-in-Some c =
    let split = c.in-Some.ensures.cases in
    split.4 ∙ last_dot c.args.name.now split.0 split.1 split.2

pub returns-in-None : goal.returns-in-None
returns-in-None c = no_dot c.args.name.now c.in-None.ensures.cases
