use Rattle.std.proofs.Common.{◌++◌, ◌∙◌, ap, sym, append-nil, drop}
use Rattle.schema_lines.specs.MessageNames.{texts}
use Rattle.schema_lines.proofs.Steps.{suspended_none}
use Rattle.schema_lines.proofs.named.suspended.Goals as goal

pub returns-in_default : goal.returns-in_default
returns-in_default c =
    sym (append-nil c.loop-name.own.items)
    ∙ ap (λ rest. c.loop-name.own.items ++ rest)
    (sym (suspended_none c.loop-name.suspension (texts (drop c.loop-name.name-index c.args.names.now))
    c.loop-name.left.now c.in_default.ensures.cases))
    ∙ c.loop-name.invariant
