use Rattle.std.proofs.Common.{◌++◌, ◌∙◌, ap, sym, append-nil, drop}
use Rattle.schema_lines.specs.MessageNames.{texts}
use Rattle.schema_lines.specs.Named.{filled}
use Rattle.schema_lines.proofs.Steps.{filled_none}
use Rattle.schema_lines.proofs.named.filled.Goals as goal

pub returns-in_default : goal.returns-in_default
returns-in_default c =
    sym (append-nil c.loop-name.all.items)
    ∙ ap (λ rest. c.loop-name.all.items ++ rest)
    (sym (filled_none c.args.messages.now.set.now c.as_slice-taken.result.now
    (texts (drop c.loop-name.name-index c.args.names.now)) c.loop-name.left.now c.in_default.ensures.cases))
    ∙ c.loop-name.invariant
    ∙ ap (λ taken. filled c.args.messages.now.set.now taken (texts c.args.names.now) c.args.renamed.now.named.items)
    c.as_slice-taken.ensures.value
