use Rattle.std.proofs.Common.{◌++◌, ◌∷◌, [], ◌∙◌, ◌+◌, None, ap, sym, append_assoc, drop, arith}
use Rattle.schema_lines.specs.MessageNames.{texts}
use Rattle.schema_lines.specs.Named.{none_of}
use Rattle.schema_lines.proofs.Steps.{none_step}
use Rattle.schema_lines.proofs.named.none_of.Goals as goal

pub loop-name-preserved : goal.loop-name-preserved
loop-name-preserved c =
    let rest = none_of (texts (drop (c.loop-name._name-index + 1) c.args.names.now)) in
    ap (λ items. items ++ rest) c.in_ok-push.ensures.items
    ∙ append_assoc c.loop-name.named.items (None ∷ []) rest
    ∙ ap (λ more. c.loop-name.named.items ++ more)
    (sym (none_step c.args.names.now c.loop-name._name-index (omega arith)))
    ∙ c.loop-name.invariant
