use Rattle.std.proofs.Common.{◌∙◌, ap, arith}
use Rattle.shared_core_json.specs.Fields.{names_at, names_view}
use Rattle.shared_core_json.proofs.NamesAt.{at_index, past_end}
use Rattle.shared_core_json.proofs.names.names_of.Goals as goal

pub returns-then-place-names : goal.returns-then-place-names
returns-then-place-names c =
    at_index names_view c.names-names.result.now c.args.schema _ c.if-place-names.true ∙ ap
    (λ ls. names_at ls c.args.schema) c.names-names.ensures

pub returns-else-place-names : goal.returns-else-place-names
returns-else-place-names c = past_end names_view c.names-names.result.now c.args.schema
    (omega (arith, c.if-place-names.false)) ∙ ap (λ ls. names_at ls c.args.schema) c.names-names.ensures
