use Rattle.std.proofs.Common.{◌∙◌, ap, arith}
use Rattle.shared_core_wire.specs.Schema.{table_of}
use Rattle.shared_core_codec.specs.ProgramRows.{rows_view}
use Rattle.shared_core_codec.proofs.Checked.{at_index, past_end}
use Rattle.shared_core_codec.proofs.rows.rows_of.Goals as goal

pub returns-then-place-schemas : goal.returns-then-place-schemas
returns-then-place-schemas c =
    at_index rows_view c.schemas-schemas.result.now c.args.schema _ c.if-place-schemas.true ∙ ap
    (λ ls. table_of ls c.args.schema) c.schemas-schemas.ensures

pub returns-else-place-schemas : goal.returns-else-place-schemas
returns-else-place-schemas c = past_end rows_view c.schemas-schemas.result.now c.args.schema
    (omega (arith, c.if-place-schemas.false)) ∙ ap (λ ls. table_of ls c.args.schema) c.schemas-schemas.ensures
