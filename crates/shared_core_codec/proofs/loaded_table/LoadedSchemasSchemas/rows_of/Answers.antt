use Rattle.std.proofs.Common.{◌∙◌, ap, arith}
use Rattle.shared_core_codec.specs.LoadedRows.{rows_view}
use Rattle.shared_core_codec.proofs.Checked.{at_index, past_end}
use Rattle.shared_core_codec.proofs.loaded_table.LoadedSchemasSchemas.rows_of.Goals as goal

pub returns-then-place-len : goal.returns-then-place-len
returns-then-place-len c =
    ap rows_view c.as_slice.ensures.value ∙ ap (λ rows. rows_view rows.items) c.index.ensures ∙ at_index
    (λ rows. rows_view rows.items) c.args.self.now.schemas.items c.args.schema _ (omega (
      arith,
      c.if-place-len.true,
      c.len.ensures,
    ))

pub returns-else-place-len : goal.returns-else-place-len
returns-else-place-len c = past_end (λ rows. rows_view rows.items) c.args.self.now.schemas.items c.args.schema
    (omega (arith, c.if-place-len.false, c.len.ensures))
