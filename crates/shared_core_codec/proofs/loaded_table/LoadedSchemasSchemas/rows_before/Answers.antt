use Rattle.std.proofs.Common.{◌∙◌, ap, arith, subst, sym}
use Rattle.shared_core_wire.specs.Schema.{table_of}
use Rattle.shared_core_codec.specs.LoadedRows.{schemas_view}
use Rattle.shared_core_codec.specs.RowIndexes.{IsIndex}
use Rattle.shared_core_codec.proofs.Indexing.{index_is}
use Rattle.shared_core_codec.proofs.loaded_table.LoadedSchemasSchemas.rows_before.Goals as goal

pub rows_before-requires : goal.rows_before-requires
rows_before-requires c =
    let loaded = c.args.self.now in
    let index = c.as_slice.ensures.value ∙ ap (λ index. index.items) c.index.ensures
    ∙ index_is loaded.indexes.items c.args.schema _ (omega (arith, c.if-place-len.true, c.len.ensures)) in
    subst (λ rows. IsIndex rows c.as_slice.result.now) (sym c.rows_of.ensures)
    (subst (λ places. IsIndex (table_of (schemas_view loaded.schemas.items) c.args.schema) places) (sym index)
    (loaded.indexed c.args.schema))
