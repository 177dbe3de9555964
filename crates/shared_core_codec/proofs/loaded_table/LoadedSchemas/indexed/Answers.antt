use Rattle.std.proofs.Common.{subst}
use Rattle.shared_core_codec.specs.LoadedRows.{schemas_view}
use Rattle.shared_core_codec.specs.RowIndexes.{AreIndexes}
use Rattle.shared_core_codec.proofs.loaded_table.LoadedSchemas.indexed.Goals as goal

pub invariant_of-result : goal.invariant_of-result
invariant_of-result c = record {
  valid = c.args.self.valid;
  indexed = subst (λ schemas. AreIndexes (schemas_view schemas) c.in_ok-indexes.indexes.items)
      c.as_slice.ensures.value c.in_ok-indexes.ensures;
}
