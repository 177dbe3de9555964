use Rattle.std.proofs.Common.{◌+◌, ◌∙◌, ap, arith, subst, sym, take}
use Rattle.std.proofs.lemmas.List.{take_all}
use Rattle.std.specs.List.{AllZip}
use Rattle.shared_core_codec.specs.LoadedRows.{rows_view}
use Rattle.shared_core_codec.specs.RowIndexes.{IsIndex}
use Rattle.shared_core_codec.specs.Tables.{are_rows}
use Rattle.shared_core_codec.proofs.Indexing.{HasIndex, all_indexes, next_index, rows_at}
use Rattle.shared_core_codec.proofs.row_index.indexes_of.Goals as goal

pub index_of-requires : goal.index_of-requires
index_of-requires c =
    ap (λ rows. are_rows (rows_view rows)) c.as_slice.ensures.value
    ∙ (ap (λ rows. are_rows (rows_view rows.items)) c.rows-item.is
    ∙ rows_at c.args.schemas.now c.loop-rows.rows-index _ c.requires (omega (arith, c.loop-rows-test.true)))

pub loop-rows-preserved : goal.loop-rows-preserved
loop-rows-preserved c =
    subst (λ indexes. AllZip HasIndex (take (c.loop-rows.rows-index + 1) c.args.schemas.now) indexes)
    (sym c.in_ok-push.ensures.items)
    (next_index c.args.schemas.now c.loop-rows.indexes.items c.loop-rows.rows-index c.rows-item.result
    c.in_ok-index.index (omega (arith, c.loop-rows-test.true)) c.rows-item.is c.loop-rows.invariant
    (subst (λ rows. IsIndex (rows_view rows) c.in_ok-index.index.items) c.as_slice.ensures.value
    c.in_ok-index.ensures))

pub returns : goal.returns
returns c = all_indexes c.args.schemas.now c.loop-rows.indexes.items
    (subst (λ schemas. AllZip HasIndex schemas c.loop-rows.indexes.items) (take_all c.loop-rows.rows-index
    c.args.schemas.now (omega (arith, c.loop-rows-test.false))) c.loop-rows.invariant)
