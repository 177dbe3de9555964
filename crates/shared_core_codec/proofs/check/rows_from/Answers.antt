use Rattle.std.proofs.Common.{◌≡◌, ◌∙◌, List, map, drop, length, refl, sym, ap, arith}
use Rattle.std.proofs.lemmas.List.{drop-map, length-map}
use Rattle.shared_core_wire.specs.Acceptance.{accepts_record}
use Rattle.shared_core_wire.specs.Schema.{Row, all_numbers, are_distinct}
use Rattle.shared_core_codec.specs.Checking.{field_record_of}
use Rattle.shared_core_codec.proofs.Checked.{distinct_rows}
use Rattle.shared_core_codec.proofs.PassedRows.{others_accept, others_distinct}
use Rattle.shared_core_codec.proofs.check.rows_from.Goals as goal

pub rows_after-requires : goal.rows_after-requires
rows_after-requires g c =
    omega (
      arith,
      c.rows_before.ensures.within,
      ap (λ (rows : List Row). length rows) c.requires,
      length-map c.args.rows.now g.T.Row.SchemaRow.view,
    )

pub returns-clause-distinct : goal.returns-clause-distinct
returns-clause-distinct g c =
    let view = g.T.Row.SchemaRow.view in
    let rows = g.T.Schemas.table c.args.schemas.now c.args.schema in
    let count = c.rows_before.result in
    let others : map view c.rows_after.result.now ≡ drop count rows =
    ap (map view) c.rows_after.ensures ∙ (sym (drop-map view count c.args.rows.now) ∙ ap (drop count) c.requires) in
    ap (λ (ks : List Row). are_distinct (all_numbers ks)) others
    ∙ others_distinct count rows (distinct_rows (g.T.Schemas.table c.args.schemas.now)
    (g.met.T.Schemas.valid c.args.schemas.now) c.args.schema rows refl)

pub returns-clause-same : goal.returns-clause-same
returns-clause-same g c =
    let view = g.T.Row.SchemaRow.view in
    let rows = g.T.Schemas.table c.args.schemas.now c.args.schema in
    let count = c.rows_before.result in
    let others : map view c.rows_after.result.now ≡ drop count rows =
    ap (map view) c.rows_after.ensures ∙ (sym (drop-map view count c.args.rows.now) ∙ ap (drop count) c.requires) in
    λ nested. ap (λ (ks : List Row). accepts_record nested ks (field_record_of c.args.found.now)) others
    ∙ others_accept nested (field_record_of c.args.found.now) count rows c.rows_before.ensures.lack
