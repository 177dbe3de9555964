use Rattle.std.proofs.Common.{◌≡◌, List, [], ◌∷◌, map, length, sym, ap, ◌∙◌, arith, rules}
use Rattle.std.proofs.lemmas.List.{nil_from_length}
use Rattle.shared_core_wire.specs.Schema.{Kind, Row, ByteString, Plain}
use Rattle.shared_core_codec.specs.ProgramRows.{kind_view, shape_view}
use Rattle.shared_core_fields.proofs.SingleBytes.{single_at}
use Rattle.shared_core_fields.proofs.table.check.single_bytes.Goals as goal

pub returns-then-from : goal.returns-then-from
returns-then-from g c =
    let n = c.in-Plain.field.now.number in
    let view = g.T.Row.SchemaRow.view in
    let none : length c.in_ok-row.others.now ≡ 0 = search rules in
    let rows : g.T.Schemas.table c.args.schemas.now c.args.schema ≡ Plain n ByteString ∷ [] = sym c.rows_of.ensures
    ∙ ap (map view) c.in_ok-row.ensures.cases.0
    ∙ ap (λ (rs : List Row). view c.in_ok-row.row.now ∷ rs) (ap (map view)
    (nil_from_length c.in_ok-row.others.now none)) ∙ ap (λ (r : Row). r ∷ []) (sym c.shape.ensures ∙ ap shape_view
    c.in-Plain.is) ∙ ap (λ (k : Kind). Plain n k ∷ []) (ap kind_view c.in-ByteString.is) in
    single_at (g.T.Schemas.table c.args.schemas.now c.args.schema) c.from-2.result c.from.result n c.args.bytes.now rows
    (omega (arith, c.if-bytes-lt3.false))
    (omega (arith, c.if-bytes-ge130.false)) c.from-2.ensures c.from.ensures
    (omega (arith, c.if-from-bytes.false)) (omega (arith, c.from-2.ensures, c.if-key-lt8.false))
    (omega (arith, c.from-2.ensures, c.if-key-ge128.false)) (omega (arith, c.if-from.true, c.from-3.ensures))
