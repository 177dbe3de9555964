use Rattle.std.proofs.Common.{[], length, map, refl, sym, subst, ap, ◌∙◌, arith}
use Rattle.shared_core_wire.specs.Reader.{record_at}
use Rattle.shared_core_wire.specs.ReadRecords.{read_records, records_past}
use Rattle.shared_core_wire.proofs.Places.{read_lie}
use Rattle.shared_core_codec.specs.Canonicity.{IsCanonicalIn}
use Rattle.shared_core_codec.specs.Tables.{IsTable}
use Rattle.shared_core_codec.proofs.CanonicityIn.{sound}
use Rattle.shared_core_fields.specs.Coming.{are_coming_in}
use Rattle.shared_core_fields.specs.Views.{EachIsAt, unplaced, item_fields_in, given_left}
use Rattle.shared_core_fields.proofs.Reading.{reads, each_at, each_of, given_back}
use Rattle.shared_core_fields.proofs.fields.Fields.new.Goals as goal

pub invariant_of-result : goal.invariant_of-result
unfolding read_records
invariant_of-result g c =
    let table = g.T.Tabled.table_of c.args.schemas in
    let valid = subst IsTable (sym (g.met.T.PayloadTable.same c.args.schemas)) (g.met.T.Schemas.valid c.args.schemas) in
    let s = c.args.schema in
    let bytes = c.args.bytes.now in
    let canonical : IsCanonicalIn table s bytes = sound table valid s bytes (λ i. omega (arith, c.type_inv.bytes i))
    c.requires.short c.requires.canonical in
    let read = reads table valid s bytes canonical (read_lie 0 (length bytes) bytes [] bytes (omega arith) refl) in
    record {
      inside = omega arith;
      coming = ap (λ rows. are_coming_in table rows (records_past (record_at 0) (length bytes) 0 bytes))
          c.requires.rows ∙ read.coming;
    }

pub returns-clause-places : goal.returns-clause-places
unfolding given_left
returns-clause-places g c =
    let table = g.T.Tabled.table_of c.args.schemas in
    let bytes = c.args.bytes.now in
    let rows = map g.T.Row.SchemaRow.view c.args.rows.now in
    let items = records_past (record_at 0) (length bytes) 0 bytes in
    subst (EachIsAt bytes) (sym (given_back c.args.schemas (item_fields_in table rows items)))
    (each_at table bytes rows items (read_lie 0 (length bytes) bytes [] bytes (omega arith) refl))

pub returns-clause-schemas : goal.returns-clause-schemas
unfolding given_left
returns-clause-schemas g c =
    let bytes = c.args.bytes.now in
    each_of c.args.schemas (item_fields_in (g.T.Tabled.table_of c.args.schemas)
    (map g.T.Row.SchemaRow.view c.args.rows.now) (records_past (record_at 0) (length bytes) 0 bytes))

pub returns-clause-fields : goal.returns-clause-fields
unfolding given_left read_records
returns-clause-fields g c =
    let table = g.T.Tabled.table_of c.args.schemas in
    let valid = subst IsTable (sym (g.met.T.PayloadTable.same c.args.schemas)) (g.met.T.Schemas.valid c.args.schemas) in
    let s = c.args.schema in
    let bytes = c.args.bytes.now in
    let canonical : IsCanonicalIn table s bytes = sound table valid s bytes (λ i. omega (arith, c.type_inv.bytes i))
    c.requires.short c.requires.canonical in
    let read = reads table valid s bytes canonical (read_lie 0 (length bytes) bytes [] bytes (omega arith) refl) in
    let items = records_past (record_at 0) (length bytes) 0 bytes in
    let rows = map g.T.Row.SchemaRow.view c.args.rows.now in
    ap (map unplaced) (given_back c.args.schemas (item_fields_in table rows items))
    ∙ ap (λ rs. map unplaced (item_fields_in table rs items)) c.requires.rows ∙ read.fields
