use Rattle.std.proofs.Common.{map}
use Rattle.shared_core_canonical.specs.Found.{records_found}
use Rattle.shared_core_canonical.specs.Rows.{records_read}
use Rattle.shared_core_codec.specs.Checking.{field_record_of}
use Rattle.shared_core_canonical.proofs.ByPlace.{in_order}
use Rattle.shared_core_canonical.proofs.found.sorted_records.Goals as goal

pub returns : goal.returns
returns g c =
    let source = c.args.source.now in
    in_order field_record_of (records_found (map g.T.Row.SchemaRow.view c.args.rows.now) 0
    (records_read source.left source.bytes.now)) c.in_ok-found.found.items c.sort_by_place.new.placed.items
    c.in_ok-found.ensures c.in_ok-sort_by_place.ensures
