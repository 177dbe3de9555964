use Rattle.std.proofs.Common.{length}
use Rattle.shared_core_canonical.specs.Rows.{records_read}
use Rattle.shared_core_canonical.proofs.ByPlace.{in_order}
use Rattle.shared_core_renumber.specs.Written.{ranked, records_found, value_view}
use Rattle.shared_core_renumber.proofs.found.sorted_records.Goals as goal

pub returns : goal.returns
returns c =
    let source = c.args.source.now in
    in_order value_view (ranked (length c.args.own.now) (records_found source.schema c.args.own.now
    (records_read source.left source.bytes.now))) c.in_ok-found.found.items c.sort_by_place.new.placed.items
    c.in_ok-found.ensures c.in_ok-sort_by_place.ensures
