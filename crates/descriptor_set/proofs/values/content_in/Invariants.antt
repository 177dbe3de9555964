use Rattle.std.proofs.Common.{◌≡◌}
use Rattle.shared_core_wire.specs.RecordsLeft.{records_left}
use Rattle.shared_core_canonical.specs.Rows.{records_of}
use Rattle.descriptor_set.specs.Values.{content_in, contents_of, last_of}
use Rattle.descriptor_set.proofs.values.content_in.Given as goal

abbrev pub invariant-loop-item : goal.invariant-loop-item
invariant-loop-item l =
    last_of l.last (contents_of l.number (records_of (records_left l.item-iterator))) ≡ content_in l.number l.bytes
