use Rattle.std.proofs.Common.{◌≡◌, ℕ}
use Rattle.std.specs.Global.{Global}
use Rattle.std.specs.Prelude.{Vec}
use Rattle.std.specs.Option.{option_or}
use Rattle.shared_core_wire.specs.RecordsLeft.{records_left}
use Rattle.shared_core_canonical.specs.Rows.{records_of}
use Rattle.descriptor_set.specs.Comments.{found_at, locations_in, locations_of, said_at}
use Rattle.descriptor_set.specs.Values.{contents_of}
use Rattle.descriptor_set.proofs.comments.Comments.of.Given as goal

abbrev pub invariant-loop-item : goal.invariant-loop-item
invariant-loop-item l =
    (path : Vec ℕ Global) →
    option_or (found_at l.comments path.items)
    (said_at path.items (locations_of (contents_of 9 (records_of (records_left l.item-iterator)))))
    ≡ said_at path.items (locations_in l.file)
