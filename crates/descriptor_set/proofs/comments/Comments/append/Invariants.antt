use Rattle.std.proofs.Common.{◌≡◌, ℕ}
use Rattle.std.specs.Global.{Global}
use Rattle.std.specs.Prelude.{Vec}
use Rattle.std.specs.Option.{option_or}
use Rattle.shared_core_wire.specs.RecordsLeft.{records_left}
use Rattle.shared_core_canonical.specs.Rows.{records_of}
use Rattle.descriptor_set.specs.Comments.{found_at, said_at}
use Rattle.descriptor_set.specs.Values.{contents_in, contents_of}
use Rattle.descriptor_set.proofs.comments.Comments.append.Given as goal

abbrev pub invariant-loop-item : goal.invariant-loop-item
invariant-loop-item l =
    (path : Vec ℕ Global) →
    option_or (found_at l.self path.items)
    (said_at path.items (contents_of 1 (records_of (records_left l.item-iterator))))
    ≡ option_or (found_at l.fn.self path.items) (said_at path.items (contents_in 1 l.source))
