use Rattle.std.proofs.Common.{◌≡◌, ◌++◌}
use Rattle.shared_core_wire.specs.Reader.{varint_at}
use Rattle.descriptor_set.specs.Comments.{numbers_past, packed_path}
use Rattle.descriptor_set.proofs.comments.append_numbers.Given as goal

abbrev pub invariant-loop-most : goal.invariant-loop-most
invariant-loop-most l =
    l.numbers.items ++ numbers_past l.most (varint_at l.rest) ≡ l.fn.numbers.items ++ packed_path l.bytes

abbrev pub decreases-loop-most : goal.decreases-loop-most
decreases-loop-most l = l.most
