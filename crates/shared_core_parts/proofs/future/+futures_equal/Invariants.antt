use Rattle.std.proofs.Common.{◌≡◌}
use Rattle.shared_core_parts.proofs.EqualFutures.{from_same}
use Rattle.shared_core_parts.proofs.future.+futures_equal.Given as goal

abbrev pub invariant-all_equal-loop-i : goal.invariant-all_equal-loop-i
invariant-all_equal-loop-i l = from_same l.a.items l.b.items l.i ≡ from_same l.a.items l.b.items 0
