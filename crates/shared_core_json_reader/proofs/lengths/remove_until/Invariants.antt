use Rattle.std.proofs.Common.{◌≡◌, ◌+◌, ◌≤◌, length, max, take, drop}
use Rattle.shared_core_json_reader.proofs.lengths.remove_until.Given as goal

abbrev pub invariant-loop-more : goal.invariant-loop-more
invariant-loop-more l =
    (l.at + l.more ≤ length l.out.items)
    × (take l.at l.out.items ≡ take l.at l.initial.out.items)
    × (drop (l.at + l.more) l.out.items ≡ drop (max l.at l.end) l.initial.out.items)

abbrev pub decreases-loop-more : goal.decreases-loop-more
decreases-loop-more l = l.more
