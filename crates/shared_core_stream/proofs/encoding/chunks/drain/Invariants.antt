use Rattle.std.proofs.Common.{◌≡◌, List, ℕ, length}
use Rattle.shared_core_stream.specs.Items.{IsItemsThen}
use Rattle.shared_core_stream.specs.Unread.{IsUnlimited}
use Rattle.shared_core_stream.proofs.encoding.chunks.drain.Given as goal

abbrev pub invariant-loop-item : goal.invariant-loop-item
invariant-loop-item l =
    (l.decoder.version ≡ l.fn.decoder.version) × IsUnlimited l.decoder
    × ((stream : List ℕ) → IsItemsThen l.fn.decoder.version stream l.fn.items.items l.fn.decoder.bytes → IsItemsThen
    l.fn.decoder.version stream l.items.items l.decoder.bytes)

abbrev pub decreases-loop-item : goal.decreases-loop-item
decreases-loop-item l = length l.decoder.bytes
