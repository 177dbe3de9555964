use Rattle.std.proofs.Common.{◌≡◌, take}
use Rattle.std.specs.List.{concat}
use Rattle.shared_core_stream.specs.Items.{SplitsInto}
use Rattle.shared_core_stream.specs.Unread.{IsUnlimited}
use Rattle.shared_core_stream.proofs.encoding.chunks.decode_pieces.Given as goal

abbrev pub invariant-loop-chunk : goal.invariant-loop-chunk
invariant-loop-chunk l =
    (l.decoder.version ≡ l.fn.version)
    × SplitsInto l.fn.version (concat (take l.chunk-index l.chunks)) l.items.items l.decoder.bytes
    × IsUnlimited l.decoder
