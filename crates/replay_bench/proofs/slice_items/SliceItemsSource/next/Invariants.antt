use Rattle.std.proofs.Common.{◌≡◌, ◌++◌, length}
use Rattle.std.specs.List.{concat}
use Rattle.replay_bench.proofs.slice_items.SliceItemsSource.next.Given as goal

abbrev pub invariant-loop-item : goal.invariant-loop-item
invariant-loop-item l = record {
  version : l.self.decoder.version ≡ l.fn.self.decoder.version;
  same : l.self.decoder.bytes ++ concat l.self.chunks.now ≡ l.fn.self.decoder.bytes ++ concat l.fn.self.chunks.now;
}

abbrev pub decreases-loop-item : goal.decreases-loop-item
decreases-loop-item l = length l.self.chunks.now
