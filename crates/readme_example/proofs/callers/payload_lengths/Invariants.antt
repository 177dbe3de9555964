use Rattle.std.proofs.Common.{length}
use Rattle.readme_example.proofs.callers.payload_lengths.Given as goal

abbrev pub decreases-loop-lengths : goal.decreases-loop-lengths
decreases-loop-lengths l = length l.decoder.bytes
