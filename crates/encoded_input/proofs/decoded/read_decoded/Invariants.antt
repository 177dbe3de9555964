use Rattle.std.proofs.Common.{◌≡◌, length}
use Rattle.std.specs.Io.KnownBytes.{Keeps}
use Rattle.encoded_input.specs.Known.{decoded_known, fault_known, SameFault}
use Rattle.encoded_input.proofs.decoded.read_decoded.Given as goal

abbrev pub invariant-loop : goal.invariant-loop
invariant-loop g l = record {
  length : length l.buf ≡ length l.fn.buf;
  bytes : Keeps (decoded_known l.fn.position (g.R.Read.remaining l.fn.reader))
      (decoded_known l.position (g.R.Read.remaining l.reader));
  same : SameFault (fault_known l.fn.position (g.R.Read.remaining l.fn.reader))
      (fault_known l.position (g.R.Read.remaining l.reader));
}
