-- What is wrong with an item, as a fault of its stream.
use Rattle.replay_bench.specs.declared.faults.FaultReason.{FaultReason}
use Rattle.replay_bench.specs.declared.faults.FaultReason.TheVariants.{UnknownHeader, Malformed}
use Rattle.stream_lines.specs.declared.report.Trouble.{Trouble}
use Rattle.stream_lines.specs.declared.report.Trouble.TheVariants.{UnknownCode, Malformed as MalformedPayload}

-- What is wrong with an item, in the words of a comparison.
abbrev pub reason_of : Trouble → FaultReason
reason_of (UnknownCode code) = UnknownHeader code
reason_of (MalformedPayload ty) = Malformed ty
