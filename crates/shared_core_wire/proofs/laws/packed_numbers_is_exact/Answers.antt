use Rattle.shared_core_wire.proofs.Sequences.{packed_reads, packed_again}
use Rattle.shared_core_wire.proofs.laws.packed_numbers_is_exact.Goals as goal

pub returns : goal.returns
returns c bytes ns = (packed_reads bytes ns, packed_again bytes ns)
