use Rattle.shared_core_json_reader.proofs.ShortNumbers.{Writes}
use Rattle.shared_core_json_reader.proofs.scalars.short_number.Given as goal

abbrev pub invariant-loop-byte : goal.invariant-loop-byte
invariant-loop-byte l = Writes l.text l.byte-index l.number
