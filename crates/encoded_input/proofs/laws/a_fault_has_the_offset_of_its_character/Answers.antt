use Rattle.encoded_input.proofs.Offsets.{fault_offset}
use Rattle.encoded_input.proofs.laws.a_fault_has_the_offset_of_its_character.Goals as goal

pub returns : goal.returns
returns c = fault_offset
