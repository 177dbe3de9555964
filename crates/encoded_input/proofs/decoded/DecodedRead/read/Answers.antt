use Rattle.encoded_input.proofs.Reading.{end_sound, fault_told}
use Rattle.encoded_input.proofs.decoded.DecodedRead.read.Goals as goal

pub returns-in-Some-clause-fault : goal.returns-in-Some-clause-fault
returns-in-Some-clause-fault g c =
    rw c.in-Some.is (fault_told c.read_decoded.new.position _ _ c.read_decoded.ensures.same)

pub returns-in-Some-clause-sound : goal.returns-in-Some-clause-sound
returns-in-Some-clause-sound g c end room =
    rw c.in-Some.is (end_sound c.read_decoded.new.position _ _ c.read_decoded.ensures.same
    (c.read_decoded.ensures.all end room) (c.read_decoded.ensures.end end room))
