use Rattle.descriptor_set.specs.Reading.{contents_left}
use Rattle.descriptor_set.specs.Sets.{IsValue}
use Rattle.descriptor_set.specs.Values.{contents_in}
use Rattle.descriptor_set.proofs.Readings.{Lists}
use Rattle.descriptor_set.proofs.reading.values_of.Given as goal

abbrev pub invariant-loop-content : goal.invariant-loop-content
invariant-loop-content l =
    Lists IsValue (contents_in 2 l.bytes) (contents_left l.content-iterator) l.values.items
