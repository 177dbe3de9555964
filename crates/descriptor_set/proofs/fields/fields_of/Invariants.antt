use Rattle.descriptor_set.specs.FieldReading.{IsField}
use Rattle.descriptor_set.specs.Reading.{contents_left}
use Rattle.descriptor_set.specs.Values.{contents_in}
use Rattle.descriptor_set.proofs.Readings.{Lists}
use Rattle.descriptor_set.proofs.fields.fields_of.Given as goal

abbrev pub invariant-loop-content : goal.invariant-loop-content
invariant-loop-content l =
    Lists (IsField l.is_proto3) (contents_in 2 l.bytes) (contents_left l.content-iterator) l.fields.items
