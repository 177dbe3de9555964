use Rattle.std.proofs.Common.{[], map}
use Rattle.descriptor_set.specs.Reading.{contents_left}
use Rattle.descriptor_set.specs.Sets.{enum_at}
use Rattle.descriptor_set.specs.Values.{contents_in}
use Rattle.descriptor_set.proofs.Readings.{Goes}
use Rattle.descriptor_set.proofs.reading.Reading.append_enums.Given as goal

abbrev pub invariant-loop-content : goal.invariant-loop-content
invariant-loop-content l =
    Goes [] [] (map (enum_at l.scope.name.now) (contents_in l.field l.bytes)) [] []
    (map (enum_at l.scope.name.now) (contents_left l.content-iterator)) l.fn.self l.self
