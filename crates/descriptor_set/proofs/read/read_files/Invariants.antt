use Rattle.std.proofs.Common.{flat_map, length, map}
use Rattle.descriptor_set.specs.Reading.{contents_left}
use Rattle.descriptor_set.specs.Sets.{enums_of, file_enums, files_messages, messages_of}
use Rattle.descriptor_set.specs.Values.{contents_in, text_in}
use Rattle.descriptor_set.proofs.Readings.{Goes}
use Rattle.descriptor_set.proofs.read.read_files.Given as goal

abbrev pub invariant-loop-content : goal.invariant-loop-content
invariant-loop-content l =
    Goes (map (text_in 1) (contents_in 1 l.set)) (messages_of l.set) (enums_of l.set)
    (map (text_in 1) (contents_left l.content-iterator))
    (files_messages (length l.read.files.items) (contents_left l.content-iterator))
    (flat_map file_enums (contents_left l.content-iterator)) l.initial.read l.read
