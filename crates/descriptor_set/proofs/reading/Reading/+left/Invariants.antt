use Rattle.std.proofs.Common.{◌+◌, ◌*◌, [], flat_map}
use Rattle.descriptor_set.specs.Reading.{around, contents_left}
use Rattle.descriptor_set.specs.Sets.{each_at, enums_at, messages_at, messages_within, nested_enums}
use Rattle.descriptor_set.proofs.Readings.{Goes}
use Rattle.descriptor_set.proofs.reading.Reading.+left.Given as goal

abbrev pub decreases-append_message : goal.decreases-append_message
decreases-append_message l = 2 * l.left + 1

abbrev pub decreases-append_messages : goal.decreases-append_messages
decreases-append_messages l = 2 * l.left

abbrev pub invariant-append_messages-loop-content : goal.invariant-append_messages-loop-content
invariant-append_messages-loop-content l =
    Goes [] (messages_within l.left (around l.scope) l.field l.bytes)
    (nested_enums l.left l.scope.name.now l.field l.bytes) []
    (each_at (messages_at l.below (around l.scope)) l.scope.path.now l.field l.index (contents_left l.content-iterator))
    (flat_map (enums_at l.below l.scope.name.now) (contents_left l.content-iterator)) l.fn.self l.self
