use Rattle.std.proofs.Common.{refl}
use Rattle.shared_core_wire.specs.Reader.{varint_within, varint_at, key_at, bytes_at, value_with, record_with}
use Rattle.shared_core_wire.specs.Reader.{group_end_at, group_content_at, record_at, sequence_past, packed_numbers}
use Rattle.shared_core_wire.specs.Reader.{record_list}
use Rattle.shared_core_wire.specs.Overlay.{message_overlay}
use Rattle.shared_core_wire.proofs.examples.merged_messages.Goals as goal

pub returns-clause-element : goal.returns-clause-element
unfolding varint_within varint_at key_at bytes_at value_with record_with group_end_at group_content_at record_at
    sequence_past packed_numbers record_list message_overlay
returns-clause-element c = refl

pub returns-clause-second : goal.returns-clause-second
unfolding varint_within varint_at key_at bytes_at value_with record_with group_end_at group_content_at record_at
    sequence_past packed_numbers record_list message_overlay
returns-clause-second c = refl

pub returns-clause-nothing : goal.returns-clause-nothing
unfolding varint_within varint_at key_at bytes_at value_with record_with group_end_at group_content_at record_at
    sequence_past packed_numbers record_list message_overlay
returns-clause-nothing c = refl

pub returns-clause-empty_element : goal.returns-clause-empty_element
unfolding varint_within varint_at key_at bytes_at value_with record_with group_end_at group_content_at record_at
    sequence_past packed_numbers record_list message_overlay
returns-clause-empty_element c = refl
