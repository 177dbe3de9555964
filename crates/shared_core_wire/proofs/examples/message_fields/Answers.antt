use Rattle.std.proofs.Common.{refl}
use Rattle.shared_core_wire.specs.Reader.{varint_within, varint_at, key_at, bytes_at, value_with, record_with}
use Rattle.shared_core_wire.specs.Reader.{group_end_at, group_content_at, record_at, sequence_past, packed_numbers}
use Rattle.shared_core_wire.specs.Reader.{record_list}
use Rattle.shared_core_wire.specs.Acceptance.{accepts_message}
use Rattle.shared_core_wire.specs.Overlay.{message_overlay}
use Rattle.shared_core_wire.proofs.examples.message_fields.Goals as goal

pub returns-clause-kept : goal.returns-clause-kept
unfolding varint_within varint_at key_at bytes_at value_with record_with group_end_at group_content_at record_at
    sequence_past packed_numbers record_list accepts_message message_overlay
returns-clause-kept c = (refl, refl)

pub returns-clause-replaced : goal.returns-clause-replaced
unfolding varint_within varint_at key_at bytes_at value_with record_with group_end_at group_content_at record_at
    sequence_past packed_numbers record_list accepts_message message_overlay
returns-clause-replaced c = (refl, refl)

pub returns-clause-long : goal.returns-clause-long
unfolding varint_within varint_at key_at bytes_at value_with record_with group_end_at group_content_at record_at
    sequence_past packed_numbers record_list accepts_message
returns-clause-long c = refl

pub returns-clause-longest : goal.returns-clause-longest
unfolding varint_within varint_at key_at bytes_at value_with record_with group_end_at group_content_at record_at
    sequence_past packed_numbers record_list accepts_message
returns-clause-longest c = refl
