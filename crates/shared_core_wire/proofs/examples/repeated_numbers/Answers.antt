use Rattle.std.proofs.Common.{refl}
use Rattle.shared_core_wire.specs.Reader.{varint_within, varint_at, key_at, bytes_at, value_with, record_with}
use Rattle.shared_core_wire.specs.Reader.{group_end_at, group_content_at, record_at, sequence_past, packed_numbers}
use Rattle.shared_core_wire.specs.Reader.{record_list}
use Rattle.shared_core_wire.specs.Acceptance.{accepts_message}
use Rattle.shared_core_wire.specs.Overlay.{message_overlay}
use Rattle.shared_core_wire.proofs.examples.repeated_numbers.Goals as goal

pub returns-clause-mixed : goal.returns-clause-mixed
unfolding varint_within varint_at key_at bytes_at value_with record_with group_end_at group_content_at record_at
    sequence_past packed_numbers record_list accepts_message message_overlay
returns-clause-mixed c = (refl, refl)

pub returns-clause-unfilled : goal.returns-clause-unfilled
unfolding varint_within varint_at key_at bytes_at value_with record_with group_end_at group_content_at record_at
    sequence_past packed_numbers record_list accepts_message
returns-clause-unfilled c = refl
