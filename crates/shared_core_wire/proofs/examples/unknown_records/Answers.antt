use Rattle.std.proofs.Common.{refl}
use Rattle.shared_core_wire.specs.Reader.{varint_within, varint_at, key_at, bytes_at, value_with, record_with}
use Rattle.shared_core_wire.specs.Reader.{group_end_at, group_content_at, record_at, sequence_past, packed_numbers}
use Rattle.shared_core_wire.specs.Reader.{record_list}
use Rattle.shared_core_wire.specs.Acceptance.{accepts_message}
use Rattle.shared_core_wire.specs.Overlay.{message_overlay}
use Rattle.shared_core_wire.proofs.examples.unknown_records.Goals as goal

pub returns-clause-greatest : goal.returns-clause-greatest
unfolding varint_within varint_at key_at bytes_at value_with record_with group_end_at group_content_at record_at
    sequence_past packed_numbers record_list accepts_message message_overlay
returns-clause-greatest c = (refl, refl)

pub returns-clause-wide_key : goal.returns-clause-wide_key
unfolding varint_within varint_at key_at bytes_at value_with record_with group_end_at group_content_at record_at
    sequence_past packed_numbers record_list accepts_message
returns-clause-wide_key c = refl

pub returns-clause-number_zero : goal.returns-clause-number_zero
unfolding varint_within varint_at key_at bytes_at value_with record_with group_end_at group_content_at record_at
    sequence_past packed_numbers record_list accepts_message
returns-clause-number_zero c = refl

pub returns-clause-no_wire_type : goal.returns-clause-no_wire_type
unfolding varint_within varint_at key_at bytes_at value_with record_with group_end_at group_content_at record_at
    sequence_past packed_numbers record_list accepts_message
returns-clause-no_wire_type c = refl

pub returns-clause-end_alone : goal.returns-clause-end_alone
unfolding varint_within varint_at key_at bytes_at value_with record_with group_end_at group_content_at record_at
    sequence_past packed_numbers record_list accepts_message
returns-clause-end_alone c = refl

pub returns-clause-no_end : goal.returns-clause-no_end
unfolding varint_within varint_at key_at bytes_at value_with record_with group_end_at group_content_at record_at
    sequence_past packed_numbers record_list accepts_message
returns-clause-no_end c = refl

pub returns-clause-other_end : goal.returns-clause-other_end
unfolding varint_within varint_at key_at bytes_at value_with record_with group_end_at group_content_at record_at
    sequence_past packed_numbers record_list accepts_message
returns-clause-other_end c = refl

pub returns-clause-group : goal.returns-clause-group
unfolding varint_within varint_at key_at bytes_at value_with record_with group_end_at group_content_at record_at
    sequence_past packed_numbers record_list accepts_message message_overlay
returns-clause-group c = (refl, refl)

pub returns-clause-bytes : goal.returns-clause-bytes
unfolding varint_within varint_at key_at bytes_at value_with record_with group_end_at group_content_at record_at
    sequence_past packed_numbers record_list accepts_message message_overlay
returns-clause-bytes c = (refl, refl)

pub returns-clause-four_bytes : goal.returns-clause-four_bytes
unfolding varint_within varint_at key_at bytes_at value_with record_with group_end_at group_content_at record_at
    sequence_past packed_numbers record_list accepts_message message_overlay
returns-clause-four_bytes c = (refl, refl)

pub returns-clause-three_bytes : goal.returns-clause-three_bytes
unfolding varint_within varint_at key_at bytes_at value_with record_with group_end_at group_content_at record_at
    sequence_past packed_numbers record_list accepts_message
returns-clause-three_bytes c = refl

pub returns-clause-known_group : goal.returns-clause-known_group
unfolding varint_within varint_at key_at bytes_at value_with record_with group_end_at group_content_at record_at
    sequence_past packed_numbers record_list accepts_message
returns-clause-known_group c = refl
