use Rattle.std.proofs.Common.{refl}
use Rattle.shared_core_wire.specs.Reader.{varint_within, varint_at, key_at, bytes_at, value_with, record_with}
use Rattle.shared_core_wire.specs.Reader.{group_end_at, group_content_at, record_at, sequence_past, packed_numbers}
use Rattle.shared_core_wire.specs.Reader.{record_list}
use Rattle.shared_core_wire.specs.Acceptance.{accepts_message}
use Rattle.shared_core_wire.specs.Overlay.{message_overlay}
use Rattle.shared_core_wire.proofs.examples.numbers.Goals as goal

pub returns-clause-longer : goal.returns-clause-longer
unfolding varint_within varint_at key_at bytes_at value_with record_with group_end_at group_content_at record_at
    sequence_past packed_numbers record_list accepts_message message_overlay
returns-clause-longer c = (refl, refl)

pub returns-clause-longer_key : goal.returns-clause-longer_key
unfolding varint_within varint_at key_at bytes_at value_with record_with group_end_at group_content_at record_at
    sequence_past packed_numbers record_list accepts_message message_overlay
returns-clause-longer_key c = (refl, refl)

pub returns-clause-low : goal.returns-clause-low
unfolding varint_within varint_at key_at bytes_at value_with record_with group_end_at group_content_at record_at
    sequence_past packed_numbers record_list accepts_message message_overlay
returns-clause-low c = (refl, refl)

pub returns-clause-longest_zero : goal.returns-clause-longest_zero
unfolding varint_within varint_at key_at bytes_at value_with record_with group_end_at group_content_at record_at
    sequence_past packed_numbers record_list accepts_message message_overlay
returns-clause-longest_zero c = (refl, refl)

pub returns-clause-no_low : goal.returns-clause-no_low
unfolding varint_within varint_at key_at bytes_at value_with record_with group_end_at group_content_at record_at
    sequence_past packed_numbers record_list accepts_message message_overlay
returns-clause-no_low c = (refl, refl)

pub returns-clause-wide : goal.returns-clause-wide
unfolding varint_within varint_at key_at bytes_at value_with record_with group_end_at group_content_at record_at
    sequence_past packed_numbers record_list accepts_message
returns-clause-wide c = refl

pub returns-clause-wide_zero : goal.returns-clause-wide_zero
unfolding varint_within varint_at key_at bytes_at value_with record_with group_end_at group_content_at record_at
    sequence_past packed_numbers record_list accepts_message
returns-clause-wide_zero c = refl

pub returns-clause-other_type : goal.returns-clause-other_type
unfolding varint_within varint_at key_at bytes_at value_with record_with group_end_at group_content_at record_at
    sequence_past packed_numbers record_list accepts_message
returns-clause-other_type c = refl

pub returns-clause-cut : goal.returns-clause-cut
unfolding varint_within varint_at key_at bytes_at value_with record_with group_end_at group_content_at record_at
    sequence_past packed_numbers record_list accepts_message
returns-clause-cut c = refl
