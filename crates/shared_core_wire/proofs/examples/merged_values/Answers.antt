use Rattle.std.proofs.Common.{refl}
use Rattle.shared_core_wire.specs.Reader.{varint_within, varint_at, key_at, bytes_at, value_with, record_with}
use Rattle.shared_core_wire.specs.Reader.{group_end_at, group_content_at, record_at, sequence_past, packed_numbers}
use Rattle.shared_core_wire.specs.Reader.{record_list}
use Rattle.shared_core_wire.specs.Overlay.{message_overlay}
use Rattle.shared_core_wire.proofs.examples.merged_values.Goals as goal

pub returns-clause-same : goal.returns-clause-same
unfolding varint_within varint_at key_at bytes_at value_with record_with group_end_at group_content_at record_at
    sequence_past packed_numbers record_list message_overlay
returns-clause-same c = refl

pub returns-clause-broken : goal.returns-clause-broken
unfolding varint_within varint_at key_at bytes_at value_with record_with group_end_at group_content_at record_at
    sequence_past packed_numbers record_list message_overlay
returns-clause-broken c = refl

pub returns-clause-other : goal.returns-clause-other
unfolding varint_within varint_at key_at bytes_at value_with record_with group_end_at group_content_at record_at
    sequence_past packed_numbers record_list message_overlay
returns-clause-other c = refl

pub returns-clause-joined : goal.returns-clause-joined
unfolding varint_within varint_at key_at bytes_at value_with record_with group_end_at group_content_at record_at
    sequence_past packed_numbers record_list message_overlay
returns-clause-joined c = refl

pub returns-clause-last_run : goal.returns-clause-last_run
unfolding varint_within varint_at key_at bytes_at value_with record_with group_end_at group_content_at record_at
    sequence_past packed_numbers record_list message_overlay
returns-clause-last_run c = refl

pub returns-clause-elements : goal.returns-clause-elements
unfolding varint_within varint_at key_at bytes_at value_with record_with group_end_at group_content_at record_at
    sequence_past packed_numbers record_list message_overlay
returns-clause-elements c = refl
