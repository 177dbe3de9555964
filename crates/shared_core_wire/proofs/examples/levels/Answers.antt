use Rattle.std.proofs.Common.{refl}
use Rattle.shared_core_wire.specs.Reader.{varint_within, varint_at, key_at, bytes_at, value_with, record_with}
use Rattle.shared_core_wire.specs.Reader.{group_end_at, group_content_at, record_at, sequence_past, packed_numbers}
use Rattle.shared_core_wire.specs.Reader.{record_list}
use Rattle.shared_core_wire.specs.Acceptance.{accepts_message}
use Rattle.shared_core_wire.specs.Encoding.{shortest_within, shortest_varint}
use Rattle.shared_core_wire.proofs.examples.levels.Goals as goal

pub returns-clause-messages : goal.returns-clause-messages
unfolding varint_within varint_at key_at bytes_at value_with record_with group_end_at group_content_at record_at
    sequence_past packed_numbers record_list accepts_message shortest_within shortest_varint
returns-clause-messages c = refl

pub returns-clause-more_messages : goal.returns-clause-more_messages
unfolding varint_within varint_at key_at bytes_at value_with record_with group_end_at group_content_at record_at
    sequence_past packed_numbers record_list accepts_message shortest_within shortest_varint
returns-clause-more_messages c = refl

pub returns-clause-groups : goal.returns-clause-groups
unfolding varint_within varint_at key_at bytes_at value_with record_with group_end_at group_content_at record_at
    sequence_past packed_numbers record_list accepts_message shortest_within shortest_varint
returns-clause-groups c = refl

pub returns-clause-more_groups : goal.returns-clause-more_groups
unfolding varint_within varint_at key_at bytes_at value_with record_with group_end_at group_content_at record_at
    sequence_past packed_numbers record_list accepts_message shortest_within shortest_varint
returns-clause-more_groups c = refl

pub returns-clause-group_below : goal.returns-clause-group_below
unfolding varint_within varint_at key_at bytes_at value_with record_with group_end_at group_content_at record_at
    sequence_past packed_numbers record_list accepts_message shortest_within shortest_varint
returns-clause-group_below c = refl

pub returns-clause-groups_below : goal.returns-clause-groups_below
unfolding varint_within varint_at key_at bytes_at value_with record_with group_end_at group_content_at record_at
    sequence_past packed_numbers record_list accepts_message shortest_within shortest_varint
returns-clause-groups_below c = refl
