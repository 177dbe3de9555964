use Rattle.std.proofs.Common.{refl, arith}
use Rattle.shared_core_wire.specs.Canonical.{part_values}
use Rattle.shared_core_wire.specs.Encoding.{shortest_within, shortest_varint}
use Rattle.shared_core_wire.proofs.Shortest.{shortest_small, shortest_greatest}
use Rattle.shared_core_wire.proofs.examples.canonical_payloads.Goals as goal

pub returns-clause-empty_message : goal.returns-clause-empty_message
unfolding part_values shortest_within shortest_varint
returns-clause-empty_message c = refl

pub returns-clause-default_member : goal.returns-clause-default_member
unfolding part_values shortest_within shortest_varint
returns-clause-default_member c = refl

pub returns-clause-defaults_left_out : goal.returns-clause-defaults_left_out
unfolding part_values shortest_within shortest_varint
returns-clause-defaults_left_out c = refl

pub returns-clause-negative_enum : goal.returns-clause-negative_enum
unfolding part_values
returns-clause-negative_enum c = rw (shortest_small 72 (omega arith), shortest_greatest) refl

pub returns-clause-present_empty : goal.returns-clause-present_empty
unfolding part_values shortest_within shortest_varint
returns-clause-present_empty c = refl

pub returns-clause-message_member : goal.returns-clause-message_member
unfolding part_values shortest_within shortest_varint
returns-clause-message_member c = refl

pub returns-clause-two_byte_key : goal.returns-clause-two_byte_key
unfolding part_values shortest_within shortest_varint
returns-clause-two_byte_key c = refl

pub returns-clause-plain_text : goal.returns-clause-plain_text
unfolding part_values shortest_within shortest_varint
returns-clause-plain_text c = refl

pub returns-clause-packed_run : goal.returns-clause-packed_run
unfolding part_values shortest_within shortest_varint
returns-clause-packed_run c = refl

pub returns-clause-tree : goal.returns-clause-tree
unfolding part_values shortest_within shortest_varint
returns-clause-tree c = refl
