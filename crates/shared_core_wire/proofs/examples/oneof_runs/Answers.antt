use Rattle.std.proofs.Common.{refl}
use Rattle.std.specs.Str.{is_utf8, chars}
use lib.Utf8.{encode}
use Rattle.shared_core_wire.specs.Reader.{varint_within, varint_at, key_at, bytes_at, value_with, record_with}
use Rattle.shared_core_wire.specs.Reader.{group_end_at, group_content_at, record_at, sequence_past, packed_numbers}
use Rattle.shared_core_wire.specs.Reader.{record_list}
use Rattle.shared_core_wire.specs.Acceptance.{accepts_message}
use Rattle.shared_core_wire.specs.Overlay.{message_overlay}
use Rattle.shared_core_wire.proofs.examples.oneof_runs.Goals as goal

pub returns-clause-run : goal.returns-clause-run
unfolding varint_within varint_at key_at bytes_at value_with record_with group_end_at group_content_at record_at
    sequence_past packed_numbers record_list accepts_message message_overlay is_utf8 chars encode
returns-clause-run c = (refl, refl)

pub returns-clause-outside : goal.returns-clause-outside
unfolding varint_within varint_at key_at bytes_at value_with record_with group_end_at group_content_at record_at
    sequence_past packed_numbers record_list accepts_message message_overlay is_utf8 chars encode
returns-clause-outside c = (refl, refl)

pub returns-clause-broken : goal.returns-clause-broken
unfolding varint_within varint_at key_at bytes_at value_with record_with group_end_at group_content_at record_at
    sequence_past packed_numbers record_list accepts_message message_overlay is_utf8 chars encode
returns-clause-broken c = (refl, refl)

pub returns-clause-each : goal.returns-clause-each
unfolding varint_within varint_at key_at bytes_at value_with record_with group_end_at group_content_at record_at
    sequence_past packed_numbers record_list accepts_message is_utf8 chars encode
returns-clause-each c = refl
