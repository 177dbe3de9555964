use Rattle.std.proofs.Common.{◌≡◌, ◌++◌}
use Rattle.std.specs.Prelude.{string_bytes}
use Rattle.shared_core_codec.specs.Payloads.{payload_meaning}
use Rattle.shared_core_fields.specs.Views.{fields_left}
use Rattle.show_lines.specs.Contents.{fields_text, value_fields}
use Rattle.show_lines.proofs.contents.push_fields.Given as goal

abbrev pub invariant-loop-field : goal.invariant-loop-field
invariant-loop-field l = string_bytes l.line ++ fields_text l.role l.payload.schema (fields_left l.field-iterator)
    ≡ string_bytes l.initial.line ++ fields_text l.role l.payload.schema
    (value_fields l.payload.schema (payload_meaning l.payload.schema l.payload.bytes.now))
