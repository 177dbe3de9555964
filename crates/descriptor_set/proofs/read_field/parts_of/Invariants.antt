use Rattle.std.proofs.Common.{◌≡◌}
use Rattle.std.specs.Prelude.{None}
use Rattle.std.specs.List.{last_or}
use Rattle.shared_core_wire.specs.RecordsLeft.{records_left}
use Rattle.shared_core_canonical.specs.Rows.{records_of}
use Rattle.descriptor_set.specs.Values.{content_in, contents_of, last_of, number_in, numbers_in, numbers_of}
use Rattle.descriptor_set.proofs.read_field.parts_of.Given as goal

abbrev pub invariant-loop-item : goal.invariant-loop-item
invariant-loop-item l =
    let rest = records_of (records_left l.item-iterator) in
    record {
      name : last_of l.parts.name.now (contents_of 1 rest) ≡ content_in 1 l.bytes;
      number : last_of l.parts.number (numbers_of 3 rest) ≡ number_in 3 l.bytes;
      label : last_of l.parts.label (numbers_of 4 rest) ≡ number_in 4 l.bytes;
      kind : last_of l.parts.kind (numbers_of 5 rest) ≡ number_in 5 l.bytes;
      type_name : last_of l.parts.type_name.now (contents_of 6 rest) ≡ content_in 6 l.bytes;
      oneof : last_or l.parts.oneof (numbers_of 9 rest) ≡ last_or None (numbers_in 9 l.bytes);
      json_name : last_of l.parts.json_name.now (contents_of 10 rest) ≡ content_in 10 l.bytes;
      optional : last_of l.parts.optional (numbers_of 17 rest) ≡ number_in 17 l.bytes;
    }
