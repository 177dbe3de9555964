use Rattle.std.proofs.Common.{◌<◌, ◌≤◌, ◌||◌, false, length, refl, ap, arith, Bool}
use Rattle.std.proofs.lemmas.Bool.{lt-ltb}
use Rattle.descriptor_set.specs.FieldReading.{IsField}
use Rattle.descriptor_set.specs.Values.{contents_in}
use Rattle.descriptor_set.proofs.Readings.{all_two_length, reads_message}
use Rattle.descriptor_set.proofs.reading.Reading.push_message.Goals as goal

pub returns-then-len-gt-MOST_FIELDS-clause-blamed :
    goal.returns-then-len-gt-MOST_FIELDS-clause-blamed
returns-then-len-gt-MOST_FIELDS-clause-blamed c =
    let count = all_two_length (IsField c.args.scope.now.is_proto3) _ _ c.in_ok-fields.ensures in
    let many : 4096 < length (contents_in 2 c.args.bytes.now) = omega (arith, count) in
    ap (λ (b : Bool). b || false) (lt-ltb _ _ many)

pub returns-clause-read : goal.returns-clause-read
returns-clause-read c =
    let count = all_two_length (IsField c.args.scope.now.is_proto3) _ _ c.in_ok-fields.ensures in
    let few : length (contents_in 2 c.args.bytes.now) ≤ 4096 = omega (arith, count) in
    reads_message _ _ _ _ (record {
      name = refl;
      name_fits = c.requires;
      file = refl;
      few_fields = few;
      fields = record {
        unsorted = c.in_ok-fields.fields.items;
        each = c.in_ok-fields.ensures;
        sorted = c.in_ok-sort_fields.ensures;
      };
      is_map_entry = c.is_map_entry.ensures;
      codes = refl;
    }) refl c.in_ok-push.ensures.items refl
