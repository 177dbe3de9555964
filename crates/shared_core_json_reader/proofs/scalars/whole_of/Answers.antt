use Rattle.json.specs.Word.{after_minus, after_number}
use Rattle.std.proofs.Common.{ℕ, List, length, ltb, Some, sym, ap, ◌∙◌}
use Rattle.shared_core_json_reader.proofs.Numbers.{not_number, is_a_number, no_magnitude, magnitude_is, no_whole}
use Rattle.shared_core_json_reader.proofs.Numbers.{not_whole, whole_is}
use Rattle.shared_core_json_reader.proofs.ShortNumbers.{short_whole, short_reason}
use Rattle.shared_core_json_reader.proofs.scalars.whole_of.Goals as goal

pub returns-in-Some-clause-value : goal.returns-in-Some-clause-value
returns-in-Some-clause-value c =
    short_whole c.args.text.now c.in-Some.magnitude c.in-Some.ensures.0 (sym c.as_bytes.ensures.value ∙
    c.in-Some.ensures.1)

pub returns-in-Some-clause-reason : goal.returns-in-Some-clause-reason
returns-in-Some-clause-reason c =
    short_reason c.args.text.now c.in-Some.magnitude c.in-Some.ensures.0 (sym c.as_bytes.ensures.value ∙
    c.in-Some.ensures.1)

pub returns-then-not-is_number-clause-value : goal.returns-then-not-is_number-clause-value
returns-then-not-is_number-clause-value c = no_whole c.args.text.now
    (not_number (after_number c.args.text.now) c.is_number.result c.is_number.ensures c.if-not-is_number.true)

pub returns-in_default-whole_u64-clause-value : goal.returns-in_default-whole_u64-clause-value
returns-in_default-whole_u64-clause-value c =
    not_whole c.args.text.now c.skip_minus-digits.result.now c.scan.result
    (is_a_number (after_number c.args.text.now) c.is_number.result c.is_number.ensures c.if-not-is_number.false)
    (c.skip_minus-digits.ensures ∙ ap after_minus c.as_bytes-bytes.ensures.value) c.scan.ensures.parts
    (no_magnitude c.scan.result c.in_default-whole_u64.ensures)

pub returns-clause-value : goal.returns-clause-value
returns-clause-value c =
    whole_is c.args.text.now c.skip_minus-digits.result.now c.scan.result c.in-Some-whole_u64.magnitude
    (is_a_number (after_number c.args.text.now) c.is_number.result c.is_number.ensures c.if-not-is_number.false)
    (c.skip_minus-digits.ensures ∙ ap after_minus c.as_bytes-bytes.ensures.value) c.scan.ensures.parts
    (magnitude_is c.scan.result c.in-Some-whole_u64.magnitude c.in-Some-whole_u64.ensures.0
    c.in-Some-whole_u64.ensures.1)
    ∙ ap (λ (s : List ℕ). Some (record {
      negative = ltb (length c.skip_minus-digits.result.now) (length s);
      magnitude =
          c.in-Some-whole_u64.magnitude;
    })) (sym c.as_bytes-bytes.ensures.value)
