use Rattle.std.proofs.Common.{◌≡◌, ◌++◌, List, ℕ, sym, ap, ◌∙◌, append_assoc}
use Rattle.std.specs.List.{list_all}
use Rattle.std.proofs.lemmas.Bool.{eqb-true}
use Rattle.shared_core_wire.specs.Value.{Number}
use Rattle.shared_core_wire.proofs.Runs.{and_split}
use Rattle.shared_core_codec.specs.FieldParts.{parts_of}
use Rattle.shared_core_codec.specs.ProgramRows.{kind_view}
use Rattle.shared_core_fields.specs.Runs.{held_numbers, numbers_left, run_numbers}
use Rattle.shared_core_fields.proofs.NumberParts.{all_held, is_held}
use Rattle.field_paths.specs.Values.{number_lines, scalar_line}
use Rattle.field_paths.proofs.value.push_numbers.Goals as goal

pub loop-number-init : goal.loop-number-init
loop-number-init c =
    let k = kind_view c.args.run.kind in
    let left : numbers_left c.into_iter-number-iterator.result ≡ held_numbers k c.args.run.bytes.now =
    ap numbers_left c.into_iter-number-iterator.ensures.into_iter_gives ∙ c.numbers-number-items.ensures in (
      ap (λ (ns : List ℕ). c.args.out.now.items ++ number_lines k (parts_of Number ns)) left,
      ap (list_all (is_held k)) left ∙ all_held k (run_numbers c.args.run.bytes.now),
    )

pub push_scalar-requires : goal.push_scalar-requires
push_scalar-requires c =
    let k = kind_view c.args.run.kind in
    let held = sym (ap (list_all (is_held k)) c.in-Some.ensures.steps) ∙ c.loop-number.invariant.1 in
    eqb-true _ _ (and_split _ _ held).0

pub loop-number-preserved : goal.loop-number-preserved
loop-number-preserved c =
    let k = kind_view c.args.run.kind in
    let turn = c.in-Some.ensures.steps in
    let held = sym (ap (list_all (is_held k)) turn) ∙ c.loop-number.invariant.1 in
    let old = c.loop-number.out.items in
    let rest = number_lines k (parts_of Number (numbers_left c.next.new.self)) in (
      ap (λ (bytes : List ℕ). bytes ++ rest) c.in_ok-push_scalar.ensures
          ∙ append_assoc old (scalar_line k c.in-Some.number) rest
          ∙ sym (ap (λ (ns : List ℕ). old ++ number_lines k (parts_of Number ns)) turn)
          ∙ c.loop-number.invariant.0,
      (and_split _ _ held).1,
    )
