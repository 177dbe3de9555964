use Rattle.std.proofs.Common.{◌≡◌, ◌∷◌, ℕ, List, refl, ap, sym, ◌∙◌, subst, arith, rules, length, true}
use Rattle.std.specs.List.{list_all}
use Rattle.std.proofs.lemmas.Bool.{eqb-true}
use Rattle.std.proofs.lemmas.List.{length-map}
use Rattle.shared_core_wire.specs.Canonical.{written_number}
use Rattle.shared_core_wire.specs.Value.{Number}
use Rattle.shared_core_wire.proofs.Runs.{and_split}
use Rattle.shared_core_codec.specs.FieldParts.{parts_of}
use Rattle.shared_core_codec.specs.ProgramRows.{kind_view}
use Rattle.shared_core_fields.specs.NumberValues.{number_value}
use Rattle.shared_core_fields.specs.Runs.{numbers_left, run_numbers, held_numbers}
use Rattle.shared_core_fields.specs.Rows.{run_rows, number_entry, entry_row, IsPlaced, WritesRows}
use Rattle.shared_core_fields.specs.declared.table.FieldEntry.{FieldEntry}
use Rattle.shared_core_fields.proofs.NumberParts.{is_held, all_held}
use Rattle.shared_core_fields.proofs.Written.{run_step}
use Rattle.shared_core_fields.proofs.table.write.write_run.Goals as goal

pub loop-value-init : goal.loop-value-init
loop-value-init c =
    let k = kind_view c.args.run.kind in
    let numbers = run_numbers c.args.run.bytes.now in
    let left : numbers_left c.into_iter-value-iterator.result ≡ held_numbers k c.args.run.bytes.now =
    ap numbers_left c.into_iter-value-iterator.ensures.into_iter_gives ∙ c.numbers-value-items.ensures in (
      omega (arith, ap length left, length-map numbers (number_value k)),
      λ payload new w.
          subst (λ (ns : List ℕ). WritesRows payload (run_rows c.args.level c.args.number k (parts_of Number ns))
          c.args.at c.args.out.now new) left w,
      ap (list_all (is_held k)) left ∙ all_held k numbers,
    )

pub written_number-written-requires : goal.written_number-written-requires
written_number-written-requires c =
    let k = kind_view c.args.run.kind in
    let held = sym (ap (list_all (is_held k)) c.in-Some.ensures.steps) ∙ c.loop-value.invariant.2 in
    eqb-true _ _ (and_split _ _ held).0

pub loop-value-preserved : goal.loop-value-preserved
loop-value-preserved c =
    let k = kind_view c.args.run.kind in
    let turn = c.in-Some.ensures.steps in
    let fewer = ap length turn in
    let held = sym (ap (list_all (is_held k)) turn) ∙ c.loop-value.invariant.2 in
    let written : ℕ = written_number k c.in-Some.value in
    let is : c.number_entry.result ≡ number_entry k written c.args.number c.args.level = c.number_entry.ensures
    ∙ ap (λ (kind : ℕ). record {
      level = c.args.level;
      number = c.args.number;
      kind = kind;
      value = c.written_number-written.result;
      offset = 0;
      length = 0;
    }) c.kind_number-kind.ensures
    ∙ ap (λ (m : ℕ). number_entry k m c.args.number c.args.level) c.written_number-written.ensures in
    let rest = run_rows c.args.level c.args.number k (parts_of Number (numbers_left c.next.new.self)) in (
      omega (arith, fewer, c.loop-value.invariant.0),
      λ payload new w.
          run_step payload _ _ _ _ _ _ _ _ new c.number_entry.result
          (ap (λ (ns : List ℕ). run_rows c.args.level c.args.number k (parts_of Number ns)) turn
          ∙ ap (λ (e : FieldEntry). entry_row payload e ∷ rest) (sym is))
          (subst (IsPlaced payload) (sym is) (omega arith, λ l. refl)) c.put.ensures
          (c.loop-value.invariant.1 payload) w,
      (and_split _ _ held).1,
    )
