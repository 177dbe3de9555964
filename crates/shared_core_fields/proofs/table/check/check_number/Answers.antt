use Rattle.std.proofs.Common.{◌≡◌, ◌-◌, true, refl, sym, ap, ◌∙◌, arith}
use Rattle.std.proofs.Common.{ℕ}
use Rattle.shared_core_codec.specs.ProgramRows.{kind_view}
use Rattle.shared_core_codec.specs.Canonicity.{is_written_number}
use Rattle.shared_core_fields.specs.Rows.{number_entry}
use Rattle.shared_core_fields.proofs.Checked.{number_rows, single}
use Rattle.shared_core_fields.proofs.table.check.check_number.Goals as goal

pub returns-clause-rows : goal.returns-clause-rows
returns-clause-rows c =
    let k = kind_view c.args.next.field.kind in
    let written : is_written_number k c.args.value ≡ true = sym c.is_written_number.ensures ∙
    c.if-not-is_written_number.false in
    λ payload.
    single payload _ c.args.at c.args.out.now c.put.new.out c.number_entry.result
    (number_entry k c.args.value c.args.number (100 - c.args.left))
    (number_rows payload c.args.left c.args.number k c.args.next.field.is_repeated c.args.value written
    c.ranges.value.fits)
    (c.number_entry.ensures ∙ ap (λ (kind : ℕ). record {
      level = 100 - c.args.left;
      number = c.args.number;
      kind = kind;
      value = c.args.value;
      offset = 0;
      length = 0;
    }) c.kind_number.ensures) (omega arith, λ l. refl) c.put.ensures
