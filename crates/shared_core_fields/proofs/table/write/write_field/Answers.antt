use Rattle.std.proofs.Common.{[], ◌∷◌, ap, sym, ◌∙◌, subst, arith, length}
use Rattle.shared_core_codec.specs.ProgramRows.{kind_view}
use Rattle.shared_core_fields.specs.Rows.{entry_row, IsPlaced}
use Rattle.shared_core_fields.proofs.Written.{run_field, held_length, own_entry, one}
use Rattle.shared_core_fields.proofs.table.write.write_field.Goals as goal

pub write_run-requires : goal.write_run-requires
write_run-requires c =
    let f = c.args.field in
    let rows = run_field c.args.place.level f.number f.is_repeated f.value c.in-Numbers.run' c.in-Numbers.is in
    let many = ap length rows ∙ held_length c.args.place.level f.number (kind_view
    c.in-Numbers.run'.kind) c.in-Numbers.run'.bytes.now in
    record { few = omega (arith, many, c.requires.few) }

pub returns-in-Numbers-clause-count : goal.returns-in-Numbers-clause-count
returns-in-Numbers-clause-count c =
    let f = c.args.field in
    let rows = run_field c.args.place.level f.number f.is_repeated f.value c.in-Numbers.run' c.in-Numbers.is in
    let many = ap length rows ∙ held_length c.args.place.level f.number (kind_view
    c.in-Numbers.run'.kind) c.in-Numbers.run'.bytes.now in
    omega (arith, many, c.write_run.ensures.count)

pub returns : goal.returns
returns c =
    let f = c.args.field in
    let whole = c.args.place.whole.now in
    let is = c.entry_of.ensures.is in
    let own = own_entry whole f.value f.number c.args.place.offset c.args.place.level f.is_repeated
    c.in_default.not-Numbers c.entry_of.ensures.exact c.requires.place in
    let single = ap length own.0 in
    record {
      rows = one whole _ c.args.at c.args.out.now c.put.new.out c.entry_of.result
          (own.0 ∙ ap (λ e. entry_row whole e ∷ []) (sym is)) (subst (IsPlaced whole) (sym is) own.1) c.put.ensures;
      count = omega (arith, single);
    }
