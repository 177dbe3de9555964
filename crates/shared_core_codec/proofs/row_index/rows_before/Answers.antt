use Rattle.std.proofs.Common.{◌∙◌, ◌<◌, ap, arith, length, rules}
use Rattle.std.proofs.lemmas.List.{take_all, length-map}
use Rattle.std.proofs.lemmas.List.Sorted.{answers_always}
use Rattle.shared_core_wire.specs.Schema.{all_numbers, includes}
use Rattle.shared_core_codec.specs.LoadedRows.{row_view, rows_view}
use Rattle.shared_core_codec.proofs.Indexing.{absent, found}
use Rattle.shared_core_codec.proofs.row_index.rows_before.Goals as goal

pub returns-in-Ok-clause-lack : goal.returns-in-Ok-clause-lack
returns-in-Ok-clause-lack c =
    let position = c.in-Ok.ensures.position (λ one. one.number)
    (answers_always _ _ _ (λ f a r g called. search rules)) in
    (found (rows_view c.args.rows.now) c.args.index.now c.args.number c.in-Ok.found (record {
      number = 0;
      place = 0;
    }) c.requires c.in-Ok.ensures.bound (position _)).1

pub returns-in-Err-clause-lack : goal.returns-in-Err-clause-lack
returns-in-Err-clause-lack c =
    let position = c.in-Err.ensures.position (λ one. one.number)
    (answers_always _ _ _ (λ f a r g called. search rules)) in
    let some : 0 < length c.args.index.now = search rules in
    ap (λ rows. includes (all_numbers rows) c.args.number) (take_all (length c.args.rows.now)
    (rows_view c.args.rows.now) (omega (arith, length-map c.args.rows.now row_view)))
    ∙ c.requires.1.1 c.args.number some (absent c.args.index.now c.args.number c.in-Err.field-0 c.requires.0 position)
