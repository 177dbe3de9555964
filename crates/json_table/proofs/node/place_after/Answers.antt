use Rattle.std.proofs.Common.{◌∙◌, ⊎_elim, sym, ap, arith}
use Rattle.json_table.specs.Entries.{place_after}
use Rattle.json_table.specs.Views.{entry_view}
use Rattle.json_table.proofs.Seen.{value_inside, value_after, plain_after}
use Rattle.json_table.proofs.node.place_after.Goals as goal

pub offset_bounds-entries-at : goal.offset_bounds-entries-at
offset_bounds-entries-at c = omega (arith, value_inside c.args.entries.now c.args.at c.requires.0 c.requires.1)

pub bounds-entries-at : goal.bounds-entries-at
bounds-entries-at c = value_inside c.args.entries.now c.args.at c.requires.0 c.requires.1

pub returns-in_default : goal.returns-in_default
returns-in_default c j h =
    let plain = plain_after c.args.at _ c.in_default.not-Array c.in_default.not-Object in
    let after = value_after c.args.entries.now c.args.at j h in
    omega (arith, plain, after)

pub returns-in-Array : goal.returns-in-Array
returns-in-Array c j h =
    let after = value_after c.args.entries.now c.args.at j h in
    ⊎_elim (λ is. sym (ap (λ n. place_after c.args.at (entry_view n)) is) ∙ after)
    (λ is. sym (ap (λ n. place_after c.args.at (entry_view n)) is) ∙ after) c.in-Array.is

pub returns-in-Array-2 : goal.returns-in-Array-2
returns-in-Array-2 c j h =
    let after = value_after c.args.entries.now c.args.at j h in
    ⊎_elim (λ is. sym (ap (λ n. place_after c.args.at (entry_view n)) is) ∙ after)
    (λ is. sym (ap (λ n. place_after c.args.at (entry_view n)) is) ∙ after) c.in-Array.is
