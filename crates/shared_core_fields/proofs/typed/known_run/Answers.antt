use Rattle.std.proofs.Common.{◌∙◌, ℕ, List, ap, refl}
use Rattle.shared_core_codec.specs.ProgramRows.{kind_view}
use Rattle.shared_core_wire.specs.Grammar.{Length}
use Rattle.shared_core_wire.specs.Value.{Part}
use Rattle.shared_core_fields.specs.Coming.{is_typed_in}
use Rattle.shared_core_fields.proofs.Fronts.{delimited}
use Rattle.shared_core_fields.proofs.ValueParts.{four, typed_run, held_part, parts_are}
use Rattle.shared_core_fields.proofs.typed.known_run.Goals as goal

pub split_at-requires : goal.split_at-requires
split_at-requires g c =
    let table = g.T.Tabled.table_of c.args.schemas in
    (delimited table (kind_view c.args.found.kind, c.args.found.is_repeated) 2 c.args.number c.args.bytes.now refl
    c.requires.known).enough

pub invariant_of-run : goal.invariant_of-run
invariant_of-run g c =
    let table = g.T.Tabled.table_of c.args.schemas in
    let k = kind_view c.args.found.kind in
    let r = c.args.found.is_repeated in
    let d = delimited table (k, r) 2 c.args.number c.args.bytes.now refl c.requires.known in
    record {
      of_numbers = c.requires.of_numbers;
      written = typed_run table k r c.split_at.result.0.now c.requires.of_numbers
          (ap (λ (bs : List ℕ). is_typed_in table (k, r) (Length bs)) c.split_at.ensures.front ∙ d.typed);
    }

pub returns-clause-parts : goal.returns-clause-parts
returns-clause-parts g c =
    let table = g.T.Tabled.table_of c.args.schemas in
    let k = kind_view c.args.found.kind in
    let r = c.args.found.is_repeated in
    let bytes = c.split_at.result.0.now in
    let d = delimited table (k, r) 2 c.args.number c.args.bytes.now refl c.requires.known in
    parts_are table k k r 2 c.args.number c.args.bytes.now bytes c.split_at.result.1.now d refl c.split_at.ensures.front
    c.split_at.ensures.back
    ∙ ap (λ (p : Part). four table k p bytes c.split_at.result.1.now) (held_part table k r bytes c.requires.of_numbers)
