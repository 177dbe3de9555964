use Rattle.std.proofs.Common.{◌<◌, ◌≡◌, ◌∷◌, ◌∙◌, ℕ, List, map, length, ap, sym, rules}
use Rattle.shared_core_codec.specs.ProgramRows.{kind_view}
use Rattle.shared_core_fields.specs.NumberValues.{number_value}
use Rattle.shared_core_fields.specs.Runs.{held_numbers}
use Rattle.shared_core_fields.proofs.RunNumbers.{no_numbers, number_first, number_turn}
use Rattle.shared_core_fields.proofs.runs.RunNumbersIterator.next.Goals as goal

pub returns-then-is_empty-clause-steps : goal.returns-then-is_empty-clause-steps
returns-then-is_empty-clause-steps c =
    let nil : length c.args.self.now.rest.now ≡ 0 = search rules in
    let none = ap (map (number_value (kind_view c.args.self.now.kind))) (no_numbers c.args.self.now.rest.now nil) in
    (none, none)

pub unreachable-requires : goal.unreachable-requires
unreachable-requires c =
    let some : 0 < length c.args.self.now.rest.now = search rules in
    number_first c.args.self.now.rest.now some c.args.self.now.varints c.in_default.ensures

pub invariant_of-self : goal.invariant_of-self
invariant_of-self c =
    let some : 0 < length c.args.self.now.rest.now = search rules in
    record {
      varints = (number_turn c.args.self.now.rest.now c.in-Some.number c.in-Some.rest.now some
          c.args.self.now.varints c.in-Some.ensures).more;
    }

pub returns-clause-steps : goal.returns-clause-steps
returns-clause-steps c =
    let some : 0 < length c.args.self.now.rest.now = search rules in
    let t = number_turn c.args.self.now.rest.now c.in-Some.number c.in-Some.rest.now some c.args.self.now.varints
    c.in-Some.ensures in
    let k = kind_view c.args.self.now.kind in
    ap (map (number_value k)) t.numbers
    ∙ ap (λ (n : ℕ). n ∷ held_numbers k c.in-Some.rest.now) (sym c.number_value.ensures)

pub returns-clause-goes : goal.returns-clause-goes
returns-clause-goes c =
    let some : 0 < length c.args.self.now.rest.now = search rules in
    let more = ap (λ (ns : List ℕ). length (map (number_value (kind_view c.args.self.now.kind)) ns)) (number_turn
    c.args.self.now.rest.now c.in-Some.number c.in-Some.rest.now some
    c.args.self.now.varints c.in-Some.ensures).numbers in
    search rules
