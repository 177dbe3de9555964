use Rattle.std.proofs.Common.{◌≡◌, ◌∙◌, ℕ, Some, None, get_or, sym, ap, option_and_then}
use Rattle.json.specs.Find.{get_member}
use Rattle.json_table.specs.Tails.{last_members}
use Rattle.json_table.specs.Places.{first_value, present}
use Rattle.json_table.specs.declared.places.Place.TheVariants.{Absent}
use Rattle.make_lines.specs.Members.{given}
use Rattle.make_lines.specs.Places.{name_at}
use Rattle.make_lines.proofs.Placing.{given_at, not_once, place_value}
use Rattle.make_lines.proofs.members.Line.given.Goals as goal

pub returns-in-Once : goal.returns-in-Once
returns-in-Once c =
    let ms = c.self.inside.members in
    let places = c.self.inside.places.now in
    let value : get_member (name_at c.args.place) ms ≡ Some (first_value (last_members c.in-Once.left ms)) =
    given_at ms places c.args.place c.self.invariant c.requires
    ∙ ap (place_value ms) (ap (λ (i : ℕ). get_or places i Absent) (sym c.from.ensures) ∙ c.in-Once.is) in
    c.first_present.ensures
    ∙ sym (ap (option_and_then present) value)
    ∙ ap (given (name_at c.args.place)) c.self.view_is

pub returns-in_default : goal.returns-in_default
returns-in_default c =
    let ms = c.self.inside.members in
    let places = c.self.inside.places.now in
    let value : get_member (name_at c.args.place) ms ≡ None =
    given_at ms places c.args.place c.self.invariant c.requires
    ∙ not_once ms (get_or places c.args.place Absent)
    (λ n e. c.in_default.not-Once n (ap (λ (i : ℕ). get_or places i Absent) c.from.ensures ∙ e)) in
    sym (ap (option_and_then present) value) ∙ ap (given (name_at c.args.place)) c.self.view_is
