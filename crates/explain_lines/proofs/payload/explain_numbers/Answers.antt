use Rattle.std.proofs.Common.{◌≡◌, ◌<◌, ℕ, List, length, refl, sym, ap, ◌∙◌, rules}
use Rattle.std.proofs.lemmas.List.{nil_from_length}
use Rattle.std.specs.Prelude.{decimal}
use Rattle.explain_lines.specs.declared.piece.FieldAt.{FieldAt}
use Rattle.explain_lines.specs.declared.reason.Reason.{Reason}
use Rattle.explain_lines.specs.Explanation.{fault, followed_by, numbers_past, one_line, taken}
use Rattle.explain_lines.specs.Lines.{with_line}
use Rattle.explain_lines.specs.Reasons.{reason_text, varint_reason}
use Rattle.explain_lines.specs.State.{told}
use Rattle.explain_lines.proofs.Going.{explains_last, goes_to_end, goes_with}
use Rattle.explain_lines.proofs.Records.{number_front, numbers_nil, numbers_stop, numbers_turn}
use Rattle.explain_lines.proofs.payload.explain_numbers.Goals as goal

pub returns-in_default : goal.returns-in_default
returns-in_default c =
    let path = c.args.lines.now.path.items in
    let rest = c.loop-rest.rest.now in
    let some : 0 < length rest = search rules in
    explains_last c.args.lines.now c.loop-rest.lines c.add_fault.new.self c.add_fault.result
    (numbers_past path 0 c.args.run.now) (numbers_past path 0 rest)
    (fault c.loop-rest.lines.path.items (reason_text c.varint_fault.result)) c.loop-rest.invariant.1
    c.loop-rest.invariant.0
    (numbers_stop path rest some c.in_default.ensures
    ∙ (ap (λ (p : List FieldAt). fault p (reason_text (varint_reason rest))) (sym c.loop-rest.invariant.0)
    ∙ ap (λ (r : Reason). fault c.loop-rest.lines.path.items (reason_text r)) (sym c.varint_fault.ensures)))
    c.add_fault.ensures

pub loop-rest-smaller : goal.loop-rest-smaller
loop-rest-smaller c = (number_front c.loop-rest.rest.now c.in-Some.number c.in-Some.after.now c.in-Some.ensures).shorter

pub loop-rest-preserved : goal.loop-rest-preserved
loop-rest-preserved c =
    let path = c.args.lines.now.path.items in
    let rest = c.loop-rest.rest.now in
    let after = c.in-Some.after.now in
    let n = c.in-Some.number in
    let added = c.in_ok-add.ensures in (
      added.1 ∙ c.loop-rest.invariant.0,
      goes_with (told c.args.lines.now) (numbers_past path 0 c.args.run.now)
          (told c.loop-rest.lines) (numbers_past path 0 rest)
          (one_line c.loop-rest.lines.path.items (taken rest after) (decimal n)) (numbers_past path 0 after)
          (told c.add.new.self) c.loop-rest.invariant.1
          (numbers_turn path rest n after c.in-Some.ensures
          ∙ ap (λ (p : List FieldAt). followed_by (one_line p (taken rest after) (decimal n)) (numbers_past path 0
          after))
          (sym c.loop-rest.invariant.0)) refl
          (added.0 ∙ ap (λ (bytes : List ℕ). with_line (told c.loop-rest.lines) (record {
            path = c.loop-rest.lines.path.items;
            bytes = bytes;
            says = decimal n;
          })) c.taken.ensures),
    )

pub returns : goal.returns
returns c =
    let path = c.args.lines.now.path.items in
    let nil : length c.loop-rest.rest.now ≡ 0 = search rules in
    let whole = goes_to_end (told c.args.lines.now) (numbers_past path 0 c.args.run.now) (told c.loop-rest.lines)
    (numbers_past path 0 c.loop-rest.rest.now) c.loop-rest.invariant.1
    (numbers_nil path c.loop-rest.rest.now (nil_from_length c.loop-rest.rest.now nil)) in
    (whole.0, c.loop-rest.invariant.0, whole.1)
