use Rattle.std.proofs.Common.{◌≡◌, ◌++◌, List, ℕ, rules, sym, ap, ◌∙◌}
use Rattle.std.specs.List.{list_all}
use Rattle.std.proofs.lemmas.Bool.{eqb-true}
use Rattle.json.specs.Token.{Token}
use Rattle.json.specs.Tree.{items_tokens, json_tokens}
use Rattle.shared_core_wire.specs.Value.{Number}
use Rattle.shared_core_wire.proofs.Runs.{and_split}
use Rattle.shared_core_codec.specs.FieldParts.{parts_of}
use Rattle.shared_core_codec.specs.ProgramRows.{kind_view}
use Rattle.shared_core_fields.specs.Runs.{held_numbers, numbers_left, run_numbers}
use Rattle.shared_core_fields.proofs.NumberParts.{all_held, is_held}
use Rattle.shared_core_json.specs.Form.{items_json_in, number_json}
use Rattle.shared_core_json.proofs.Values.{run_turn, run_done, step_on}
use Rattle.shared_core_json.proofs.write.write_run.Goals as goal

pub loop-number-init : goal.loop-number-init
loop-number-init c =
    let k = kind_view c.args.run.kind in
    let left : numbers_left c.into_iter-number-iterator.result ≡ held_numbers k c.args.run.bytes.now =
    ap numbers_left c.into_iter-number-iterator.ensures.into_iter_gives ∙ c.numbers-number-items.ensures in
    record {
      tokens = λ table all_names w d. ap (λ (ns : List ℕ). c.begin_array.new.self.tokens ++ items_tokens
          (items_json_in table all_names w (parts_of Number ns) k)) left;
      held = ap (list_all (is_held k)) left ∙ all_held k (run_numbers c.args.run.bytes.now);
      before = search rules;
    }

pub write_number-requires : goal.write_number-requires
write_number-requires c =
    let k = kind_view c.args.run.kind in
    let held = sym (ap (list_all (is_held k)) c.in-Some.ensures.steps) ∙ c.loop-number.invariant.held in
    eqb-true _ _ (and_split _ _ held).0

pub loop-number-preserved : goal.loop-number-preserved
loop-number-preserved c =
    let k = kind_view c.args.run.kind in
    let held = sym (ap (list_all (is_held k)) c.in-Some.ensures.steps) ∙ c.loop-number.invariant.held in
    record {
      tokens = λ table all_names w d. step_on c.loop-number.out.tokens c.write_number.new.out.tokens
          (json_tokens (number_json c.args.how k c.in-Some.number))
          (items_tokens (items_json_in table all_names w (parts_of Number (numbers_left c.next.new.self)) k)) _
          c.in_ok-write_number.ensures.tokens
          (ap (λ (ts : List Token). c.loop-number.out.tokens ++ ts)
          (sym (run_turn table all_names w c.args.how k c.in-Some.number _ _ d c.in-Some.ensures.steps))
          ∙ c.loop-number.invariant.tokens table all_names w d);
      held = (and_split _ _ held).1;
      before = search rules;
    }

pub returns-clause-tokens : goal.returns-clause-tokens
returns-clause-tokens c =
    run_done c.end_array.result c.args.how (kind_view c.args.run.kind) c.args.out.now.tokens
    c.begin_array.new.self.tokens c.loop-number.out.tokens
    c.end_array.new.self.tokens _ _ c.in_ok-begin_array.ensures.ok c.in-None.ensures.steps.0
    c.loop-number.invariant.tokens c.end_array.ensures.ok
