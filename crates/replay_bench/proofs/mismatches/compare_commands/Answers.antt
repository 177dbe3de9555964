use Rattle.std.proofs.Common.{◌∙◌, ℕ, Option, Some, None, ap, refl, sym, w64}
use Rattle.std.proofs.lemmas.Bool.{both_ways}
use Rattle.std.proofs.lemmas.Int.{to_z_pos}
use Rattle.std.proofs.lemmas.Result.{err_from_is_err_and}
use Rattle.shared_core_base.proofs.Types.{types_equal, types_same}
use Rattle.shared_core_errors.specs.declared.command_type_mismatch.CommandTypeMismatchError.{CommandTypeMismatchError}
use Rattle.shared_core_errors.specs.Mismatch.{command_type_mismatch_text}
use Rattle.shared_core.specs.Visiting.{IsVisited, command_schema}
use Rattle.replay_bench.specs.Verdicts.{ReturnsPair, command_message}
use Rattle.replay_bench.proofs.Pairs.{pair_out_of_memory, pair_same_bytes, pair_types}
use Rattle.replay_bench.proofs.mismatches.compare_commands.Goals as goal

pub visit_erased-requires : goal.visit_erased-requires
visit_erased-requires c = record {
  below = c.requires.index;
  command = c.requires.command;
  typed = types_equal _ _ (sym c.eq.ensures ∙ c.if-eq.true);
  is = refl;
}

-- a property of the result for each schema is a property of the result
visited_holds : {O : Type 0} (holds : O → Type 0) (schema : Option ℕ) (output : O) → IsVisited (λ s o. holds o) schema
    (Some output) → holds output
visited_holds holds None output is = absurd is
visited_holds holds (Some s) output is = is

pub returns-then-eq : goal.returns-then-eq
returns-then-eq c =
    let pair = c.args.pair in
    visited_holds (ReturnsPair pair.ignore pair.is_listed pair.index (command_message pair.recorded)
    (command_message pair.replayed)) (command_schema pair.recorded.ty) c.in-Some.found c.in-Some.ensures.visited

pub returns-then-has_same_bytes : goal.returns-then-has_same_bytes
returns-then-has_same_bytes c =
    let pair = c.args.pair in
    pair_same_bytes pair.ignore pair.is_listed pair.index (command_message pair.recorded)
    (command_message pair.replayed) (types_equal _ _ (sym c.eq.ensures ∙ c.if-eq.true))
    (sym c.deref.ensures ∙ (c.has_same_bytes.ensures.0 c.if-has_same_bytes.true).0 ∙ c.deref-then-eq.ensures)
    (rw c.deref.ensures at (c.has_same_bytes.ensures.0 c.if-has_same_bytes.true).1)

pub returns-in_err-text : goal.returns-in_err-text
returns-in_err-text c =
    let pair = c.args.pair in
    let from = err_from_is_err_and c.from_residual.result c.from_residual.ensures.1 in
    rw (from.1, from.2) (pair_out_of_memory pair.ignore pair.is_listed pair.index
    (command_message pair.recorded) (command_message pair.replayed))

pub returns : goal.returns
returns c =
    let pair = c.args.pair in
    let index = pair.index in
    pair_types pair.ignore pair.is_listed index (command_message pair.recorded) (command_message pair.replayed)
    c.in_ok-text.text c.new-fields.result c.new-fields.ensures.items
    (λ same. both_ways _ (sym c.eq.ensures ∙ c.if-eq.false) (types_same _ _ same))
    (
    c.in_ok-text.ensures.ok
    ∙ ap (λ (m : CommandTypeMismatchError). command_type_mismatch_text m.command_index m.actual m.expected)
    c.new-mismatch.ensures
    ∙ ap (λ n. command_type_mismatch_text n pair.recorded.ty pair.replayed.ty) (to_z_pos w64 index c.requires.index)
    )
