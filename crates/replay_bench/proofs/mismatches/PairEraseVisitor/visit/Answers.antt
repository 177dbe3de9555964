use Rattle.std.proofs.Common.{◌∙◌, ap, sym, pos, w64}
use Rattle.std.specs.Prelude.{codes}
use Rattle.std.proofs.lemmas.Bool.{both_ways}
use Rattle.std.proofs.lemmas.Int.{to_z_pos}
use Rattle.std.proofs.lemmas.Result.{err_from_is_err_and}
use Rattle.shared_core_compare.specs.Differences.{difference}
use Rattle.shared_core.specs.Errors.{command_mismatch_text}
use Rattle.shared_core.specs.declared.errors.CommandMismatchError.{CommandMismatchError}
use Rattle.replay_bench.specs.Ids.{erased_but}
use Rattle.replay_bench.specs.Verdicts.{command_message}
use Rattle.replay_bench.proofs.Pairs.{are_typed, pair_alike, pair_differs, pair_out_of_memory}
use Rattle.replay_bench.proofs.mismatches.PairEraseVisitor.visit.Goals as goal

pub returns-in_err-recorded : goal.returns-in_err-recorded
returns-in_err-recorded g c =
    let from = err_from_is_err_and c.from_residual.result c.from_residual.ensures.1 in
    rw (from.1, from.2) c.in_err-recorded.ensures.rejected

pub returns-then-are_same : goal.returns-then-are_same
returns-then-are_same g c =
    let pair = c.args.self in
    let one = command_message pair.recorded in
    let other = command_message pair.replayed in
    let s = g.M.WireRecord.schema in
    let typed = are_typed pair.index one other g.M.RestateMessage.message_type s
    c.requires.allowed c.requires.own in
    pair_alike pair.ignore pair.is_listed pair.index one other s typed
    (g.M.WireRecord.parts c.in_ok-recorded.recorded) (g.M.WireRecord.parts c.in_ok-recorded.replayed)
    c.in_ok-recorded.ensures.recorded c.in_ok-recorded.ensures.replayed
    (c.are_same.ensures.0 c.if-are_same.true)

pub returns-in_err-actual : goal.returns-in_err-actual
returns-in_err-actual g c =
    let from = err_from_is_err_and c.from_residual-in_err-actual.result
    c.from_residual-in_err-actual.ensures.1 in
    rw (from.1, from.2) c.in_err-actual.ensures.rejected

pub returns-in_err-fields : goal.returns-in_err-fields
returns-in_err-fields g c =
    let pair = c.args.self in
    let one = command_message pair.recorded in
    let other = command_message pair.replayed in
    let from = err_from_is_err_and c.from_residual-in_err-fields.result c.from_residual-in_err-fields.ensures.1 in
    rw (from.1, from.2, c.in_err-fields.ensures.rejected) (pair_out_of_memory pair.ignore pair.is_listed pair.index
    one other)

pub returns-in_err-text : goal.returns-in_err-text
returns-in_err-text g c =
    let pair = c.args.self in
    let one = command_message pair.recorded in
    let other = command_message pair.replayed in
    let from = err_from_is_err_and c.from_residual-in_err-text.result c.from_residual-in_err-text.ensures.1 in
    rw (from.1, from.2) (pair_out_of_memory pair.ignore pair.is_listed pair.index one other)

pub returns : goal.returns
returns g c =
    let pair = c.args.self in
    let one = command_message pair.recorded in
    let other = command_message pair.replayed in
    let s = g.M.WireRecord.schema in
    let recorded = g.M.WireRecord.parts c.in_ok-actual.actual in
    let replayed = g.M.WireRecord.parts c.in_ok-actual.expected in
    let again = c.in_ok-recorded.ensures.recorded.1 ∙ sym c.in_ok-actual.ensures.recorded.1 in
    let other_again = c.in_ok-recorded.ensures.replayed.1 ∙ sym c.in_ok-actual.ensures.replayed.1 in
    let ty = g.M.RestateMessage.message_type in
    let typed = are_typed pair.index one other ty s c.requires.allowed c.requires.own in
    let index = pair.index in
    let three = codes "   " in
    pair_differs pair.ignore pair.is_listed index one other s typed recorded replayed
    c.in_ok-actual.ensures.recorded c.in_ok-actual.ensures.replayed c.in_ok-text.text
    c.in_ok-fields.fields c.in_ok-fields.ensures.fields
    (λ same. both_ways _ c.if-are_same.false (c.are_same.ensures.1 (ap (erased_but pair.ignore s) again ∙ same
    ∙ ap (erased_but pair.ignore s) (sym other_again))))
    (
    c.in_ok-text.ensures.ok
    ∙ ap (λ (m : CommandMismatchError g.row.M.Denot). command_mismatch_text ty m.command_index
    (difference s three (g.M.WireRecord.parts m.actual) (g.M.WireRecord.parts m.expected))) c.new-mismatch.ensures
    ∙ ap (λ n. command_mismatch_text ty n (difference s three recorded replayed))
    (to_z_pos w64 index c.requires.allowed.below)
    ∙ ap (λ t. command_mismatch_text t (pos index) (difference s three recorded replayed)) (sym c.requires.allowed.is)
    )
