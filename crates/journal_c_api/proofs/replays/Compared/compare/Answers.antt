use Rattle.std.proofs.Common.{◌∙◌, false, refl, sym}
use Rattle.std.proofs.lemmas.Result.{err_from_is_err_and}
use Rattle.shared_core_base.proofs.Types.{types_equal}
use Rattle.replay_bench.proofs.Pairs.{pair_of_messages, pair_out_of_memory, pair_same_bytes}
use Rattle.journal_c_api.specs.Replays.{message_given, message_of}
use Rattle.journal_c_api.proofs.replays.Compared.compare.Goals as goal

pub returns-then-has_same_bytes : goal.returns-then-has_same_bytes
returns-then-has_same_bytes c =
    let both = c.args.self.now in
    pair_same_bytes both.ignore false both.index (message_of both.recorded) (message_given both.replayed)
    (sym c.message_type-ty.ensures ∙ types_equal _ _ (sym c.eq.ensures ∙ c.if-eq.true))
    (c.has_same_bytes.ensures.0 c.if-has_same_bytes.true).0
    (rw c.message_type-ty.ensures at (c.has_same_bytes.ensures.0 c.if-has_same_bytes.true).1)

pub returns-in_err-recorded : goal.returns-in_err-recorded
returns-in_err-recorded c =
    let both = c.args.self.now in
    let from = err_from_is_err_and c.from_residual.result c.from_residual.ensures.1 in
    rw (from.1, from.2) (pair_out_of_memory both.ignore false both.index (message_of both.recorded)
    (message_given both.replayed))

pub returns-in_err-replayed : goal.returns-in_err-replayed
returns-in_err-replayed c =
    let both = c.args.self.now in
    let from = err_from_is_err_and c.from_residual-in_err-replayed.result
    c.from_residual-in_err-replayed.ensures.1 in
    rw (from.1, from.2) (pair_out_of_memory both.ignore false both.index (message_of both.recorded)
    (message_given both.replayed))

pub returns : goal.returns
returns c =
    let both = c.args.self.now in
    pair_of_messages both.ignore false both.index (message_of both.recorded) (message_given both.replayed)
    (record {
      ty = c.message_type-ty.result;
      payload = record both.recorded.payload { now = c.in_ok-recorded.recorded };
    })
    (record {
      ty = both.replayed.ty;
      payload = record both.replayed.payload { now = c.in_ok-replayed.replayed };
    })
    c.compare_commands.result c.message_type-ty.ensures c.in_ok-recorded.ensures refl c.in_ok-replayed.ensures
    c.compare_commands.ensures
