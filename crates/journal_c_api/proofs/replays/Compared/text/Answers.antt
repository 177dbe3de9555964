use Rattle.std.proofs.Common.{ap, inl}
use Rattle.journal_c_api.specs.Replays.{message_given, message_of}
use Rattle.journal_c_api.proofs.FollowedReplays.{pair_malformed_told, pair_never_long, pair_same, pair_told}
use Rattle.journal_c_api.proofs.replays.Compared.text.Goals as goal

pub returns-in-Ok-None : goal.returns-in-Ok-None
returns-in-Ok-None c =
    let both = c.args.self.now in
    inl (
      pair_same both.ignore both.index (message_of both.recorded) (message_given both.replayed)
          c.in-Ok-None.field-0 c.in-Ok-None.field-0-is c.in-Ok-None.ensures,
      c.new.ensures.items,
    )

pub returns-in-Ok-Some : goal.returns-in-Ok-Some
returns-in-Ok-Some c =
    let both = c.args.self.now in
    pair_told both.ignore both.index (message_of both.recorded) (message_given both.replayed) c.in-Ok-Some.field-0
    c.in-Ok-Some.found c.in-Ok-Some.field-0-is c.in-Ok-Some.ensures c.report_of.result c.report_of.ensures
    c.into_bytes.result.items (ap (λ v. v.items) c.into_bytes.ensures.value)

pub returns-in-Err-Malformed : goal.returns-in-Err-Malformed
returns-in-Err-Malformed c =
    let both = c.args.self.now in
    pair_malformed_told both.ignore both.index (message_of both.recorded) (message_given both.replayed)
    c.in-Err-Malformed.field-0 c.in-Err-Malformed.side _ c.in-Err-Malformed.field-0-is
    c.in-Err-Malformed.ensures c.malformed_on.result c.malformed_on.ensures

pub unreachable-requires : goal.unreachable-requires
unreachable-requires c =
    let both = c.args.self.now in
    pair_never_long both.ignore both.index (message_of both.recorded) (message_given both.replayed)
    c.in-Err-TooLong.field-0 c.in-Err-TooLong.field-0-is c.in-Err-TooLong.ensures
