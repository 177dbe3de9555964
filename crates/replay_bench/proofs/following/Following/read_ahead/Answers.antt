use Rattle.std.proofs.Common.{Option, Some, None, ◌∙◌, sym}
use Rattle.shared_core_stream.specs.declared.encoding.raw_message.RawMessage.{RawMessage}
use Rattle.replay_bench.proofs.Replays.{may_read, of_memory, reads_ended, reads_failed, reads_held}
use Rattle.replay_bench.proofs.Replays.{reads_still, rejects_of, source_read}
use Rattle.replay_bench.proofs.following.Following.read_ahead.Goals as goal

pub returns-in-Ok-Some-clause-followed : goal.returns-in-Ok-Some-clause-followed
returns-in-Ok-Some-clause-followed g c = λ recording given f.
    let old = c.args.self.now in
    let is = may_read g.S.Source.version g.S.Source.limit g.S.Source.coming g.S.Source.may_fail
    recording given old c.in-Unread.is f in
    let e = c.in-Ok-Some.ensures in
    let found = c.in-Ok-Some.field-0-is in
    let command = rw found at e.command in
    let taken = rw found at e.taken in
    let commands = rw found at e.commands in
    let read = rw found at e.read in
    reads_held g.S.Source.version g.S.Source.limit g.S.Source.coming g.S.Source.may_fail
    recording given old c.in-Unread.is f _
    c.in-Ok-Some.command command taken
    (source_read g.S.Source.version g.S.Source.limit g.S.Source.coming g.S.Source.may_fail recording _ _ old.index
    (Some c.in-Ok-Some.command) is e.fits e.version e.limit e.side e.same commands read)

pub returns-in-Ok-None-clause-followed : goal.returns-in-Ok-None-clause-followed
returns-in-Ok-None-clause-followed g c = λ recording given f.
    let old = c.args.self.now in
    let is = may_read g.S.Source.version g.S.Source.limit g.S.Source.coming g.S.Source.may_fail
    recording given old c.in-Unread.is f in
    let e = c.in-Ok-None.ensures in
    let found = c.in-Ok-None.field-0-is in
    let taken = rw found at e.taken in
    let commands = rw found at e.commands in
    let read = rw found at e.read in
    reads_ended g.S.Source.version g.S.Source.limit g.S.Source.coming g.S.Source.may_fail
    recording given old c.in-Unread.is f _
    taken
    (source_read g.S.Source.version g.S.Source.limit g.S.Source.coming g.S.Source.may_fail recording _ _ old.index None
    is e.fits e.version e.limit e.side e.same commands read)

pub returns-then-not-is_repeatable-clause-followed : goal.returns-then-not-is_repeatable-clause-followed
returns-then-not-is_repeatable-clause-followed g c = λ recording given f.
    reads_failed g.S.Source.version g.S.Source.limit g.S.Source.coming g.S.Source.may_fail
    recording given c.args.self.now
    c.in-Unread.is f _ c.in-Err.error
    (rejects_of g.S.Source.version g.S.Source.limit g.S.Source.coming g.S.Source.may_fail
    recording given c.args.self.now
    c.in-Unread.is f c.next_command.new.self c.in-Err.error c.in-Err.ensures.rejected)
    (sym c.is_repeatable.ensures ∙ c.if-not-is_repeatable.true)

pub returns-then-not-is_repeatable-clause-rejected : goal.returns-then-not-is_repeatable-clause-rejected
returns-then-not-is_repeatable-clause-rejected g c = λ recording given f.
    rejects_of g.S.Source.version g.S.Source.limit g.S.Source.coming g.S.Source.may_fail recording given c.args.self.now
    c.in-Unread.is f c.next_command.new.self c.in-Err.error c.in-Err.ensures.rejected

pub returns-else-not-is_repeatable-clause-followed : goal.returns-else-not-is_repeatable-clause-followed
returns-else-not-is_repeatable-clause-followed g c = λ recording given f.
    let repeats = sym c.is_repeatable.ensures ∙ c.if-not-is_repeatable.false in
    let still = of_memory g.S.Source.version g.S.Source.limit g.S.Source.coming g.S.Source.may_fail recording
    c.in-Err.error (Option RawMessage) _ repeats c.in-Err.ensures.kept in
    let (side, noted) = of_memory g.S.Source.version g.S.Source.limit g.S.Source.coming g.S.Source.may_fail recording
    c.in-Err.error (Option RawMessage) _ repeats c.in-Err.ensures.kept_side in
    reads_still g.S.Source.version g.S.Source.limit g.S.Source.coming g.S.Source.may_fail recording given
    c.args.self.now c.in-Unread.is f _ still side noted
