use Rattle.std.proofs.Common.{rules, ◌≡◌, ◌++◌, drop, sym}
use Rattle.shared_core_stream.specs.Unread.{held_bytes}
use Rattle.shared_core_stream.proofs.Limits.{after_held}
use Rattle.shared_core_stream.proofs.encoding.decoder.take_held_payload.Goals as goal

pub returns-clause-taken : goal.returns-clause-taken
returns-clause-taken c =
    let rest : c.hold_head.new.pending ≡ drop 8 (held_bytes c.args.head.now ++ c.args.pending.now) =
    after_held _ _ _ _ c.requires.whole c.hold_head.ensures.same c.hold_head.ensures.held c.hold_head.ensures.short in
    rw (sym rest) (search rules, c.in_ok-payload.ensures.front, c.in_ok-payload.ensures.rest)
