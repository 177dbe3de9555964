use Rattle.std.proofs.Common.{◌∙◌, ◌++◌, ap, arith, drop, length, length-append, refl, []}
use Rattle.shared_core_stream.specs.Unread.{held_bytes}
use Rattle.std.proofs.lemmas.Result.{err_from_is_err_and}
use Rattle.shared_core_stream.specs.declared.encoding.announced.Announced.TheVariants.{Message, Skipped, Unknown}
use Rattle.shared_core_stream.proofs.Limits.{after_held, gives, lacks, rejects, waits, word_given}
use Rattle.shared_core_stream.proofs.encoding.decoder.Decoder.next_with_word.Goals as goal

pub returns-then-length-self-clause-next : goal.returns-then-length-self-clause-next
returns-then-length-self-clause-next c =
    rw c.reject.ensures.error (rejects _ _ _ _ c.self.inside.pushed _ c.self.view_is
    c.self.invariant.3 c.self.invariant.2 _ _ _
    (Message c.in-Message.header) c.in-Some.ensures.found.0 c.in-Some.ensures.found.1 c.from_be_bytes.ensures
    c.in-Message.ensures
    (omega (arith, c.if-length-self.true, c.message_length-length.ensures)) _ c.front_head.ensures.same
    _ c.reject.ensures.rejected)

pub returns-in_err-taken-in-Message-clause-next : goal.returns-in_err-taken-in-Message-clause-next
returns-in_err-taken-in-Message-clause-next c =
    let from = err_from_is_err_and c.from_residual.result c.from_residual.ensures.1 in
    let (enough, same) = rw c.message_length-length.ensures at c.in_err-taken-in-Message.ensures.rejected in
    rw (from.1, from.2) (lacks _ _ _ _ c.self.inside.pushed _ c.self.view_is
    c.self.invariant.3 c.self.invariant.2 _ _ _
    (Message c.in-Message.header) c.in-Some.ensures.found.0 c.in-Some.ensures.found.1 c.from_be_bytes.ensures
    c.in-Message.ensures
    (omega (arith, c.if-length-self.false, c.message_length-length.ensures)) enough tt _
    (same ∙ c.front_head.ensures.same))

pub returns-in_default-taken-clause-next : goal.returns-in_default-taken-clause-next
returns-in_default-taken-clause-next c =
    let (short, same) = rw (c.in_default-taken.is, c.message_length-length.ensures) at
    c.in_ok-taken-in-Message.ensures.taken in
    (waits _ _ _ _ c.self.inside.pushed _ c.self.view_is c.self.invariant.3 c.self.invariant.2 _ _ _
    (Message c.in-Message.header) c.in-Some.ensures.found.0 c.in-Some.ensures.found.1 c.from_be_bytes.ensures
    c.in-Message.ensures
    (omega (arith, c.if-length-self.false, c.message_length-length.ensures)) short _
    (same ∙ c.front_head.ensures.same))

pub returns-then-length-self-2-clause-next : goal.returns-then-length-self-2-clause-next
returns-then-length-self-2-clause-next c =
    rw c.reject-then-length-self-2.ensures.error (rejects _ _ _ _ c.self.inside.pushed _ c.self.view_is
    c.self.invariant.3 c.self.invariant.2 _ _ _
    (Skipped c.in-Skipped.unknown c.in-Skipped.length) c.in-Some.ensures.found.0 c.in-Some.ensures.found.1
    c.from_be_bytes.ensures c.in-Skipped.ensures
    (omega (arith, c.if-length-self-2.true)) _ c.front_head.ensures.same _ c.reject-then-length-self-2.ensures.rejected)

pub returns-in_err-skipped-in-Skipped-clause-next : goal.returns-in_err-skipped-in-Skipped-clause-next
returns-in_err-skipped-in-Skipped-clause-next c =
    let from = err_from_is_err_and c.from_residual-in_err-skipped-in-Skipped.result
    c.from_residual-in_err-skipped-in-Skipped.ensures.1 in
    let (enough, same) = c.in_err-skipped-in-Skipped.ensures.rejected in
    rw (from.1, from.2) (lacks _ _ _ _ c.self.inside.pushed _ c.self.view_is
    c.self.invariant.3 c.self.invariant.2 _ _ _
    (Skipped c.in-Skipped.unknown c.in-Skipped.length) c.in-Some.ensures.found.0 c.in-Some.ensures.found.1
    c.from_be_bytes.ensures c.in-Skipped.ensures
    (omega (arith, c.if-length-self-2.false)) enough tt _
    (same ∙ c.front_head.ensures.same))

pub returns-in_default-skipped-clause-next : goal.returns-in_default-skipped-clause-next
returns-in_default-skipped-clause-next c =
    let (short, same) = rw c.in_default-skipped.is at c.in_ok-skipped-in-Skipped.ensures.taken in
    (waits _ _ _ _ c.self.inside.pushed _ c.self.view_is c.self.invariant.3 c.self.invariant.2 _ _ _
    (Skipped c.in-Skipped.unknown c.in-Skipped.length) c.in-Some.ensures.found.0 c.in-Some.ensures.found.1
    c.from_be_bytes.ensures c.in-Skipped.ensures
    (omega (arith, c.if-length-self-2.false)) short _
    (same ∙ c.front_head.ensures.same))

pub returns-in-Some-taken-clause-next : goal.returns-in-Some-taken-clause-next
returns-in-Some-taken-clause-next c =
    let (enough, payload, rest) = rw (c.in-Some-taken.is, c.message_length-length.ensures) at
    c.in_ok-taken-in-Message.ensures.taken in
    rw c.new.ensures (gives _ _ _ _ c.self.inside.pushed _ c.self.view_is
    c.self.invariant.3 c.self.invariant.2 _ _ _
    (Message c.in-Message.header) c.in-Some.ensures.found.0 c.in-Some.ensures.found.1 c.from_be_bytes.ensures
    c.in-Message.ensures
    (omega (arith, c.if-length-self.false, c.message_length-length.ensures)) enough _ _ payload rest)

pub returns-in-Some-taken-clause-word : goal.returns-in-Some-taken-clause-word
returns-in-Some-taken-clause-word c =
    word_given _ _ _ _ c.self.inside.pushed _ c.self.view_is c.self.invariant.3 c.self.invariant.2 _ _ _
    (Message c.in-Message.header) c.in-Some.ensures.found.0 c.in-Some.ensures.found.1 c.from_be_bytes.ensures
    c.in-Message.ensures

pub returns-in-Some-skipped-clause-next : goal.returns-in-Some-skipped-clause-next
returns-in-Some-skipped-clause-next c =
    let (enough, payload, rest) = rw c.in-Some-skipped.is at c.in_ok-skipped-in-Skipped.ensures.taken in
    rw c.code.ensures (gives _ _ _ _ c.self.inside.pushed _ c.self.view_is
    c.self.invariant.3 c.self.invariant.2 _ _ _
    (Skipped c.in-Skipped.unknown c.in-Skipped.length) c.in-Some.ensures.found.0 c.in-Some.ensures.found.1
    c.from_be_bytes.ensures c.in-Skipped.ensures
    (omega (arith, c.if-length-self-2.false)) enough _ _ payload rest)

pub returns-in-Some-skipped-clause-word : goal.returns-in-Some-skipped-clause-word
returns-in-Some-skipped-clause-word c =
    word_given _ _ _ _ c.self.inside.pushed _ c.self.view_is c.self.invariant.3 c.self.invariant.2 _ _ _
    (Skipped c.in-Skipped.unknown c.in-Skipped.length) c.in-Some.ensures.found.0 c.in-Some.ensures.found.1
    c.from_be_bytes.ensures c.in-Skipped.ensures

pub returns-in-Unknown-clause-next : goal.returns-in-Unknown-clause-next
returns-in-Unknown-clause-next c =
    rw c.code-in-Unknown.ensures (gives _ _ _ _ c.self.inside.pushed _ c.self.view_is
    c.self.invariant.3 c.self.invariant.2 _ _ _
    (Unknown c.in-Unknown.unknown) c.in-Some.ensures.found.0 c.in-Some.ensures.found.1 c.from_be_bytes.ensures
    c.in-Unknown.ensures
    (omega arith) (omega arith) [] _ refl (after_held _ _ _ _ (omega (
      arith,
      c.in-Some.ensures.found.0,
      ap length c.in-Some.ensures.found.1,
      length-append c.in-Some.front (drop 8 (held_bytes c.front_head.new.head ++ c.front_head.new.pending)),
      ap length c.front_head.ensures.same,
    )) c.hold_head-self-inside.ensures.same c.hold_head-self-inside.ensures.held
    c.hold_head-self-inside.ensures.short))

pub returns-in-Unknown-clause-word : goal.returns-in-Unknown-clause-word
returns-in-Unknown-clause-word c =
    word_given _ _ _ _ c.self.inside.pushed _ c.self.view_is c.self.invariant.3 c.self.invariant.2 _ _ _
    (Unknown c.in-Unknown.unknown) c.in-Some.ensures.found.0 c.in-Some.ensures.found.1 c.from_be_bytes.ensures
    c.in-Unknown.ensures
