use Rattle.std.proofs.Common.{rules, ap, subst, Ok, Err}
use Rattle.shared_core.specs.Typed.{IsCanonical}
use Rattle.readme_example.proofs.Chain.{alone}
use Rattle.readme_example.proofs.callers.there_and_back.Goals as goal

pub unreachable-requires-in-Ok-None : goal.unreachable-requires-in-Ok-None
unreachable-requires-in-Ok-None g c =
    let came = alone _ (g.M.RestateEncodableMessage.wire_form c.args.message.now) _ _ _
    (ap (λ e. e.version) c.new.ensures) c.requires.low c.in-Ok.ensures.frame.comes_out
    _ c.new-decoder.ensures _ c.in-Ok-push.ensures.ok (Ok c.in-Ok-None.field-0)
    c.consume_next.new.self.bytes (λ free. c.in-Ok-None.ensures.next (c.in-Ok-None.ensures.unlimited free)) in
    rw c.in-Ok-None.field-0-is at came

pub unreachable-requires-in-Err : goal.unreachable-requires-in-Err
unreachable-requires-in-Err g c =
    let came = alone _ (g.M.RestateEncodableMessage.wire_form c.args.message.now) _ _ _
    (ap (λ e. e.version) c.new.ensures) c.requires.low c.in-Ok.ensures.frame.comes_out
    _ c.new-decoder.ensures _ c.in-Ok-push.ensures.ok (Err c.in-Err._other)
    c.consume_next.new.self.bytes (λ free. c.in-Err.ensures.next (c.in-Err.ensures.unlimited free)) in
    search (rules, came.0)

pub returns-in-Ok-decode_to-clause-same : goal.returns-in-Ok-decode_to-clause-same
returns-in-Ok-decode_to-clause-same g c =
    let came = alone _ (g.M.RestateEncodableMessage.wire_form c.args.message.now) _ _ _
    (ap (λ e. e.version) c.new.ensures) c.requires.low c.in-Ok.ensures.frame.comes_out
    _ c.new-decoder.ensures _ c.in-Ok-push.ensures.ok (Ok c.in-Ok-Some.field-0)
    c.consume_next.new.self.bytes (λ free. c.in-Ok-Some.ensures.next (c.in-Ok-Some.ensures.unlimited free)) in
    let came = rw c.in-Ok-Some.field-0-is at came in
    c.in-Ok-decode_to.ensures.written _ came.0.0 (subst
    (λ s. IsCanonical s (g.M.RestateEncodableMessage.wire_form c.args.message.now c.args.version).parts
    c.in-Ok-Some.received.payload) c.requires.own came.0.1)

pub unreachable-requires-in-Err-decode_to : goal.unreachable-requires-in-Err-decode_to
unreachable-requires-in-Err-decode_to g c =
    let came = alone _ (g.M.RestateEncodableMessage.wire_form c.args.message.now) _ _ _
    (ap (λ e. e.version) c.new.ensures) c.requires.low c.in-Ok.ensures.frame.comes_out
    _ c.new-decoder.ensures _ c.in-Ok-push.ensures.ok (Ok c.in-Ok-Some.field-0)
    c.consume_next.new.self.bytes (λ free. c.in-Ok-Some.ensures.next (c.in-Ok-Some.ensures.unlimited free)) in
    let came = rw c.in-Ok-Some.field-0-is at came in
    let rejected = c.in-Err-decode_to.ensures.written _ came.0.0
    (subst (λ s. IsCanonical s (g.M.RestateEncodableMessage.wire_form c.args.message.now c.args.version).parts
    c.in-Ok-Some.received.payload) c.requires.own came.0.1) in
    search (rules, rejected)
