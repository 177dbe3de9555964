use Rattle.std.proofs.Common.{drop, length, arith}
use Rattle.shared_core_codec.proofs.Backwards.{after_all, after_next, after_room, after_start}
use Rattle.shared_core_borrowed.proofs.repeated.write.Goals as goal

pub loop-i-init : goal.loop-i-init
loop-i-init g c =
    after_start g.V.FieldValue.part c.args.number g.V.FieldValue.kind c.args.field.now (length c.args.field.now)
    c.args.end (drop c.args.end c.args.out.now) (omega arith)

pub write_value-start-requires-clause-room : goal.write_value-start-requires-clause-room
write_value-start-requires-clause-room g c =
    after_room g.V.FieldValue.part c.args.number g.V.FieldValue.kind c.args.field.now c.loop-i.i c.index-field-i.result
    c.args.end c.loop-i.start (omega arith) (omega arith) c.index-field-i.is
    g.met.V.Element.one_by_one c.loop-i.invariant.0 c.requires.room

pub loop-i-preserved : goal.loop-i-preserved
loop-i-preserved g c =
    after_next g.V.FieldValue.part c.args.number g.V.FieldValue.kind c.args.field.now c.loop-i.i c.index-field-i.result
    c.args.end c.loop-i.start c.write_value-start.result (drop c.args.end c.args.out.now)
    (drop c.loop-i.start c.loop-i.out) (drop c.write_value-start.result c.write_value-start.new.out) (omega arith)
    (omega arith) c.index-field-i.is c.write_value-start.ensures.start c.write_value-start.ensures.written
    c.loop-i.invariant

pub returns : goal.returns
returns g c =
    let b = after_all g.V.FieldValue.part c.args.number g.V.FieldValue.kind c.args.field.now c.loop-i.i c.args.end
    c.loop-i.start (drop c.args.end c.args.out.now) (drop c.loop-i.start c.loop-i.out) (omega arith)
    g.met.V.Element.one_by_one c.loop-i.invariant in
    record { start = b.0; written = b.1 }
