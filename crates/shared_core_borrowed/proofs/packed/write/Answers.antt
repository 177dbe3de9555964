use Rattle.std.proofs.Common.{rules, ◌<◌, length}
use Rattle.shared_core_codec.proofs.Backwards.{packed_before}
use Rattle.shared_core_borrowed.proofs.packed.write.Goals as goal

pub returns-clause-written : goal.returns-clause-written
returns-clause-written c =
    let h : 0 < length c.args.field.now = search rules in
    packed_before c.args.number c.write_run-start.result c.args.end c.args.field.now _ _ _ h
    c.write_length.ensures.written c.write_run-start.ensures.start c.write_run-start.ensures.written
