use Rattle.std.proofs.Common.{true, arith}
use Rattle.shared_core_fields_writer.proofs.Rooms.{wrote_after_head}
use Rattle.shared_core_fields_writer.proofs.room.write_few_text.Goals as goal

pub returns-then-is_ascii-clause-written : goal.returns-then-is_ascii-clause-written
returns-then-is_ascii-clause-written c = (
  wrote_after_head c.args.out.now c.write_few_head.new.out c.write_few_ascii-after.new.out c.args.content.now
      c.args.at c.args.number c.in_ok-end.end _ (omega arith) c.in_ok-end.ensures.written
      c.write_few_ascii-after.ensures.written,
  c.write_few_ascii-after.ensures.text c.if-is_ascii.true,
)

pub returns-then-is_ascii-clause-before : goal.returns-then-is_ascii-clause-before
returns-then-is_ascii-clause-before c =
    (wrote_after_head c.args.out.now c.write_few_head.new.out c.write_few_ascii-after.new.out c.args.content.now
    c.args.at c.args.number c.in_ok-end.end _ (omega arith) c.in_ok-end.ensures.written
    c.write_few_ascii-after.ensures.written true).before

pub returns-else-is_ascii-clause-before : goal.returns-else-is_ascii-clause-before
returns-else-is_ascii-clause-before c =
    (wrote_after_head c.args.out.now c.write_few_head.new.out c.write_few_ascii-after.new.out c.args.content.now
    c.args.at c.args.number c.in_ok-end.end _ (omega arith) c.in_ok-end.ensures.written
    c.write_few_ascii-after.ensures.written true).before
