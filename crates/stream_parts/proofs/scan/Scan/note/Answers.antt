use Rattle.std.proofs.Common.{refl}
use Rattle.stream_parts.proofs.Counting.{noted}
use Rattle.stream_parts.proofs.scan.Scan.note.Goals as goal

pub returns-clause-noted : goal.returns-clause-noted
returns-clause-noted c = λ items was.
    noted c.args.self.now.range items c.args.item c.args.self.now.located _ was (rw (
      c.start_with.ensures,
      c.take.ensures.value,
      c.starts-is_start.ensures,
      c.up_to-located.ensures,
      c.up_to-located-2.ensures,
      c.up_to-located-3.ensures,
      c.with_item-all.ensures,
    ) refl)
