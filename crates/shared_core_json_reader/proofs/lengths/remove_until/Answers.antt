use Rattle.std.proofs.Common.{◌∙◌}
use Rattle.shared_core_json_reader.proofs.Varints.{removed}
use Rattle.shared_core_json_reader.proofs.lengths.remove_until.Goals as goal

pub loop-more-preserved : goal.loop-more-preserved
loop-more-preserved c =
    let l = c.loop-more in
    let x = removed l.out.items c.remove.new.self.items c.args.at l.more c.loop-more-test.true l.invariant.0
    c.remove.ensures.by_index.2 in (
      x.room,
      x.before ∙ l.invariant.1,
      x.after ∙ l.invariant.2,
    )
