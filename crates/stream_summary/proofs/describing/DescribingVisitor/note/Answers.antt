use Rattle.std.proofs.lemmas.Result.{on_ok_weaker}
use Rattle.stream_summary.proofs.Counting.{has_room, one_more}
use Rattle.stream_summary.proofs.describing.DescribingVisitor.note.Goals as goal

pub note-requires : goal.note-requires
note-requires g c =
    let (items, is, small) = c.requires in
    has_room c.args.version items c.args.item.now c.args.self.now.summary is small

pub returns-clause-noted : goal.returns-clause-noted
returns-clause-noted g c = on_ok_weaker c.note.result
    (λ seen items was. one_more c.args.version _ _ items c.args.item.now seen was) c.note.ensures.seen
