use Rattle.shared_core_base.specs.MessageHeader.{word_of}
use Rattle.shared_core_frames.proofs.Joining.{frame_after}
use Rattle.shared_core_frames.proofs.frame.put_frame.Goals as goal
use Rattle.std.specs.Int.{w64, to_be_bytes}

pub returns-clause-ok : goal.returns-clause-ok
returns-clause-ok g c =
    frame_after c.append_rows.result g.M.WireRecord.schema (g.M.WireRecord.parts c.args.message.now) c.to_bytes.result
    (to_be_bytes w64 (word_of c.args.header)) (g.S.PayloadSink.contents c.args.out.now)
    (g.S.PayloadSink.contents c.put.new.self) (g.S.PayloadSink.contents c.append_rows.new.out) c.to_bytes.ensures
    c.in_ok-put.ensures.ok c.append_rows.ensures.ok
