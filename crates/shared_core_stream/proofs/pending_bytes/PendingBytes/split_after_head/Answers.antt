use Rattle.std.proofs.Common.{sym}
use Rattle.shared_core_stream.proofs.Segments.{payload_before}
use Rattle.shared_core_stream.proofs.pending_bytes.PendingBytes.split_after_head.Goals as goal

pub returns-clause-taken : goal.returns-clause-taken
returns-clause-taken c =
    rw (sym c.self.view_is) (payload_before c.self.inside.chunks _ c.self.inside.block.items c.args.count
    c.split_after_head.result c.split_after_head.ensures.taken)
