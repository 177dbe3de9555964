use Rattle.std.proofs.Common.{◌+◌, ◌≤◌, length, sym, arith}
use Rattle.std.specs.List.{concat}
use Rattle.shared_core_stream.proofs.Segments.{front_payload}
use Rattle.shared_core_stream.proofs.shared_chunks.SharedChunks.split_after_head.Goals as goal

pub returns-clause-taken : goal.returns-clause-taken
returns-clause-taken c =
    let whole : 8 + c.args.count ≤ length c.self.inside.front =
    omega (arith, c.if-len-end.false, c.len.ensures.value) in
    rw (sym c.self.view_is, c.in_ok-payload.ensures.ok, c.drop_used_up.ensures.same, c.advance.ensures)
    (front_payload c.self.inside.front (concat c.self.inside.after.items) c.args.count whole)
