use Rattle.std.proofs.Common.{◌≡◌, ◌++◌, rules}
use Rattle.shared_core_stream.proofs.Segments.{copied_more}
use Rattle.shared_core_stream.proofs.shared_chunks.SharedChunks.copy_to.Goals as goal

pub loop-i-preserved : goal.loop-i-preserved
loop-i-preserved c =
    let segment = c.index.result.now in
    let next : c.extend_from_slice-in-loop-i.new.self.items ≡ c.loop-i.bytes.items ++ segment = search rules in
    copied_more c.args.bytes.now.items c.self.inside.front c.self.inside.after.items c.loop-i.i segment
    c.loop-i.bytes.items _
    (search rules) c.index.ensures c.loop-i.invariant next
