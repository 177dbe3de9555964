use Rattle.std.proofs.Common.{◌≡◌, ◌∙◌, ◌++◌, ap, arith, rules, length, min, take, inl, inr}
use Rattle.shared_core_stream.proofs.Segments.{copied_next, copied_all}
use Rattle.shared_core_stream.proofs.shared_chunks.SharedChunks.joined.Goals as goal
use Rattle.shared_core_stream.proofs.shared_chunks.SharedChunks.joined.Goals.{else-loop-i-test}
use Rattle.shared_core_stream.proofs.shared_chunks.SharedChunks.joined.Goals.{then-loop-i-test+then-wanted-eq0}

pub loop-i-preserved : goal.loop-i-preserved
loop-i-preserved c =
    let segment = c.index.result.now in
    let part : c.min-part-in-loop-i.result ≡ min c.loop-i.wanted (length segment) = search rules in
    let next : c.append.new.bytes.items ≡ c.loop-i.bytes.items ++ take c.min-part-in-loop-i.result segment = search
    rules in
    copied_next c.self.inside.front c.self.inside.after.items c.loop-i.i c.args.count c.loop-i.wanted
    c.min-part-in-loop-i.result segment c.loop-i.bytes.items _
    (search rules) c.index.ensures c.loop-i.invariant.0 c.loop-i.invariant.1 (omega arith) part next

pub returns : goal.returns
returns c =
    let end = copied_all c.self.inside.front c.self.inside.after.items c.loop-i.i c.args.count
    (elim c.loop-i-test.branch [
      | else-loop-i-test w ↦ inr (search rules)
      | then-loop-i-test+then-wanted-eq0 w ↦ inl
          (omega (arith, c.loop-i.invariant.1))
    ]) in
    c.in_ok-from_vec.ensures.ok ∙ c.loop-i.invariant.0 ∙ end ∙ ap (take c.args.count) c.self.view_is
