use Rattle.std.proofs.Common.{ap, ◌∙◌, ◌++◌, ◌<◌, length, rules}
use Rattle.std.specs.List.{concat}
use Rattle.shared_core_stream.proofs.Segments.{segments_push, joined_push}
use Rattle.shared_core_stream.proofs.shared_chunks.SharedChunks.push.Goals as goal

pub invariant_of-self-2 : goal.invariant_of-self-2
invariant_of-self-2 c =
    let some : 0 < length c.self.inside.front = search rules in
    let more : 0 < length c.args.chunk = search rules in
    rw (c.in_ok-push_back.ensures.items, c.len.ensures.value)
    (segments_push c.self.inside.front c.self.inside.after.items c.self.inside.len c.args.chunk c.self.invariant some
    more)

pub returns-clause-ok : goal.returns-clause-ok
returns-clause-ok c =
    ap (λ l. c.self.inside.front ++ concat l) c.in_ok-push_back.ensures.items
    ∙ joined_push c.self.inside.front c.self.inside.after.items c.args.chunk
    ∙ ap (λ l. l ++ c.args.chunk) c.self.view_is
