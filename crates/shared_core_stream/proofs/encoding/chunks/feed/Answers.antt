use Rattle.std.proofs.Common.{ap}
use Rattle.shared_core_stream.proofs.encoding.chunks.feed.Goals as goal

pub returns-in-Ok-clause-no_more : goal.returns-in-Ok-clause-no_more
returns-in-Ok-clause-no_more c = rw (ap (λ u. u.version) c.in-Ok.ensures.ok) at c.drain.ensures.no_more
