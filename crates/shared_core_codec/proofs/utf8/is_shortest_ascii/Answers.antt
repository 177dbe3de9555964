use Rattle.std.proofs.Common.{arith}
use Rattle.shared_core_codec.proofs.Ascii.{ascii_is_utf8}
use Rattle.shared_core_codec.proofs.utf8.is_shortest_ascii.Goals as goal

pub returns-then-len-eq0 : goal.returns-then-len-eq0
returns-then-len-eq0 c = λ t. ascii_is_utf8 c.args.bytes.now (λ k h. absurd (omega arith))
