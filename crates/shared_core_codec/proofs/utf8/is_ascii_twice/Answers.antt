use Rattle.std.proofs.Common.{arith, inl, inr}
use Rattle.std.proofs.lemmas.Bool.{cases_lt}
use Rattle.shared_core_wire.proofs.Runs.{and_split}
use Rattle.shared_core_codec.proofs.Ascii.{ascii_is_utf8}
use Rattle.shared_core_codec.proofs.utf8.is_ascii_twice.Goals as goal

pub returns : goal.returns
returns g c = λ t.
    let both = and_split c.is_ascii_from.result c.is_ascii_from-2.result t in
    ascii_is_utf8 c.args.bytes.now (λ k h. elim (cases_lt k g.row.N) [
      | inl l ↦ c.is_ascii_from.ensures both.0 k (omega arith) (omega arith)
      | inr m ↦ c.is_ascii_from-2.ensures both.1 k (omega arith) (omega arith)
    ])
