use Rattle.std.proofs.Common.{arith, rules}
use Rattle.shared_core_borrowed.proofs.Whole.{read_back}
use Rattle.shared_core_borrowed.proofs.record.payload_len.Goals as goal

pub returns-clause-reads_back : goal.returns-clause-reads_back
returns-clause-reads_back g c =
    read_back g.R.Record.schema c.measure.new.measure.size (g.R.Record.parts c.args.given.now) (search rules)
    (omega arith) (search rules)
