use Rattle.std.proofs.Common.{[], length, refl, arith}
use Rattle.shared_core_wire.specs.ReadRecords.{read_records}
use Rattle.shared_core_wire.specs.RecordsLeft.{records_left}
use Rattle.shared_core_wire.proofs.ReadRecords.{read_complete, read_count, read_few}
use Rattle.shared_core_wire.proofs.Places.{read_are, read_lie}
use Rattle.shared_core_wire.proofs.records.Records.within.Goals as goal

pub returns-clause-computed : goal.returns-clause-computed
unfolding read_records records_left
returns-clause-computed c = refl

pub returns-clause-items : goal.returns-clause-items
unfolding records_left
returns-clause-items c = read_are c.args.left (length c.args.payload.now) c.args.payload.now [] c.args.payload.now
    (omega arith) refl

pub returns-clause-complete : goal.returns-clause-complete
unfolding records_left
returns-clause-complete c = read_complete c.args.left c.args.payload.now

pub returns-clause-few : goal.returns-clause-few
unfolding records_left
returns-clause-few c = read_count c.args.left (length c.args.payload.now) (length c.args.payload.now) c.args.payload.now
    (omega arith)

pub returns-clause-bound : goal.returns-clause-bound
unfolding records_left
returns-clause-bound c = read_few c.args.left (length c.args.payload.now) (length c.args.payload.now) c.args.payload.now
    (omega arith)

pub returns-clause-lies : goal.returns-clause-lies
unfolding records_left
returns-clause-lies c = read_lie c.args.left (length c.args.payload.now) c.args.payload.now [] c.args.payload.now
    (omega arith) refl
