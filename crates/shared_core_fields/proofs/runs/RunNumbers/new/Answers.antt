use Rattle.shared_core_codec.specs.ProgramRows.{kind_view}
use Rattle.shared_core_fields.proofs.RunNumbers.{written_numbers}
use Rattle.shared_core_fields.proofs.runs.RunNumbers.new.Goals as goal

pub invariant_of-result : goal.invariant_of-result
invariant_of-result c = record {
  varints = (written_numbers (kind_view c.args.run.kind) c.args.run.bytes.now c.args.run.written).varints;
}
