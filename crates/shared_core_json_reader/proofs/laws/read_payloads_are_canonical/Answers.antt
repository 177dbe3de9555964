use Rattle.shared_core_json_reader.proofs.ReadAgain.{read_canonical}
use Rattle.shared_core_json_reader.proofs.laws.read_payloads_are_canonical.Goals as goal

pub returns : goal.returns
returns c = read_canonical c.args.schema
