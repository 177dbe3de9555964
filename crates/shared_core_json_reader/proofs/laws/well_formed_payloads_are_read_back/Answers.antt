use Rattle.shared_core_json_reader.proofs.WellFormedBack.{well_formed_back, printed_well_formed}
use Rattle.shared_core_json_reader.proofs.laws.well_formed_payloads_are_read_back.Goals as goal

pub returns-clause-printed : goal.returns-clause-printed
returns-clause-printed c = printed_well_formed c.args.texts c.args.schema

pub returns-clause-tokens : goal.returns-clause-tokens
returns-clause-tokens c = well_formed_back c.args.texts c.args.schema
