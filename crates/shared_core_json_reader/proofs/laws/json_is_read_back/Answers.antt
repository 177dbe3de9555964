use Rattle.shared_core_json_reader.proofs.LawOfJson.{json_back}
use Rattle.shared_core_json_reader.proofs.laws.json_is_read_back.Goals as goal

pub returns : goal.returns
returns c = json_back c.args.texts c.args.schema
