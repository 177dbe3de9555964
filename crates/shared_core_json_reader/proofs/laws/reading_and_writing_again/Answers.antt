use Rattle.shared_core_json_reader.proofs.ReadAgain.{read_again}
use Rattle.shared_core_json_reader.proofs.laws.reading_and_writing_again.Goals as goal

pub returns : goal.returns
returns c = read_again c.args.texts c.args.schema
