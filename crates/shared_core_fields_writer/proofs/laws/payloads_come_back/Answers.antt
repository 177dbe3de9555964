use Rattle.shared_core_fields_writer.proofs.OutAndIn.{out_and_in}
use Rattle.shared_core_fields_writer.proofs.laws.payloads_come_back.Goals as goal

pub returns : goal.returns
returns c = out_and_in
