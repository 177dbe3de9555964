use Rattle.shared_core_json_reader.proofs.Whole.{error_said}
use Rattle.shared_core_json_reader.proofs.read.payload_into_in.Goals as goal

pub returns-clause-error : goal.returns-clause-error
returns-clause-error g c =
    error_said (g.T.ReadableSchemas.format c.args.of.schemas.now) c.args.of.schema c.args.node.now
    c.append_payload-result.result _ c.append_payload-result.ensures.error
