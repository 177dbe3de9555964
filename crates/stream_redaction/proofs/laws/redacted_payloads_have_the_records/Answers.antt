use Rattle.stream_redaction.proofs.Kept.{records_kept}
use Rattle.stream_redaction.proofs.laws.redacted_payloads_have_the_records.Goals as goal

pub returns : goal.returns
returns c = records_kept
