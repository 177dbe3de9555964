use Rattle.stream_redaction.proofs.Splitting.{alike, splits_alike}
use Rattle.stream_redaction.proofs.laws.redacted_streams_split_alike.Goals as goal

pub returns-clause-split : goal.returns-clause-split
returns-clause-split c key version stream rest items = splits_alike key version stream rest items

pub returns-clause-alike : goal.returns-clause-alike
returns-clause-alike c = alike
