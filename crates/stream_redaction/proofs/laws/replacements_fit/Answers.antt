use Rattle.stream_redaction.proofs.Kept.{length_replacement, utf8_replacement}
use Rattle.stream_redaction.proofs.laws.replacements_fit.Goals as goal

pub returns-clause-long : goal.returns-clause-long
returns-clause-long c = length_replacement

pub returns-clause-text : goal.returns-clause-text
returns-clause-text c = utf8_replacement
