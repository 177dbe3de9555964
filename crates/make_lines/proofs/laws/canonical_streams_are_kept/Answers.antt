use Rattle.make_lines.proofs.KeptDumps.{canonical_kept, kept_streams}
use Rattle.make_lines.proofs.laws.canonical_streams_are_kept.Goals as goal

pub returns-clause-stream : goal.returns-clause-stream
returns-clause-stream c = kept_streams

pub returns-clause-payload : goal.returns-clause-payload
returns-clause-payload c = canonical_kept
