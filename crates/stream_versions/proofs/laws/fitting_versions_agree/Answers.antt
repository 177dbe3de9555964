use Rattle.stream_versions.proofs.Fitting.{agree}
use Rattle.stream_versions.proofs.laws.fitting_versions_agree.Goals as goal

pub returns : goal.returns
returns c = agree
