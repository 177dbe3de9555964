use Rattle.stream_versions.proofs.Fitting.{goes_on}
use Rattle.stream_versions.proofs.laws.fits_go_on.Goals as goal

pub returns : goal.returns
returns c version other stream items same skips = goes_on version other skips stream items same
