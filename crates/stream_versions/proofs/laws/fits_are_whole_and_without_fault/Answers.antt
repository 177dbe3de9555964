use Rattle.stream_versions.proofs.Fitting.{reported, whole}
use Rattle.stream_versions.proofs.laws.fits_are_whole_and_without_fault.Goals as goal

pub returns-clause-whole : goal.returns-clause-whole
returns-clause-whole c = whole

pub returns-clause-reported : goal.returns-clause-reported
returns-clause-reported c = reported
