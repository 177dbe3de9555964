use Rattle.std.proofs.Common.{rules}
use Rattle.shared_core_codec.proofs.FittingRows.{fit_enum}
use Rattle.shared_core_codec.proofs.enumeration.I32Scalar.is_default.Goals as goal

pub returns-clause-fit : goal.returns-clause-fit
returns-clause-fit c = fit_enum c.args.self.now (search rules)
