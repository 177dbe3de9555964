use Rattle.std.proofs.Common.{sym, ◌∙◌}
use Rattle.shared_core_base.proofs.Types.{types_equal, types_same}
use Rattle.shared_core_base.proofs.laws.equal_types.Goals as goal

pub returns : goal.returns
returns c = (
  λ is. types_equal c.args.a c.args.b (sym c.eq.ensures ∙ is),
  λ same. c.eq.ensures ∙ types_same c.args.a c.args.b same,
)
