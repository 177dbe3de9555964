use Rattle.std.proofs.Common.{sym, ◌∙◌}
use Rattle.shared_core_base.proofs.Types.{headers_equal, headers_same}
use Rattle.shared_core_base.proofs.laws.equal_headers.Goals as goal

pub returns : goal.returns
returns c = (
  λ is. headers_equal c.args.a c.args.b (sym c.eq.ensures ∙ is),
  λ same. c.eq.ensures ∙ headers_same c.args.a c.args.b same,
)
