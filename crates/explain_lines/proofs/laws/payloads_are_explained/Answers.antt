use Rattle.std.proofs.Common.{[]}
use Rattle.explain_lines.proofs.Explaining.{is_explanation}
use Rattle.explain_lines.proofs.laws.payloads_are_explained.Goals as goal

pub returns : goal.returns
returns c s payload = is_explanation 100 [] s payload
