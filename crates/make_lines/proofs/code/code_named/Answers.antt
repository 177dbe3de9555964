use Rattle.make_lines.proofs.Names.{code_found, no_code_found}
use Rattle.make_lines.proofs.code.code_named.Goals as goal

pub returns-in-Some : goal.returns-in-Some
returns-in-Some c = code_found _ _ c.in-Some.ty _ c.from_name.ensures c.in-Some.is c.from.ensures

pub returns-in-None : goal.returns-in-None
returns-in-None c = no_code_found _ _ c.from_name.ensures c.in-None.is
