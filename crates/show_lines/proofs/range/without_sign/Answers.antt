use Rattle.std.proofs.Common.{refl}
use Rattle.std.specs.Prelude.{codes}
use Rattle.show_lines.proofs.Patterns.{after_start}
use Rattle.show_lines.proofs.range.without_sign.Goals as goal

pub returns : goal.returns
returns c = after_start (codes "=") c.args.text.now c.strip_prefix.result c.args.text c.unwrap_or.result
    c.strip_prefix.ensures.cases refl c.unwrap_or.ensures
