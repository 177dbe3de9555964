use Rattle.std.proofs.Common.{ap, ◌∙◌, map}
use Rattle.std.proofs.lemmas.Iterator.Consumers.{YieldsList-end}
use Rattle.std.proofs.lemmas.Iterator.Splits.{YieldsList-from_lines}
use Rattle.schema_lines.specs.Renames.{rename_of}
use Rattle.journal_c_api.proofs.numberings.renames_in.Goals as goal

pub returns : goal.returns
returns c =
    let t = YieldsList-end (YieldsList-from_lines c.args.text.now cc) c.loop-line.yielded _ c.loop-line.yielded_by
    _ _ c.in-None.is c.next.ensures.steps in
    c.loop-line.invariant ∙ ap (map rename_of) t.0
