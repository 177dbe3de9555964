use Rattle.std.proofs.Common.{◌∙◌, ap}
use Rattle.std.proofs.lemmas.Result.{on_ok_weaker}
use Rattle.show_lines.specs.Lines.{joins}
use Rattle.show_lines.specs.Steps.{waiting_of}
use Rattle.show_lines.proofs.stream.Lines.join.Goals as goal

pub returns-clause-joined : goal.returns-clause-joined
returns-clause-joined c = on_ok_weaker c.join_item.result
    (λ line. line ∙ ap (joins c.args.is_selected (waiting_of c.args.self.now) c.args.facts.now) c.as_str.ensures.value)
    c.join_item.ensures.joined
