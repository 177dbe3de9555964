use Rattle.diff_lines.proofs.PlainLines.{plain_verdict}
use Rattle.diff_lines.proofs.laws.plain_line_has_the_text.Goals as goal

pub returns : goal.returns
returns c = λ found said.
    plain_verdict found.verdict found.recorded_type found.replayed_type found.fields.items said
