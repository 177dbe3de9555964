use Rattle.diff_lines.proofs.Painting.{painted_text_line}
use Rattle.diff_lines.proofs.laws.colors_add_nothing.Goals as goal

pub returns : goal.returns
returns c = λ is_short is_escaped found.
    painted_text_line is_short is_escaped found.verdict found.recorded_type found.replayed_type found.fields.items
