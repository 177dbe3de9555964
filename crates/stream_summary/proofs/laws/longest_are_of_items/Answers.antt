use Rattle.stream_summary.proofs.Longest.{are_longest}
use Rattle.stream_summary.proofs.laws.longest_are_of_items.Goals as goal

pub returns : goal.returns
returns c = λ version items. are_longest version items
