use Rattle.encoded_input.proofs.Blanks.{blank_means}
use Rattle.encoded_input.proofs.laws.blanks_mean_nothing.Goals as goal

pub returns : goal.returns
returns c = blank_means
