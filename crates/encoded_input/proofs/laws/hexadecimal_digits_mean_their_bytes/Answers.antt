use Rattle.encoded_input.proofs.Hex.{backslash_x_means, lower_means, upper_means, zero_x_means}
use Rattle.encoded_input.proofs.laws.hexadecimal_digits_mean_their_bytes.Goals as goal

pub returns-clause-lower : goal.returns-clause-lower
returns-clause-lower c = lower_means

pub returns-clause-upper : goal.returns-clause-upper
returns-clause-upper c = upper_means

pub returns-clause-zero_x : goal.returns-clause-zero_x
returns-clause-zero_x c = zero_x_means

pub returns-clause-backslash_x : goal.returns-clause-backslash_x
returns-clause-backslash_x c = backslash_x_means
