use Rattle.encoded_input.proofs.Base64.{standard_means, url_safe_means}
use Rattle.encoded_input.proofs.laws.base64_symbols_mean_their_bytes.Goals as goal

pub returns-clause-standard : goal.returns-clause-standard
returns-clause-standard c = standard_means

pub returns-clause-url_safe : goal.returns-clause-url_safe
returns-clause-url_safe c = url_safe_means
