use Rattle.std.proofs.Common.{List, [], ℕ, Option, sym, ap}
use Rattle.std.specs.Option.{option_map_or}
use Rattle.stream_redaction.specs.Redaction.{after_varint}
use Rattle.stream_redaction.proofs.payload.after_varint.Goals as goal

pub returns-in-Some : goal.returns-in-Some
unfolding after_varint
returns-in-Some c = sym (ap (λ (o : Option (ℕ × List ℕ)). option_map_or (λ x. x.1) o []) c.in-Some.ensures)

pub returns-in-None : goal.returns-in-None
unfolding after_varint
returns-in-None c = sym (ap (λ (o : Option (ℕ × List ℕ)). option_map_or (λ x. x.1) o []) c.in-None.ensures)
