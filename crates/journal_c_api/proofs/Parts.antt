-- Which part of a payload is malformed.
use Rattle.std.proofs.Common.{ℕ, List, [], Result, Err}
use Rattle.std.proofs.lemmas.List.Elements.{All-nil}
use Rattle.shared_core_codec.specs.Payloads.{IsAccepted}
use Rattle.journal_c_api.specs.declared.outcome.CallError.{CallError}
use Rattle.journal_c_api.specs.declared.outcome.CallError.TheVariants.{Malformed, MalformedSecond}
use Rattle.journal_c_api.specs.Payloads.{ReturnsMeaning, TellsParts}

-- of a payload in one part, that part is the malformed one
pub only_part : (s : ℕ) (first : List ℕ) (outcome : Result (List ℕ) CallError)
    → ReturnsMeaning s first [] outcome → TellsParts s first [] outcome
only_part s first (Err Malformed) held = λ accepted. held (accepted, All-nil (IsAccepted s))
only_part s first (Err MalformedSecond) held = absurd held
only_part s first outcome held = held
