-- What a rejected text is read as.
use Rattle.std.proofs.Common.{◌≡◌, ◌≢◌, ℕ, List, Option, Some, None, Result, Ok, Err, refl, sym, ap, subst}
use Rattle.std.specs.Prelude.{MatchOption, option_map}
use Rattle.json.specs.Json.{Json}
use Rattle.shared_core_json_reader.specs.declared.error.Reason.TheVariants as reasons
use Rattle.shared_core_json_reader.specs.declared.error.JsonReadError.{JsonReadError}
use Rattle.shared_core_json_reader.specs.Reading.{json_of_text, text_payload}
use Rattle.shared_core_json_reader.specs.FirstError.{value_error, IsNotJson, IsPlace, SaysError}
use Rattle.journal_c_api.specs.declared.outcome.CallError.{CallError}
use Rattle.journal_c_api.specs.declared.json_payloads.Reading.{Reading}
use Rattle.journal_c_api.specs.declared.json_payloads.Reading.TheVariants.{Payload, NotJson, NotTaken}
use Rattle.journal_c_api.specs.JsonPayloads.{IsReading, ReadsText, SaysRejected, kind_and_path}

module _ (s : ℕ) (text : List ℕ) (error : JsonReadError)
    (rejected : error.reason ≢ reasons.OutOfMemory → text_payload s text ≡ None)
    (says : error.reason ≢ reasons.OutOfMemory → MatchOption (json_of_text text) (IsNotJson error text)
    (λ value. SaysError error (value_error s value))) where
  Says : Option Json → Type 0
  Says found = MatchOption found (IsNotJson error text) (λ value. SaysError error (value_error s value))

  -- an error with an offset is that of a text that is not JSON
  not_json : (offset : ℕ) → error.offset ≡ Some offset → (found : Option Json) → json_of_text text ≡ found → Says found
      → IsReading s text (NotJson offset)
  unfolding Says
  not_json offset there None e said = (e, subst (IsPlace text) there said.2)
  not_json offset there (Some j) e said = absurd cc

  -- the result of a text that is rejected is what it is read as
  pub rejected_reads : (result : Result Reading CallError) → SaysRejected error result → ReadsText s text result
  unfolding Says
  rejected_reads (Ok (Payload payload)) h = absurd h
  rejected_reads (Ok (NotJson offset)) h = not_json offset h.1 (json_of_text text) refl (says h.0)
  rejected_reads (Ok (NotTaken kind path)) h = taken (json_of_text text) refl (says h.1.0)
    where
      taken : (found : Option Json) → json_of_text text ≡ found → Says found → IsReading s text (NotTaken kind path)
      taken None e said = absurd (subst (IsPlace text) h.0 said.2)
      taken (Some j) e said = (
        j,
        e,
        rejected h.1.0,
        rw (h.1.1, h.1.2) (ap (option_map kind_and_path) said.0),
      )
  rejected_reads (Err failure) h = subst (λ f. ReadsText s text (Err f)) (sym h) tt
