-- What a text is read as is canonical, and its JSON is read as the same again.
use Rattle.std.proofs.Common.{◌≡◌, ℕ, ◌^◌, ◌<◌, ◌≤◌, List, length, Bool, Some, option_map, sym, ap, ◌∙◌, arith}
use Rattle.shared_core_wire.specs.Canonical.{canonical_payload, levels}
use Rattle.shared_core_wire.specs.Fitting.{Fits}
use Rattle.shared_core_codec.specs.Table.{table}
use Rattle.shared_core_codec.specs.Payloads.{IsAccepted, payload_meaning}
use Rattle.shared_core_json_reader.specs.Laws.{ReadsCanonical, IsReadAgain}
use Rattle.shared_core_json_reader.specs.Reading.{json_of_text, message_read, value_payload, text_meaning, text_payload}
use Rattle.shared_core_json_reader.specs.Rows.{protocol}
use Rattle.shared_core_json_reader.specs.Readable.{protocol_is_readable}
use Rattle.shared_core_json_reader.proofs.Fitting.{some_map, some_then, message_fits}
use Rattle.shared_core_json_reader.proofs.LawOfJson.{json_back}
use Rattle.shared_core_json_reader.proofs.Whole.{payload_means}

-- what is known of a payload that was read
record IsRead (s : ℕ) (payload : List ℕ) : Type 0 where
  accepted : IsAccepted s payload
  fits : Fits table (payload_meaning s payload) (table s)
  low : levels (payload_meaning s payload) ≤ 100
  canonical : payload ≡ canonical_payload table s (payload_meaning s payload)

read_is : (s : ℕ) (text payload : List ℕ) → text_payload s text ≡ Some payload → length payload < 2 ^ 64 → IsRead s
    payload
read_is s text payload e z =
    let x = some_map (canonical_payload table s) (text_meaning s text) payload e in
    let y = some_then (message_read protocol 101 s) (json_of_text text) x.0 x.1 in
    let read : value_payload s y.0 ≡ Some payload = ap (option_map (canonical_payload table s)) y.2 ∙ ap
    (λ (b : List ℕ). Some b) x.2 in
    let means = payload_means protocol protocol_is_readable s y.0 payload read z in
    let fit = message_fits protocol protocol_is_readable 101 s y.0 (payload_meaning s payload) means.1 in
    let same : Some (canonical_payload table s (payload_meaning s payload)) ≡ Some payload = sym
    (ap (option_map (canonical_payload table s)) means.1) ∙ read in
    record { accepted = means.0; fits = fit.0; low = omega (arith, fit.1); canonical = cc }

pub read_canonical : (s : ℕ) → ReadsCanonical s
read_canonical s text payload e z =
    let is = read_is s text payload e (omega (arith, z)) in
    record { short = z; accepted = is.accepted; fits = is.fits; low = is.low; canonical = is.canonical }

pub read_again : (texts : Bool) (s : ℕ) → IsReadAgain texts s
read_again texts s text again payload e bytes z utf8 lexed =
    let is = read_is s text payload e z in
    json_back texts s (payload_meaning s payload) payload again
    (record { fits = is.fits; low = omega (arith, is.low); canonical = is.canonical }) bytes is.low utf8 lexed
