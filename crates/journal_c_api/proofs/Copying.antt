-- A canonical payload is the result for itself.
use Rattle.std.proofs.Common.{◌≡◌, ℕ, List, [], ◌++◌, Ok, true, nat_lt, length, append-nil, refl, sym, ap, ◌∙◌}
use Rattle.std.proofs.lemmas.List.Elements.{All-nil}
use Rattle.shared_core_wire.specs.Canonical.{canonical_payload}
use Rattle.shared_core_codec.specs.Canonicity.{IsCanonical}
use Rattle.shared_core_codec.specs.Payloads.{IsAccepted, payload_meaning}
use Rattle.shared_core_codec.specs.Table.{schemas, table}
use Rattle.journal_c_api.specs.Payloads.{ReturnsMerged, ReturnsCanonical}

pub returns_canonical : (s : ℕ) (payload : List ℕ) → nat_lt s (length schemas) ≡ true → IsCanonical s payload
    → ReturnsCanonical s payload (Ok payload)
returns_canonical s payload known canonical =
    let joined : payload ++ [] ≡ payload = append-nil payload in
    let is : payload ≡ canonical_payload table s (payload_meaning s (payload ++ [])) =
    canonical.canonical ∙ ap (λ p. canonical_payload table s (payload_meaning s p)) (sym joined) in
    let merged : ReturnsMerged s payload [] (Ok payload) = rw known (canonical.accepted, All-nil (IsAccepted s), is) in
    (merged, λ _ _. refl)
