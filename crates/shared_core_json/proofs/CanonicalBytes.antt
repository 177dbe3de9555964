-- The canonical payload of what a payload means.
use Rattle.std.proofs.Common.{◌≡◌, ℕ, ◌<◌, ◌≤◌, ◌^◌, List, length, Result, Ok, Err, sym, ap, subst, ◌∙◌, arith}
use Rattle.std.specs.Prelude.{OnOk}
use Rattle.base64.specs.GeneralPurpose.{IsBytes}
use Rattle.shared_core_wire.specs.Value.{Parts}
use Rattle.shared_core_wire.specs.Canonical.{canonical_payload, levels}
use Rattle.shared_core_wire.specs.Fitting.{Fits}
use Rattle.shared_core_codec.specs.Table.{table}
use Rattle.shared_core_codec.specs.Payloads.{IsAccepted, payload_meaning}
use Rattle.shared_core_codec.proofs.PayloadLaws.{canonical_is_read_back}
use Rattle.shared_core_json.specs.Payloads.{IsCanonicalOf}
use Rattle.shared_core_json.proofs.Meanings.{accepted_means}

pub canonical_bytes : (s : ℕ) (payload bytes : List ℕ) (v : Parts) → v ≡ payload_meaning s payload
    → IsAccepted s payload → IsBytes payload → bytes ≡ canonical_payload table s v → length bytes < 2 ^ 32
    → IsCanonicalOf s payload bytes
canonical_bytes s payload bytes v m a i e short =
    let is = accepted_means s payload a i in
    let means = payload_meaning s payload in
    let same : bytes ≡ canonical_payload table s means = e ∙ ap (canonical_payload table s) m in
    let back = canonical_is_read_back s means is.fits (omega (arith, ap length same, short)) is.low in
    let accepted : IsAccepted s bytes = subst (λ (b : List ℕ). IsAccepted s b) (sym same) back.0 in
    let meaning : payload_meaning s bytes ≡ means = ap (payload_meaning s) same ∙ back.1 in
    record {
      canonical = record {
        short = short;
        accepted = accepted;
        fits = subst (λ (w : Parts). Fits table w (table s)) (sym meaning) is.fits;
        low = subst (λ (w : Parts). levels w ≤ 100) (sym meaning) is.low;
        canonical = same ∙ ap (canonical_payload table s) (sym meaning);
      };
      same = meaning;
    }

pub on_both : {A E P Q R : Type 0} (r : Result A E) → (P → Q → R) → OnOk r P → OnOk r Q → OnOk r R
on_both (Ok x) f p q = f p q
on_both (Err e) f p q = tt
