-- The canonical payload of what a payload means is canonical, and means the same.
use Rattle.std.proofs.Common.{◌≡◌, ℕ, ◌<◌, ◌≤◌, ◌^◌, List, length, sym, ap, subst, ◌∙◌, arith, true}
use Rattle.std.specs.List.{list_all}
use Rattle.shared_core_wire.specs.Schema.{Table, is_schema}
use Rattle.shared_core_wire.specs.Value.{Parts}
use Rattle.shared_core_wire.specs.Overlay.{meaning}
use Rattle.shared_core_wire.specs.Canonical.{canonical_payload, levels}
use Rattle.shared_core_wire.specs.Fitting.{Fits}
use Rattle.shared_core_wire.proofs.ReadBackLevels.{canonical_back}
use Rattle.shared_core_wire.proofs.Runs.{and_split}
use Rattle.shared_core_codec.specs.Tables.{IsTable, IsAcceptedIn, may_be_empty}
use Rattle.shared_core_canonical.specs.Payloads.{IsCanonicalOfIn}
use Rattle.shared_core_canonical.proofs.Meanings.{IsBytes, accepted_means}

pub are_schemas : (table : Table) → IsTable table → (s : ℕ) → is_schema (table s) ≡ true
are_schemas table valid s = (and_split (is_schema (table s)) (list_all may_be_empty (table s)) (valid s)).0

pub whole_payload : (table : Table) → IsTable table → (s : ℕ) (payload bytes : List ℕ) → IsAcceptedIn table s payload
    → IsBytes payload → bytes ≡ canonical_payload table s (meaning table 100 s payload) → length bytes < 2 ^ 32
    → IsCanonicalOfIn table s payload bytes
whole_payload table valid s payload bytes a i e short =
    let is = accepted_means table valid s payload a i in
    let means = meaning table 100 s payload in
    let back = canonical_back table (are_schemas table valid) 100 s means is.fits is.low
    (omega (arith, ap length e, short)) in
    let accepted : IsAcceptedIn table s bytes = subst (λ (b : List ℕ). IsAcceptedIn table s b) (sym e) back.0 in
    let same : meaning table 100 s bytes ≡ means = ap (meaning table 100 s) e ∙ back.1 in
    record {
      written = e;
      canonical = record {
        short = short;
        accepted = accepted;
        fits = subst (λ (w : Parts). Fits table w (table s)) (sym same) is.fits;
        low = subst (λ (w : Parts). levels w ≤ 100) (sym same) is.low;
        canonical = e ∙ ap (canonical_payload table s) (sym same);
      };
      same = same;
    }
