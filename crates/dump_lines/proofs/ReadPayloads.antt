-- The test for canonical payloads.
use Rattle.std.proofs.Common.{◌≡◌, ℕ, ◌<◌, ◌^◌, List, length, get_or, Bool, true, false, ◌&&◌, ◌||◌, refl, sym}
use Rattle.std.proofs.lemmas.Bool.{lt-ltb, ltb-true, both_ways}
use Rattle.shared_core_codec.specs.Canonicity.{IsCanonicalIn}
use Rattle.shared_core_codec.specs.Tables.{IsTable}
use Rattle.shared_core_codec.proofs.CanonicityIn.{sound}
use Rattle.shared_core_codec.proofs.CanonicityExactIn.{complete}
use Rattle.shared_core_wire.specs.Schema.{Table}
use Rattle.dump_lines.specs.Reading.{is_canonical_in}

both : (b c : Bool) → b ≡ true → c ≡ true → (b && c) ≡ true
both true c h k = k
both false c h k = h

each : (b c : Bool) → (b && c) ≡ true → (b ≡ true) × (c ≡ true)
each true c h = (refl, h)
each false c h = absurd (both_ways false refl h)

pub not_true : (b : Bool) → (b ≡ true → ⊥) → b ≡ false
not_true true h = absurd (h refl)
not_true false h = refl

-- what is not canonical does not pass the test
pub not_canonical : (table : Table) (s : ℕ) (payload : List ℕ) → IsTable table → ((i : ℕ) → get_or payload i 0 < 256)
    → (IsCanonicalIn table s payload → ⊥) → is_canonical_in table s payload ≡ false
not_canonical table s payload valid are_bytes h = not_true (is_canonical_in table s payload)
    (λ e. let parts = each _ _ e in h (sound table valid s payload are_bytes (ltb-true _ _ parts.0) parts.1))

-- a test that is true if and only if a payload is canonical is this one
pub test_is : (table : Table) (s : ℕ) (payload : List ℕ) (b : Bool) → IsTable table
    → ((i : ℕ) → get_or payload i 0 < 256) → (b ≡ true → IsCanonicalIn table s payload)
    → (IsCanonicalIn table s payload → b ≡ true) → b ≡ is_canonical_in table s payload
test_is table s payload true valid are_bytes to from =
    let h = to refl in sym (both _ _ (lt-ltb (length payload) (2 ^ 32) h.short) (complete table valid s payload h))
test_is table s payload false valid are_bytes to from =
    sym (not_canonical table s payload valid are_bytes (λ h. both_ways false refl (from h)))
