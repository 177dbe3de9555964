-- Lists measured element by element, and packed runs.
use Rattle.std.proofs.Common.{◌≡◌, ℕ, ◌+◌, ◌<◌, ◌≤◌, ◌^◌, List, length, drop, get_or, add-one, drop-cons, refl, sym}
use Rattle.std.proofs.Common.{◌∙◌, ap, arith, true, Bool}
use Rattle.std.proofs.lemmas.List.{drop_all}
use Rattle.std.specs.Prelude.{◌&&◌}
use Rattle.shared_core_codec.proofs.Measuring.{count_from, count_next, from_index}
use Rattle.shared_core_codec.specs.FieldParts.{elements_part, parts_of}
use Rattle.shared_core_codec.specs.RowEncoding.{capped, measured_row, unpacked, value_bytes}
use Rattle.shared_core_wire.specs.Schema.{Kind, Repeated}
use Rattle.shared_core_wire.specs.Value.{Part}
use Rattle.shared_core_borrowed.proofs.Fitting.{and_assoc, and_true}
use Rattle.shared_core_borrowed.specs.Fit.{elements_fit, list_fits, value_fits}

-- whether the elements from an index on fit
pub fit_from : {M : Type 0} → (M → Part) → Kind → List M → ℕ → Bool
fit_from view k xs i = list_fits k (parts_of view (drop i xs))

fit_next : {M : Type 0} (view : M → Part) (k : Kind) (xs : List M) (i : ℕ) (x : M) → i < length xs → x ≡ get_or xs i x
    → fit_from view k xs i ≡ (value_fits k (view x) && fit_from view k xs (i + 1))
unfolding fit_from list_fits value_fits elements_fit
fit_next view k xs i x h e = rw (add-one, drop-cons xs i x h, ← e) refl

fit_end_of : {M : Type 0} (view : M → Part) (k : Kind) (xs : List M) (i : ℕ) → length xs ≤ i
    → fit_from view k xs i ≡ true
unfolding fit_from list_fits elements_fit
fit_end_of view k xs i h = rw (drop_all i xs h) refl

fit_start : {M : Type 0} (view : M → Part) (k : Kind) (xs : List M) → fit_from view k xs 0 ≡ list_fits k
    (parts_of view xs)
unfolding fit_from
fit_start view k xs = refl

abbrev pub IsMeasured : {M : Type 0} → (M → Part) → ℕ → Kind → List M → ℕ → Bool → ℕ → ℕ → Bool → Type 0
IsMeasured view at k xs first before i now fits =
    (capped (now + length (from_index view at k xs i)) ≡ capped (first + length (from_index view at k xs 0)))
    × (now ≤ 2 ^ 32) × ((fits && fit_from view k xs i) ≡ (before && fit_from view k xs 0))

pub measure_step : {M : Type 0} (view : M → Part) (at : ℕ) (k : Kind) (xs : List M) (i : ℕ) (x : M) (first old now : ℕ)
    (before was fits : Bool) → i < length xs → x ≡ get_or xs i x
    → now ≡ capped (old + length (value_bytes at k (view x)))
    → fits ≡ (was && value_fits k (view x)) → IsMeasured view at k xs first before i old was
    → IsMeasured view at k xs first before (i + 1) now fits
measure_step view at k xs i x first old now before was fits h e s f w = (
  rw s (sym (count_next view at k xs i x old h e) ∙ w.0),
  omega (arith, s),
  rw f (sym (and_assoc was (value_fits k (view x)) (fit_from view k xs (i + 1))) ∙ ap (λ t. was && t)
      (sym (fit_next view k xs i x h e)) ∙ w.2),
)

pub all_measured : {M : Type 0} (view : M → Part) (at : ℕ) (k : Kind) (xs : List M) (first now i : ℕ) → length xs ≤ i
    → unpacked k ≡ true → (before fits : Bool) → IsMeasured view at k xs first before i now fits
    → now ≡ measured_row (Repeated at k) (elements_part view xs) first
all_measured view at k xs first now i h u before fits w = count_from view at k xs first now i w.1 h u w.0

pub all_fit : {M : Type 0} (view : M → Part) (at : ℕ) (k : Kind) (xs : List M) (before fits : Bool) (i : ℕ)
    → length xs ≤ i → (first now : ℕ) → IsMeasured view at k xs first before i now fits
    → fits ≡ (before && list_fits k (parts_of view xs))
all_fit view at k xs before fits i h first now w =
    sym (and_true fits) ∙ ap (λ t. fits && t) (sym (fit_end_of view k xs i h)) ∙ w.2
    ∙ ap (λ t. before && t) (fit_start view k xs)
