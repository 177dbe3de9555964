-- One element more.
use Rattle.std.proofs.Common.{◌≡◌, ℕ, ◌+◌, ◌<◌, ◌≤◌, ◌^◌, List, length, get_or, sym, ◌∙◌, arith}
use Rattle.shared_core_codec.proofs.FittingRows.{FitFrom, fit_next, fit_number}
use Rattle.shared_core_codec.proofs.Measuring.{count_next, from_index, packed_count, packed_from}
use Rattle.shared_core_codec.specs.RowFitting.{ValueFits}
use Rattle.shared_core_codec.specs.RowEncoding.{capped, value_bytes}
use Rattle.shared_core_wire.specs.Schema.{Kind, U32}
use Rattle.shared_core_wire.specs.Encoding.{shortest_varint}
use Rattle.shared_core_wire.specs.Value.{Number, Part}

abbrev pub IsMeasured : {M : Type 0} → (M → Part) → ℕ → Kind → List M → ℕ → ℕ → ℕ → Type 0
IsMeasured view at k xs first i now =
    (capped (now + length (from_index view at k xs i)) ≡ capped (first + length (from_index view at k xs 0)))
    × (now ≤ 2 ^ 32) × (FitFrom view k xs i → FitFrom view k xs 0)

pub measure_step : {M : Type 0} (view : M → Part) (at : ℕ) (k : Kind) (xs : List M) (i : ℕ) (x : M) (first old now : ℕ)
    → i < length xs → x ≡ get_or xs i x
    → now ≡ capped (old + length (value_bytes at k (view x))) → ValueFits k (view x) → IsMeasured view at k xs first i
    old → IsMeasured view at k xs first (i + 1) now
measure_step view at k xs i x first old now h e s f w = (
  rw s (sym (count_next view at k xs i x old h e) ∙ w.0),
  omega (arith, s),
  λ g. w.2
      (fit_next view k xs i x h e f g),
)

abbrev pub IsPacked : List ℕ → ℕ → ℕ → ℕ → Type 0
IsPacked ns first i now =
    (capped (now + length (packed_from ns i)) ≡ capped (first + length (packed_from ns 0)))
    × (now ≤ 2 ^ 32) × (FitFrom Number U32 ns i → FitFrom Number U32 ns 0)

pub packed_step : (ns : List ℕ) (i n first old now : ℕ) → i < length ns → n ≡ get_or ns i 0 → n < 2 ^ 32
    → now ≡ capped (old + length (shortest_varint n)) → IsPacked ns first i old → IsPacked ns first (i + 1) now
packed_step ns i n first old now h e l s w =
    (rw s (sym (packed_count ns i n old h e) ∙ w.0), omega (arith, s), λ g. w.2 (fit_number ns i n h e l g))
