-- The lists of the program's enums, and that the numbers of their values have 32 bits.
use Rattle.std.proofs.Common.{◌≡◌, ℕ, zero, suc, ◌<◌, ◌≤◌, ◌%◌, ◌^◌, List, [], ◌∷◌, map, length, get_or, refl, arith}
use Rattle.std.proofs.Common.{Option, Some, None, Vec, true, ap, ◌∙◌}
use Rattle.std.proofs.Math.Nat.{mod-lt, mod-eq_of_lt}
use Rattle.std.proofs.lemmas.Bool.{lt-ltb}
use Rattle.std.specs.Prelude.{◌&&◌}
use Rattle.std.specs.declared.alloc.Global.{Global}
use Rattle.shared_core_json_reader.specs.declared.loaded_enums.LoadedEnums.{LoadedEnums}
use Rattle.shared_core_json_reader.specs.declared.loaded_enums.LoadedValue.{LoadedValue}
use Rattle.shared_core_json_reader.specs.LoadedEnums.{all_fields_view, all_values_view, enum_of, enum_values, list_at}
use Rattle.shared_core_json_reader.specs.LoadedEnums.{values_if, values_view}
use Rattle.shared_core_json_reader.specs.Readable.{are_low}

module _ {A B : Type 0} (view : A → List B) where
  pub at_index : (xs : List A) (i : ℕ) (d : A) → i < length xs → view (get_or xs i d) ≡ list_at (map view xs) i
  at_index [] i d h = absurd (omega arith)
  at_index (x ∷ xs) zero d h = refl
  at_index (x ∷ xs) (suc i) d h = at_index xs i d (omega arith)

  pub past_end : (xs : List A) (i : ℕ) → length xs ≤ i → [] ≡ list_at (map view xs) i
  past_end [] i h = refl
  past_end (x ∷ xs) zero h = absurd (omega arith)
  past_end (x ∷ xs) (suc i) h = past_end xs i (omega arith)

values_low : (values : List LoadedValue) → are_low (values_view values) ≡ true
values_low [] = refl
values_low (v ∷ vs) = ap (λ b. b && are_low (values_view vs))
    (lt-ltb (v.number % 2 ^ 32) (2 ^ 32) (mod-lt v.number (omega arith))) ∙ values_low vs

enum_low : (all : List (Vec LoadedValue Global)) (i : ℕ) → are_low (list_at (all_values_view all) i) ≡ true
enum_low [] i = refl
enum_low (vs ∷ all) zero = values_low vs.items
enum_low (vs ∷ all) (suc i) = enum_low all i

low_if : (all : List (Vec LoadedValue Global)) (o : Option ℕ) → are_low (values_if (all_values_view all) o) ≡ true
low_if all None = refl
low_if all (Some i) = enum_low all i

pub enums_low : (e : LoadedEnums) (s n : ℕ) → are_low (enum_values e s n) ≡ true
enums_low e s n = low_if e.values.items (enum_of (list_at (all_fields_view e.fields.items) s) n)

-- a number of 32 bits is its low 32 bits
pub low_number : (n : ℕ) → n < 2 ^ 32 → n % 2 ^ 32 ≡ n
low_number n h = mod-eq_of_lt h
