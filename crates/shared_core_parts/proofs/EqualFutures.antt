-- When two futures are equal.
use Rattle.std.proofs.Common.{◌≡◌, ℕ, suc, ◌+◌, ◌<◌, ◌≤◌, List, [], ◌∷◌, Bool, true, false, ◌&&◌, refl, ap, sym, ◌∙◌}
use Rattle.std.proofs.Common.{eqb, length, drop, get_or, add-one, drop-cons, arith}
use Rattle.std.specs.Prelude.{string_eq}
use Rattle.std.specs.Ordering.{int_eq}
use Rattle.std.proofs.Math.Bool.{and-false, and-true}
use Rattle.std.proofs.lemmas.List.{drop_all}
use lib.Pointwise.{pointwise}
use Rattle.shared_core_wire.specs.Value as value
use Rattle.shared_core_parts.specs.Futures.{future_parts, future_layer, futures_part, in_rows}
use Rattle.shared_core_parts.specs.declared.future.Future.{Future}
use Rattle.shared_core_parts.specs.declared.future.Future.TheViews.{out-Future}
use Rattle.shared_core_parts.specs.declared.future.Future.TheFolds.{fold_out-Future}
use Rattle.shared_core_codec.specs.Equality.{part_equal, parts_equal}
use Rattle.shared_core_codec.specs.EqualityRules.{equal_elements, equal_enums, equal_numbers, equal_texts, part_test_is}
use Rattle.shared_core_codec.specs.FieldParts.{elements_part, enum_part, text_part}
use Rattle.shared_core_wire.specs.Value.{Parts}

-- ---- whether two futures have the same value in one field

abbrev same_completions : Future → Future → Bool
same_completions a b = part_equal (elements_part value.Number (out-Future a).waiting_completions.items)
    (elements_part value.Number (out-Future b).waiting_completions.items)

abbrev same_signals : Future → Future → Bool
same_signals a b = part_equal (elements_part value.Number (out-Future a).waiting_signals.items)
    (elements_part value.Number (out-Future b).waiting_signals.items)

abbrev same_names : Future → Future → Bool
same_names a b = part_equal (elements_part text_part (out-Future a).waiting_named_signals.items)
    (elements_part text_part (out-Future b).waiting_named_signals.items)

abbrev same_nested : Future → Future → Bool
same_nested a b = part_equal (futures_part (out-Future a).nested_futures.items)
    (futures_part (out-Future b).nested_futures.items)

abbrev same_combinator : Future → Future → Bool
same_combinator a b = part_equal (enum_part (out-Future a).combinator_type) (enum_part (out-Future b).combinator_type)

numbers_equal : (xs ys : List ℕ) → pointwise eqb xs ys ≡ part_equal (elements_part value.Number xs)
    (elements_part value.Number ys)
numbers_equal xs ys = part_test_is _ _ _ (equal_elements eqb value.Number equal_numbers xs ys)

completions_test : (a b : Future) → pointwise eqb (out-Future a).waiting_completions.items
    (out-Future b).waiting_completions.items ≡ same_completions a b
completions_test a b = numbers_equal (out-Future a).waiting_completions.items (out-Future b).waiting_completions.items

signals_test : (a b : Future) → pointwise eqb (out-Future a).waiting_signals.items (out-Future b).waiting_signals.items
    ≡ same_signals a b
signals_test a b = numbers_equal (out-Future a).waiting_signals.items (out-Future b).waiting_signals.items

names_test : (a b : Future) → pointwise string_eq (out-Future a).waiting_named_signals.items
    (out-Future b).waiting_named_signals.items ≡ same_names a b
names_test a b = part_test_is _ _ _ (equal_elements string_eq text_part equal_texts
    (out-Future a).waiting_named_signals.items (out-Future b).waiting_named_signals.items)

combinator_test : (a b : Future) → int_eq (out-Future a).combinator_type (out-Future b).combinator_type ≡
    same_combinator a b
combinator_test a b = part_test_is _ _ _ (equal_enums (out-Future a).combinator_type (out-Future b).combinator_type)

-- ---- two futures are equal if all five fields are, in whatever order these are

abbrev all_same : Bool → Bool → Bool → Bool → Bool → Bool
all_same = in_rows (λ (field fields : Bool). field && fields) true

future_equal : (a b : Future) → parts_equal (future_parts a) (future_parts b) ≡ all_same (same_completions a b)
    (same_signals a b) (same_names a b) (same_nested a b) (same_combinator a b)
future_equal a b = rw (fold_out-Future Parts future_layer a, fold_out-Future Parts future_layer b) refl

beyond : (b c : Bool) → c ≡ false → (b && c) ≡ false
beyond b c h = rw h (and-false b)

another_completion : (w x y z : Bool) → all_same false w x y z ≡ false
another_completion w x y z = search beyond

another_signal : (v x y z : Bool) → all_same v false x y z ≡ false
another_signal v x y z = search beyond

another_name : (v w y z : Bool) → all_same v w false y z ≡ false
another_name v w y z = search beyond

another_nested : (v w x z : Bool) → all_same v w x false z ≡ false
another_nested v w x z = search beyond

pub by_completions : (a b : Future) → pointwise eqb (out-Future a).waiting_completions.items
    (out-Future b).waiting_completions.items ≡ false → parts_equal (future_parts a) (future_parts b) ≡ false
by_completions a b h = future_equal a b ∙ rw (sym (completions_test a b) ∙ h)
    (another_completion (same_signals a b) (same_names a b) (same_nested a b) (same_combinator a b))

pub by_signals : (a b : Future) → pointwise eqb (out-Future a).waiting_signals.items
    (out-Future b).waiting_signals.items ≡ false → parts_equal (future_parts a) (future_parts b) ≡ false
by_signals a b h = future_equal a b ∙ rw (sym (signals_test a b) ∙ h)
    (another_signal (same_completions a b) (same_names a b) (same_nested a b) (same_combinator a b))

pub by_names : (a b : Future) → pointwise string_eq (out-Future a).waiting_named_signals.items
    (out-Future b).waiting_named_signals.items ≡ false → parts_equal (future_parts a) (future_parts b) ≡ false
by_names a b h = future_equal a b ∙ rw (sym (names_test a b) ∙ h)
    (another_name (same_completions a b) (same_signals a b) (same_nested a b) (same_combinator a b))

pub by_nested : (a b : Future) → part_equal (futures_part (out-Future a).nested_futures.items)
    (futures_part (out-Future b).nested_futures.items) ≡ false → parts_equal (future_parts a) (future_parts b) ≡ false
by_nested a b h = future_equal a b ∙ rw h
    (another_nested (same_completions a b) (same_signals a b) (same_names a b) (same_combinator a b))

pub by_last : (a b : Future) → pointwise eqb (out-Future a).waiting_completions.items
    (out-Future b).waiting_completions.items ≡ true
    → pointwise eqb (out-Future a).waiting_signals.items (out-Future b).waiting_signals.items ≡ true
    → pointwise string_eq (out-Future a).waiting_named_signals.items (out-Future b).waiting_named_signals.items ≡ true
    → part_equal (futures_part (out-Future a).nested_futures.items) (futures_part (out-Future b).nested_futures.items) ≡
    true
    → int_eq (out-Future a).combinator_type (out-Future b).combinator_type ≡ parts_equal (future_parts a)
    (future_parts b)
by_last a b h i j k = combinator_test a b ∙ sym (future_equal a b ∙ rw (
  sym (completions_test a b) ∙ h,
  sym (signals_test a b) ∙ i,
  sym (names_test a b) ∙ j,
  k,
) (and-true (same_combinator a b)))

-- whether the futures from an index on are the same
pub from_same : List Future → List Future → ℕ → Bool
from_same xs ys i = part_equal (futures_part (drop i xs)) (futures_part (drop i ys))

eq_next : (xs ys : List Future) (i : ℕ) (x y : Future) → i < length xs → i < length ys → x ≡ get_or xs i x → y ≡ get_or
    ys i y
    → from_same xs ys i ≡ (parts_equal (future_parts x) (future_parts y) && from_same xs ys (i + 1))
unfolding from_same
eq_next xs ys i x y h k d e = rw (add-one, drop-cons xs i x h, drop-cons ys i y k, ← d, ← e) refl

eq_end : (xs ys : List Future) (i : ℕ) → length xs ≤ i → length ys ≡ length xs → from_same xs ys i ≡ true
unfolding from_same
eq_end xs ys i h k = rw (drop_all i xs h, drop_all i ys (omega (arith, h, k))) refl

pub eq_lengths : (xs ys : List Future) → (length xs ≡ length ys → ⊥) → part_equal (futures_part xs) (futures_part ys) ≡
    false
eq_lengths [] [] h = absurd (h refl)
eq_lengths [] (y ∷ ys) h = refl
eq_lengths (x ∷ xs) [] h = refl
eq_lengths (x ∷ xs) (y ∷ ys) h = rw (eq_lengths xs ys (λ e. h (ap suc e))) (and-false _)

pub eq_step : (xs ys : List Future) (i : ℕ) (x y : Future) → i < length xs → i < length ys → x ≡ get_or xs i x → y ≡
    get_or ys i y
    → parts_equal (future_parts x) (future_parts y) ≡ true → from_same xs ys i ≡ from_same xs ys 0 → from_same xs ys
    (i + 1) ≡ from_same xs ys 0
eq_step xs ys i x y h k d e s w = sym (rw s at (eq_next xs ys i x y h k d e)) ∙ w

pub eq_stop : (xs ys : List Future) (i : ℕ) (x y : Future) → i < length xs → i < length ys → x ≡ get_or xs i x → y ≡
    get_or ys i y
    → parts_equal (future_parts x) (future_parts y) ≡ false → from_same xs ys i ≡ from_same xs ys 0 → false ≡ part_equal
    (futures_part xs) (futures_part ys)
unfolding from_same
eq_stop xs ys i x y h k d e s w = sym (rw s at (eq_next xs ys i x y h k d e)) ∙ w

pub eq_whole : (xs ys : List Future) (i : ℕ) → length xs ≤ i → length ys ≡ length xs
    → from_same xs ys i ≡ from_same xs ys 0 → true ≡ part_equal (futures_part xs) (futures_part ys)
unfolding from_same
eq_whole xs ys i h k w = sym (eq_end xs ys i h k) ∙ w
