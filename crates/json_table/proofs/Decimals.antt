-- What `{}` writes of a number of 128 bits is a number of JSON.
use Rattle.std.proofs.Common.{◌≡◌, ℕ, suc, ◌+◌, ◌%◌, ◌^◌, ◌<◌, Bool, true, false, cond, List, [], ◌∷◌, ◌++◌, length}
use Rattle.std.proofs.Common.{get_or, decimal, refl, arith, length-append}
use lib.ListN.{get_or-append}
use Rattle.std.proofs.lemmas.Bool.{ne_eqb, le-leb, and_from}
use Rattle.std.proofs.lemmas.List.{drop_all}
use Rattle.std.proofs.lemmas.Fmt.{decimal_by_steps_wide}
use Rattle.std.specs.List.{prefix_len}
use Rattle.std.specs.Char.{is_ascii_digit}
use Rattle.json.specs.Word.{after_number}
use Rattle.json.specs.Print.{IsNumber}

-- Digits only. The first is 0 only if the number is.
record IsWhole (n : ℕ) (ds : List ℕ) : Type 0 where
  pub digits : prefix_len is_ascii_digit ds ≡ length ds
  pub some : 0 < length ds
  pub first : 0 < n → 48 < get_or ds 0 0

is_digit : (m : ℕ) → m < 10 → is_ascii_digit (48 + m) ≡ true
is_digit m l = and_from _ _ (le-leb 48 (48 + m) (omega arith)) (le-leb (48 + m) 57 (omega arith))

one_more : (ds : List ℕ) (m : ℕ) → m < 10 → prefix_len is_ascii_digit ds ≡ length ds → prefix_len is_ascii_digit
    (ds ++ ((48 + m) ∷ [])) ≡ length (ds ++ ((48 + m) ∷ []))
one_more [] m l e = rw (is_digit m l) refl
one_more (d ∷ ds) m l e = by (is_ascii_digit d) e (one_more ds m l)
  where
    more : List ℕ
    more = ds ++ ((48 + m) ∷ [])

    by : (b : Bool) → cond b (1 + prefix_len is_ascii_digit ds) 0 ≡ suc (length ds)
        → (prefix_len is_ascii_digit ds ≡ length ds → prefix_len is_ascii_digit more ≡ length more)
        → cond b (1 + prefix_len is_ascii_digit more) 0 ≡ suc (length more)
    by true h rest = omega (arith, rest (omega arith))
    by false h rest = absurd (omega arith)

whole_decimal : (n : ℕ) → n < 2 ^ 128 → IsWhole n (decimal n)
whole_decimal n small = decimal_by_steps_wide IsWhole
    (λ m l. record { digits = one_more [] m l refl; some = omega arith; first = λ a. omega arith })
    (λ m ds l h. record {
      digits = one_more ds (m % 10) (omega arith) h.digits;
      some = omega (arith, length-append ds ((48 + m % 10) ∷ []));
      first = λ a. omega (arith, get_or-append ds ((48 + m % 10) ∷ []) 0 0 h.some, h.first (omega arith));
    })
    n (omega arith)

whole_number : (n : ℕ) (ds : List ℕ) → 0 < n → IsWhole n ds → IsNumber ds
unfolding after_number
whole_number n [] some h = absurd (omega (arith, h.some))
whole_number n (d ∷ ds) some h =
    let first = h.first some in
    rw (
      ne_eqb d 45 (λ e. omega arith),
      ne_eqb d 48 (λ e. omega arith),
      h.digits,
      ne_eqb (suc (length ds)) 0
          (λ e. omega arith),
      drop_all (length ds) ds (omega arith),
    ) refl

pub wide_is_number : (n : ℕ) → 0 < n → n < 2 ^ 128 → IsNumber (decimal n)
wide_is_number n some small = whole_number n (decimal n) some (whole_decimal n small)
