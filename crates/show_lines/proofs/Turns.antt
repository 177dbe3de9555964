-- The turns of loops that append a text for each element, or look for one.
use Rattle.std.proofs.Common.{◌≡◌, ℕ, List, [], ◌∷◌, ◌++◌, Bool, true, false, refl, ap, sym, ◌∙◌}
use Rattle.std.proofs.Common.{append_assoc, append-nil}
use Rattle.std.specs.Prelude.{flat_map, ◌==◌}
use Rattle.std.specs.List.{list_any}
use Rattle.shared_core_fields.specs.Fields.{FieldPart}
use Rattle.show_lines.specs.Contents.{number_in, number_part, has_failure, is_failure}

module _ {A : Type 0} (show : A → List ℕ) where
  -- one element was appended
  pub one_more : (all rest : List A) (one : A) (line longer whole : List ℕ) → all ≡ one ∷ rest → longer ≡ line ++ show
      one → line ++ flat_map show all ≡ whole → longer ++ flat_map show rest ≡ whole
  one_more all rest one line longer whole is appended so_far =
      ap (λ (text : List ℕ). text ++ flat_map show rest) appended
      ∙ append_assoc line (show one) (flat_map show rest)
      ∙ ap (λ (elements : List A). line ++ flat_map show elements) (sym is) ∙ so_far

  -- no element is left
  pub none_left : (all : List A) (line whole : List ℕ) → all ≡ [] → line ++ flat_map show all ≡ whole → line ≡ whole
  none_left all line whole is so_far = sym (append-nil line)
      ∙ ap (λ (elements : List A). line ++ flat_map show elements) (sym is) ∙ so_far

module _ {A : Type 0} (test : A → Bool) where
  -- the first of those that are left passes
  pub any_found : (all rest : List A) (one : A) → all ≡ one ∷ rest → test one ≡ true → list_any test all ≡ true
  any_found all rest one is passes = rw (is, passes) refl

  -- it does not
  pub any_after : (all rest : List A) (one : A) → all ≡ one ∷ rest → test one ≡ false → list_any test all ≡ list_any
      test rest
  any_after all rest one is fails = rw (is, fails) refl

pub number_found : (n : ℕ) (all rest : List FieldPart) (one : FieldPart) → all ≡ one ∷ rest → (one.0 == n) ≡ true →
    number_in n all ≡ number_part one
number_found n all rest one is same = rw (is, same) refl

pub number_after : (n : ℕ) (all rest : List FieldPart) (one : FieldPart) → all ≡ one ∷ rest → (one.0 == n) ≡ false →
    number_in n all ≡ number_in n rest
number_after n all rest one is other = rw (is, other) refl

pub failure_found : (all rest : List FieldPart) (one : FieldPart) → all ≡ one ∷ rest → is_failure one ≡ true →
    has_failure all ≡ true
failure_found all rest one is same = rw (is, same) refl

pub failure_after : (all rest : List FieldPart) (one : FieldPart) → all ≡ one ∷ rest → is_failure one ≡ false →
    has_failure all ≡ has_failure rest
failure_after all rest one is other = rw (is, other) refl
