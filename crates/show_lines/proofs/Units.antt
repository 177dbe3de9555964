-- The unit that a text ends with.
use Rattle.std.proofs.Common.{◌≡◌, ℕ, suc, ◌+◌, ◌<◌, List, ◌∷◌, Some, None, length, drop, map, get_or}
use Rattle.std.proofs.Common.{refl, sym, ap, subst, ◌∙◌, add-one}
use Rattle.std.specs.Str.Pattern.{FindsTextSuffix, StripsSuffix}
use Rattle.std.proofs.Math.ListN.{get_or-map, length-map}
use Rattle.std.proofs.Math.Seq.{drop-cons}
use denote.Ref.{Bor}
use Rattle.show_lines.specs.Ranges.{unit_of, without_unit}
use Rattle.show_lines.proofs.Patterns.{ends_by}

at_unit : (us : List (Bor (List ℕ) × ℕ)) (d : Bor (List ℕ) × ℕ) (i : ℕ) → i < length us → drop i (map unit_of us) ≡
    unit_of (get_or us i d) ∷ drop (i + 1) (map unit_of us)
at_unit us d i short =
    let within : i < length (map unit_of us) = subst (λ (n : ℕ). i < n) (sym (length-map us unit_of)) short in
    drop-cons (map unit_of us) i (unit_of d) within
    ∙ ap (λ (u : List ℕ × ℕ). u ∷ drop (suc i) (map unit_of us)) (get_or-map unit_of us i d)
    ∙ ap (λ (n : ℕ). unit_of (get_or us i d) ∷ drop n (map unit_of us)) (sym (add-one i))

-- a text ends with the unit at this index, and with none before it
pub found : (us : List (Bor (List ℕ) × ℕ)) (d : Bor (List ℕ) × ℕ) (i : ℕ) (text : List ℕ) (front : Bor (List ℕ)) →
    StripsSuffix (FindsTextSuffix (get_or us i d).0.now) text front.now → i < length us → without_unit
    (drop i (map unit_of us)) text ≡ without_unit (map unit_of us) text → without_unit (map unit_of us) text
    ≡ (front.now, Some (get_or us i d).1)
found us d i text front is short left =
    let ends = ends_by (get_or us i d).0.now text (Some front) is in
    sym left ∙ ap (λ (list : List (List ℕ × ℕ)). without_unit list text) (at_unit us d i short)
    ∙ rw (ends.ends, ends.front) refl

-- a text ends neither with the unit at this index nor with one before it
pub passed : (us : List (Bor (List ℕ) × ℕ)) (d : Bor (List ℕ) × ℕ) (i : ℕ) (text : List ℕ) → FindsTextSuffix (get_or
    us i d).0.now text None → i < length us → without_unit (drop i (map unit_of us)) text ≡ without_unit (map
    unit_of us) text → without_unit (drop (i + 1) (map unit_of us)) text ≡ without_unit (map unit_of us) text
passed us d i text none short left =
    let not = ends_by (get_or us i d).0.now text None none in
    let here : without_unit (drop i (map unit_of us)) text ≡ without_unit (drop (i + 1) (map unit_of us)) text =
    ap (λ (list : List (List ℕ × ℕ)). without_unit list text) (at_unit us d i short) ∙ rw not refl in
    sym here ∙ left
