-- The field that a text begins with.
use Rattle.std.proofs.Common.{◌≡◌, ℕ, suc, ◌+◌, ◌<◌, List, ◌∷◌, Some, None, length, drop, map, get_or}
use Rattle.std.proofs.Common.{refl, sym, ap, subst, ◌∙◌, add-one}
use Rattle.std.proofs.Math.ListN.{get_or-map, length-map}
use Rattle.std.proofs.Math.Seq.{drop-cons}
use Rattle.std.specs.Str.Pattern.{FindsTextPrefix, StripsPrefix}
use denote.Ref.{Bor}
use Rattle.show_lines.specs.Words.{field_said, named_field}
use Rattle.show_lines.specs.declared.filter.FieldName.{FieldName}
use Rattle.show_lines.proofs.Patterns.{begins_by}

at_field : (fs : List (Bor (List ℕ) × FieldName)) (d : Bor (List ℕ) × FieldName) (i : ℕ) → i < length fs → drop i
    (map named_field fs) ≡ named_field (get_or fs i d) ∷ drop (i + 1) (map named_field fs)
at_field fs d i short =
    let within : i < length (map named_field fs) =
    subst (λ (n : ℕ). i < n) (sym (length-map fs named_field)) short in
    drop-cons (map named_field fs) i (named_field d) within
    ∙ ap (λ (u : List ℕ × FieldName). u ∷ drop (suc i) (map named_field fs)) (get_or-map named_field fs i d)
    ∙ ap (λ (n : ℕ). named_field (get_or fs i d) ∷ drop n (map named_field fs)) (sym (add-one i))

-- a text begins with the field at this index, and with none before it
pub found : (fs : List (Bor (List ℕ) × FieldName)) (d : Bor (List ℕ) × FieldName) (i : ℕ) (text : List ℕ)
    (rest : Bor (List ℕ)) → StripsPrefix (FindsTextPrefix (get_or fs i d).0.now) text rest.now → i < length fs
    → field_said (drop i (map named_field fs)) text ≡ field_said (map named_field fs) text → field_said
    (map named_field fs) text ≡ (Some (get_or fs i d).1, rest.now)
found fs d i text rest is short left =
    let begins = begins_by (get_or fs i d).0.now text (Some rest) is in
    sym left ∙ ap (λ (list : List (List ℕ × FieldName)). field_said list text) (at_field fs d i short)
    ∙ rw (begins.begins, begins.rest) refl

-- a text begins neither with the field at this index nor with one before it
pub passed : (fs : List (Bor (List ℕ) × FieldName)) (d : Bor (List ℕ) × FieldName) (i : ℕ) (text : List ℕ) →
    FindsTextPrefix (get_or fs i d).0.now text None → i < length fs → field_said (drop i (map named_field fs))
    text ≡ field_said (map named_field fs) text → field_said (drop (i + 1) (map named_field fs)) text
    ≡ field_said (map named_field fs) text
passed fs d i text none short left =
    let not = begins_by (get_or fs i d).0.now text None none in
    let here : field_said (drop i (map named_field fs)) text ≡ field_said (drop (i + 1) (map named_field fs)) text =
    ap (λ (list : List (List ℕ × FieldName)). field_said list text) (at_field fs d i short) ∙ rw not refl in
    sym here ∙ left
