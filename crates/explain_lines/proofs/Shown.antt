-- Texts that are appended to.
use Rattle.std.proofs.Common.{◌≡◌, ℕ, zero, suc, ◌+◌, ◌<◌, List, [], ◌∷◌, ◌++◌, length, drop, refl, ap, append_assoc}
use Rattle.std.proofs.Common.{arith, add-one}
use Rattle.std.proofs.Common.{◌∙◌}
use Rattle.std.specs.Prelude.{codes, Result, Ok, Err, OnOk}
use Rattle.explain_lines.specs.declared.piece.FieldAt.{FieldAt}
use Rattle.explain_lines.specs.Lines.{indentation}

pub appended : (a b c : List ℕ) → (a ++ b) ++ c ≡ a ++ (b ++ c)
appended a b c = append_assoc a b c

pub indented : (i : ℕ) (path : List FieldAt) → i < length path → indentation (drop i path)
    ≡ codes "  " ++ indentation (drop (i + 1) path)
indented i [] h = absurd (omega arith)
indented zero (field ∷ path) h = refl
indented (suc i) (field ∷ path) h = rw (add-one (suc i)) (rw (add-one i) at (indented i path (omega arith)))

pub joined : {T E : Type 0} (r : Result T E) (old mid new a b : List ℕ) → mid ≡ old ++ a → OnOk r (new ≡ mid ++ b) →
    OnOk r (new ≡ old ++ (a ++ b))
joined (Ok x) old mid new a b e h = h ∙ (ap (λ (t : List ℕ). t ++ b) e ∙ append_assoc old a b)
joined (Err x) old mid new a b e h = h

pub joined_five : (old t u v w new a b c d e : List ℕ) → t ≡ old ++ a → u ≡ t ++ b → v ≡ u ++ c → w ≡ v ++ d
    → new ≡ w ++ e → new ≡ old ++ (a ++ (b ++ (c ++ (d ++ e))))
joined_five old t u v w new a b c d e f g h i j =
    j ∙ ap (λ (l : List ℕ). l ++ e) i ∙ append_assoc v d e
    ∙ ap (λ (l : List ℕ). l ++ (d ++ e)) h ∙ append_assoc u c (d ++ e)
    ∙ ap (λ (l : List ℕ). l ++ (c ++ (d ++ e))) g ∙ append_assoc t b (c ++ (d ++ e))
    ∙ ap (λ (l : List ℕ). l ++ (b ++ (c ++ (d ++ e)))) f ∙ append_assoc old a (b ++ (c ++ (d ++ e)))
