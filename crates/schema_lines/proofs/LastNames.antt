-- What is after the last dot of a text.
use Rattle.std.proofs.Common.{◌≡◌, ◌≢◌, ℕ, suc, ◌<◌, List, [], ◌∷◌, ◌++◌, length, get_or, take, drop}
use Rattle.std.proofs.Common.{Some, None, true, false, cond, eqb, refl, sym, ap, ◌∙◌, arith}
use Rattle.std.proofs.Common.{take-append-drop}
use Rattle.std.specs.Str.Pattern.{RFindsChar}
use Rattle.std.proofs.lemmas.Str.Pattern.{NoCharPasses-char, drop_at_char}
use Rattle.std.proofs.lemmas.Bool.{ne_eqb}
use Rattle.schema_lines.specs.Names.{after_dots, last_name}

-- A text has no dot.
abbrev pub HasNoDot : List ℕ → Type 0
HasNoDot text = (i : ℕ) → i < length text → get_or text i 0 ≢ 46

-- Of such a text there is nothing after dots.
pub without_dots : (other text : List ℕ) → HasNoDot text → after_dots other text ≡ other
without_dots other [] h = refl
without_dots other (b ∷ text) h =
    ap (λ v. cond v (after_dots text text) (after_dots other text)) (ne_eqb b 46 (h 0 (omega arith)))
    ∙ without_dots other text (λ i l. h (suc i) (omega arith))

-- What is after a dot, and has none, is after the last one.
pub behind_dot : (other front back : List ℕ) → HasNoDot back → after_dots other (front ++ (46 ∷ back)) ≡ back
behind_dot other [] back h = without_dots back back h
behind_dot other (b ∷ front) back h =
    elim (eqb b 46)
    as (λ v. cond v (after_dots (front ++ (46 ∷ back)) (front ++ (46 ∷ back)))
    (after_dots other (front ++ (46 ∷ back))) ≡ back)
    [ true ↦ behind_dot (front ++ (46 ∷ back)) front back h | false ↦ behind_dot other front back h ]

pub no_dot : (text : List ℕ) → RFindsChar 46 text None → text ≡ last_name text
unfolding last_name
no_dot text h = sym (without_dots text text (λ i l. NoCharPasses-char 46 text i h (omega arith) l))

pub last_dot : (text : List ℕ) (i j : ℕ) → RFindsChar 46 text (Some (i, j)) → drop j text ≡ last_name text
unfolding last_name
last_dot text i j h =
    let back = drop j text in
    let none : HasNoDot back = λ k l. NoCharPasses-char 46 back k h.0 (omega arith) l in
    let parts : take i text ++ (46 ∷ back) ≡ text =
    ap (λ rest. take i text ++ rest) (sym (drop_at_char 46 text i j h.1 (omega arith))) ∙ take-append-drop i text in
    sym (ap (after_dots text) (sym parts) ∙ behind_dot text (take i text) back none)
