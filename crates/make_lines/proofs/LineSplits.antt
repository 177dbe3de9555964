-- Lines, one after the other, split in one way.
use Rattle.std.proofs.Common.{◌≡◌, ℕ, List, [], ◌∷◌, ◌++◌, length, Bool, true, false, cond, eqb, Option, Some, refl}
use Rattle.std.proofs.Common.{sym, ap, ap₂, ◌∙◌, append_assoc, length-append, arith}
use Rattle.make_lines.specs.Made.{has_newline, ended, AreLines, both, made}

-- all that has a newline before something more
has_one : (l more : List ℕ) → has_newline (l ++ (10 ∷ more)) ≡ true
has_one [] more = refl
has_one (x ∷ l) more = by (has_one l more) (eqb x 10)
  where
    by : has_newline (l ++ (10 ∷ more)) ≡ true → (b : Bool) → cond b true (has_newline (l ++ (10 ∷ more))) ≡ true
    by later true = refl
    by later false = later

record SameCut (l m xs ys : List ℕ) : Type 0 where
  line : l ≡ m
  more : xs ≡ ys

no_ten : (x : ℕ) (xs : List ℕ) → has_newline (x ∷ xs) ≡ false → ¬ (x ≡ 10)
no_ten x xs h e = absurd (let k : has_newline (x ∷ xs) ≡ true = ap (λ (n : ℕ). cond (eqb n 10) true (has_newline xs)) e
    in cc)

rest_has_none : (x : ℕ) (xs : List ℕ) → has_newline (x ∷ xs) ≡ false → has_newline xs ≡ false
rest_has_none x xs h = by (eqb x 10) h
  where
    by : (b : Bool) → cond b true (has_newline xs) ≡ false → has_newline xs ≡ false
    by true k = absurd cc
    by false k = k

same_cut : (l m xs ys : List ℕ) → has_newline l ≡ false → has_newline m ≡ false → l ++ (10 ∷ xs) ≡ m ++ (10 ∷ ys) →
    SameCut l m xs ys
same_cut [] [] xs ys h g e = record { line = refl; more = cc }
same_cut [] (y ∷ m) xs ys h g e = absurd (no_ten y m g (let k : 10 ≡ y = cc in sym k))
same_cut (x ∷ l) [] xs ys h g e = absurd (no_ten x l h (let k : x ≡ 10 = cc in k))
same_cut (x ∷ l) (y ∷ m) xs ys h g e =
    let first : x ≡ y = cc in
    let others : l ++ (10 ∷ xs) ≡ m ++ (10 ∷ ys) = cc in
    let more = same_cut l m xs ys (rest_has_none x l h) (rest_has_none y m g) others in
    record { line = ap₂ (λ (a : ℕ) (b : List ℕ). a ∷ b) first more.line; more = more.more }

record FirstLine (l more : List ℕ) (lines : List (List ℕ)) (last : List ℕ) : Type 0 where
  others : List (List ℕ)
  lines_are : lines ≡ l ∷ others
  split : AreLines more others last

first_line : (l more : List ℕ) (lines : List (List ℕ)) (last : List ℕ) → has_newline l ≡ false → AreLines
    (l ++ (10 ∷ more)) lines last → FirstLine l more lines last
first_line l more [] last h s = absurd (let k : true ≡ false = sym (has_one l more) ∙ ap has_newline s.begins.whole ∙
    s.unended in cc)
first_line l more (m ∷ ms) last h s =
    let cut = same_cut l m more (ended ms ++ last) h s.begins.single.0
    (s.begins.whole ∙ append_assoc m (10 ∷ ended ms) last) in
    record {
      others = ms;
      lines_are = ap (λ (k : List ℕ). k ∷ ms) (sym cut.line);
      split = record { begins = record { whole = cut.more; single = s.begins.single.1 }; unended = s.unended };
    }

no_more : (lines : List (List ℕ)) (last : List ℕ) → AreLines [] lines last → (lines ≡ []) × (last ≡ [])
no_more [] last s = (refl, sym s.begins.whole)
no_more (l ∷ ls) last s =
    absurd (omega (
      arith,
      ap length (s.begins.whole ∙ append_assoc l (10 ∷ ended ls) last),
      length-append l
          (10 ∷ (ended ls ++ last)),
    ))

-- ---- what a text means, line by line, however it is split

abbrev pub Means : (List ℕ → Option (List ℕ)) → List ℕ → Option (List ℕ) → Type 0
Means means text bytes = (lines : List (List ℕ)) (last : List ℕ) → AreLines text lines last → made means
    (lines ++ last ∷ []) ≡ bytes

pub nothing_means : (means : List ℕ → Option (List ℕ)) → means [] ≡ Some [] → Means means [] (Some [])
nothing_means means e lines last s =
    let n = no_more lines last s in
    ap₂ (λ (ls : List (List ℕ)) (l : List ℕ). made means (ls ++ l ∷ [])) n.0 n.1 ∙ ap
    (λ (o : Option (List ℕ)). both o (Some [])) e

pub line_means : (means : List ℕ → Option (List ℕ)) (l more : List ℕ) (b bytes : Option (List ℕ)) → has_newline l ≡
    false → means l ≡ b → Means means more bytes → Means means (l ++ (10 ∷ more)) (both b bytes)
line_means means l more b bytes single e m lines last s =
    let f = first_line l more lines last single s in
    ap (λ (ls : List (List ℕ)). made means (ls ++ last ∷ [])) f.lines_are
    ∙ ap₂ both e (m f.others last f.split)
