-- Lines of bytes, and what they mean one after the other.
use Rattle.std.proofs.Common.{◌≡◌, ℕ, zero, suc, ◌+◌, ◌-◌, ◌<◌, List, [], ◌∷◌, ◌++◌, length, take, drop, get_or, Bool}
use Rattle.std.proofs.Common.{true, false, cond, ◌==◌, Option, Some, None, refl, sym, ap, subst, ◌∙◌, append_assoc}
use Rattle.std.proofs.Common.{append-nil, length-drop, arith}
use lib.Seq.{take_all}
use Rattle.std.proofs.lemmas.Bool.{eqb-true}
use Rattle.memchr.specs.Find.{NoneBefore, Nowhere, Passes, is_byte}
use Rattle.stream_lines.specs.Printing.{Begins}
use Rattle.make_lines.specs.Made.{has_newline, ended, AreSingle, BeginWith, AreLines, both, made, counted}

-- ---- the first newline

plus_one : (n : ℕ) → n + 1 ≡ suc n
plus_one n = omega arith

not_true : (b : Bool) → ¬ (b ≡ true) → b ≡ false
not_true true h = absurd (h refl)
not_true false h = refl

pub before_newline : (bs : List ℕ) (k : ℕ) → k < length bs → ((i : ℕ) → i < k → ¬ ((get_or bs i 0 == 10) ≡ true)) →
    has_newline (take k bs) ≡ false
before_newline bs zero l h = refl
before_newline [] (suc k) l h = absurd (omega arith)
before_newline (b ∷ bs) (suc k) l h = rw (not_true (b == 10) (h 0 (omega arith)))
    (before_newline bs k (omega arith) (λ i m. h (suc i) (omega arith)))

pub no_newline : (bs : List ℕ) → ((i : ℕ) → i < length bs → ¬ ((get_or bs i 0 == 10) ≡ true)) → has_newline bs ≡ false
no_newline [] h = refl
no_newline (b ∷ bs) h = rw (not_true (b == 10) (h 0 (omega arith))) (no_newline bs (λ i m. h (suc i) (omega arith)))

pub at_newline : (bs : List ℕ) (k : ℕ) → k < length bs → (get_or bs k 0 == 10) ≡ true → bs ≡ take k bs ++
    (10 ∷ drop (suc k) bs)
at_newline [] k l e = absurd (omega arith)
at_newline (b ∷ bs) zero l e = ap (λ (x : ℕ). x ∷ bs) (eqb-true b 10 e)
at_newline (b ∷ bs) (suc k) l e = ap (λ (xs : List ℕ). b ∷ xs) (at_newline bs k (omega arith) e)

-- ---- newlines

pub newline_append : (xs ys : List ℕ) → has_newline xs ≡ false → has_newline ys ≡ false → has_newline (xs ++ ys) ≡ false
newline_append [] ys p q = q
newline_append (x ∷ xs) ys p q = by (x == 10) p (newline_append xs ys)
  where
    by : (b : Bool) → cond b true (has_newline xs) ≡ false →
        (has_newline xs ≡ false → has_newline ys ≡ false → has_newline (xs ++ ys) ≡ false) → cond b true
        (has_newline (xs ++ ys)) ≡ false
    by true p rest = absurd cc
    by false p rest = rest p q

-- ---- lines

pub ended_join : (ls ms : List (List ℕ)) → ended (ls ++ ms) ≡ ended ls ++ ended ms
ended_join [] ms = refl
ended_join (l ∷ ls) ms = ap (λ (xs : List ℕ). l ++ (10 ∷ xs)) (ended_join ls ms) ∙ sym
    (append_assoc l (10 ∷ ended ls) (ended ms))

pub single_join : (ls ms : List (List ℕ)) → AreSingle ls → AreSingle ms → AreSingle (ls ++ ms)
single_join [] ms p q = q
single_join (l ∷ ls) ms p q = (p.0, single_join ls ms p.1 q)

pub none_yet : (bytes : List ℕ) → BeginWith bytes [] bytes
none_yet bytes = record { whole = refl; single = tt }

pub then_lines : (bytes rest more : List ℕ) (ls ms : List (List ℕ)) → BeginWith bytes ls rest → BeginWith rest ms more →
    BeginWith bytes (ls ++ ms) more
then_lines bytes rest more ls ms a b = record {
  whole = a.whole ∙ ap (λ (xs : List ℕ). ended ls ++ xs) b.whole ∙ sym (append_assoc (ended ls) (ended ms) more) ∙ ap
      (λ (xs : List ℕ). xs ++ more) (sym (ended_join ls ms));
  single = single_join ls ms a.single b.single;
}

pub then_bytes : (bytes rest more : List ℕ) (ls : List (List ℕ)) → BeginWith bytes ls rest → BeginWith (bytes ++ more)
    ls (rest ++ more)
then_bytes bytes rest more ls a = record {
  whole = ap (λ (xs : List ℕ). xs ++ more) a.whole ∙ append_assoc (ended ls) rest more;
  single = a.single;
}

-- one line of what is pending and the front of what follows
one_line : (pending rest : List ℕ) (at : ℕ) → has_newline pending ≡ false → has_newline (take at rest) ≡ false → rest ≡
    take at rest ++ (10 ∷ drop (suc at) rest)
    → BeginWith (pending ++ rest) ((pending ++ take at rest) ∷ []) (drop (suc at) rest)
one_line pending rest at p q e = record {
  whole = ap (λ (xs : List ℕ). pending ++ xs) e ∙ sym (append_assoc pending (take at rest) (10 ∷ drop (suc at) rest)) ∙
      sym (append_assoc (pending ++ take at rest) (10 ∷ []) (drop (suc at) rest));
  single = (newline_append pending (take at rest) p q, tt);
}

-- the same by the first newline, with what is after it as the code has it
pub line_found : (pending rest line : List ℕ) (at : ℕ) → has_newline pending ≡ false → NoneBefore
    (Passes (is_byte 10) rest) 0 (length rest) at → Passes (is_byte 10) rest at → line ≡ pending ++ take at rest
    → BeginWith (pending ++ rest) (line ∷ []) (drop (suc at) rest)
line_found pending rest line at p none here e =
    subst (λ (l : List ℕ). BeginWith (pending ++ rest) (l ∷ []) (drop (suc at) rest)) (sym e)
    (one_line pending rest at p (before_newline rest at none.high (λ i m. none.before i (omega arith) m))
    (at_newline rest at none.high here))

pub rest_after : (pending rest : List ℕ) (at : ℕ) → pending ≡ [] → drop (suc at) rest ≡ pending ++ take
    (length rest - (at + 1)) (drop (at + 1) rest)
rest_after pending rest at e = rw (
  e,
  plus_one at,
  take_all (length rest - suc at) (drop (suc at) rest)
      (omega (arith, length-drop (suc at) rest)),
) refl

pub none_found : (rest : List ℕ) → Nowhere (Passes (is_byte 10) rest) 0 (length rest) → has_newline rest ≡ false
none_found rest none = no_newline rest (λ i m. none i (omega arith) m)

-- the first of some lines
single_front : (ls ms : List (List ℕ)) → AreSingle (ls ++ ms) → AreSingle ls
single_front [] ms p = tt
single_front (l ∷ ls) ms p = (p.0, single_front ls ms p.1)

pub first_lines : (bytes rest : List ℕ) (ls ms : List (List ℕ)) → BeginWith bytes (ls ++ ms) rest → BeginWith bytes ls
    (ended ms ++ rest)
first_lines bytes rest ls ms a = record {
  whole = a.whole ∙ ap (λ (xs : List ℕ). xs ++ rest) (ended_join ls ms) ∙ append_assoc (ended ls) (ended ms) rest;
  single = single_front ls ms a.single;
}

-- all lines of some bytes
pub lines_of : (bytes : List ℕ) → (ls : List (List ℕ)) × (rest : List ℕ) × AreLines bytes ls rest
lines_of [] = ([], [], record { begins = none_yet []; unended = refl })
lines_of (b ∷ bs) =
    let (ls, rest, are) = lines_of bs in
    by (b == 10) refl ls rest are
  where
    by : (t : Bool) → (b == 10) ≡ t → (ls : List (List ℕ)) (rest : List ℕ) → AreLines bs ls rest → (ls : List (List ℕ))
        × (rest : List ℕ) × AreLines (b ∷ bs) ls rest
    by true e ls rest are = (
      [] ∷ ls,
      rest,
      record {
        begins = record {
          whole = ap (λ (x : ℕ). x ∷ bs) (eqb-true b 10 e) ∙ ap (λ (xs : List ℕ). 10 ∷ xs)
              are.begins.whole;
          single = (refl, are.begins.single);
        };
        unended = are.unended;
      },
    )
    by false e [] rest are = (
      [],
      b ∷ rest,
      record {
        begins = record { whole = ap (λ (xs : List ℕ). b ∷ xs) are.begins.whole; single = tt };
        unended = rw e are.unended;
      },
    )
    by false e (l ∷ ls) rest are = (
      (b ∷ l) ∷ ls,
      rest,
      record {
        begins = record {
          whole = ap (λ (xs : List ℕ). b ∷ xs) are.begins.whole;
          single =
              (rw e are.begins.single.0, are.begins.single.1);
        };
        unended = are.unended;
      },
    )

-- the lines that some bytes begin with are the first of all
pub all_lines : (bytes rest : List ℕ) (ls : List (List ℕ)) → BeginWith bytes ls rest → (all : List (List ℕ)) ×
    (last : List ℕ) × AreLines bytes all last × Begins ls all
all_lines bytes rest ls a =
    let (ms, last, are) = lines_of rest in (
      ls ++ ms,
      last,
      record { begins = then_lines bytes rest last ls ms a are.begins; unended = are.unended },
      (ms, refl),
    )

-- ---- what lines mean

module _ (means : List ℕ → Option (List ℕ)) where
  both_some : (a b : List ℕ) (x y : Option (List ℕ)) → x ≡ Some a → y ≡ Some b → both x y ≡ Some (a ++ b)
  both_some a b x y e f = rw (e, f) refl

  both_parts : (o p : Option (List ℕ)) (xs : List ℕ) → both o p ≡ Some xs → (a : List ℕ) × (b : List ℕ) × (o ≡ Some a) ×
      (p ≡ Some b) × (a ++ b ≡ xs)
  both_parts None p xs e = absurd cc
  both_parts (Some a) None xs e = absurd cc
  both_parts (Some a) (Some b) xs e = (a, b, refl, refl, cc)

  pub made_join : (ls ms : List (List ℕ)) (a b : List ℕ) → made means ls ≡ Some a → made means ms ≡ Some b → made means
      (ls ++ ms) ≡ Some (a ++ b)
  made_join [] ms a b e f =
      let n : [] ≡ a = cc in
      subst (λ (xs : List ℕ). made means ms ≡ Some (xs ++ b)) n f
  made_join (l ∷ ls) ms a b e f =
      let (x, y, p, q, r) = both_parts (means l) (made means ls) a e in
      both_some x (y ++ b) (means l) (made means (ls ++ ms)) p (made_join ls ms y b q f)
      ∙ ap (λ (xs : List ℕ). Some xs) (sym (append_assoc x y b) ∙ ap (λ (xs : List ℕ). xs ++ b) r)

  pub made_one : (l a : List ℕ) → means l ≡ Some a → made means (l ∷ []) ≡ Some a
  made_one l a e = both_some a [] (means l) (Some []) e refl ∙ ap (λ (xs : List ℕ). Some xs) (append-nil a)

-- ---- counting

pub counted_more : (n m : ℕ) → counted (counted n + m) ≡ counted (n + m)
counted_more n m = omega arith

pub counted_next : (n m : ℕ) → counted (suc (counted n + m)) ≡ counted (suc (n + m))
counted_next n m = omega arith

pub counted_suc : (n : ℕ) → counted (suc (counted n)) ≡ counted (suc n)
counted_suc n = omega arith
