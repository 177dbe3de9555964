-- Lists of records, and the run at their end.
use Rattle.std.proofs.Common.{◌≡◌, ℕ, List, [], ◌∷◌, ◌++◌, Bool, true, false, cond, ◌&&◌, refl, ap, eqb}
use Rattle.std.proofs.lemmas.List.Folds.{list_all-append}
use Rattle.shared_core_wire.specs.Grammar.{RecordValue, FieldRecord}
use Rattle.shared_core_wire.specs.Value.{Parts, nil, cons, ◌+++◌}
use Rattle.shared_core_wire.specs.Overlay.{last, values, all_numbered, last_run}

pub and_split : (a b : Bool) → (a && b) ≡ true → (a ≡ true) × (b ≡ true)
and_split true b h = (refl, h)
and_split false b h = absurd cc

pub and_join : (a b : Bool) → a ≡ true → b ≡ true → (a && b) ≡ true
and_join a b g h = rw (g, h) refl

pub parts_append_assoc : (ps qs rs : Parts) → (ps +++ qs) +++ rs ≡ ps +++ (qs +++ rs)
parts_append_assoc nil qs rs = refl
parts_append_assoc (cons p ps) qs rs = ap (cons p) (parts_append_assoc ps qs rs)

pub parts_append_nil : (ps : Parts) → ps +++ nil ≡ ps
parts_append_nil nil = refl
parts_append_nil (cons p ps) = ap (cons p) (parts_append_nil ps)

pub last-append : {X : Type 0} (x : X) (xs : List X) (y : X) (ys : List X) → last x (xs ++ y ∷ ys) ≡ last y ys
last-append x [] y ys = refl
last-append x (z ∷ xs) y ys = last-append z xs y ys

pub values-append : (xs ys : List FieldRecord) → values (xs ++ ys) ≡ values xs ++ values ys
values-append [] ys = refl
values-append (x ∷ xs) ys = ap (λ (ws : List RecordValue). x.value ∷ ws) (values-append xs ys)

-- ---- the run at the end

pub all_numbered-append : (k : ℕ) (xs ys : List FieldRecord) → all_numbered k (xs ++ ys) ≡
    (all_numbered k xs && all_numbered k ys)
all_numbered-append k xs ys = list_all-append (λ (r : FieldRecord). eqb r.number k) xs ys

pub and-true_is : (b c : Bool) → c ≡ true → (b && c) ≡ b
and-true_is true c h = h
and-true_is false c h = refl

pub and-false_is : (b c : Bool) → c ≡ false → (b && c) ≡ false
and-false_is true c h = h
and-false_is false c h = refl

-- the last of records that are all of one number
pub last_all : (k : ℕ) (y : FieldRecord) (ys : List FieldRecord) → all_numbered k (y ∷ ys) ≡ true → eqb
    (last y ys).number k ≡ true
last_all k y [] h = (and_split _ _ h).0
last_all k y (z ∷ ys) h = last_all k z ys (and_split _ _ h).1

pub last_not : (k : ℕ) (y : FieldRecord) (ys : List FieldRecord) → eqb (last y ys).number k ≡ false → all_numbered k
    (y ∷ ys) ≡ false
last_not k y [] h = rw h refl
last_not k y (z ∷ ys) h = and-false_is _ _ (last_not k z ys h)

cond-append : {X : Type 0} (b : Bool) (u v w : List X) → cond b (u ++ w) (v ++ w) ≡ cond b u v ++ w
cond-append true u v w = refl
cond-append false u v w = refl

pub last_run_whole : (k : ℕ) (ys : List FieldRecord) → all_numbered k ys ≡ true → last_run k ys ≡ ys
last_run_whole k [] h = refl
last_run_whole k (y ∷ ys) h = ap (λ b. cond b (y ∷ ys) (last_run k ys)) h

-- if all later records have the number, the run goes on into the earlier ones
pub last_run_on : (k : ℕ) (xs ys : List FieldRecord) → all_numbered k ys ≡ true → last_run k (xs ++ ys) ≡ last_run k xs
    ++ ys
last_run_on k [] ys h = last_run_whole k ys h
last_run_on k (x ∷ xs) ys h = rw (
  last_run_on k xs ys h,
  all_numbered-append k xs ys,
  and-true_is (all_numbered k xs)
      (all_numbered k ys) h,
) (cond-append (eqb x.number k && all_numbered k xs) (x ∷ xs) (last_run k xs) ys)

-- otherwise the run is within the later records
pub last_run_within : (k : ℕ) (xs ys : List FieldRecord) → all_numbered k ys ≡ false → last_run k (xs ++ ys) ≡ last_run
    k ys
last_run_within k [] ys h = refl
last_run_within k (x ∷ xs) ys h = rw (
  last_run_within k xs ys h,
  all_numbered-append k xs ys,
  and-false_is
      (all_numbered k xs) (all_numbered k ys) h,
  and-false_is (eqb x.number k) false refl,
) refl

-- there is no run if the last record has another number
pub last_run_none : (k : ℕ) (x : FieldRecord) (xs : List FieldRecord) → eqb (last x xs).number k ≡ false → last_run k
    (x ∷ xs) ≡ []
last_run_none k x [] h = rw h refl
last_run_none k x (z ∷ xs) h = rw (last_not k x (z ∷ xs) h) (last_run_none k z xs h)
