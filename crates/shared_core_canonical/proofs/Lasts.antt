-- The last record of a row, by the row's own records.
use Rattle.std.proofs.Common.{◌≡◌, ℕ, List, [], ◌∷◌, ◌++◌, Bool, true, false, cond, ◌||◌, eqb, Option, Some, None}
use Rattle.std.proofs.Common.{refl, sym, ap, subst, ◌∙◌, append_assoc, append-nil, eq-eqb}
use Rattle.std.proofs.lemmas.Bool.{eqb-true}
use Rattle.std.specs.Option.{option_or, is_some}
use Rattle.std.proofs.lemmas.List.Concat.{flat_map-append}
use Rattle.shared_core_wire.specs.Grammar.{FieldRecord, content}
use Rattle.shared_core_wire.specs.Schema.{Kind, Row, Plain, Optional, Repeated, OneOf, numbers, includes}
use Rattle.shared_core_wire.specs.Overlay.{last, values, joined_contents, own_records, all_numbered, last_run}
use Rattle.shared_core_wire.proofs.Runs.{and_join, last-append, values-append, last_run_on, last_run_none}
use Rattle.shared_core_wire.proofs.Runs.{last_run_whole}
use Rattle.shared_core_codec.specs.ProgramRows.{member_numbered, field_in_row}
use Rattle.shared_core_canonical.specs.Rows.{LastValue, last_found, last_over}

-- the record l is the last of these, and has the joined contents of the run at their end
pub record IsLast (x : FieldRecord) (xs : List FieldRecord) (l : LastValue) : Type 0 where
  pub number : (last x xs).number ≡ l.number
  pub value : (last x xs).value ≡ l.value
  pub joined : joined_contents (values (last_run l.number (x ∷ xs))) ≡ l.joined

unfoldable pub AreLast : List FieldRecord → Option LastValue → Type 0
AreLast [] None = Unit {0}
AreLast [] (Some l) = ⊥
AreLast (x ∷ xs) None = ⊥
AreLast (x ∷ xs) (Some l) = IsLast x xs l

joins : (xs : List FieldRecord) (r : FieldRecord) → joined_contents (values (xs ++ r ∷ [])) ≡ joined_contents (values
    xs) ++ content r.value
joins xs r =
    ap joined_contents (values-append xs (r ∷ [])) ∙ flat_map-append content (values xs) (r.value ∷ [])
    ∙ ap (λ (bs : List ℕ). joined_contents (values xs) ++ bs) (append-nil (content r.value))

own_number : (r : FieldRecord) → all_numbered r.number (r ∷ []) ≡ true
own_number r = and_join (eqb r.number r.number) true (eq-eqb r.number r.number refl) refl

one_last : (seen : List FieldRecord) (l : Option LastValue) (r : FieldRecord) (f : Kind × Bool) → AreLast seen l
    → AreLast (seen ++ r ∷ []) (last_found l r (Some f))
unfolding AreLast
one_last [] None r f g = record {
  number = refl;
  value = refl;
  joined =
      ap (λ (rs : List FieldRecord). joined_contents (values rs)) (last_run_whole r.number (r ∷ []) (own_number r))
      ∙ append-nil (content r.value);
}
one_last [] (Some l) r f g = absurd g
one_last (x ∷ xs) None r f g = absurd g
one_last (x ∷ xs) (Some l) r f g =
    let at_end : last x (xs ++ r ∷ []) ≡ r = last-append x xs r [] in
    record {
      number = ap (λ (y : FieldRecord). y.number) at_end;
      value = ap (λ (y : FieldRecord). y.value) at_end;
      joined =
          ap (λ (rs : List FieldRecord). joined_contents (values rs))
          (last_run_on r.number (x ∷ xs) (r ∷ []) (own_number r))
          ∙ joins (last_run r.number (x ∷ xs)) r
          ∙ ap (λ (bs : List ℕ). bs ++ content r.value) (same_number (eqb l.number r.number) refl);
    }
  where
    same_number : (b : Bool) → eqb l.number r.number ≡ b → joined_contents (values (last_run r.number (x ∷ xs))) ≡ cond
        b l.joined []
    same_number true t =
        sym (ap (λ (n : ℕ). joined_contents (values (last_run n (x ∷ xs)))) (eqb-true l.number r.number t)) ∙ g.joined
    same_number false t = ap (λ (rs : List FieldRecord). joined_contents (values rs))
        (last_run_none r.number x xs (ap (λ (n : ℕ). eqb n r.number) g.number ∙ t))

-- a row has a field of the number if the number is one of its own
one_in : (m n : ℕ) (k : Kind) (b : Bool) (repeated : Bool) → (b || false) ≡ is_some {T = Kind × Bool}
    (cond b (Some (k, repeated)) None)
one_in m n k true repeated = refl
one_in m n k false repeated = refl

member_in : (members : List (ℕ × Kind)) (n : ℕ) → includes (numbers (OneOf members)) n ≡ is_some
    (member_numbered members n)
member_in [] n = refl
member_in (m ∷ members) n = by_test (eqb n m.0) (member_in members n)
  where
    by_test : (b : Bool) → includes (numbers (OneOf members)) n ≡ is_some (member_numbered members n) → (b || includes
        (numbers (OneOf members)) n) ≡ is_some (option_or (cond b (Some (m.1, false)) None) (member_numbered members n))
    by_test true later = refl
    by_test false later = later

in_row : (row : Row) (n : ℕ) → includes (numbers row) n ≡ is_some (field_in_row row n)
in_row (Plain m k) n = one_in m n k (eqb n m) false
in_row (Optional m k) n = one_in m n k (eqb n m) false
in_row (Repeated m k) n = one_in m n k (eqb n m) true
in_row (OneOf members) n = member_in members n

pub last_is : (row : Row) (rs seen : List FieldRecord) (l : Option LastValue) → AreLast seen l → AreLast
    (seen ++ own_records row rs) (last_over row l rs)
last_is row [] seen l g = subst (λ (xs : List FieldRecord). AreLast xs l) (sym (append-nil seen)) g
last_is row (r ∷ rs) seen l g = by_field (field_in_row row r.number) (in_row row r.number) (last_is row rs seen l g)
    (λ f. last_is row rs (seen ++ r ∷ []) (last_found l r (Some f)) (one_last seen l r f g))
  where
    by_field : (o : Option (Kind × Bool)) → includes (numbers row) r.number ≡ is_some o → AreLast
        (seen ++ own_records row rs) (last_over row l rs) → ((f : Kind × Bool) → AreLast
        ((seen ++ r ∷ []) ++ own_records row rs) (last_over row (last_found l r (Some f)) rs)) → AreLast
        (seen ++ cond (includes (numbers row) r.number) (r ∷ own_records row rs) (own_records row rs))
        (last_over row (last_found l r o) rs)
    by_field None e other own = rw e other
    by_field (Some f) e other own = rw e (subst (λ (xs : List FieldRecord). AreLast xs
        (last_over row (last_found l r (Some f)) rs)) (append_assoc seen (r ∷ []) (own_records row rs)) (own f))

pub last_of_own : (row : Row) (rs : List FieldRecord) → AreLast (own_records row rs) (last_over row None rs)
unfolding AreLast
last_of_own row rs = last_is row rs [] None tt

-- ---- the run at the end

-- the run of the number of the last record ends with it
pub record Ends (x : FieldRecord) (xs run : List FieldRecord) : Type 0 where
  pub first : FieldRecord
  pub later : List FieldRecord
  pub is : run ≡ first ∷ later
  pub end : last first later ≡ last x xs

pub run_ends : (x : FieldRecord) (xs : List FieldRecord) (n : ℕ) → (last x xs).number ≡ n → Ends x xs
    (last_run n (x ∷ xs))
run_ends x [] n e = record {
  first = x;
  later = [];
  is = last_run_whole n (x ∷ []) (and_join (eqb x.number n) true (eq-eqb x.number n e) refl);
  end = refl;
}
run_ends x (y ∷ ys) n e = by_test (all_numbered n (x ∷ y ∷ ys)) (run_ends y ys n e)
  where
    by_test : (b : Bool) → Ends y ys (last_run n (y ∷ ys)) → Ends x (y ∷ ys)
        (cond b (x ∷ y ∷ ys) (last_run n (y ∷ ys)))
    by_test true later = record { first = x; later = y ∷ ys; is = refl; end = refl }
    by_test false later = record { first = later.first; later = later.later; is = later.is; end = later.end }

-- the records of a row of one number all have it
pub own_numbered : (n : ℕ) (row : Row) → ((m : ℕ) → includes (numbers row) m ≡ eqb m n) → (rs : List FieldRecord)
    → all_numbered n (own_records row rs) ≡ true
own_numbered n row is [] = refl
own_numbered n row is (r ∷ rs) = by_test (includes (numbers row) r.number) (is r.number) (own_numbered n row is rs)
  where
    by_test : (b : Bool) → b ≡ eqb r.number n → all_numbered n (own_records row rs) ≡ true → all_numbered n (cond b
        (r ∷ own_records row rs) (own_records row rs)) ≡ true
    by_test true e later = and_join (eqb r.number n) (all_numbered n (own_records row rs)) (sym e) later
    by_test false e later = later

pub last_value : (x : FieldRecord) (xs : List FieldRecord) → last x.value (values xs) ≡ (last x xs).value
last_value x [] = refl
last_value x (y ∷ ys) = last_value y ys
