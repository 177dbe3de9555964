-- What follows for the records of a row from what is accepted.
use Rattle.std.proofs.Common.{◌≡◌, ℕ, List, [], ◌∷◌, ◌++◌, Bool, true, false, cond, ◌||◌, eqb, Option, Some, None}
use Rattle.std.proofs.Common.{refl, sym, ap, subst, ◌∙◌}
use Rattle.std.proofs.lemmas.Bool.{eqb-true}
use Rattle.std.specs.List.{list_all}
use Rattle.shared_core_wire.specs.Grammar.{RecordValue, Varint, Fixed64, Length, Group, Fixed32, FieldRecord, content}
use Rattle.shared_core_wire.specs.Schema.{Kind, Row, Message, Plain}
use Rattle.shared_core_wire.specs.Schema.{Optional, Repeated, OneOf, numbers, includes, member_kind}
use Rattle.shared_core_wire.specs.Acceptance.{NestedAcceptance, accepts_number, accepts_numbers, accepts_value}
use Rattle.shared_core_wire.specs.Acceptance.{accepts_element, row_allows, accepts_record}
use Rattle.shared_core_wire.proofs.Runs.{and_split}
use Rattle.shared_core_codec.specs.ProgramRows.{member_numbered, field_in_row}
use Rattle.shared_core_canonical.specs.Rows.{is_run_value, run_allows, message_allows, LastValue, joined_for}
use Rattle.shared_core_canonical.specs.Rows.{last_found}
use Rattle.shared_core_canonical.specs.Rows.{last_over}

abbrev pub is_repeated : Row → Bool
is_repeated (Plain n k) = false
is_repeated (Optional n k) = false
is_repeated (Repeated n k) = true
is_repeated (OneOf members) = false

-- the field of a oneof is its member
pub member_found : (members : List (ℕ × Kind)) (n : ℕ) (f : Kind × Bool) → member_numbered members n ≡ Some f
    → (includes (numbers (OneOf members)) n ≡ true) × (member_kind members n ≡ f.0)
member_found [] n f e = absurd cc
member_found (m ∷ members) n f e = by_test (eqb n m.0) (member_found members n f) e
  where
    by_test : (b : Bool) → (member_numbered members n ≡ Some f → (includes (numbers (OneOf members)) n ≡ true)
        × (member_kind members n ≡ f.0)) → Rattle.std.specs.Option.option_or (cond b (Some (m.1, false)) None)
        (member_numbered members n) ≡ Some f → ((b || includes (numbers (OneOf members)) n) ≡ true)
        × (cond b m.1 (member_kind members n) ≡ f.0)
    by_test true later g = (refl, ap (λ (x : Option (Kind × Bool)). kind_in x) g)
      where
        kind_in : Option (Kind × Bool) → Kind
        kind_in None = m.1
        kind_in (Some f) = f.0
    by_test false later g = later g

module _ (nested : NestedAcceptance) where
  pub run_allowed : (n : ℕ) (k : Kind) → accepts_number k ≡ true → (r : FieldRecord) → row_allows nested r (Repeated n
      k) ≡ true → run_allows n r ≡ true
  run_allowed n k a r h = by_test (eqb r.number n) h
    where
      by_value : (w : RecordValue) → accepts_numbers w ≡ true → is_run_value w ≡ true
      by_value (Varint v) h = refl
      by_value (Fixed64 b) h = refl
      by_value (Length b) h = h
      by_value (Group b) h = refl
      by_value (Fixed32 b) h = refl

      by_test : (b : Bool) → cond (b || false) (accepts_element nested k r.value) true ≡ true → cond b
          (is_run_value r.value) true ≡ true
      by_test true h = by_value r.value (sym (ap (λ (c : Bool). cond c (accepts_numbers r.value)
          (accepts_value nested k r.value)) a) ∙ h)
      by_test false h = refl

  message_content : (s : ℕ) (w : RecordValue) → accepts_value nested (Message s) w ≡ true → nested s (content w) ≡ true
  message_content s (Varint v) h = absurd cc
  message_content s (Fixed64 b) h = absurd cc
  message_content s (Length b) h = h
  message_content s (Group b) h = absurd cc
  message_content s (Fixed32 b) h = absurd cc

  pub message_allowed : (n s : ℕ) (r : FieldRecord) → row_allows nested r (Repeated n (Message s)) ≡ true
      → message_allows nested n s r ≡ true
  message_allowed n s r h = by_test (eqb r.number n) h
    where
      by_test : (b : Bool) → cond (b || false) (accepts_element nested (Message s) r.value) true ≡ true → cond b
          (nested s (content r.value)) true ≡ true
      by_test true h = message_content s r.value h
      by_test false h = refl

  pub first_allowed : (row : Row) (rows : List Row) (r : FieldRecord) → accepts_record nested (row ∷ rows) r ≡ true
      → row_allows nested r row ≡ true
  first_allowed row rows r h = (and_split (row_allows nested r row) (accepts_record nested rows r) h).0

  pub later_allowed : (row : Row) (rows : List Row) (r : FieldRecord) → accepts_record nested (row ∷ rows) r ≡ true
      → accepts_record nested rows r ≡ true
  later_allowed row rows r h = (and_split (row_allows nested r row) (accepts_record nested rows r) h).1

  -- ---- the last record

  one_accepts : (m : ℕ) (k : Kind) (r : FieldRecord) (f : Kind × Bool) (b : Bool) → cond b (Some (k, false)) None ≡
      Some f → cond (b || false) (accepts_value nested k r.value) true ≡ true → accepts_value nested f.0 r.value ≡ true
  one_accepts m k r f true e h = let same : k ≡ f.0 = cc in subst (λ (x : Kind). accepts_value nested x r.value ≡ true)
      same h
  one_accepts m k r f false e h = absurd cc

  -- a record of a row that is not repeated is accepted for its field
  pub row_accepts : (row : Row) (r : FieldRecord) (f : Kind × Bool) → is_repeated row ≡ false → field_in_row row
      r.number ≡ Some f → row_allows nested r row ≡ true → accepts_value nested f.0 r.value ≡ true
  row_accepts (Plain m k) r f n e h = one_accepts m k r f (eqb r.number m) e h
  row_accepts (Optional m k) r f n e h = one_accepts m k r f (eqb r.number m) e h
  row_accepts (Repeated m k) r f n e h = absurd cc
  row_accepts (OneOf members) r f n e h =
      let is = member_found members r.number f e in
      by_test (includes (numbers (OneOf members)) r.number) is.0 (member_kind members r.number) is.1 h
    where
      by_test : (b : Bool) → b ≡ true → (k : Kind) → k ≡ f.0 → cond b (accepts_value nested k r.value) true ≡ true
          → accepts_value nested f.0 r.value ≡ true
      by_test true t k same h = subst (λ (x : Kind). accepts_value nested x r.value ≡ true) same h
      by_test false t k same h = absurd cc

  elements_accept : (m : ℕ) (k : Kind) (r : FieldRecord) (f : Kind × Bool) (s : ℕ) (b : Bool) → f.0 ≡ Message s → cond b
      (Some (k, true)) None ≡ Some f → cond (b || false) (accepts_element nested k r.value) true ≡ true
      → accepts_value nested (Message s) r.value ≡ true
  elements_accept m k r f s true i e h =
      let same : k ≡ Message s = cc in
      subst (λ (x : Kind). accepts_element nested x r.value ≡ true) same h
  elements_accept m k r f s false i e h = absurd cc

  -- the content of a record of a message field is accepted
  row_message : (row : Row) (r : FieldRecord) (f : Kind × Bool) (s : ℕ) → f.0 ≡ Message s → field_in_row row r.number ≡
      Some f → row_allows nested r row ≡ true → nested s (content r.value) ≡ true
  row_message (Plain m k) r f s i e h = message_content s r.value
      (subst (λ (x : Kind). accepts_value nested x r.value ≡ true) i (row_accepts (Plain m k) r f refl e h))
  row_message (Optional m k) r f s i e h = message_content s r.value
      (subst (λ (x : Kind). accepts_value nested x r.value ≡ true) i (row_accepts (Optional m k) r f refl e h))
  row_message (Repeated m k) r f s i e h = message_content s r.value
      (elements_accept m k r f s (eqb r.number m) i e h)
  row_message (OneOf members) r f s i e h = message_content s r.value
      (subst (λ (x : Kind). accepts_value nested x r.value ≡ true) i (row_accepts (OneOf members) r f refl e h))

  -- what is known of the last record of a row
  pub record IsGood (row : Row) (l : LastValue) : Type 0 where
    pub repeated : Bool
    pub found : field_in_row row l.number ≡ Some (l.kind, repeated)
    pub value : is_repeated row ≡ false → accepts_value nested l.kind l.value ≡ true
    pub joined : (s : ℕ) → l.kind ≡ Message s → nested s l.joined ≡ true

  unfoldable pub AreGood : Row → Option LastValue → Type 0
  AreGood row None = Unit {0}
  AreGood row (Some l) = IsGood row l

module _ (nested : NestedAcceptance)
    (joins : (s : ℕ) (a b : List ℕ) → nested s a ≡ true → nested s b ≡ true → nested s (a ++ b) ≡ true) where
  joined_good : (row : Row) (l : Option LastValue) (r : FieldRecord) (f : Kind × Bool) (s : ℕ) → AreGood nested row l
      → field_in_row row r.number ≡ Some f → f.0 ≡ Message s → nested s (content r.value) ≡ true → nested s
      (joined_for r.number l ++ content r.value) ≡ true
  unfolding AreGood
  joined_good row None r f s g e i h = h
  joined_good row (Some l) r f s g e i h = same_number (eqb l.number r.number) refl
    where
      kind_now : l.number ≡ r.number → l.kind ≡ Message s
      kind_now n =
          let there : field_in_row row r.number ≡ Some (l.kind, g.repeated) =
          sym (ap (field_in_row row) n) ∙ g.found in
          let both : Some f ≡ Some (l.kind, g.repeated) = sym e ∙ there in
          let same : f ≡ (l.kind, g.repeated) = cc in
          sym (ap (λ (x : Kind × Bool). x.0) same) ∙ i

      same_number : (b : Bool) → eqb l.number r.number ≡ b → nested s (cond b l.joined [] ++ content r.value) ≡ true
      same_number true t = joins s l.joined (content r.value) (g.joined s (kind_now (eqb-true l.number r.number t))) h
      same_number false t = h

  one_good : (row : Row) (l : Option LastValue) (r : FieldRecord) (o : Option (Kind × Bool)) → field_in_row row r.number
      ≡ o → AreGood nested row l → row_allows nested r row ≡ true → AreGood nested row (last_found l r o)
  unfolding AreGood
  one_good row l r None e g h = g
  one_good row l r (Some f) e g h = record {
    repeated = f.1;
    found = e;
    value = λ n. row_accepts nested row r f n e h;
    joined = λ s i. joined_good row l r f s g e i (row_message nested row r f s i e h);
  }

  pub last_good : (row : Row) (l : Option LastValue) (rs : List FieldRecord) → AreGood nested row l → list_all
      (λ r. row_allows nested r row) rs ≡ true → AreGood nested row (last_over row l rs)
  last_good row l [] g h = g
  last_good row l (r ∷ rs) g h =
      let e = and_split (row_allows nested r row) (list_all (λ r. row_allows nested r row) rs) h in
      last_good row (last_found l r (field_in_row row r.number)) rs
      (one_good row l r (field_in_row row r.number) refl g e.0) e.1
