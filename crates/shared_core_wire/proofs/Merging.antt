-- Merging one record list after another into a value is merging the joined list.
use Rattle.std.proofs.Common.{◌≡◌, ℕ, zero, suc, List, [], ◌∷◌, ◌++◌, Bool, true, false, cond, refl, sym, ap, subst}
use Rattle.std.proofs.Common.{◌∙◌, Option, Some, None, append-nil, eqb, eq-eqb}
use Rattle.std.proofs.lemmas.Bool.{eqb-true}
use Rattle.std.specs.List.{list_all}
use Rattle.std.proofs.lemmas.List.Elements.{filter-append}
use Rattle.std.proofs.lemmas.List.Concat.{flat_map-append}
use Rattle.std.proofs.lemmas.List.Folds.{list_all-append}
use Rattle.shared_core_wire.specs.Grammar.{RecordValue, Varint, Fixed64, Length, Group, Fixed32, FieldRecord, content}
use Rattle.shared_core_wire.specs.Reader.{record_list}
use Rattle.shared_core_wire.proofs.RecordLists.{records_append}
use Rattle.shared_core_wire.specs.Schema.{Kind, Row, U32, U64, Boolean, Enumeration, Text, ByteString, Message, Plain}
use Rattle.shared_core_wire.specs.Schema.{Optional, Repeated, OneOf, numbers, includes, member_kind}
use Rattle.shared_core_wire.specs.Value.{Part, Parts, Absent, Number, Bytes, Nested, Elements, Member, nil, cons, ◌+++◌}
use Rattle.shared_core_wire.specs.Value.{empty_value}
use Rattle.shared_core_wire.specs.Overlay.{last, values, joined_contents, own_records, message_overlay, NestedOverlay}
use Rattle.shared_core_wire.specs.Overlay.{scalar_part, message_in, with_elements, member_at, all_numbered, last_run}
use Rattle.shared_core_wire.specs.Overlay.{singular_over, elements_of, all_elements, repeated_over, member_over}
use Rattle.shared_core_wire.specs.Overlay.{oneof_over, row_over, rows_over, or_empty, overlay}
use Rattle.shared_core_wire.specs.Acceptance.{NestedAcceptance, accepts_value, accepts_in_row, row_allows}
use Rattle.shared_core_wire.specs.Acceptance.{accepts_record, some_passes, accepts_message, accepts_records}
use Rattle.shared_core_wire.specs.Acceptance.{accepts_payload}
use Rattle.shared_core_wire.proofs.Runs.{and_split, and_join, parts_append_assoc, parts_append_nil, last-append}
use Rattle.shared_core_wire.proofs.Runs.{values-append, all_numbered-append, last_not, and-true_is, and-false_is}
use Rattle.shared_core_wire.proofs.Runs.{last_run_whole, last_run_on, last_run_within, last_run_none}

with_elements-append : (p : Part) (qs rs : Parts) → with_elements p (qs +++ rs) ≡ with_elements (with_elements p qs) rs
with_elements-append Absent qs rs = refl
with_elements-append (Number n) qs rs = refl
with_elements-append (Bytes bytes) qs rs = refl
with_elements-append (Nested ps) qs rs = refl
with_elements-append (Elements ps) qs rs = ap Elements (sym (parts_append_assoc ps qs rs))
with_elements-append (Member n p) qs rs = refl

with_elements_nil : (p : Part) → with_elements p nil ≡ p
with_elements_nil Absent = refl
with_elements_nil (Number n) = refl
with_elements_nil (Bytes bytes) = refl
with_elements_nil (Nested ps) = refl
with_elements_nil (Elements ps) = ap Elements (parts_append_nil ps)
with_elements_nil (Member n p) = refl

pub repeated_over_is : (table : ℕ → List Row) (overlay_nested : NestedOverlay) (k : Kind) (p : Part)
    (ws : List RecordValue) → repeated_over table overlay_nested k p ws ≡ with_elements p
    (all_elements table overlay_nested k ws)
repeated_over_is table overlay_nested k p [] = sym (with_elements_nil p)
repeated_over_is table overlay_nested k p (w ∷ ws) = refl

-- no record changes nothing
pub rows_over_nothing : (table : ℕ → List Row) (overlay_nested : NestedOverlay) (rows : List Row) (v : Parts) →
    rows_over table overlay_nested rows v [] ≡ v
rows_over_nothing table overlay_nested [] v = refl
rows_over_nothing table overlay_nested (row ∷ rows) nil = refl
rows_over_nothing table overlay_nested (row ∷ rows) (cons p ps) = ap
    (λ q. cons q (rows_over table overlay_nested rows ps [])) (row_nothing row p) ∙ ap (cons p)
    (rows_over_nothing table overlay_nested rows ps)
  where
    row_nothing : (row : Row) (p : Part) → row_over table overlay_nested row p [] ≡ p
    row_nothing (Plain n k) p = refl
    row_nothing (Optional n k) p = refl
    row_nothing (Repeated n k) p = refl
    row_nothing (OneOf ms) p = refl

module _ (table : ℕ → List Row) (overlay_nested : NestedOverlay) (accepts_nested : NestedAcceptance)
    (overlay_nested_append : (s : ℕ) (m : Parts) (a b : List ℕ) → accepts_nested s a ≡ true → accepts_nested s b ≡ true
    → overlay_nested s m (a ++ b) ≡ overlay_nested s (overlay_nested s m a) b)
    (accepts_nested_append : (s : ℕ) (a b : List ℕ) → accepts_nested s a ≡ true → accepts_nested s b ≡ true →
    accepts_nested s (a ++ b) ≡ true) where
  all_elements-append : (k : Kind) (xs ys : List RecordValue) → all_elements table overlay_nested k (xs ++ ys) ≡
      all_elements table overlay_nested k xs +++ all_elements table overlay_nested k ys
  all_elements-append k [] ys = refl
  all_elements-append k (x ∷ xs) ys = ap (λ (ps : Parts). elements_of table overlay_nested k x +++ ps)
      (all_elements-append k xs ys) ∙ sym (parts_append_assoc (elements_of table overlay_nested k x) _ _)

  content_accepted : (s : ℕ) (w : RecordValue) → accepts_value accepts_nested (Message s) w ≡ true → accepts_nested s
      (content w) ≡ true
  content_accepted s (Varint n) h = absurd cc
  content_accepted s (Fixed64 bytes) h = absurd cc
  content_accepted s (Length bytes) h = h
  content_accepted s (Group bytes) h = absurd cc
  content_accepted s (Fixed32 bytes) h = absurd cc

  joined_contents_accepted : (s : ℕ) (w : RecordValue) (ws : List RecordValue) → list_all
      (accepts_value accepts_nested (Message s)) (w ∷ ws) ≡ true → accepts_nested s (joined_contents (w ∷ ws)) ≡ true
  joined_contents_accepted s w [] h = rw append-nil (content_accepted s w (and_split _ _ h).0)
  joined_contents_accepted s w (x ∷ ws) h =
      let e = and_split _ _ h in
      accepts_nested_append s (content w) (joined_contents (x ∷ ws)) (content_accepted s w e.0)
      (joined_contents_accepted s x ws e.1)

  singular_over-append : (k : Kind) (p : Part) (xs ys : List RecordValue) → list_all (accepts_value accepts_nested k) xs
      ≡ true → list_all (accepts_value accepts_nested k) ys ≡ true → singular_over table overlay_nested k p (xs ++ ys) ≡
      singular_over table overlay_nested k (singular_over table overlay_nested k p xs) ys
  singular_over-append k p [] ys g h = refl
  singular_over-append k p (x ∷ xs) [] g h = ap (singular_over table overlay_nested k p) (append-nil (x ∷ xs))
  singular_over-append U32 p (x ∷ xs) (y ∷ ys) g h = ap (scalar_part U32) (last-append x xs y ys)
  singular_over-append U64 p (x ∷ xs) (y ∷ ys) g h = ap (scalar_part U64) (last-append x xs y ys)
  singular_over-append Boolean p (x ∷ xs) (y ∷ ys) g h = ap (scalar_part Boolean) (last-append x xs y ys)
  singular_over-append Enumeration p (x ∷ xs) (y ∷ ys) g h = ap (scalar_part Enumeration) (last-append x xs y ys)
  singular_over-append Text p (x ∷ xs) (y ∷ ys) g h = ap (scalar_part Text) (last-append x xs y ys)
  singular_over-append ByteString p (x ∷ xs) (y ∷ ys) g h = ap (scalar_part ByteString) (last-append x xs y ys)
  singular_over-append (Message s) p (x ∷ xs) (y ∷ ys) g h = ap Nested
      (ap (overlay_nested s (message_in (empty_value (table s)) p)) (flat_map-append content (x ∷ xs) (y ∷ ys)) ∙
      overlay_nested_append s _ (joined_contents (x ∷ xs)) (joined_contents (y ∷ ys))
      (joined_contents_accepted s x xs g) (joined_contents_accepted s y ys h))

  values_accepted : (k : Kind) (rs : List FieldRecord) → list_all (λ r. accepts_value accepts_nested k r.value) rs ≡
      true → list_all (accepts_value accepts_nested k) (values rs) ≡ true
  values_accepted k [] h = refl
  values_accepted k (r ∷ rs) h = let e = and_split _ _ h in and_join _ _ e.0 (values_accepted k rs e.1)

  -- ---- a oneof

  module _ (ms : List (ℕ × Kind)) where
    all_numbered_accepted : (k : ℕ) (rs : List FieldRecord) → all_numbered k rs ≡ true → list_all
        (accepts_in_row accepts_nested (OneOf ms)) rs ≡ true → list_all
        (accepts_value accepts_nested (member_kind ms k)) (values rs) ≡ true
    all_numbered_accepted k [] e h = refl
    all_numbered_accepted k (r ∷ rs) e h =
        let a = and_split _ _ e in
        let g = and_split _ _ h in
        and_join _ _ (subst (λ n. accepts_value accepts_nested (member_kind ms n) r.value ≡ true) (eqb-true _ _ a.0)
        g.0) (all_numbered_accepted k rs a.1 g.1)

    last_run_accepted : (k : ℕ) (rs : List FieldRecord) → list_all (accepts_in_row accepts_nested (OneOf ms)) rs ≡ true
        → list_all (accepts_value accepts_nested (member_kind ms k)) (values (last_run k rs)) ≡ true
    last_run_accepted k [] h = refl
    last_run_accepted k (r ∷ rs) h = by_test (last_run_accepted k rs (and_split _ _ h).1) (all_numbered k (r ∷ rs)) refl
      where
        by_test : list_all (accepts_value accepts_nested (member_kind ms k)) (values (last_run k rs)) ≡ true →
            (b : Bool) → all_numbered k (r ∷ rs) ≡ b → list_all (accepts_value accepts_nested (member_kind ms k))
            (values (cond b (r ∷ rs) (last_run k rs))) ≡ true
        by_test ih true e = all_numbered_accepted k (r ∷ rs) e h
        by_test ih false e = ih

    -- into a member, what comes after the run; the last of xs has the number k too
    member_over_same : (p : Part) (xs ys : List FieldRecord) (k : ℕ) → list_all
        (accepts_in_row accepts_nested (OneOf ms)) xs ≡ true → list_all (accepts_in_row accepts_nested (OneOf ms)) ys ≡
        true → all_numbered k ys ≡ true → member_over table overlay_nested ms p (xs ++ ys) k ≡ member_over table
        overlay_nested ms (member_over table overlay_nested ms p xs k) ys k
    member_over_same p xs ys k g h a =
        let kind = member_kind ms k in
        let start = cond (all_numbered k xs) (member_at k p) Absent in
        ap (λ b. Member k (singular_over table overlay_nested kind (cond b (member_at k p) Absent)
        (values (last_run k (xs ++ ys))))) (all_numbered-append k xs ys ∙ and-true_is (all_numbered k xs)
        (all_numbered k ys) a)
        ∙ ap (λ (rs : List FieldRecord). Member k (singular_over table overlay_nested kind start (values rs)))
        (last_run_on k xs ys a)
        ∙ ap (λ (ws : List RecordValue). Member k (singular_over table overlay_nested kind start ws))
        (values-append (last_run k xs) ys)
        ∙ ap (Member k) (singular_over-append kind start (values (last_run k xs)) (values ys) (last_run_accepted k xs g)
        (all_numbered_accepted k ys a h))
        ∙ sym (rw (a, last_run_whole k ys a, eq-eqb k k refl) refl)

    member_over_other : (p : Part) (x : FieldRecord) (xs : List FieldRecord) (j : ℕ) (ys : List FieldRecord) (k : ℕ) →
        eqb (last x xs).number k ≡ false → eqb j k ≡ false → all_numbered k ys ≡ true → member_over table overlay_nested
        ms p ((x ∷ xs) ++ ys) k ≡ member_over table overlay_nested ms (member_over table overlay_nested ms p (x ∷ xs) j)
        ys k
    member_over_other p x xs j ys k l e a =
        let kind = member_kind ms k in
        ap (λ b. Member k (singular_over table overlay_nested kind (cond b (member_at k p) Absent)
        (values (last_run k ((x ∷ xs) ++ ys))))) (all_numbered-append k (x ∷ xs) ys ∙ and-true_is
        (all_numbered k (x ∷ xs)) (all_numbered k ys) a ∙ last_not k x xs l)
        ∙ ap (λ (rs : List FieldRecord). Member k (singular_over table overlay_nested kind Absent (values rs)))
        (last_run_on k (x ∷ xs) ys a ∙ ap (λ (rs : List FieldRecord). rs ++ ys) (last_run_none k x xs l))
        ∙ sym (rw (a, last_run_whole k ys a, e) refl)

    member_over_within : (p q : Part) (xs ys : List FieldRecord) (k : ℕ) → all_numbered k ys ≡ false → member_over table
        overlay_nested ms p (xs ++ ys) k ≡ member_over table overlay_nested ms q ys k
    member_over_within p q xs ys k a =
        let kind = member_kind ms k in
        ap (λ b. Member k (singular_over table overlay_nested kind (cond b (member_at k p) Absent)
        (values (last_run k (xs ++ ys))))) (all_numbered-append k xs ys ∙ and-false_is (all_numbered k xs)
        (all_numbered k ys) a)
        ∙ ap (λ (rs : List FieldRecord). Member k (singular_over table overlay_nested kind Absent (values rs)))
        (last_run_within k xs ys a)
        ∙ sym (ap (λ b. Member k (singular_over table overlay_nested kind (cond b (member_at k q) Absent)
        (values (last_run k ys)))) a)

    -- x ∷ xs, whose last record has the number j, and then ys, whose last has the number k
    member_over-append : (p : Part) (x : FieldRecord) (xs : List FieldRecord) (j : ℕ) (ys : List FieldRecord) (k : ℕ) →
        (last x xs).number ≡ j → list_all (accepts_in_row accepts_nested (OneOf ms)) (x ∷ xs) ≡ true → list_all
        (accepts_in_row accepts_nested (OneOf ms)) ys ≡ true → member_over table overlay_nested ms p ((x ∷ xs) ++ ys) k
        ≡ member_over table overlay_nested ms (member_over table overlay_nested ms p (x ∷ xs) j) ys k
    member_over-append p x xs j ys k last_is g h = by_all (all_numbered k ys) refl
      where
        by_member : (b : Bool) → eqb j k ≡ b → all_numbered k ys ≡ true → member_over table overlay_nested ms p
            ((x ∷ xs) ++ ys) k ≡ member_over table overlay_nested ms (member_over table overlay_nested ms p (x ∷ xs) j)
            ys k
        by_member true e a = subst (λ i. member_over table overlay_nested ms p ((x ∷ xs) ++ ys) k ≡ member_over table
            overlay_nested ms (member_over table overlay_nested ms p (x ∷ xs) i) ys k) (sym (eqb-true j k e))
            (member_over_same p (x ∷ xs) ys k g h a)
        by_member false e a = member_over_other p x xs j ys k (ap (λ i. eqb i k) last_is ∙ e) e a

        by_all : (b : Bool) → all_numbered k ys ≡ b → member_over table overlay_nested ms p ((x ∷ xs) ++ ys) k ≡
            member_over table overlay_nested ms (member_over table overlay_nested ms p (x ∷ xs) j) ys k
        by_all true a = by_member (eqb j k) refl a
        by_all false a = member_over_within p (member_over table overlay_nested ms p (x ∷ xs) j) (x ∷ xs) ys k a

    oneof_over-append : (p : Part) (xs ys : List FieldRecord) → list_all (accepts_in_row accepts_nested (OneOf ms)) xs ≡
        true → list_all (accepts_in_row accepts_nested (OneOf ms)) ys ≡ true → oneof_over table overlay_nested ms p
        (xs ++ ys) ≡ oneof_over table overlay_nested ms (oneof_over table overlay_nested ms p xs) ys
    oneof_over-append p [] ys g h = refl
    oneof_over-append p (x ∷ xs) [] g h = ap (oneof_over table overlay_nested ms p) (append-nil (x ∷ xs))
    oneof_over-append p (x ∷ xs) (y ∷ ys) g h = ap (λ (r : FieldRecord). member_over table overlay_nested ms p
        ((x ∷ xs) ++ (y ∷ ys)) r.number) (last-append x xs y ys) ∙ member_over-append p x xs (last x xs).number (y ∷ ys)
        (last y ys).number refl g h

  -- ---- rows

  row_over-append : (row : Row) (p : Part) (xs ys : List FieldRecord) → list_all (accepts_in_row accepts_nested row) xs
      ≡ true → list_all (accepts_in_row accepts_nested row) ys ≡ true → row_over table overlay_nested row p (xs ++ ys) ≡
      row_over table overlay_nested row (row_over table overlay_nested row p xs) ys
  row_over-append (Plain n k) p xs ys g h = ap (singular_over table overlay_nested k p) (values-append xs ys) ∙
      singular_over-append k p (values xs) (values ys) (values_accepted k xs g) (values_accepted k ys h)
  row_over-append (Optional n k) p xs ys g h = ap (singular_over table overlay_nested k p) (values-append xs ys) ∙
      singular_over-append k p (values xs) (values ys) (values_accepted k xs g) (values_accepted k ys h)
  row_over-append (Repeated n k) p xs ys g h =
      repeated_over_is table overlay_nested k p (values (xs ++ ys)) ∙ ap (with_elements p)
      (ap (all_elements table overlay_nested k) (values-append xs ys) ∙ all_elements-append k (values xs)
      (values ys)) ∙ with_elements-append p _ _
      ∙ ap (λ q. with_elements q (all_elements table overlay_nested k (values ys)))
      (sym (repeated_over_is table overlay_nested k p (values xs))) ∙ sym
      (repeated_over_is table overlay_nested k (repeated_over table overlay_nested k p (values xs)) (values ys))
  row_over-append (OneOf ms) p xs ys g h = oneof_over-append ms p xs ys g h

  own_records_accepted : (row : Row) (rs : List FieldRecord) → list_all (λ r. row_allows accepts_nested r row) rs ≡ true
      → list_all (accepts_in_row accepts_nested row) (own_records row rs) ≡ true
  own_records_accepted row [] h = refl
  own_records_accepted row (r ∷ rs) h = by_test (own_records_accepted row rs (and_split _ _ h).1)
      (includes (numbers row) r.number) (and_split _ _ h).0
    where
      by_test : list_all (accepts_in_row accepts_nested row) (own_records row rs) ≡ true → (b : Bool) → cond b
          (accepts_in_row accepts_nested row r) true ≡ true → list_all (accepts_in_row accepts_nested row)
          (cond b (r ∷ own_records row rs) (own_records row rs)) ≡ true
      by_test ih true e = and_join _ _ e ih
      by_test ih false e = ih

  first_row : (row : Row) (rows : List Row) (rs : List FieldRecord) → list_all
      (accepts_record accepts_nested (row ∷ rows)) rs ≡ true → list_all (λ r. row_allows accepts_nested r row) rs ≡ true
  first_row row rows [] h = refl
  first_row row rows (r ∷ rs) h = let e = and_split _ _ h in and_join _ _ (and_split _ _ e.0).0
      (first_row row rows rs e.1)

  other_rows : (row : Row) (rows : List Row) (rs : List FieldRecord) → list_all
      (accepts_record accepts_nested (row ∷ rows)) rs ≡ true → list_all (accepts_record accepts_nested rows) rs ≡ true
  other_rows row rows [] h = refl
  other_rows row rows (r ∷ rs) h = let e = and_split _ _ h in and_join _ _ (and_split _ _ e.0).1
      (other_rows row rows rs e.1)

  rows_over-append : (rows : List Row) (v : Parts) (xs ys : List FieldRecord) → list_all
      (accepts_record accepts_nested rows) xs ≡ true → list_all (accepts_record accepts_nested rows) ys ≡ true →
      rows_over table overlay_nested rows v (xs ++ ys) ≡ rows_over table overlay_nested rows
      (rows_over table overlay_nested rows v xs) ys
  rows_over-append [] v xs ys g h = refl
  rows_over-append (row ∷ rows) nil xs ys g h = refl
  rows_over-append (row ∷ rows) (cons p ps) xs ys g h =
      ap (λ (rs : List FieldRecord). cons (row_over table overlay_nested row p rs)
      (rows_over table overlay_nested rows ps (xs ++ ys)))
      (filter-append (λ (r : FieldRecord). includes (numbers row) r.number) xs ys)
      ∙ ap (λ q. cons q (rows_over table overlay_nested rows ps (xs ++ ys)))
      (row_over-append row p (own_records row xs) (own_records row ys)
      (own_records_accepted row xs (first_row row rows xs g))
      (own_records_accepted row ys (first_row row rows ys h)))
      ∙ ap (cons (row_over table overlay_nested row (row_over table overlay_nested row p (own_records row xs))
      (own_records row ys))) (rows_over-append rows ps xs ys (other_rows row rows xs g) (other_rows row rows ys h))

-- ---- any nesting depth

module _ (table : ℕ → List Row) where
  pub accepts_records-append : (left s : ℕ) (xs ys : List FieldRecord) → accepts_records table left s xs ≡ true →
      accepts_records table left s ys ≡ true → accepts_records table left s (xs ++ ys) ≡ true
  accepts_records-append left s xs ys g h = list_all-append (accepts_record (accepts_message table left) (table s)) xs
      ys ∙ and_join _ _ g h

  passing : (left s : ℕ) (found : Option (List FieldRecord)) → some_passes (accepts_records table left s) found ≡ true →
      (rs : List FieldRecord) × (found ≡ Some rs) × (accepts_records table left s rs ≡ true)
  passing left s None h = absurd cc
  passing left s (Some rs) h = (rs, refl, h)

  pub accepted_payload_records : (left s : ℕ) (bytes : List ℕ) → accepts_payload table left s bytes ≡ true →
      (rs : List FieldRecord) × (record_list left bytes ≡ Some rs) × (accepts_records table left s rs ≡ true)
  accepted_payload_records left s bytes h = passing left s (record_list left bytes) h

  -- what is accepted, one after the other, is accepted
  pub accepts_payload-append : (left s : ℕ) (a b : List ℕ) → accepts_payload table left s a ≡ true → accepts_payload
      table left s b ≡ true → accepts_payload table left s (a ++ b) ≡ true
  accepts_payload-append left s a b g h =
      let x = accepted_payload_records left s a g in
      let y = accepted_payload_records left s b h in
      ap (some_passes (accepts_records table left s)) (records_append left a b x.0 y.0 x.1 y.1) ∙ accepts_records-append
      left s x.0 y.0 x.2 y.2

  accepts_message-append : (left s : ℕ) (a b : List ℕ) → accepts_message table left s a ≡ true → accepts_message table
      left s b ≡ true → accepts_message table left s (a ++ b) ≡ true
  unfolding accepts_message
  accepts_message-append zero s a b g h = absurd cc
  accepts_message-append (suc left) s a b g h = accepts_payload-append left s a b g h

  mutual_step : (left : ℕ) → ((s : ℕ) (m : Parts) (a b : List ℕ) → accepts_message table left s a ≡ true →
      accepts_message table left s b ≡ true → message_overlay table left s m (a ++ b) ≡ message_overlay table left s
      (message_overlay table left s m a) b)
      → (s : ℕ) (v : Parts) (xs ys : List FieldRecord) → accepts_records table left s xs ≡ true → accepts_records table
      left s ys ≡ true → overlay table left s v (xs ++ ys) ≡ overlay table left s (overlay table left s v xs) ys
  mutual_step left ih s v xs ys g h = rows_over-append table (message_overlay table left) (accepts_message table left)
      ih (accepts_message-append left) (table s) v xs ys g h

  bytes_step : (left : ℕ) → ((s : ℕ) (v : Parts) (xs ys : List FieldRecord) → accepts_records table left s xs ≡ true →
      accepts_records table left s ys ≡ true → overlay table left s v (xs ++ ys) ≡ overlay table left s
      (overlay table left s v xs) ys)
      → (s : ℕ) (v : Parts) (a b : List ℕ) → accepts_payload table left s a ≡ true → accepts_payload table left s b ≡
      true → overlay table left s v (or_empty (record_list left (a ++ b))) ≡ overlay table left s
      (overlay table left s v (or_empty (record_list left a))) (or_empty (record_list left b))
  bytes_step left ih s v a b g h =
      let x = accepted_payload_records left s a g in
      let y = accepted_payload_records left s b h in
      rw (records_append left a b x.0 y.0 x.1 y.1, x.1, y.1) (ih s v x.0 y.0 x.2 y.2)

  pub message_overlay-append : (left s : ℕ) (m : Parts) (a b : List ℕ) → accepts_message table left s a ≡ true →
      accepts_message table left s b ≡ true → message_overlay table left s m (a ++ b) ≡ message_overlay table left s
      (message_overlay table left s m a) b
  unfolding accepts_message message_overlay
  message_overlay-append zero s m a b g h = refl
  message_overlay-append (suc left) s m a b g h = bytes_step left (mutual_step left (message_overlay-append left)) s m a
      b g h

  -- record lists, one after the other
  pub overlay-append : (left s : ℕ) (v : Parts) (xs ys : List FieldRecord) → accepts_records table left s xs ≡ true →
      accepts_records table left s ys ≡ true → overlay table left s v (xs ++ ys) ≡ overlay table left s
      (overlay table left s v xs) ys
  overlay-append left = mutual_step left (message_overlay-append left)

  -- bytes, one after the other
  pub overlay_bytes-append : (left s : ℕ) (v : Parts) (a b : List ℕ) → accepts_payload table left s a ≡ true →
      accepts_payload table left s b ≡ true → overlay table left s v (or_empty (record_list left (a ++ b))) ≡ overlay
      table left s (overlay table left s v (or_empty (record_list left a))) (or_empty (record_list left b))
  overlay_bytes-append left = bytes_step left (overlay-append left)
