-- What merging keeps.
use Rattle.std.proofs.Common.{◌≡◌, ℕ, suc, List, [], ◌∷◌, ◌++◌, take, Bool, true, false, cond, Some, None, Result, Ok}
use Rattle.std.proofs.Common.{Err, refl, sym, ap, subst, ◌∙◌}
use Rattle.std.specs.Prelude.{OnErr}
use Rattle.shared_core_wire.proofs.Runs.{parts_append_nil, parts_append_assoc}
use Rattle.shared_core_wire.specs.declared.error.WireError.{WireError}
use Rattle.shared_core_wire.specs.Acceptance.{accepts_records}
use Rattle.shared_core_wire.specs.Grammar.{FieldRecord}
use Rattle.shared_core_wire.specs.Overlay.{overlay}
use Rattle.shared_core_wire.specs.Places.{EachLies}
use Rattle.shared_core_wire.specs.ReadRecords.{PlacedRecord}
use Rattle.shared_core_wire.specs.Reader.{◌>>=◌}
use Rattle.shared_core_wire.specs.Schema.{Row, numbers, includes}
use Rattle.shared_core_wire.specs.Value.{Part, Parts, Absent, Number, Bytes, Nested, Elements, Member, nil, cons}
use Rattle.shared_core_wire.specs.Value.{one_part, ◌+++◌}
use Rattle.shared_core_codec.proofs.FieldElements.{parts_push}
use Rattle.shared_core_codec.specs.FieldParts.{parts_of}
use Rattle.shared_core_codec.specs.Folding.{fold_read}
use Rattle.shared_core_codec.specs.Kept.{BeginsWith, PartKept, PartsKept, PartAfterError, PartAfter, RowAfter}
use Rattle.shared_core_codec.specs.Kept.{RowsAfter, IsPartlyMerged}
use Rattle.shared_core_codec.specs.Occurrences.{merged_with}
use Rattle.shared_core_codec.specs.Table.{table}

mutual
  -- What does not change is kept.
  pub part_same : (p : Part) → PartKept p p
  part_same Absent = tt
  part_same (Number n) = tt
  part_same (Bytes bytes) = tt
  part_same (Nested ps) = parts_same ps
  part_same (Elements ps) = (nil, sym (parts_append_nil ps))
  part_same (Member n p) = tt

  pub parts_same : (ps : Parts) → PartsKept ps ps
  parts_same nil = tt
  parts_same (cons p ps) = (part_same p, parts_same ps)

-- Elements that begin with those that begin with some begin with these.
begins_on : (a b c : Parts) → BeginsWith a b → BeginsWith b c → BeginsWith a c
begins_on a b c h k = (h.0 +++ k.0, k.1 ∙ ap (λ t. t +++ k.0) h.1 ∙ parts_append_assoc a h.0 k.0)

-- An absent part becomes anything.
absent_kept : (q : Part) → PartKept Absent q
absent_kept (Member n q) = tt
absent_kept q = tt

mutual
  -- What is kept in what is kept is kept.
  pub part_on : (a b c : Part) → PartKept a b → PartKept b c → PartKept a c
  part_on a b (Member n c) h k = tt
  part_on a (Member n b) c h k = absurd k
  part_on Absent b c h k = absent_kept c
  part_on (Number m) (Number n) (Number o) h k = tt
  part_on (Bytes m) (Bytes n) (Bytes o) h k = tt
  part_on (Nested a) (Nested b) (Nested c) h k = parts_on a b c h k
  part_on (Elements a) (Elements b) (Elements c) h k = begins_on a b c h k
  part_on _ _ _ h k = absurd (search (h, k))

  pub parts_on : (a b c : Parts) → PartsKept a b → PartsKept b c → PartsKept a c
  parts_on nil nil nil h k = tt
  parts_on (cons p ps) (cons q qs) (cons r rs) h k = (part_on p q r h.0 k.0, parts_on ps qs rs h.1 k.1)
  parts_on _ _ _ h k = absurd (search (h, k))

-- ---- lists

-- A list that did not change.
pub same_elements : {A : Type 0} (view : A → Part) (xs ys : List A) → ys ≡ xs → BeginsWith (parts_of view xs)
    (parts_of view ys)
same_elements view xs ys e = (nil, ap (parts_of view) e ∙ sym (parts_append_nil (parts_of view xs)))

-- A list to which an element was appended.
pub pushed_elements : {A : Type 0} (view : A → Part) (xs ys : List A) (x : A) → ys ≡ xs ++ x ∷ [] → BeginsWith
    (parts_of view xs) (parts_of view ys)
pushed_elements view xs ys x e = (one_part (view x), ap (parts_of view) e ∙ parts_push view xs x)

-- A list to which an element more was appended.
pub pushed_more : {A : Type 0} (view : A → Part) (ws xs ys : List A) (x : A) → ys ≡ xs ++ x ∷ [] → BeginsWith
    (parts_of view ws) (parts_of view xs) → BeginsWith (parts_of view ws) (parts_of view ys)
pushed_more view ws xs ys x e h = begins_on (parts_of view ws) (parts_of view xs) (parts_of view ys) h
    (pushed_elements view xs ys x e)

-- ---- one record

part_equal : (p q : Part) → q ≡ p → PartKept p q
part_equal p q e = subst (λ (t : Part). PartKept p t) (sym e) (part_same p)

parts_equal : (ps qs : Parts) → qs ≡ ps → PartsKept ps qs
parts_equal ps qs e = subst (λ (t : Parts). PartsKept ps t) (sym e) (parts_same ps)

kept_after_error : (p q : Part) → PartAfterError p q → PartKept p q
kept_after_error p (Member n q) h = tt
kept_after_error (Member m p) q h = h
kept_after_error (Number n) q h = part_equal (Number n) q h
kept_after_error (Bytes bytes) q h = part_equal (Bytes bytes) q h
kept_after_error p q h = h

part_kept : (p q : Part) (ok : Bool) → PartAfter p q ok → PartKept p q
part_kept p q true h = h
part_kept p q false h = kept_after_error p q h

-- An absent part becomes anything.
pub absent_after : (q : Part) (ok : Bool) → PartAfter Absent q ok
absent_after q true = absent_kept q
absent_after q false = absent_kept q

-- A member that is held after an error as a value of its kind is.
pub member_after : (n : ℕ) (p q : Part) → PartAfter p q false → PartAfter (Member n p) (Member n q) false
member_after n p q h = (refl, h)

row_kept : (b : Bool) (p q : Part) (ok : Bool) → RowAfter b p q ok → PartKept p q
row_kept true p q ok h = part_kept p q ok h
row_kept false p q ok h = part_equal p q h

-- After one record nothing is lost.
pub rows_kept : (rows : List Row) (n : ℕ) (v w : Parts) (ok : Bool) → RowsAfter rows n v w ok → PartsKept v w
rows_kept (row ∷ rows) n (cons p ps) (cons q qs) ok h = (
  row_kept (includes (numbers row) n) p q ok h.0,
  rows_kept rows
      n ps qs ok h.1,
)
rows_kept _ n v w ok h = parts_equal v w h

stays_after_error : (p : Part) → PartAfterError p p
stays_after_error Absent = tt
stays_after_error (Number n) = refl
stays_after_error (Bytes bytes) = refl
stays_after_error (Nested ps) = parts_same ps
stays_after_error (Elements ps) = part_same (Elements ps)
stays_after_error (Member n p) = (refl, stays_after_error p)

-- A merge that changes nothing.
pub part_stays : (p : Part) (ok : Bool) → PartAfter p p ok
part_stays p true = part_same p
part_stays p false = stays_after_error p

row_stays : (b : Bool) (p : Part) (ok : Bool) → RowAfter b p p ok
row_stays true p ok = part_stays p ok
row_stays false p ok = refl

-- A record that changes nothing.
pub rows_stay : (rows : List Row) (n : ℕ) (v : Parts) (ok : Bool) → RowsAfter rows n v v ok
rows_stay (row ∷ rows) n (cons p ps) ok = (row_stays (includes (numbers row) n) p ok, rows_stay rows n ps ok)
rows_stay _ n v ok = refl

-- ---- the records of a payload

-- What comes after one record lies in the payload too.
pub lies_later : (bytes : List ℕ) (rest later : List (Result PlacedRecord WireError)) (r : PlacedRecord) → rest ≡ Ok r ∷
    later → EachLies bytes rest → EachLies bytes later
lies_later bytes rest later r e h = (subst (EachLies bytes) e h).1

-- What holds, holds where there is an error.
pub on_err : {T E : Type 0} (result : Result T E) (P : Type 0) → P → OnErr result P
on_err (Ok x) P h = tt
on_err (Err e) P h = h

module _ (left s : ℕ) where
  -- A record that was merged, one of a payload whose records allow `left` levels of nesting.
  pub one_merged : (l : ℕ) (t r : FieldRecord) (v w : Parts) → l ≡ left → t ≡ r →
      (accepts_records table l s (t ∷ []) ≡ true) × (w ≡ overlay table l s v (t ∷ [])) → merged_with left s v r ≡ Some w
  one_merged l t r v w e f m =
      ap (λ k. merged_with k s v r) (sym e) ∙ ap (merged_with l s v) (sym f) ∙ ap
      (λ b. cond b (Some (overlay table l s v (t ∷ []))) None) m.0 ∙ ap (λ (u : Parts). Some u) (sym m.1)

  -- What is left to merge after one record.
  pub fold_more : (now new : Parts) (rest later : List (Result PlacedRecord WireError)) (r : PlacedRecord) → rest ≡ Ok r
      ∷ later → merged_with left s now r.field_record ≡ Some new
      → fold_read (merged_with left s) new later ≡ fold_read (merged_with left s) now rest
  fold_more now new rest later r e m = sym (ap (fold_read (merged_with left s) now) e ∙ ap
      (λ o. o >>= λ t. fold_read (merged_with left s) t later) m)

  -- Of these items those before the rest are records, which merged into old give now.
  pub record IsMergedSoFar (old : Parts) (items : List (Result PlacedRecord WireError)) (now : Parts)
      (rest : List (Result PlacedRecord WireError)) : Type 0 where
    pub each : (w : Parts) → IsPartlyMerged left s now rest w → IsPartlyMerged left s old items w

  -- Nothing is merged yet.
  pub so_far_none : (old : Parts) (items rest : List (Result PlacedRecord WireError)) → rest ≡ items → IsMergedSoFar old
      items old rest
  so_far_none old items rest e = record { each = λ w h. subst (λ is. IsPartlyMerged left s old is w) e h }

  -- A failure now, in the field of a number.
  pub fails_now : (old now new : Parts) (items rest : List (Result PlacedRecord WireError)) (n : ℕ) → IsMergedSoFar old
      items now rest → RowsAfter (table s) n now new false → IsPartlyMerged left s old items new
  fails_now old now new items rest n h k = h.each new (record
      { count = 0; before = now; merged = refl; number = n; after = k })

  fails_later : (v u w : Parts) (r : PlacedRecord) (rest : List (Result PlacedRecord WireError)) → merged_with left s v
      r.field_record ≡ Some u
      → IsPartlyMerged left s u rest w → IsPartlyMerged left s v (Ok r ∷ rest) w
  fails_later v u w r rest e h = record {
    count = suc h.count;
    before = h.before;
    merged = ap (λ o. o >>= λ t. fold_read (merged_with left s) t (take h.count rest)) e ∙ h.merged;
    number = h.number;
    after = h.after;
  }

  -- One record more is merged.
  pub so_far_more : (old now new : Parts) (items rest later : List (Result PlacedRecord WireError)) (r : PlacedRecord) →
      rest ≡ Ok r ∷ later → merged_with left s now r.field_record ≡ Some new
      → IsMergedSoFar old items now rest → IsMergedSoFar old items new later
  so_far_more old now new items rest later r e m h = record {
    each = λ w k. h.each w
        (subst (λ is. IsPartlyMerged left s now is w) (sym e) (fails_later now new w r later m k));
  }
