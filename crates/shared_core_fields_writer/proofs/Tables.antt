-- Entries of rows: the first ones, and how deep they are.
use Rattle.std.proofs.Common.{◌≡◌, ℕ, zero, suc, ◌+◌, ◌<◌, ◌≤◌, List, [], ◌∷◌, ◌++◌, map, Bool, refl, sym, ap}
use Rattle.std.proofs.Common.{arith, subst}
use Rattle.std.proofs.lemmas.Bool.{lt-ltb, le-ltb}
use Rattle.std.specs.Prelude.{flat_map}
use Rattle.shared_core_wire.specs.Schema.{Kind, U32, U64, Boolean, Enumeration, Text, ByteString, Message}
use Rattle.shared_core_wire.specs.Value.{Part, Parts, Absent, Number, Bytes, Nested, Elements, Member, nil, cons}
use Rattle.shared_core_codec.specs.Table.{table}
use Rattle.shared_core_fields.specs.Fields.{FieldPart, message_fields}
use Rattle.shared_core_fields.specs.Entries.{LevelField, within_part, field_entries}
use Rattle.shared_core_fields.specs.Rows.{TableRow, run_rows, field_rows, level_rows, fields_rows}
use Rattle.shared_core_fields.specs.Rows.{entry_row}
use Rattle.shared_core_fields.specs.Rows.{IsPlaced, ArePlaced}
use Rattle.shared_core_fields.specs.declared.table.FieldEntry.{FieldEntry}
use Rattle.shared_core_fields.proofs.Written.{rows_more}
use Rattle.shared_core_fields_writer.specs.Walk.{rest_of}

-- The entries are those of the rows, and their bytes are there.
abbrev pub Are : List ℕ → List FieldEntry → List TableRow → Type 0
Are bytes [] [] = Unit {0}
Are bytes [] (r ∷ rs) = ⊥
Are bytes (e ∷ es) [] = ⊥
Are bytes (e ∷ es) (r ∷ rs) = (entry_row bytes e ≡ r) × IsPlaced bytes e × Are bytes es rs

own_rows : (bytes : List ℕ) (es : List FieldEntry) → ArePlaced bytes es → Are bytes es (map (entry_row bytes) es)
own_rows bytes [] p = tt
own_rows bytes (e ∷ es) p = (refl, p.0, own_rows bytes es p.1)

pub are_rows : (bytes : List ℕ) (es : List FieldEntry) (rows : List TableRow) → map (entry_row bytes) es ≡ rows →
    ArePlaced bytes es → Are bytes es rows
are_rows bytes es rows h p = subst (Are bytes es) h (own_rows bytes es p)

-- ---- the entries of the first rows

pub record Split (bytes : List ℕ) (es : List FieldEntry) (xs ys : List TableRow) : Type 0 where
  pub front : List FieldEntry
  pub back : List FieldEntry
  pub is : es ≡ front ++ back
  pub ahead : Are bytes front xs
  pub behind : Are bytes back ys

pub split : (bytes : List ℕ) (es : List FieldEntry) (xs ys : List TableRow) → Are bytes es (xs ++ ys) → Split bytes es
    xs ys
split bytes es [] ys a = record { front = []; back = es; is = refl; ahead = tt; behind = a }
split bytes [] (x ∷ xs) ys a = absurd a
split bytes (e ∷ es) (x ∷ xs) ys a =
    let s = split bytes es xs ys a.2 in
    record {
      front = e ∷ s.front;
      back = s.back;
      is = ap (λ (zs : List FieldEntry). e ∷ zs) s.is;
      ahead = (a.0, a.1, s.ahead);
      behind = s.behind;
    }

-- ---- levels

-- All rows are at a level or deeper.
abbrev pub Deep : ℕ → List TableRow → Type 0
Deep level [] = Unit {0}
Deep level (r ∷ rs) = (level ≤ r.level) × Deep level rs

deep_append : (level : ℕ) (xs ys : List TableRow) → Deep level xs → Deep level ys → Deep level (xs ++ ys)
deep_append level [] ys a b = b
deep_append level (x ∷ xs) ys a b = (a.0, deep_append level xs ys a.1 b)

run_deep : (top level n : ℕ) (k : Kind) (ps : Parts) → top ≤ level → Deep top (run_rows level n k ps)
run_deep top level n k nil h = tt
run_deep top level n k (cons (Number m) ps) h = (h, run_deep top level n k ps h)
run_deep top level n k (cons Absent ps) h = run_deep top level n k ps h
run_deep top level n k (cons (Bytes bytes) ps) h = run_deep top level n k ps h
run_deep top level n k (cons (Nested qs) ps) h = run_deep top level n k ps h
run_deep top level n k (cons (Elements qs) ps) h = run_deep top level n k ps h
run_deep top level n k (cons (Member m p) ps) h = run_deep top level n k ps h

field_deep : (top level n : ℕ) (f : Kind × Bool) (p : Part) → top ≤ level → Deep top (field_rows level (n, f, p))
field_deep top level n f Absent h = tt
field_deep top level n f (Number m) h = (h, tt)
field_deep top level n f (Bytes bytes) h = (h, tt)
field_deep top level n (Message s, r) (Nested ps) h = (h, tt)
field_deep top level n (U32, r) (Nested ps) h = tt
field_deep top level n (U64, r) (Nested ps) h = tt
field_deep top level n (Boolean, r) (Nested ps) h = tt
field_deep top level n (Enumeration, r) (Nested ps) h = tt
field_deep top level n (Text, r) (Nested ps) h = tt
field_deep top level n (ByteString, r) (Nested ps) h = tt
field_deep top level n f (Elements ps) h = run_deep top level n f.0 ps h
field_deep top level n f (Member m p) h = tt

part_deep : (top : ℕ) (nested : ℕ → Parts → List LevelField) → ((s : ℕ) (ps : Parts) → Deep top (level_rows
    (nested s ps))) → (p : Part) (k : Kind) → Deep top (level_rows (within_part nested p k))
part_deep top nested d (Nested ps) (Message s) = d s ps
part_deep top nested d (Nested ps) U32 = tt
part_deep top nested d (Nested ps) U64 = tt
part_deep top nested d (Nested ps) Boolean = tt
part_deep top nested d (Nested ps) Enumeration = tt
part_deep top nested d (Nested ps) Text = tt
part_deep top nested d (Nested ps) ByteString = tt
part_deep top nested d Absent k = tt
part_deep top nested d (Number m) k = tt
part_deep top nested d (Bytes bytes) k = tt
part_deep top nested d (Elements ps) k = tt
part_deep top nested d (Member m p) k = tt

each_deep : (top depth level : ℕ) → ((f : FieldPart) → Deep top (level_rows (field_entries depth level f))) →
    (fs : List FieldPart) → Deep top (fields_rows depth level fs)
each_deep top depth level d [] = tt
each_deep top depth level d (f ∷ fs) = subst (Deep top) (sym (rows_more depth level f fs))
    (deep_append top (level_rows (field_entries depth level f)) (fields_rows depth level fs) (d f)
    (each_deep top depth level d fs))

entries_deep : (top depth level : ℕ) (f : FieldPart) → top ≤ level → Deep top (level_rows (field_entries depth level f))
unfolding field_entries
entries_deep top zero level f h = deep_append top (field_rows level f) [] (field_deep top level f.0 f.1 f.2 h) tt
entries_deep top (suc depth) level f h =
    deep_append top (field_rows level f) _ (field_deep top level f.0 f.1 f.2 h)
    (part_deep top (λ s v. flat_map (field_entries depth (level + 1)) (message_fields (table s) v))
    (λ s v. each_deep top depth (level + 1) (λ g. entries_deep top depth (level + 1) g (omega (arith, h)))
    (message_fields (table s) v)) f.2 f.1.0)

pub fields_deep : (depth level : ℕ) (fs : List FieldPart) → Deep level (fields_rows depth level fs)
fields_deep depth level fs = each_deep level depth level (λ f. entries_deep level depth level f (omega arith)) fs

-- The first entry, if there is one, is above a level.
abbrev pub Above : ℕ → List FieldEntry → Type 0
Above level [] = Unit {0}
Above level (e ∷ es) = e.level < level

above_all : (level : ℕ) (t : List FieldEntry) → Above level t → rest_of level t ≡ t
above_all level [] a = refl
above_all level (e ∷ es) a = rw (lt-ltb _ _ a) refl

pub past_deep : (bytes : List ℕ) (level : ℕ) (es t : List FieldEntry) (rows : List TableRow) → Are bytes es rows → Deep
    level rows → Above level t → rest_of level (es ++ t) ≡ t
past_deep bytes level [] t [] a d h = above_all level t h
past_deep bytes level [] t (r ∷ rows) a d h = absurd a
past_deep bytes level (e ∷ es) t [] a d h = absurd a
past_deep bytes level (e ∷ es) t (r ∷ rows) a d h =
    let same : e.level ≡ r.level = ap (λ (x : TableRow). x.level) a.0 in
    rw (le-ltb e.level level (omega (arith, same, d.0))) (past_deep bytes level es t rows a.2 d.1 h)
