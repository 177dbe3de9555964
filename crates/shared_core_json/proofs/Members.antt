-- Fields of a value, written one after the other, are the members of its JSON.
use Rattle.std.proofs.Common.{◌≡◌, ℕ, zero, suc, ◌<◌, ◌≤◌, ◌||◌, List, [], ◌∷◌, ◌++◌, Bool, true, false, refl, sym, ap}
use Rattle.std.proofs.Common.{◌∙◌, append_assoc, arith, eqb, eq-eqb, not}
use Rattle.std.proofs.lemmas.Bool.{eqb-true, ltb-true}
use Rattle.std.proofs.Math.Dec.{eqb-suc-zero}
use Rattle.std.specs.Prelude.{if◌then◌else◌}
use Rattle.json.specs.Token.{Token, begin_object, end_object, begin_array, end_array, key}
use Rattle.json.specs.Json.{Members, member, array}
use Rattle.json.specs.Tree.{json_tokens, members_tokens, items_tokens}
use Rattle.shared_core_wire.specs.Schema.{Table, Kind, Row, Plain, Optional, Repeated, OneOf, numbers, includes}
use Rattle.shared_core_wire.specs.Acceptance.{accepts_number}
use Rattle.shared_core_wire.specs.Schema.{member_kind, are_distinct, all_numbers}
use Rattle.shared_core_wire.specs.Value.{Part, Parts, Absent, Number, Bytes, Nested, Elements, Member, nil, cons}
use Rattle.shared_core_wire.specs.Fitting.{has_shape, Fits}
use Rattle.shared_core_wire.specs.Canonical.{kind_of, number_of, is_default, part_levels, levels}
use Rattle.shared_core_wire.proofs.ReadBack.{or_split, includes-append, distinct_back, distinct_other}
use Rattle.shared_core_wire.proofs.Runs.{and_split}
use Rattle.shared_core_wire.specs.Overlay.{meaning}
use Rattle.shared_core_codec.specs.Canonicity.{may_recur, IsCanonicalIn}
use Rattle.shared_core_codec.specs.Tables.{IsTable}
use Rattle.shared_core_wire.specs.Encoding.{is_field_number}
use Rattle.std.specs.List.{list_all}
use Rattle.shared_core_codec.specs.RowEncoding.{unpacked}
use Rattle.shared_core_fields.specs.Fields.{FieldPart, list_field, each_field, row_fields, message_fields}
use Rattle.shared_core_json.specs.Fields.{Names, SchemaNames, name_of, named}
use Rattle.shared_core_json.specs.Form.{is_present, member_if, part_json_in, items_json_in, members_json_in}
use Rattle.shared_core_json.specs.Form.{json_with_in, writing}
use Rattle.shared_core_json.specs.Written.{end_tokens, lead_tokens, open_list_after, fields_tokens}

regroup : {A : Type 0} (a b c d e : List A) → ((a ++ b) ++ (c ++ d)) ++ e ≡ a ++ (b ++ (c ++ (d ++ e)))
regroup a b c d e = simp append_assoc

-- a number of the list is not one that isn't in it
other_number : (ns : List ℕ) (a n : ℕ) → includes ns a ≡ false → includes ns n ≡ true → eqb a n ≡ false
other_number ns a n h g = by_test (eqb a n) refl
  where
    by_test : (b : Bool) → eqb a n ≡ b → b ≡ false
    by_test true e = absurd (let q : includes ns a ≡ includes ns n = ap (includes ns) (eqb-true a n e) in cc)
    by_test false e = refl

not_zero : (ns : List ℕ) (n : ℕ) → includes ns 0 ≡ false → includes ns n ≡ true → eqb n 0 ≡ false
not_zero ns zero h g = absurd cc
not_zero ns (suc n) h g = eqb-suc-zero n

no_zero : (ns : List ℕ) → list_all is_field_number ns ≡ true → includes ns 0 ≡ false
no_zero [] h = refl
no_zero (n ∷ ns) h = let e = and_split _ _ h in by_test (eqb 0 n) refl (ltb-true _ _ (and_split _ _ e.0).0)
    (no_zero ns e.1)
  where
    by_test : (b : Bool) → eqb 0 n ≡ b → 0 < n → includes ns 0 ≡ false → (b || includes ns 0) ≡ false
    by_test true e g f = absurd (omega (arith, eqb-true 0 n e))
    by_test false e g f = f

own_number : (n : ℕ) → includes (n ∷ []) n ≡ true
own_number n = rw (eq-eqb n n refl) refl

module _ (table : Table) (all_names : Names) (texts : Bool) (names : SchemaNames) where
  -- a field that is not an element
  one : (n : ℕ) (k : Kind) (repeated : Bool) (p : Part) (rest : List FieldPart) (ms : Members) (open_list : ℕ)
      → may_recur (k, repeated) ≡ false → eqb open_list n ≡ false
      → fields_tokens table all_names texts names 0 rest ++ end_object ∷ [] ≡ members_tokens ms
      → fields_tokens table all_names texts names open_list ((n, (k, repeated), p) ∷ rest) ++ end_object ∷ []
      ≡ end_tokens open_list ++ members_tokens (member (name_of names n) (part_json_in table all_names (writing texts
      names n) p k) ms)
  unfolding fields_tokens
  one n k repeated p rest ms open_list m ne next =
      rw (m, ne) (regroup (end_tokens open_list) (key (name_of names n) ∷ [])
      (json_tokens (part_json_in table all_names (writing texts names n) p k))
      (fields_tokens table all_names texts names 0 rest) (end_object ∷ [])
      ∙ ap (λ (ts : List Token). end_tokens open_list ++ (key (name_of names n) ∷
      (json_tokens (part_json_in table all_names (writing texts names n) p k) ++
      ts))) next)

  -- the elements of an open list
  others : (n : ℕ) (k : Kind) (ps : Parts) (rest : List FieldPart) (tail : List Token) → unpacked k ≡ true
      → fields_tokens table all_names texts names n rest ++ end_object ∷ [] ≡ end_array ∷ tail
      → fields_tokens table all_names texts names n (each_field n k ps ++ rest) ++ end_object ∷ []
      ≡ items_tokens (items_json_in table all_names (writing texts names n) ps k) ++ tail
  unfolding fields_tokens part_json_in
  others n k nil rest tail u next = next
  others n k (cons p ps) rest tail u next =
      let json = json_tokens (part_json_in table all_names (writing texts names n) p k) in
      rw (eq-eqb n n refl, u) (append_assoc json (fields_tokens table all_names texts names n
      (each_field n k ps ++ rest))
      (end_object ∷ [])
      ∙ ap (λ (ts : List Token). json ++ ts) (others n k ps rest tail u next)
      ∙ sym (append_assoc json (items_tokens (items_json_in table all_names (writing texts names n) ps k)) tail))

  -- a list
  list : (n : ℕ) (k : Kind) (p : Part) (ps : Parts) (rest : List FieldPart) (ms : Members) (open_list : ℕ)
      → unpacked k ≡ true → eqb open_list n ≡ false → eqb n 0 ≡ false
      → fields_tokens table all_names texts names n rest ++ end_object ∷ [] ≡ end_tokens n ++ members_tokens ms
      → fields_tokens table all_names texts names open_list (each_field n k (cons p ps) ++ rest) ++ end_object ∷ []
      ≡ end_tokens open_list ++ members_tokens (member (name_of names n) (array
      (items_json_in table all_names (writing texts names n) (cons p ps) k)) ms)
  unfolding fields_tokens part_json_in
  list n k p ps rest ms open_list u ne nz next =
      let json = json_tokens (part_json_in table all_names (writing texts names n) p k) in
      let ended : fields_tokens table all_names texts names n rest ++ end_object ∷ [] ≡ end_array ∷ members_tokens ms =
      rw nz at next in
      rw (u, ne) (regroup (end_tokens open_list) (key (name_of names n) ∷ begin_array ∷ []) json
      (fields_tokens table all_names texts names n (each_field n k ps ++ rest)) (end_object ∷ [])
      ∙ ap (λ (ts : List Token). end_tokens open_list ++ (key (name_of names n) ∷ (begin_array ∷ (json ++ ts))))
      (others n k ps rest (members_tokens ms) u ended)
      ∙ ap (λ (ts : List Token). end_tokens open_list ++ (key (name_of names n) ∷ (begin_array ∷ ts)))
      (sym (append_assoc json (items_tokens (items_json_in table all_names (writing texts names n) ps k))
      (members_tokens ms))))

  module _ (rest : List FieldPart) (ms : Members) (open_list : ℕ) where
    -- a plain field, whose default is left out
    plain : (n : ℕ) (k : Kind) (p : Part) (default : Bool) → eqb open_list n ≡ false
        → fields_tokens table all_names texts names open_list rest ++ end_object ∷ [] ≡ end_tokens open_list ++
        members_tokens ms
        → fields_tokens table all_names texts names 0 rest ++ end_object ∷ [] ≡ members_tokens ms
        → fields_tokens table all_names texts names open_list ((if default then [] else (n, (k, false), p) ∷ []) ++
        rest) ++
        end_object ∷ []
        ≡ end_tokens open_list ++ members_tokens (member_if (not default) (name_of names n)
        (part_json_in table all_names (writing texts names n) p k) ms)
    plain n k p true ne stay next = stay
    plain n k p false ne stay next = one n k false p rest ms open_list refl ne next

    -- a repeated field, whose numbers are one field
    listed : (n : ℕ) (k : Kind) (ps : Parts) (b : Bool) → accepts_number k ≡ b → eqb open_list n ≡ false → eqb n 0 ≡
        false
        → fields_tokens table all_names texts names open_list rest ++ end_object ∷ [] ≡ end_tokens open_list ++
        members_tokens ms
        → fields_tokens table all_names texts names 0 rest ++ end_object ∷ [] ≡ members_tokens ms
        → fields_tokens table all_names texts names n rest ++ end_object ∷ [] ≡ end_tokens n ++ members_tokens ms
        → fields_tokens table all_names texts names open_list ((if b then list_field n k ps else each_field n k ps) ++
        rest) ++ end_object ∷ []
        ≡ end_tokens open_list ++ members_tokens (member_if (is_present (Repeated n k) (Elements ps)) (name_of names n)
        (part_json_in table all_names (writing texts names n) (Elements ps) k) ms)
    unfolding part_json_in
    listed n k nil true a ne nz stay next own = stay
    listed n k nil false a ne nz stay next own = stay
    listed n k (cons p ps) true a ne nz stay next own =
        one n k true (Elements (cons p ps)) rest ms open_list (rw a refl) ne next
    listed n k (cons p ps) false a ne nz stay next own = list n k p ps rest ms open_list (ap not a) ne nz own

    row : (row : Row) (p : Part) → includes (numbers row) open_list ≡ false → includes (numbers row) 0 ≡ false
        → has_shape row p ≡ true
        → fields_tokens table all_names texts names open_list rest ++ end_object ∷ [] ≡ end_tokens open_list ++
        members_tokens ms
        → fields_tokens table all_names texts names 0 rest ++ end_object ∷ [] ≡ members_tokens ms
        → ((n : ℕ) → includes (numbers row) n ≡ true → fields_tokens table all_names texts names n rest ++ end_object ∷
        [] ≡ end_tokens
        n ++ members_tokens ms)
        → fields_tokens table all_names texts names open_list (row_fields row p ++ rest) ++ end_object ∷ []
        ≡ end_tokens open_list ++ members_tokens (member_if (is_present row p) (name_of names (number_of row p))
        (part_json_in table all_names (writing texts names (number_of row p)) p (kind_of row p)) ms)
    unfolding part_json_in
    row (Plain n k) Absent b z h stay next nextn = absurd cc
    row (Plain n k) (Elements ps) b z h stay next nextn = absurd cc
    row (Plain n k) (Member m p) b z h stay next nextn = absurd cc
    row (Plain n k) (Number m) b z h stay next nextn =
        plain n k (Number m) (is_default (Number m)) (other_number (n ∷ []) open_list n b (own_number n)) stay next
    row (Plain n k) (Bytes bytes) b z h stay next nextn =
        plain n k (Bytes bytes) (is_default (Bytes bytes)) (other_number (n ∷ []) open_list n b (own_number n)) stay
        next
    row (Plain n k) (Nested ps) b z h stay next nextn =
        plain n k (Nested ps) false (other_number (n ∷ []) open_list n b (own_number n)) stay next
    row (Optional n k) Absent b z h stay next nextn = stay
    row (Optional n k) (Elements ps) b z h stay next nextn = absurd cc
    row (Optional n k) (Member m p) b z h stay next nextn = absurd cc
    row (Optional n k) p b z h stay next nextn =
        one n k false p rest ms open_list refl (other_number (n ∷ []) open_list n b (own_number n)) next
    row (Repeated n k) (Elements ps) b z h stay next nextn =
        listed n k ps (accepts_number k) refl (other_number (n ∷ []) open_list n b (own_number n))
        (not_zero (n ∷ []) n z (own_number n)) stay next (nextn n (own_number n))
    row (Repeated n k) p b z h stay next nextn = absurd cc
    row (OneOf members) Absent b z h stay next nextn = stay
    row (OneOf members) (Member m p) b z h stay next nextn =
        one m (member_kind members m) false p rest ms open_list refl
        (other_number (numbers (OneOf members)) open_list m b (and_split _ _ h).0) next
    row (OneOf members) p b z h stay next nextn = absurd cc

  pub members : (v : Parts) (rows : List Row) (open_list : ℕ) → are_distinct (all_numbers rows) ≡ true
      → includes (all_numbers rows) open_list ≡ false → includes (all_numbers rows) 0 ≡ false → Fits table v rows
      → fields_tokens table all_names texts names open_list (message_fields rows v) ++ end_object ∷ []
      ≡ end_tokens open_list ++ members_tokens (members_json_in table all_names texts names v rows)
  unfolding fields_tokens part_json_in Fits
  members nil [] open_list d b z h = refl
  members nil (r ∷ rows) open_list d b z h = absurd h
  members (cons p ps) [] open_list d b z h = absurd h
  members (cons p ps) (r ∷ rows) open_list d b z h =
      let before = or_split (includes (numbers r) open_list) _
      (sym (includes-append (numbers r) (all_numbers rows) open_list) ∙ b) in
      let zero_of = or_split (includes (numbers r) 0) _ (sym (includes-append (numbers r) (all_numbers rows) 0) ∙ z) in
      let later = λ (n : ℕ) (g : includes (all_numbers rows) n ≡ false). members ps rows n
      (distinct_back (numbers r) (all_numbers rows) d) g zero_of.1 h.2 in
      row (message_fields rows ps) (members_json_in table all_names texts names ps rows) open_list r p before.0
      zero_of.0 h.0
      (later open_list before.1) (later 0 zero_of.1) (λ n g. later n
      (distinct_other (numbers r) (all_numbers rows) n d g))

-- ---- a walk

-- one more field
pub turn : (table : Table) (all_names : Names) (texts : Bool) (names : SchemaNames) (open_list now : ℕ)
    (f : FieldPart) (fs rest : List FieldPart)
    (old mid new all : List Token) → fs ≡ f ∷ rest → mid ≡ old ++ lead_tokens open_list (named names f.0 f.1)
    → new ≡ mid ++ json_tokens (part_json_in table all_names (writing texts names f.0) f.2 f.1.0) → now ≡
    open_list_after
    (named names f.0 f.1)
    → old ++ fields_tokens table all_names texts names open_list fs ≡ all → new ++ fields_tokens table all_names texts
    names now rest ≡ all
unfolding fields_tokens
turn table all_names texts names open_list now f fs rest old mid new all e m n o h =
    let json = json_tokens (part_json_in table all_names (writing texts names f.0) f.2 f.1.0) in
    rw (n, m, o) (append_assoc (old ++ lead_tokens open_list (named names f.0 f.1)) json _
    ∙ append_assoc old (lead_tokens open_list (named names f.0 f.1)) _)
    ∙ (rw e at h)

-- all of them, between the braces
pub whole : (table : Table) (all_names : Names) → IsTable table → (texts : Bool) (s open_list : ℕ) (bytes : List ℕ)
    (left : List FieldPart)
    (old begun looped ended : List Token) → IsCanonicalIn table s bytes → begun ≡ old ++ begin_object ∷ [] → left ≡ []
    → ended ≡ looped ++ end_tokens open_list
    → looped ++ fields_tokens table all_names texts (all_names s) open_list left
    ≡ begun ++ fields_tokens table all_names texts (all_names s) 0 (message_fields (table s)
    (meaning table 100 s bytes))
    → ended ++ end_object ∷ [] ≡ old ++ json_tokens (json_with_in table all_names texts s (meaning table 100 s bytes))
unfolding fields_tokens
whole table all_names valid texts s open_list bytes left old begun looped ended c b n e h =
    let schema = and_split _ _ (and_split _ _ (valid s)).0 in
    let zero_of = no_zero (all_numbers (table s)) schema.0 in
    let fields = fields_tokens table all_names texts (all_names s) 0 (message_fields (table s)
    (meaning table 100 s bytes)) in
    ap (λ (ts : List Token). ts ++ end_object ∷ []) (e ∙ (rw n at h) ∙ ap (λ (ts : List Token). ts ++ fields) b)
    ∙ append_assoc (old ++ begin_object ∷ []) fields (end_object ∷ [])
    ∙ append_assoc old (begin_object ∷ []) (fields ++ end_object ∷ [])
    ∙ ap (λ (ts : List Token). old ++ (begin_object ∷ ts))
    (members table all_names texts (all_names s) (meaning table 100 s bytes) (table s) 0 schema.1 zero_of zero_of
    c.fits)

-- ---- how deep fields are

-- The parts of these fields are nested at most this deep.
abbrev pub AllLow : ℕ → List FieldPart → Type 0
AllLow left [] = Unit {0}
AllLow left (f ∷ fs) = (part_levels f.2 ≤ left) × AllLow left fs

low_both : (left : ℕ) (fs gs : List FieldPart) → AllLow left fs → AllLow left gs → AllLow left (fs ++ gs)
low_both left [] gs h g = g
low_both left (f ∷ fs) gs h g = (h.0, low_both left fs gs h.1 g)

low_each : (left n : ℕ) (k : Kind) (ps : Parts) → levels ps ≤ left → AllLow left (each_field n k ps)
unfolding levels
low_each left n k nil h = tt
low_each left n k (cons p ps) h = (omega arith, low_each left n k ps (omega arith))

low_plain : (left n : ℕ) (k : Kind) (p : Part) (default : Bool) → part_levels p ≤ left → AllLow left
    (if default then [] else (n, (k, false), p) ∷ [])
low_plain left n k p true h = tt
low_plain left n k p false h = (h, tt)

low_list : (left n : ℕ) (k : Kind) (ps : Parts) (b : Bool) → levels ps ≤ left → AllLow left
    (if b then list_field n k ps else each_field n k ps)
unfolding levels
low_list left n k nil true h = tt
low_list left n k (cons p ps) true h = (h, tt)
low_list left n k ps false h = low_each left n k ps h

low_row : (left : ℕ) (row : Row) (p : Part) → part_levels p ≤ left → AllLow left (row_fields row p)
unfolding levels
low_row left row Absent h = tt
low_row left (Plain n k) p h = low_plain left n k p (is_default p) h
low_row left (Optional n k) p h = (h, tt)
low_row left (Repeated n k) (Elements ps) h = low_list left n k ps (accepts_number k) h
low_row left (Repeated n k) p h = tt
low_row left (OneOf members) (Member n p) h = (h, tt)
low_row left (OneOf members) p h = tt

pub low_message : (left : ℕ) (rows : List Row) (v : Parts) → levels v ≤ left → AllLow left (message_fields rows v)
unfolding levels
low_message left [] v h = tt
low_message left (row ∷ rows) nil h = tt
low_message left (row ∷ rows) (cons p ps) h =
    low_both left (row_fields row p) (message_fields rows ps) (low_row left row p (omega arith))
    (low_message left rows ps (omega arith))
