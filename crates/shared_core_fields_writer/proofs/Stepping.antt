-- One step of the walk: the entry at an index, and what was appended for it.
use Rattle.std.proofs.Common.{◌≡◌, length, ℕ, zero, suc, ◌+◌, ◌-◌, ◌<◌, ◌≤◌, List, [], ◌∷◌, ◌++◌, true, false}
use Rattle.std.proofs.Common.{◌&&◌, Option, Some, None, Result, Ok, Err, refl, sym, ap, ◌∙◌, eqb, take}
use Rattle.std.proofs.Common.{drop, ◌≢◌}
use Rattle.std.proofs.Common.{arith, inl, inr, append-nil, ◌⊎◌, length-append, subst}
use Rattle.std.proofs.lemmas.List.{drop_at, length-take-le}
use Rattle.std.specs.Result.{IsErrAnd}
use Rattle.std.proofs.lemmas.Bool.{eqb-true, lt-ltb, le-ltb, cases_lt}
use Rattle.shared_core_wire.specs.Encoding.{shortest_varint}
use Rattle.shared_core_wire.proofs.Shortest.{shortest_small, shortest_large}
use Rattle.shared_core_wire.specs.Schema.{Kind, Row}
use Rattle.shared_core_wire.proofs.Runs.{and_split}
use Rattle.shared_core_codec.specs.Table.{table}
use Rattle.shared_core_codec.specs.RowEncoding.{length_record}
use Rattle.shared_core_codec.specs.Canonicity.{Next, is_packed}
use Rattle.shared_core_fields.specs.declared.table.FieldEntry.{FieldEntry}
use Rattle.shared_core_fields_writer.specs.declared.error.Reason.{Reason}
use Rattle.shared_core_fields_writer.specs.declared.error.Reason.TheVariants.{WrongLevel, TooDeep}
use Rattle.shared_core_fields_writer.specs.Given.{Given, Number, Content, Opens, given, field_next}
use Rattle.shared_core_wire.specs.WrittenRecords.{number_record, content_record}
use Rattle.shared_core_wire.specs.WrittenRecords.{at_most_64_bits}
use Rattle.shared_core_fields_writer.specs.Room.{Wrote, WroteLength}
use Rattle.shared_core_fields_writer.proofs.Rooms.{less_stays, wrote_both, wrote_over}
use Rattle.shared_core_fields_writer.specs.Walk.{Walked, onto, nested_onto}
use Rattle.shared_core_fields_writer.specs.Walk.{Nothing, Within, Numbers, run_numbers, varints, rest_of, walk, Goes}
use Rattle.shared_core_fields_writer.specs.Walk.{Continues, Writes, Nests}
use Rattle.shared_core_fields_writer.proofs.Walking.{onto_more, stops, too_deep, no_field, no_value}
use Rattle.shared_core_fields_writer.proofs.Walking.{of_number}
use Rattle.shared_core_fields_writer.proofs.Walking.{of_run, of_content, of_last, of_message, past_within, past_number}
use Rattle.shared_core_fields_writer.proofs.Walking.{no_number, after_numbers, no_numbers}

-- ---- errors that are handed on

pub continues_error : {T : Type 0} (r : Result T Reason) (x : Reason) (w next : Walked) (left : List FieldEntry) →
    IsErrAnd r (λ y. y ≡ x) → w ≡ Err (x, length left) → Continues r w next left
continues_error (Ok y) x w next left a e = absurd a
continues_error (Err y) x w next left a e = e ∙ ap (λ (z : Reason). Err (z, length left)) (sym a)

pub goes_error : {T : Type 0} (r : Result T Reason) (x : Reason) (w next : Walked) (old : List ℕ) (from : ℕ)
    (new : List ℕ) (to : ℕ) (left : List FieldEntry) → IsErrAnd r (λ y. y ≡ x) → w ≡ Err (x, length left) → Goes r w
    next old from new to left
goes_error (Ok y) x w next old from new to left a e = absurd a
goes_error (Err y) x w next old from new to left a e = e ∙ ap (λ (z : Reason). Err (z, length left)) (sym a)

pub writes_error : {T : Type 0} (r : Result T Reason) (x : Reason) (w : Walked) (old : List ℕ) (from : ℕ) (new : List ℕ)
    (to : ℕ) (left : List FieldEntry) → IsErrAnd r (λ y. y ≡ x) → w ≡ Err (x, length left) → Writes r w old from new to
    left
writes_error (Ok y) x w old from new to left a e = absurd a
writes_error (Err y) x w old from new to left a e = e ∙ ap (λ (z : Reason). Err (z, length left)) (sym a)

-- ---- a message's length, put before its bytes

pub some_bytes : (n : ℕ) → 1 ≤ length (shortest_varint n)
some_bytes n = elim (cases_lt n 128) [
  | inl less ↦ omega (arith, ap length (shortest_small n less))
  | inr more ↦ omega (arith, ap length (shortest_large n more))
]

-- bytes that are written again, over those that were written before
pub nests_over : {T : Type 0} (r : Result T Reason) (w : Walked) (a b c : List ℕ) (i k : ℕ) (left : List FieldEntry) →
    length b ≡ length a → take i b ≡ take i a → Nests r w b i c k left → Nests r w a i c k left
nests_over (Ok y) w a b c i k left s t n = (
  n.0,
  n.1,
  wrote_over a b c i k (shortest_varint (length n.0) ++ n.0) s t n.2,
)
nests_over (Err y) w a b c i k left s t n = n

-- the room is that of a short length, or was compared with the length
pub few_bytes : (place start end likely : ℕ) → place ≤ start → start ≡ at_most_64_bits (place + length (shortest_varint
    likely)) → (likely < 128) ⊎ ((start - place ≤ length (shortest_varint (end - start))) × (end <
    18446744073709551615)) → start - place ≤ length (shortest_varint (end - start))
few_bytes place start end likely u e (inl less) = omega
    (arith, u, e, ap length (shortest_small likely less), some_bytes (end - start))
few_bytes place start end likely u e (inr fits) = fits.0

pub one_or_less : (place start end likely : ℕ) → (likely < 128) ⊎ ((start - place ≤ length (shortest_varint (end -
    start))) × (end < 18446744073709551615)) → (length (shortest_varint likely) ≡ 1) ⊎ (end < 18446744073709551615)
one_or_less place start end likely (inl less) = inl (ap length (shortest_small likely less))
one_or_less place start end likely (inr fits) = inr fits.1

-- the content is there, after room for its length
module _ (a b c d : List ℕ) (place start end to : ℕ) (room content : List ℕ) (v : Wrote a place b start room)
    (w : Wrote b start c end content) (p : WroteLength c place start end d to)
    (f : start - place ≤ length (shortest_varint (end - start))) (o : 1 ≤ length room)
    (g : (length room ≡ 1) ⊎ (end < 18446744073709551615)) (big : length a < 18446744073709551615) where
  put_size : to ≡ at_most_64_bits (place + length (shortest_varint (length content) ++ content))
  put_size =
      let size : length (shortest_varint (length content) ++ content) ≡ length (shortest_varint (length content))
      + length content = length-append (shortest_varint (length content)) content in
      let some : 1 ≤ length (shortest_varint (length content)) = some_bytes (length content) in
      let one : 1 ≤ length (shortest_varint (end - start)) = some_bytes (end - start) in
      elim (cases_lt end 18446744073709551615) [
        | inl less ↦
            let exact : end - start ≡ length content = omega (arith, w.count, less) in
            omega (arith, p.count, size, exact, ap (λ (n : ℕ). length (shortest_varint n)) exact)
        | inr most ↦
            elim g [
              | inl short ↦ omega (arith, p.count, size, some, one, v.count, w.count, short, most)
              | inr below ↦ absurd (omega (arith, below, most))
            ]
      ]

  pub put_nested : Wrote a place d to (shortest_varint (length content) ++ content)
  put_nested = record {
    same_length = p.same_length ∙ w.same_length ∙ v.same_length;
    before = p.before ∙ less_stays place start c b v.up w.before ∙ v.before;
    up = omega (arith, p.count, v.up, v.count);
    count = put_size;
    written =
        λ h.
        let whole : end ≤ to = omega (arith, p.count, h, big, f, v.up, w.up) in
        let inside : end ≤ length b = omega (arith, whole, h, v.same_length) in
        let exact : end - start ≡ length content = omega (arith, w.count, whole, h, big) in
        let begun : start ≤ length b = omega (arith, inside, w.up) in
        let back : drop start (take end c) ≡ content = ap (drop start) (w.written inside)
        ∙ drop_at (take start b) content start (length-take-le start b begun) in
        let last : to ≤ length c = omega (arith, h, w.same_length, v.same_length) in
        p.written last
        ∙ ap (λ (xs : List ℕ). xs ++ (shortest_varint (end - start) ++ drop start (take end c)))
        (less_stays place start c b v.up w.before ∙ v.before)
        ∙ ap (λ (n : ℕ). take place a ++ (shortest_varint n ++ drop start (take end c))) exact
        ∙ ap (λ (xs : List ℕ). take place a ++ (shortest_varint (length content) ++ xs)) back;
  }

pub nested_error : (n : ℕ) (inner next : Walked) (x : Reason) (m : ℕ) → inner ≡ Err (x, m) → nested_onto n inner next ≡
    Err
    (x, m)
nested_error n inner next x m e = ap (λ (w : Walked). nested_onto n w next) e

-- ---- the numbers of a run

module _ (bytes : List ℕ) (s : ℕ) (left : List Row) (n level depth : ℕ) (kind : Kind) (now es : List FieldEntry) (e :
    FieldEntry)
    (i : now ≡ e ∷ es) where
  pub numbers_stop : false ≡ (eqb e.level level && eqb e.number n) → walk bytes s left (Some n) (Numbers kind) level
      depth now
      ≡
      walk bytes s left (Some n) Nothing level depth now
  numbers_stop t =
      ap (walk bytes s left (Some n) (Numbers kind) level depth) i ∙ after_numbers bytes s left n level depth kind e es
      (sym t)
      ∙ ap (walk bytes s left (Some n) Nothing level depth) (sym i)

  pub numbers_past : (g : Given) → true ≡ (eqb e.level level && eqb e.number n) → Ok g ≡ given bytes kind e → walk bytes
      s left
      (Some n) (Numbers kind) level depth es ≡ walk bytes s left (Some n) (Numbers kind) level depth now
  numbers_past g t v = sym (ap (walk bytes s left (Some n) (Numbers kind) level depth) i ∙ past_number bytes s left n
      level depth kind e
      es g (sym t) (sym v))

  pub numbers_fail : (r : Reason) → true ≡ (eqb e.level level && eqb e.number n) → Err r ≡ given bytes kind e → walk
      bytes s
      left (Some n) (Numbers kind) level depth now ≡ Err (r, length now)
  numbers_fail r t v =
      ap (walk bytes s left (Some n) (Numbers kind) level depth) i ∙ no_number bytes s left n level depth kind e es r
      (sym t) (sym
      v)
      ∙ ap (λ (ys : List FieldEntry). Err (r, length ys)) (sym i)

pub numbers_end : (bytes : List ℕ) (s : ℕ) (left : List Row) (n level depth : ℕ) (kind : Kind) (now : List FieldEntry) →
    now ≡ [] →
    walk
    bytes s left (Some n) (Numbers kind) level depth now ≡ walk bytes s left (Some n) Nothing level depth now
numbers_end bytes s left n level depth kind now i =
    ap (walk bytes s left (Some n) (Numbers kind) level depth) i ∙ no_numbers bytes s left n level depth kind
    ∙ ap (walk bytes s left (Some n) Nothing level depth) (sym i)

pub number_more : (level n : ℕ) (now es : List FieldEntry) (e : FieldEntry) → now ≡ e ∷ es → true ≡ (eqb e.level
    level &&
    eqb e.number n) → varints (run_numbers level n now) ≡ shortest_varint e.value ++ varints (run_numbers level n es)
number_more level n now es e i t = ap (λ (ys : List FieldEntry). varints (run_numbers level n ys)) i ∙ rw (sym t) refl

rest_at : (level : ℕ) (e : FieldEntry) (es : List FieldEntry) → level ≤ e.level → rest_of level (e ∷ es) ≡ rest_of level
    es
rest_at level e es h = rw (le-ltb e.level level h) refl

pub rest_past : (level : ℕ) (now es : List FieldEntry) (e : FieldEntry) → now ≡ e ∷ es → e.level ≡ level → rest_of level
    es ≡
    rest_of level now
rest_past level now es e i h = sym (ap (rest_of level) i ∙ rest_at level e es (omega (arith, h)))

pub rest_number : (level n : ℕ) (now es : List FieldEntry) (e : FieldEntry) → now ≡ e ∷ es → true ≡ (eqb e.level level
    && eqb
    e.number n) → rest_of level es ≡ rest_of level now
rest_number level n now es e i t = rest_past level now es e i (eqb-true _ _ (and_split _ _ (sym t)).0)

pub rest_rest : (level : ℕ) (es : List FieldEntry) → rest_of level (rest_of (level + 1) es) ≡ rest_of level es
rest_rest level [] = refl
rest_rest level (e ∷ es) =
    elim (cases_lt e.level (level + 1)) [
      | inl less ↦ rw (lt-ltb e.level (level + 1) less) refl
      | inr more ↦
          rw (le-ltb e.level (level + 1) more) (rest_rest level es ∙ sym (rest_at level e es (omega (arith, more))))
    ]

-- ---- the entry of a field

module _ (bytes : List ℕ) (s : ℕ) (left : List Row) (last : Option ℕ) (n level depth : ℕ) (now es : List FieldEntry)
    (e : FieldEntry) (next : Next) (i : now ≡ e ∷ es) (h : e.level ≡ level) (k : e.number ≡ n) (f : field_next (table s)
    left
    last n ≡ Ok next) where
  own_next : field_next (table s) left last e.number ≡ Ok next
  own_next = ap (field_next (table s) left last) k ∙ f

  pub field_fail : (r : Reason) → Err r ≡ given bytes next.field.0 e → walk bytes s left last Nothing level depth now ≡
      Err
      (r, length now)
  field_fail r v =
      ap (walk bytes s left last Nothing level depth) i ∙ no_value bytes s left last level depth e es h next r own_next
      (sym v) ∙ ap (λ (ys : List FieldEntry). Err (r, length ys)) (sym i)

  pub field_number : (value : ℕ) → Ok (Number value) ≡ given bytes next.field.0 e → false ≡ is_packed next.field → walk
      bytes s left last Nothing level depth now ≡ onto (number_record next.is_plain n value) (walk bytes s next.rows
      (Some n) Nothing level depth es)
  field_number value v p =
      ap (walk bytes s left last Nothing level depth) i ∙ of_number bytes s left last level depth e es h next value
      own_next (sym v) (sym p)
      ∙ ap (λ (m : ℕ). onto (number_record next.is_plain m value) (walk bytes s next.rows (Some m) Nothing level depth
      es)) k

  pub field_content : (content : List ℕ) → Ok (Content content) ≡ given bytes next.field.0 e → walk bytes s left last
      Nothing level depth now ≡ onto (content_record next.is_plain n content) (walk bytes s next.rows (Some n) Nothing
      level depth es)
  field_content content v =
      ap (walk bytes s left last Nothing level depth) i ∙ of_content bytes s left last level depth e es h next content
      own_next (sym v)
      ∙ ap (λ (m : ℕ). onto (content_record next.is_plain m content) (walk bytes s next.rows (Some m) Nothing level
      depth es)) k

  pub field_run : (value : ℕ) → Ok (Number value) ≡ given bytes next.field.0 e → true ≡ is_packed next.field → onto
      (length_record n (varints (value ∷ run_numbers level n es))) (walk bytes s next.rows (Some n) (Numbers
      next.field.0) level depth
      es) ≡
      walk bytes s left last Nothing level depth now
  field_run value v p = sym (ap (walk bytes s left last Nothing level depth) i ∙ of_run bytes s left last level depth e
      es h
      next value own_next (sym v) (sym p)
      ∙ ap (λ (m : ℕ). onto (length_record m (varints (value ∷ run_numbers level m es))) (walk bytes s next.rows (Some
      m)
      (Numbers next.field.0) level depth es)) k)

  pub field_last : (t : ℕ) → depth ≡ 0 → Ok (Opens t) ≡ given bytes next.field.0 e → walk bytes s left last Nothing
      level
      depth now ≡ Err (TooDeep, length now)
  field_last t d v =
      ap (walk bytes s left last Nothing level depth) i ∙ of_last bytes s left last level depth e es h next t d own_next
      (sym v) ∙ ap (λ (ys : List FieldEntry). Err (TooDeep, length ys)) (sym i)

pub field_message : (bytes : List ℕ) (s : ℕ) (left : List Row) (last : Option ℕ) (n level depth : ℕ)
    (now es rest : List FieldEntry) (e : FieldEntry) (next : Next) → now ≡ e ∷ es → e.level ≡ level → e.number ≡ n →
    field_next (table s) left last n ≡ Ok next → (t : ℕ) → 0 < depth → (d : ℕ) → d ≡ depth - 1 → Ok (Opens t) ≡ given
    bytes next.field.0 e → rest ≡ rest_of (level + 1) es → walk bytes s left last Nothing level depth now ≡
    nested_onto n (walk bytes t (table t) None Nothing (level + 1) d es) (walk bytes s next.rows (Some n) Nothing level
    depth rest)
field_message bytes s left last n level zero now es rest e next i h k f t some d same v r = absurd (omega (arith, some))
field_message bytes s left last n level (suc below) now es rest e next i h k f t some d same v r =
    let own : field_next (table s) left last e.number ≡ Ok next = ap (field_next (table s) left last) k ∙ f in
    let one : suc level ≡ level + 1 = omega arith in
    let less : below ≡ d = omega (arith, same) in
    ap (walk bytes s left last Nothing level (suc below)) i
    ∙ of_message bytes s left last level below e es h next t own (sym v)
    ∙ ap (λ (m : ℕ). nested_onto m (walk bytes t (table t) None Nothing (suc level) below es) (walk bytes s next.rows
    (Some m)
    Within level (suc below) es)) k
    ∙ ap (λ (m : ℕ). nested_onto n (walk bytes t (table t) None Nothing (suc level) m es) (walk bytes s next.rows (Some
    n)
    Within level (suc below) es)) less
    ∙ ap (nested_onto n (walk bytes t (table t) None Nothing (suc level) d es)) (past_within bytes s
    next.rows
    (Some n) level (suc below) es)
    ∙ ap (λ (m : ℕ). nested_onto n (walk bytes t (table t) None Nothing m d es) (walk bytes s next.rows
    (Some n)
    Nothing level (suc below) (rest_of m es))) one
    ∙ ap (λ (ys : List FieldEntry). nested_onto n (walk bytes t (table t) None Nothing (level + 1) d es)
    (walk
    bytes s next.rows (Some n) Nothing level (suc below) ys)) (sym r)

-- ---- the entries of a message

module _ (bytes : List ℕ) (s : ℕ) (left : List Row) (last : Option ℕ) (level depth : ℕ) (now es : List FieldEntry)
    (e : FieldEntry) (i : now ≡ e ∷ es) (out : List ℕ) (start : Walked) (j : start ≡ onto out (walk bytes s left last
    Nothing level depth now)) where
  pub message_stops : e.level < level → start ≡ Ok out
  message_stops h =
      j ∙ ap (λ (ys : List FieldEntry). onto out (walk bytes s left last Nothing level depth ys)) i
      ∙ ap (onto out) (stops bytes s left last Nothing level depth e es h) ∙ ap (λ (xs : List ℕ). Ok xs) (append-nil
      out)

  pub message_deeper : e.level ≢ level → level ≤ e.level → start ≡ Err (WrongLevel, length now)
  message_deeper d a =
      let h : level < e.level = omega (arith, d, a) in
      j ∙ ap (λ (ys : List FieldEntry). onto out (walk bytes s left last Nothing level depth ys)) i
      ∙ ap (onto out) (too_deep bytes s left last level depth e es h)
      ∙ ap (λ (ys : List FieldEntry). Err (WrongLevel, length ys)) (sym i)

  pub message_unknown : (r : Reason) → e.level ≡ level → Err r ≡ field_next (table s) left last e.number → start ≡
      Err (r, length now)
  message_unknown r h f =
      j ∙ ap (λ (ys : List FieldEntry). onto out (walk bytes s left last Nothing level depth ys)) i
      ∙ ap (onto out) (no_field bytes s left last level depth e es h r (sym f))
      ∙ ap (λ (ys : List FieldEntry). Err (r, length ys)) (sym i)

pub message_more : (out more : List ℕ) (start w next : Walked) → start ≡ onto out w → w ≡ onto more next → start ≡ onto
    (out ++ more) next
message_more out more start w next j e = j ∙ ap (onto out) e ∙ onto_more out more next

pub walk_none : (bytes : List ℕ) (s : ℕ) (left : List Row) (last : Option ℕ) (level depth : ℕ) → walk bytes s left last
    Nothing level depth [] ≡ Ok []
unfolding walk
walk_none bytes s left last level depth = refl

-- one entry more, at the level of the message
pub message_step : (bytes : List ℕ) (s : ℕ) (left rows : List Row) (last : Option ℕ) (n level at : ℕ) (depth : ℕ → ℕ)
    (now rest : List FieldEntry) (start : Walked) (a b c : List ℕ) (i j k : ℕ) → at ≡ level → ((x : List ℕ) × (start ≡
    onto x (walk bytes s left last Nothing level (depth level) now)) × Wrote a i b j x) → ((y : List ℕ) × (walk bytes s
    left last Nothing at (depth at) now ≡ onto y (walk bytes s rows (Some n) Nothing at (depth at) rest)) × Wrote b j c
    k y) → (z : List ℕ) × (start ≡ onto z (walk bytes s rows (Some n) Nothing level (depth level) rest)) × Wrote a i c k
    z
message_step bytes s left rows last n level at depth now rest start a b c i j k same v w = (
  v.0 ++ w.0,
  message_more v.0 w.0 start (walk bytes s left last Nothing level (depth level) now) (walk bytes s rows (Some n)
      Nothing level (depth level) rest) v.1 (subst (λ (l : ℕ). walk bytes s left last Nothing l (depth l) now ≡ onto w.0
      (walk bytes s rows (Some n) Nothing l (depth l) rest)) same w.1),
  wrote_both a b c i j k v.0 w.0 v.2 w.2,
)

pub rest_level : (level at : ℕ) (xs ys : List FieldEntry) → at ≡ level → rest_of at xs ≡ rest_of at ys → rest_of level
    xs ≡ rest_of level ys
rest_level level at xs ys same e =
    subst (λ (l : ℕ). rest_of l xs ≡ rest_of l ys) same e

pub message_ends : (bytes : List ℕ) (s : ℕ) (left : List Row) (last : Option ℕ) (level depth : ℕ) (now : List
    FieldEntry) (out : List ℕ) (start : Walked) → start ≡ onto out (walk bytes s left last Nothing level depth now) →
    now ≡ [] → start ≡ Ok out
message_ends bytes s left last level depth now out start j i =
    j ∙ ap (λ (ys : List FieldEntry). onto out (walk bytes s left last Nothing level depth ys)) i
    ∙ ap (onto out) (walk_none bytes s left last level depth) ∙ ap (λ (xs : List ℕ). Ok xs) (append-nil out)

pub rest_none : (es : List FieldEntry) → rest_of 0 es ≡ []
rest_none [] = refl
rest_none (e ∷ es) = rw (le-ltb e.level 0 (omega arith)) (rest_none es)
