-- What is written into a slice, as far as there is room.
use Rattle.std.proofs.Common.{◌≡◌, ℕ, ◌+◌, ◌-◌, ◌*◌, ◌<◌, ◌≤◌, List, [], ◌∷◌, ◌++◌, length, take, drop, refl, sym, ap}
use Rattle.std.proofs.Common.{◌∙◌}
use Rattle.std.proofs.Common.{append_assoc, length-append, length-set, length-drop, set, arith, Bool, false}
use Rattle.std.proofs.Common.{◌&&◌, eqb, cond, subst, ◌/◌, ◌%◌}
use Rattle.std.proofs.lemmas.List.{take-set, take_more_set, take-take, drop-drop, length-take-le}
use Rattle.std.proofs.lemmas.List.{drop-take, drop_at, take-append-le}
use Rattle.std.proofs.lemmas.List.Edits.{take-paste, length-paste}
use Rattle.std.specs.List.{copy_within}
use Rattle.std.proofs.lemmas.List.{take-append-drop}
use Rattle.std.proofs.Math.Seq.{take-add, take-set-lt, paste}
use Rattle.shared_core_wire.specs.Encoding.{shortest_varint, key_bytes}
use Rattle.shared_core_wire.proofs.Shortest.{shortest_small, shortest_large}
use Rattle.shared_core_wire.specs.WrittenRecords.{number_record, content_record, at_most_64_bits}
use Rattle.shared_core_fields_writer.specs.Room.{Wrote, WroteLength, WroteFewHead}
use Rattle.shared_core_fields_writer.proofs.ShortRecords.{by_some, short_key, short_put}

pub wrote_byte : (old : List ℕ) (at to byte : ℕ) → length old < 18446744073709551616 → to ≡ at_most_64_bits (at + 1)
    → at
    < length old → Wrote old at (set old at byte) to (byte ∷ [])
wrote_byte old at to byte m e h =
    let is : to ≡ at + 1 = omega (arith, m, e, h) in
    record {
      same_length = length-set old at byte;
      before = take-set old at byte;
      up = omega (arith, is);
      count = e;
      written = λ k. ap (λ (j : ℕ). take j (set old at byte)) is ∙ take_more_set old at byte h;
    }

-- what stays before an index stays before one that is not greater
pub less_stays : (i j : ℕ) (xs ys : List ℕ) → i ≤ j → take j xs ≡ take j ys → take i xs ≡ take i ys
less_stays i j xs ys h e = sym (take-take i j xs h) ∙ ap (take i) e ∙ take-take i j ys h

-- what stays after an index stays after one that is no less
pub more_stays : (i j : ℕ) (xs ys : List ℕ) → i ≤ j → drop i xs ≡ drop i ys → drop j xs ≡ drop j ys
more_stays i j xs ys h e =
    let there : i + (j - i) ≡ j = omega (arith, h) in
    ap (λ (n : ℕ). drop n xs) (sym there) ∙ sym (drop-drop (j - i) i xs) ∙ ap (drop (j - i)) e
    ∙ drop-drop (j - i) i ys ∙ ap (λ (n : ℕ). drop n ys) there

pub wrote_both : (a b c : List ℕ) (i j k : ℕ) (xs ys : List ℕ) → Wrote a i b j xs → Wrote b j c k ys → Wrote a i c k
    (xs ++ ys)
wrote_both a b c i j k xs ys v w =
    let size : length (xs ++ ys) ≡ length xs + length ys = length-append xs ys in
    record {
      same_length = w.same_length ∙ v.same_length;
      before = less_stays i j c b v.up w.before ∙ v.before;
      up = omega (arith, v.up, w.up);
      count = omega (arith, v.count, w.count, size);
      written =
          λ h.
          let inner : k ≤ length b = omega (arith, h, v.same_length) in
          let first : j ≤ length a = omega (arith, h, w.up) in
          w.written inner ∙ ap (λ (zs : List ℕ). zs ++ ys) (v.written first) ∙ append_assoc (take i a) xs ys;
    }

pub wrote_as : (a b : List ℕ) (i j : ℕ) (xs ys : List ℕ) → Wrote a i b j xs → xs ≡ ys → Wrote a i b j ys
wrote_as a b i j xs ys w e = subst (λ (zs : List ℕ). Wrote a i b j zs) e w

-- bytes that are written over those after an index
pub wrote_over : (a b c : List ℕ) (i k : ℕ) (xs : List ℕ) → length b ≡ length a → take i b ≡ take i a → Wrote b i c k xs
    → Wrote a i c k xs
wrote_over a b c i k xs s t w = record {
  same_length = w.same_length ∙ s;
  before = w.before ∙ t;
  up = w.up;
  count = w.count;
  written = λ h. w.written (omega (arith, h, s)) ∙ ap (λ (ys : List ℕ). ys ++ xs) t;
}

-- ---- varints

pub wrote_small : (a b : List ℕ) (i j n : ℕ) → n < 128 → Wrote a i b j (n ∷ []) → Wrote a i b j (shortest_varint n)
wrote_small a b i j n h w = wrote_as a b i j (n ∷ []) (shortest_varint n) w (sym (shortest_small n h))

pub wrote_large : (a b c : List ℕ) (i j k n : ℕ) → 128 ≤ n → Wrote a i b j ((n % 128 + 128) ∷ []) → Wrote b j c k
    (shortest_varint (n / 128)) → Wrote a i c k (shortest_varint n)
wrote_large a b c i j k n h v w =
    wrote_as a c i k ((n % 128 + 128) ∷ shortest_varint (n / 128)) (shortest_varint n)
    (wrote_both a b c i j k ((n % 128 + 128) ∷ []) (shortest_varint (n / 128)) v w) (sym (shortest_large n h))

-- ---- records

number_is : (plain : Bool) (n value : ℕ) → n < 16 → value < 128 → plain && eqb value 0 ≡ false → number_record plain n
    value ≡ (8 * n) ∷ (value ∷ [])
number_is plain n value h l k =
    let none : 8 * n + 0 ≡ 8 * n = omega arith in
    ap (λ (b : Bool). cond b [] (key_bytes n 0 ++ shortest_varint value)) k
    ∙ ap (λ (xs : List ℕ). xs ++ shortest_varint value) (short_key n 0 h (omega arith))
    ∙ ap (λ (m : ℕ). m ∷ shortest_varint value) none ∙ ap (λ (xs : List ℕ). (8 * n) ∷ xs) (shortest_small value l)

pub wrote_short_number : (plain : Bool) (n value : ℕ) (old : List ℕ) (at : ℕ) → n < 16 → value < 128 → plain && eqb
    value 0 ≡ false → length old < 18446744073709551616 → 2 ≤ length old - at → Wrote old at (set (set old at (8 *
    n)) (at + 1) value) (at + 2)
    (number_record plain n value)
wrote_short_number plain n value old at h l k big r =
    let mid = set old at (8 * n) in
    let size : length mid ≡ length old = length-set old at (8 * n) in
    let first : Wrote old at mid (at + 1) ((8 * n) ∷ []) = wrote_byte old at (at + 1) (8 * n) big
    (omega (arith, r, big)) (omega (arith, r)) in
    let second : Wrote mid (at + 1) (set mid (at + 1) value) (at + 1 + 1) (value ∷ []) = wrote_byte mid (at + 1)
    (at + 1 + 1) value (omega (arith, size, big)) (omega (arith, r, big)) (omega (arith, r, size)) in
    let two : at + 1 + 1 ≡ at + 2 = omega arith in
    wrote_as old (set mid (at + 1) value) at (at + 2) ((8 * n) ∷ (value ∷ [])) (number_record plain n value)
    (subst (λ (j : ℕ). Wrote old at (set mid (at + 1) value) j ((8 * n) ∷ (value ∷ []))) two
    (wrote_both old mid (set mid (at + 1) value) at (at + 1) (at + 1 + 1) ((8 * n) ∷ []) (value ∷ []) first second))
    (sym (number_is plain n value h l k))

pub wrote_number : (plain : Bool) (n value : ℕ) (a b c : List ℕ) (i j k : ℕ) → plain && eqb value 0 ≡ false → Wrote a
    i b
    j (key_bytes n 0) → Wrote b j c k (shortest_varint value) → Wrote a i c k (number_record plain n value)
wrote_number plain n value a b c i j k d v w =
    wrote_as a c i k (key_bytes n 0 ++ shortest_varint value) (number_record plain n value)
    (wrote_both a b c i j k (key_bytes n 0) (shortest_varint value) v w)
    (sym (ap (λ (p : Bool). cond p [] (key_bytes n 0 ++ shortest_varint value)) d))

pub wrote_content : (plain : Bool) (n : ℕ) (content a b c d : List ℕ) (i j k l : ℕ) → plain && eqb (length content) 0 ≡
    false → Wrote a i b j (key_bytes n 2) → Wrote b j c k (shortest_varint (length content)) → Wrote c k d l content →
    Wrote a i d l (content_record plain n content)
wrote_content plain n content a b c d i j k l e v w x =
    let rest : List ℕ = shortest_varint (length content) ++ content in
    wrote_as a d i l (key_bytes n 2 ++ rest) (content_record plain n content)
    (wrote_both a b d i j l (key_bytes n 2) rest v
    (wrote_both b c d j k l (shortest_varint (length content)) content w x))
    (sym (ap (λ (p : Bool). cond p [] (key_bytes n 2 ++ rest)) e))

pub wrote_few_bytes : (plain : Bool) (n : ℕ) (content new old : List ℕ) (at to : ℕ) → n < 16 → length content <
    128 → plain && eqb (length content) 0 ≡ false → length old < 18446744073709551616 → length content + 2 ≤ length old
    - at → Wrote (set (set old at (8 * n + 2)) (at + 1) (length content)) (at + 2) new to content → Wrote old at new to
    (content_record plain n content)
wrote_few_bytes plain n content new old at to h l k big r third =
    let x : ℕ = 8 * n + 2 in
    let m : ℕ = length content in
    let one : List ℕ = set old at x in
    let two : List ℕ = set one (at + 1) m in
    let size : length one ≡ length old = length-set old at x in
    let step : at + 1 + 1 ≡ at + 2 = omega arith in
    let first : Wrote old at one (at + 1) (x ∷ []) = wrote_byte old at (at + 1) x big (omega (arith, r, big))
    (omega (arith, r)) in
    let second : Wrote one (at + 1) two (at + 2) (m ∷ []) = subst (λ (j : ℕ). Wrote one (at + 1) two j (m ∷ [])) step
    (wrote_byte one (at + 1) (at + 1 + 1) m (omega (arith, size, big)) (omega (arith, r, big)) (omega (
      arith,
      r,
      size,
    ))) in
    let all : Wrote old at new to ((x ∷ []) ++ ((m ∷ []) ++ content)) = wrote_both old one new at (at + 1) to (x ∷ [])
    ((m ∷ []) ++ content) first (wrote_both one two new (at + 1) (at + 2) to (m ∷ []) content second third) in
    wrote_as old new at to (x ∷ (m ∷ content)) (content_record plain n content) all
    (sym (ap (λ (b : Bool). cond b [] (key_bytes n 2 ++ (shortest_varint m ++ content))) k
    ∙ ap (λ (xs : List ℕ). xs ++ (shortest_varint m ++ content)) (short_key n 2 h (omega arith))
    ∙ ap (λ (xs : List ℕ). x ∷ (xs ++ content)) (shortest_small m l)))

-- the same after its key and its length, which are there
module _ (old head new content : List ℕ) (at n end after : ℕ) (big : length old < 18446744073709551616)
    (h : WroteFewHead old at n (length content) head end) (w : Wrote head (at + 2) new after content) where
  pub wrote_after_head : (plain : Bool) → Wrote old at new end (content_record plain n content)
  wrote_after_head plain =
      let last : after ≡ end = omega (arith, w.count, h.end, h.room, big) in
      subst (λ (j : ℕ). Wrote old at new j (content_record plain n content)) last
      (wrote_few_bytes plain n content new old at after h.key (omega (arith, h.few))
      (by_some plain (length content) (omega (arith, h.some))) big (omega (arith, h.end, h.room))
      (subst (λ (xs : List ℕ). Wrote xs (at + 2) new after content) h.written w))

-- ---- the length of bytes, put before them

pub wrote_short_length : (old : List ℕ) (at start end len : ℕ) → len ≡ end - start → len < 128 → at < start → start ≤
    end → start - at ≤ length (shortest_varint (end - start)) → length old < 18446744073709551616 → end ≤ length old →
    WroteLength old at start end (set old at len) end
wrote_short_length old at start end len e l b a f big h =
    let small : shortest_varint (end - start) ≡ (end - start) ∷ [] = shortest_small (end - start) (omega (
      arith,
      e,
      l,
    )) in
    let one : length (shortest_varint (end - start)) ≡ 1 = ap length small in
    let there : at + 1 ≡ start = omega (arith, one, f, b) in
    let size : length (take end old) ≡ end = length-take-le end old h in
    record {
      same_length = length-set old at len;
      before = take-set old at len;
      count = omega (arith, one, there, a, h, big);
      written =
          λ k.
          take-set-lt end old at len (omega (arith, b, a))
          ∙ short_put (take end old) at start len (omega (arith, e, size)) l there (omega (arith, size, a))
          ∙ ap (λ (xs : List ℕ). xs ++ (shortest_varint (length (take end old) - start) ++ drop start (take end old)))
          (take-take at end old (omega (arith, b, a)))
          ∙ ap (λ (n : ℕ). take at old ++ (shortest_varint (n - start) ++ drop start (take end old))) size;
    }

-- the bytes are moved, and their length is written before them
module _ (old mid new : List ℕ) (at start end moved last : ℕ) (a : start ≤ end)
    (f : start - at ≤ length (shortest_varint (end - start))) (m : moved ≡ at_most_64_bits
    (at + length (shortest_varint (end - start)))) (g : last ≡ at_most_64_bits (moved + (end - start))) (v : Wrote
    mid at new moved (shortest_varint (end - start)))
    (s : drop moved new ≡ drop moved mid) where
  pub wrote_moved : length old < 18446744073709551615 → last ≤ length old → mid ≡ paste old moved (drop start old)
      (end - start) → WroteLength old at start
      end new last
  wrote_moved big h p =
      let len : ℕ = end - start in
      let exact : last ≡ moved + len = omega (arith, g, h, big) in
      let exactly : moved ≡ at + length (shortest_varint len) = omega (arith, m, exact, h, big) in
      let inside : moved ≤ length old = omega (arith, h, exact) in
      let room : len ≤ length (drop start old) = omega (arith, h, exact, exactly, f, a, length-drop start old) in
      let fits : moved + len ≤ length old = omega (arith, h, exact) in
      let size : length mid ≡ length old = ap length p ∙ length-paste old moved (drop start old) len fits room in
      let taken : take (moved + len) mid ≡ take moved old ++ take len (drop start old) = ap (take (moved + len)) p
      ∙ take-paste old moved (drop start old) len inside room in
      let front : length (take moved old) ≡ moved = length-take-le moved old inside in
      let low : at ≤ moved = omega (arith, exactly) in
      let kept : take at mid ≡ take at old = sym (take-take at (moved + len) mid (omega (arith, m)))
      ∙ ap (take at) taken ∙ take-append-le at (take moved old) (take len (drop start old)) (omega (
        arith,
        front,
        exactly,
      ))
      ∙ take-take at moved old low in
      let back : take len (drop moved new) ≡ drop start (take end old) = ap (take len) s ∙ sym (drop-take moved len mid)
      ∙ ap (drop moved) taken ∙ drop_at (take moved old) (take len (drop start old)) moved front
      ∙ sym (drop-take start len old) ∙ ap (λ (n : ℕ). drop start (take n old)) (there len refl) in
      record {
        same_length = v.same_length ∙ size;
        before = v.before ∙ kept;
        count = omega (arith, g, m);
        written =
            λ k.
            ap (λ (n : ℕ). take n new) exact ∙ take-add moved len new
            ∙ ap (λ (xs : List ℕ). xs ++ take len (drop moved new)) (v.written (omega (arith, inside, size)))
            ∙ append_assoc (take at mid) (shortest_varint len) (take len (drop moved new))
            ∙ ap (λ (xs : List ℕ). xs ++ (shortest_varint len ++ take len (drop moved new))) kept
            ∙ ap (λ (xs : List ℕ). take at old ++ (shortest_varint len ++ xs)) back;
      }
    where
      there : (len : ℕ) → len ≡ end - start → start + len ≡ end
      there len e = omega (arith, e, a)

  pub wrote_counted : length old < last → mid ≡ old → WroteLength old at start end new last
  wrote_counted h p = record {
    same_length = v.same_length ∙ ap length p;
    before = v.before ∙ ap (take at) p;
    count = omega (arith, g, m);
    written = λ k. absurd (omega (arith, h, k));
  }

-- Bytes that are copied to where they are.
pub copied_here : (xs : List ℕ) (start end : ℕ) → xs ≡ copy_within xs start end start
copied_here xs start end =
    sym (ap (λ (ys : List ℕ). ys ++ drop (start + (end - start)) xs) (sym (take-add start (end - start) xs))
    ∙ take-append-drop (start + (end - start)) xs)
