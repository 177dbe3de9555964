-- Records whose key and length, or number, are a byte each.
use Rattle.std.proofs.Common.{◌≡◌, ℕ, zero, suc, ◌+◌, ◌-◌, ◌*◌, ◌<◌, ◌≤◌, Bool, true, false, ◌&&◌, eqb, List, [], ◌∷◌}
use Rattle.std.proofs.Common.{◌++◌, set, take, drop, length, cond, refl, sym, ap, ◌∙◌, append_assoc, arith}
use Rattle.std.proofs.Common.{◌⊎◌, inl, inr, Result, Ok, Err, is_ok, OnOk}
use Rattle.std.proofs.lemmas.Bool.{ne_eqb}
use Rattle.shared_core_wire.specs.Encoding.{shortest_varint, key_bytes}
use Rattle.shared_core_wire.proofs.Shortest.{shortest_small}
use Rattle.shared_core_wire.specs.WrittenRecords.{number_record, content_record}

short_key : (n wire : ℕ) → n < 16 → wire < 8 → key_bytes n wire ≡ (8 * n + wire) ∷ []
short_key n wire h w = shortest_small (8 * n + wire) (omega (arith, h, w))

pub short_number : (plain : Bool) (n value : ℕ) (old mid new : List ℕ) → n < 16 → value < 128 → plain && eqb value 0 ≡
    false → mid ≡ old ++ (8 * n) ∷ [] → new ≡ mid ++ value ∷ [] → new ≡ old ++ number_record plain n value
short_number plain n value old mid new h l k a b =
    let none : 8 * n + 0 ≡ 8 * n = omega arith in
    let key : key_bytes n 0 ≡ (8 * n) ∷ [] = short_key n 0 h (omega arith) ∙ ap (λ (m : ℕ). m ∷ []) none in
    b ∙ ap (λ (xs : List ℕ). xs ++ value ∷ []) a ∙ append_assoc old ((8 * n) ∷ []) (value ∷ [])
    ∙ ap (λ (xs : List ℕ). old ++ ((8 * n) ∷ xs)) (sym (shortest_small value l))
    ∙ ap (λ (xs : List ℕ). old ++ (xs ++ shortest_varint value)) (sym key)
    ∙ ap (λ (b : Bool). old ++ cond b [] (key_bytes n 0 ++ shortest_varint value)) (sym k)

pub short_content : (plain : Bool) (n : ℕ) (content old first mid : List ℕ) → n < 16 → length content < 128
    → plain && eqb (length content) 0 ≡ false → first ≡ old ++ (8 * n + 2) ∷ [] → mid ≡ first ++ length content ∷ []
    → mid ++ content ≡ old ++ content_record plain n content
short_content plain n content old first mid h l k a b =
    ap (λ (xs : List ℕ). xs ++ content) (b ∙ ap (λ (xs : List ℕ). xs ++ length content ∷ []) a ∙ append_assoc old
    ((8 * n + 2) ∷ []) (length content ∷ [])) ∙ append_assoc old ((8 * n + 2) ∷ (length content ∷ [])) content
    ∙ ap (λ (xs : List ℕ). old ++ ((8 * n + 2) ∷ (xs ++ content))) (sym (shortest_small (length content) l))
    ∙ ap (λ (xs : List ℕ). old ++ (xs ++ (shortest_varint (length content) ++ content)))
    (sym (short_key n 2 h (omega arith)))
    ∙ ap (λ (b : Bool). old ++ cond b [] (key_bytes n 2 ++ (shortest_varint (length content) ++ content))) (sym k)

pub short_prefix : (n len : ℕ) (old first new : List ℕ) → n < 16 → len < 128 → first ≡ old ++ (8 * n + 2) ∷ []
    → new ≡ first ++ len ∷ [] → (first ≡ old ++ key_bytes n 2)
    × (new ≡ (old ++ key_bytes n 2) ++ shortest_varint len)
short_prefix n len old first new h l a b =
    let key : first ≡ old ++ key_bytes n 2 = a ∙ ap (λ (xs : List ℕ). old ++ xs) (sym (short_key n 2 h (omega arith)))
    in (
      key,
      b ∙ ap (λ (xs : List ℕ). xs ++ len ∷ []) key
          ∙ ap (λ (xs : List ℕ). (old ++ key_bytes n 2) ++ xs) (sym (shortest_small len l)),
    )

pub not_plain : (plain left : Bool) → plain ≡ false → plain && left ≡ false
not_plain true left h = absurd cc
not_plain false left h = refl

pub no_default : (plain left : Bool) → left ≡ false → plain && left ≡ false
no_default true left h = h
no_default false left h = refl

pub by_either : (plain : Bool) (m : ℕ) → (plain ≡ true × (m ≡ 0 → ⊥)) ⊎ (plain ≡ false) → plain && eqb m 0 ≡ false
by_either plain m (inl some) = no_default plain (eqb m 0) (ne_eqb m 0 some.1)
by_either plain m (inr none) = not_plain plain (eqb m 0) none

pub when_ok : {E : Type 0} (r : Result (Unit {0}) E) (new mid content all : List ℕ) → new ≡ cond (is_ok r)
    (mid ++ content) mid → mid ++ content ≡ all → OnOk r (new ≡ all)
when_ok (Ok x) new mid content all e h = e ∙ h
when_ok (Err x) new mid content all e h = tt

set_split : (xs : List ℕ) (i v : ℕ) → i < length xs → set xs i v ≡ take i xs ++ (v ∷ drop (i + 1) xs)
set_split [] i v h = absurd (omega (arith, h))
set_split (x ∷ xs) zero v h = refl
set_split (x ∷ xs) (suc i) v h =
    let later : suc i + 1 ≡ suc (i + 1) = omega arith in
    ap (λ (ys : List ℕ). x ∷ ys) (set_split xs i v (omega (arith, h)))
    ∙ ap (λ (n : ℕ). x ∷ (take i xs ++ (v ∷ drop n (x ∷ xs)))) (sym later)

pub short_put : (out : List ℕ) (place end len : ℕ) → len ≡ length out - end → len < 128 → place + 1 ≡ end → end ≤ length
    out → set out place len ≡ take place out ++ (shortest_varint (length out - end) ++ drop end out)
short_put out place end len e l p h =
    let small : length out - end < 128 = omega (arith, e, l) in
    set_split out place len (omega (arith, p, h))
    ∙ ap (λ (n : ℕ). take place out ++ (len ∷ drop n out)) p
    ∙ ap (λ (n : ℕ). take place out ++ (n ∷ drop end out)) e
    ∙ ap (λ (xs : List ℕ). take place out ++ (xs ++ drop end out)) (sym (shortest_small (length out - end) small))
