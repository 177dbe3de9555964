-- What is read at the front is encoded there, and what is encoded is read back, whatever follows.
use Rattle.std.proofs.Common.{◌≡◌, ℕ, zero, suc, ◌+◌, ◌*◌, ◌/◌, ◌%◌, ◌^◌, ◌<◌, ◌≤◌, ◌⊎◌, Bool, true, false, cond, ltb}
use Rattle.std.proofs.Common.{List, [], ◌∷◌, ◌++◌, length, take, drop, Option, Some, None, refl, sym, ap, subst, ◌∙◌}
use Rattle.std.proofs.Common.{append_assoc, arith, inl, inr}
use Rattle.std.specs.Prelude.{◌==◌}
use Rattle.std.proofs.lemmas.Bool.{lt-ltb, le-ltb, ltb-true, ltb-false, eqb-true}
use Rattle.std.proofs.lemmas.List.{take_at, drop_at, take-append-drop, length-append, length-take}
use Rattle.shared_core_wire.specs.Grammar.{IsBase128, IsVarint, IsKey, IsRecordBody, IsFieldRecord, RecordValue, Varint}
use Rattle.shared_core_wire.specs.Grammar.{Fixed64, Length, Group, Fixed32, FieldRecord, wire_type}
use Rattle.shared_core_wire.specs.Reader.{◌>>=◌, varint_within, varint_at, key_at, bytes_at, value_with, record_with}

-- the bytes begin with an encoding of x.0, and continue with x.1
pub record BeginsWith {A : Type 0} (R : List ℕ → A → Type 0) (bytes : List ℕ) (x : A × List ℕ) : Type 0 where
  pub text : List ℕ
  pub parts : bytes ≡ text ++ x.1
  pub is : R text x.0

-- ---- steps

pub bind_some : {A B : Type 0} (r : Option A) (f : A → Option B) (y : B) → (r >>= f) ≡ Some y → (x : A) × (r ≡ Some x) ×
    (f x ≡ Some y)
bind_some (Some x) f y e = (x, refl, e)
bind_some None f y e = absurd cc

pub chosen : {A : Type 0} (b : Bool) (x y z : A) → cond b x y ≡ z → ((b ≡ true) × (x ≡ z)) ⊎ ((b ≡ false) × (y ≡ z))
chosen true x y z e = inl (refl, e)
chosen false x y z e = inr (refl, e)

pub some_is : {A : Type 0} (x y : A) → Some x ≡ Some y → x ≡ y
some_is x y e = cc

pub none_some : {A : Type 0} (x : A) → None ≡ Some x → ⊥
none_some x e = cc

pub regroup_parts : (bytes a b c d : List ℕ) → bytes ≡ a ++ c → c ≡ b ++ d → bytes ≡ (a ++ b) ++ d
regroup_parts bytes a b c d e f = e ∙ ap (λ (w : List ℕ). a ++ w) f ∙ sym (append_assoc a b d)

pub passed : {A : Type 0} (b : Bool) (r : Option A) (y : A) → cond b r None ≡ Some y → (b ≡ true) × (r ≡ Some y)
passed true r y e = (refl, e)
passed false r y e = absurd cc

pub not_stopped : {A : Type 0} (b : Bool) (r : Option A) (y : A) → cond b None r ≡ Some y → (b ≡ false) × (r ≡ Some y)
not_stopped true r y e = absurd cc
not_stopped false r y e = (refl, e)

-- ---- varints

pub within_again : (most : ℕ) (text rest : List ℕ) (n : ℕ) → IsBase128 text n → length text ≤ most → varint_within most
    (text ++ rest) ≡ Some (n, rest)
unfolding varint_within
within_again most [] rest n h le = absurd h
within_again zero (b ∷ bs) rest n h le = absurd (omega arith)
within_again (suc most) (b ∷ []) rest n h le = rw (lt-ltb b 128 h.0, h.1) refl
within_again (suc most) (b ∷ c ∷ bs) rest n h le =
    let more = within_again most (c ∷ bs) rest h.1 h.3 (omega arith) in
    rw (le-ltb b 128 h.0, more, h.2) refl

encodes_more : (b : ℕ) (text : List ℕ) (high : ℕ) → 128 ≤ b → IsBase128 text high → IsBase128 (b ∷ text)
    (b % 128 + 128 * high)
encodes_more b [] high le h = absurd h
encodes_more b (c ∷ bs) high le h = (le, high, refl, h)

abbrev EncodesWithin : ℕ → List ℕ → ℕ → Type 0
EncodesWithin most text n = IsBase128 text n × (length text ≤ most)

within_more : (most b : ℕ) (bs : List ℕ) (x : ℕ × List ℕ) → 128 ≤ b → BeginsWith (EncodesWithin most) bs x → BeginsWith
    (EncodesWithin (suc most)) (b ∷ bs) (b % 128 + 128 * x.0, x.1)
within_more most b bs x le h = record {
  text = b ∷ h.text;
  parts = ap (λ (w : List ℕ). b ∷ w) h.parts;
  is =
      (encodes_more b h.text x.0 le h.is.0, omega (arith, h.is.1));
}

pub within_reads : (most : ℕ) (bytes : List ℕ) (x : ℕ × List ℕ) → varint_within most bytes ≡ Some x → BeginsWith
    (EncodesWithin most) bytes x
unfolding varint_within
within_reads zero bytes x e = absurd cc
within_reads (suc most) [] x e = absurd cc
within_reads (suc most) (b ∷ bs) x e =
    elim (chosen (ltb b 128) (Some (b, bs)) (varint_within most bs >>= λ x. Some (b % 128 + 128 * x.0, x.1)) (Some x)
    e) [
      | inl w ↦ subst (BeginsWith (EncodesWithin (suc most)) (b ∷ bs)) (some_is (b, bs) x w.1)
          (record { text = b ∷ []; parts = refl; is = ((ltb-true _ _ w.0, refl), omega arith) })
      | inr w ↦
          let v = bind_some (varint_within most bs) (λ x. Some (b % 128 + 128 * x.0, x.1)) x w.1 in
          subst (BeginsWith (EncodesWithin (suc most)) (b ∷ bs)) (some_is (b % 128 + 128 * v.0.0, v.0.1) x v.2)
          (within_more most b bs v.0 (ltb-false _ _ w.0) (within_reads most bs v.0 v.1))
    ]

pub varint_again : (text rest : List ℕ) (n : ℕ) → IsVarint text n → varint_at (text ++ rest) ≡ Some (n, rest)
unfolding varint_at
varint_again text rest n h = rw (within_again 10 text rest n h.encoding h.short, lt-ltb n (2 ^ 64) h.fits) refl

pub varint_reads : (bytes : List ℕ) (x : ℕ × List ℕ) → varint_at bytes ≡ Some x → BeginsWith IsVarint bytes x
unfolding varint_at
varint_reads bytes x e =
    let v = bind_some (varint_within 10 bytes) (λ n. cond (ltb n.0 (2 ^ 64)) (Some n) None) x e in
    let w = passed (ltb v.0.0 (2 ^ 64)) (Some v.0) x v.2 in
    let t = within_reads 10 bytes v.0 v.1 in
    subst (BeginsWith IsVarint bytes) (some_is v.0 x w.1) (record
    { text = t.text; parts = t.parts; is = record { encoding = t.is.0; short = t.is.1; fits = ltb-true _ _ w.0 } })

pub varint_pos : (text : List ℕ) (n : ℕ) → IsVarint text n → 0 < length text
varint_pos [] n h = absurd h.encoding
varint_pos (b ∷ bs) n h = omega arith

-- ---- keys

pub key_again : (text rest : List ℕ) (number wire : ℕ) → IsKey text number wire → key_at (text ++ rest) ≡ Some
    (number, wire, rest)
unfolding key_at
key_again text rest number wire h =
    let big : ltb (8 * number + wire) 8 ≡ false = le-ltb _ _ (omega (arith, h.numbered)) in
    let small : ltb 4294967295 (8 * number + wire) ≡ false = le-ltb _ _ (omega (arith, h.fits)) in
    let typed = h.typed in
    let up : (8 * number + wire) / 8 ≡ number = omega arith in
    let low : (8 * number + wire) % 8 ≡ wire = omega arith in
    rw (varint_again text rest (8 * number + wire) h.encoding, big, small, up, low) refl

-- a key at the front
pub record KeyFront (bytes : List ℕ) (x : ℕ × ℕ × List ℕ) : Type 0 where
  pub text : List ℕ
  pub parts : bytes ≡ text ++ x.2
  pub is : IsKey text x.0 x.1

key_of : (text : List ℕ) (n : ℕ) → IsVarint text n → 8 ≤ n → n ≤ 4294967295 → IsKey text (n / 8) (n % 8)
key_of text n h low high =
    let whole : n ≡ 8 * (n / 8) + n % 8 = omega arith in
    record { encoding = subst (IsVarint text) whole h; numbered = omega arith; typed = omega arith; fits = omega arith }

pub key_reads : (bytes : List ℕ) (x : ℕ × ℕ × List ℕ) → key_at bytes ≡ Some x → KeyFront bytes x
unfolding key_at
key_reads bytes x e =
    let v = bind_some (varint_at bytes) (λ key. cond (ltb key.0 8) None
    (cond (ltb 4294967295 key.0) None (Some (key.0 / 8, key.0 % 8, key.1)))) x e in
    let w = not_stopped (ltb v.0.0 8) (cond (ltb 4294967295 v.0.0) None (Some (v.0.0 / 8, v.0.0 % 8, v.0.1))) x v.2 in
    let u = not_stopped (ltb 4294967295 v.0.0) (Some (v.0.0 / 8, v.0.0 % 8, v.0.1)) x w.1 in
    let t = varint_reads bytes v.0 v.1 in
    subst (KeyFront bytes) (some_is (v.0.0 / 8, v.0.0 % 8, v.0.1) x u.1)
    (record {
      text = t.text;
      parts = t.parts;
      is = key_of t.text v.0.0 t.is (ltb-false _ _ w.0) (ltb-false _ _ u.0);
    })

pub key_pos : (text : List ℕ) (number wire : ℕ) → IsKey text number wire → 0 < length text
key_pos text number wire h = varint_pos text _ h.encoding

-- ---- a number of bytes

abbrev pub IsLong : ℕ → List ℕ → List ℕ → Type 0
IsLong n text x = (text ≡ x) × (length x ≡ n)

pub bytes_again : (text rest : List ℕ) (n : ℕ) → length text ≡ n → bytes_at n (text ++ rest) ≡ Some (text, rest)
unfolding bytes_at
bytes_again text rest n e =
    let long : ltb (length (text ++ rest)) n ≡ false = le-ltb _ _ (omega (arith, length-append text rest)) in
    rw (long, take_at text rest n e, drop_at text rest n e) refl

pub bytes_reads : (n : ℕ) (bytes : List ℕ) (x : List ℕ × List ℕ) → bytes_at n bytes ≡ Some x → BeginsWith (IsLong n)
    bytes x
unfolding bytes_at
bytes_reads n bytes x e =
    let w = not_stopped (ltb (length bytes) n) (Some (take n bytes, drop n bytes)) x e in
    let long : n ≤ length bytes = ltb-false _ _ w.0 in
    subst (BeginsWith (IsLong n) bytes) (some_is (take n bytes, drop n bytes) x w.1)
    (record {
      text = take n bytes;
      parts = sym (take-append-drop n bytes);
      is =
          (refl, omega (arith, length-take n bytes));
    })

-- ---- values and records

-- a reader of the contents of groups
pub record ReadsGroups (C : List ℕ → Type 0) (group : ℕ → List ℕ → Option (List ℕ × List ℕ)) : Type 0 where
  pub again : (number : ℕ) (content end rest : List ℕ) → C content → IsKey end number 4 → group number
      ((content ++ end) ++ rest) ≡ Some (content, rest)
  pub reads : (number : ℕ) (bytes : List ℕ) (x : List ℕ × List ℕ) → group number bytes ≡ Some x → BeginsWith
      (λ text content. (end : List ℕ) × IsKey end number 4 × C content × (text ≡ content ++ end)) bytes x

module _ (C : List ℕ → Type 0) (group : ℕ → List ℕ → Option (List ℕ × List ℕ)) (groups : ReadsGroups C group) where
  pub value_again : (number : ℕ) (v : RecordValue) (body rest : List ℕ) → IsRecordBody C body number v → value_with
      group number (wire_type v) (body ++ rest) ≡ Some (v, rest)
  unfolding value_with
  value_again number (Varint n) body rest h = rw (varint_again body rest n h) refl
  value_again number (Fixed64 bs) body rest h = rw (h.0, bytes_again bs rest 8 h.1) refl
  value_again number (Length bs) body rest h =
      let len : varint_at (h.0 ++ (bs ++ rest)) ≡ Some (length bs, bs ++ rest) = varint_again h.0 (bs ++ rest)
      (length bs) h.1 in
      rw (h.2, append_assoc h.0 bs rest, len, bytes_again bs rest (length bs) refl) refl
  value_again number (Group bs) body rest h = rw (h.3, groups.again number bs h.0 rest h.2 h.1) refl
  value_again number (Fixed32 bs) body rest h = rw (h.0, bytes_again bs rest 4 h.1) refl

  abbrev IsTyped : ℕ → ℕ → List ℕ → RecordValue → Type 0
  IsTyped number wire text v = (wire ≡ wire_type v) × IsRecordBody C text number v

  as_varint : (number wire : ℕ) (bytes : List ℕ) (x : RecordValue × List ℕ) → wire ≡ 0 →
      (varint_at bytes >>= λ n. Some (Varint n.0, n.1)) ≡ Some x → BeginsWith (IsTyped number wire) bytes x
  as_varint number wire bytes x is e =
      let v = bind_some (varint_at bytes) (λ n. Some (Varint n.0, n.1)) x e in
      let t = varint_reads bytes v.0 v.1 in
      subst (BeginsWith (IsTyped number wire) bytes) (some_is (Varint v.0.0, v.0.1) x v.2)
      (record { text = t.text; parts = t.parts; is = (is, t.is) })

  as_fixed64 : (number wire : ℕ) (bytes : List ℕ) (x : RecordValue × List ℕ) → wire ≡ 1 →
      (bytes_at 8 bytes >>= λ n. Some (Fixed64 n.0, n.1)) ≡ Some x → BeginsWith (IsTyped number wire) bytes x
  as_fixed64 number wire bytes x is e =
      let v = bind_some (bytes_at 8 bytes) (λ n. Some (Fixed64 n.0, n.1)) x e in
      let t = bytes_reads 8 bytes v.0 v.1 in
      subst (BeginsWith (IsTyped number wire) bytes) (some_is (Fixed64 v.0.0, v.0.1) x v.2)
      (record { text = t.text; parts = t.parts; is = (is, t.is) })

  as_fixed32 : (number wire : ℕ) (bytes : List ℕ) (x : RecordValue × List ℕ) → wire ≡ 5 →
      (bytes_at 4 bytes >>= λ n. Some (Fixed32 n.0, n.1)) ≡ Some x → BeginsWith (IsTyped number wire) bytes x
  as_fixed32 number wire bytes x is e =
      let v = bind_some (bytes_at 4 bytes) (λ n. Some (Fixed32 n.0, n.1)) x e in
      let t = bytes_reads 4 bytes v.0 v.1 in
      subst (BeginsWith (IsTyped number wire) bytes) (some_is (Fixed32 v.0.0, v.0.1) x v.2)
      (record { text = t.text; parts = t.parts; is = (is, t.is) })

  as_length : (number wire : ℕ) (bytes : List ℕ) (x : RecordValue × List ℕ) → wire ≡ 2 →
      (varint_at bytes >>= λ n. bytes_at n.0 n.1 >>= λ x. Some (Length x.0, x.1)) ≡ Some x → BeginsWith
      (IsTyped number wire) bytes x
  as_length number wire bytes x is e =
      let v = bind_some (varint_at bytes) (λ n. bytes_at n.0 n.1 >>= λ x. Some (Length x.0, x.1)) x e in
      let u = bind_some (bytes_at v.0.0 v.0.1) (λ x. Some (Length x.0, x.1)) x v.2 in
      let t = varint_reads bytes v.0 v.1 in
      let s = bytes_reads v.0.0 v.0.1 u.0 u.1 in
      let parts : bytes ≡ (t.text ++ u.0.0) ++ u.0.1 = regroup_parts bytes t.text u.0.0 v.0.1 u.0.1 t.parts
      (s.parts ∙ ap (λ (w : List ℕ). w ++ u.0.1) s.is.0) in
      subst (BeginsWith (IsTyped number wire) bytes) (some_is (Length u.0.0, u.0.1) x u.2)
      (record {
        text = t.text ++ u.0.0;
        parts = parts;
        is =
            (is, (t.text, subst (IsVarint t.text) (sym s.is.1) t.is, refl));
      })

  as_group : (number wire : ℕ) (bytes : List ℕ) (x : RecordValue × List ℕ) → wire ≡ 3 →
      (group number bytes >>= λ n. Some (Group n.0, n.1)) ≡ Some x → BeginsWith (IsTyped number wire) bytes x
  as_group number wire bytes x is e =
      let v = bind_some (group number bytes) (λ n. Some (Group n.0, n.1)) x e in
      let t = groups.reads number bytes v.0 v.1 in
      subst (BeginsWith (IsTyped number wire) bytes) (some_is (Group v.0.0, v.0.1) x v.2)
      (record { text = t.text; parts = t.parts; is = (is, t.is) })

  pub value_reads : (number wire : ℕ) (bytes : List ℕ) (x : RecordValue × List ℕ) → value_with group number wire bytes ≡
      Some x → BeginsWith (IsTyped number wire) bytes x
  unfolding value_with
  value_reads number wire bytes x e =
      elim (chosen (wire == 0) (varint_at bytes >>= λ n. Some (Varint n.0, n.1)) _ (Some x) e) [
        | inl w ↦ as_varint number wire bytes x (eqb-true _ _ w.0) w.1
        | inr w ↦ elim (chosen (wire == 1) (bytes_at 8 bytes >>= λ n. Some (Fixed64 n.0, n.1)) _ (Some x) w.1) [
          | inl w ↦ as_fixed64 number wire bytes x (eqb-true _ _ w.0) w.1
          | inr w ↦ elim (chosen (wire == 2) (varint_at bytes >>= λ n. bytes_at n.0 n.1 >>= λ x. Some (Length x.0, x.1))
              _ (Some x) w.1) [
                | inl w ↦ as_length number wire bytes x (eqb-true _ _ w.0) w.1
                | inr w ↦ elim (chosen (wire == 3) (group number bytes >>= λ n. Some (Group n.0, n.1)) _ (Some x) w.1) [
                  | inl w ↦ as_group number wire bytes x (eqb-true _ _ w.0) w.1
                  | inr w ↦
                      let v = passed (wire == 5) (bytes_at 4 bytes >>= λ n. Some (Fixed32 n.0, n.1)) x w.1 in
                      as_fixed32 number wire bytes x (eqb-true _ _ v.0) v.1
                ]
              ]
        ]
      ]

  pub record_again : (r : FieldRecord) (text rest : List ℕ) → IsFieldRecord C text r → record_with group (text ++ rest)
      ≡ Some (r, rest)
  unfolding record_with
  record_again r text rest h =
      let key : key_at (h.key ++ (h.body ++ rest)) ≡ Some (r.number, wire_type r.value, h.body ++ rest) = key_again
      h.key (h.body ++ rest) r.number (wire_type r.value) h.keyed in
      rw (h.parts, append_assoc h.key h.body rest, key, value_again r.number r.value h.body rest h.valued) refl

  pub record_reads : (bytes : List ℕ) (x : FieldRecord × List ℕ) → record_with group bytes ≡ Some x → BeginsWith
      (IsFieldRecord C) bytes x
  unfolding record_with
  record_reads bytes x e =
      let k = bind_some (key_at bytes) (λ key. value_with group key.0 key.1 key.2 >>= λ value. Some
      (record { number = key.0; value = value.0 }, value.1)) x e in
      let v = bind_some (value_with group k.0.0 k.0.1 k.0.2)
      (λ value. Some (record { number = k.0.0; value = value.0 }, value.1)) x k.2 in
      let s = key_reads bytes k.0 k.1 in
      let t = value_reads k.0.0 k.0.1 k.0.2 v.0 v.1 in
      let parts : bytes ≡ (s.text ++ t.text) ++ v.0.1 = regroup_parts bytes s.text t.text k.0.2 v.0.1 s.parts t.parts in
      subst (BeginsWith (IsFieldRecord C) bytes) (some_is (record { number = k.0.0; value = v.0.0 }, v.0.1) x v.2)
      (record {
        text = s.text ++ t.text;
        parts = parts;
        is = record {
          key = s.text;
          body = t.text;
          parts = refl;
          keyed = subst (IsKey s.text k.0.0) t.is.0 s.is;
          valued = t.is.1;
        };
      })

body_pos : (C : List ℕ → Type 0) (number : ℕ) (v : RecordValue) (body : List ℕ) → IsRecordBody C body number v → 0 <
    length body
body_pos C number (Varint n) body h = varint_pos body n h
body_pos C number (Fixed64 bs) body h = omega (arith, ap length h.0, h.1)
body_pos C number (Length bs) body h = omega (
  arith,
  ap length h.2,
  length-append h.0 bs,
  varint_pos h.0 (length bs)
      h.1,
)
body_pos C number (Group bs) body h = omega (arith, ap length h.3, length-append bs h.0, key_pos h.0 number 4 h.1)
body_pos C number (Fixed32 bs) body h = omega (arith, ap length h.0, h.1)

pub record_long : (C : List ℕ → Type 0) (text : List ℕ) (r : FieldRecord) → IsFieldRecord C text r → 2 ≤ length text
record_long C text r h = omega (
  arith,
  ap length h.parts,
  length-append h.key h.body,
  key_pos h.key r.number
      (wire_type r.value) h.keyed,
  body_pos C r.number r.value h.body h.valued,
)
