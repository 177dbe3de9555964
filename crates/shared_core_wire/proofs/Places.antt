-- Where records and their contents are.
use Rattle.std.proofs.Common.{◌≡◌, ℕ, zero, suc, ◌+◌, ◌-◌, ◌≤◌, List, [], ◌∷◌, ◌++◌, length, take, drop, refl, sym, ap}
use Rattle.std.proofs.Common.{subst, ◌∙◌, append_assoc, arith, inl, inr}
use Rattle.std.proofs.lemmas.List.{length-append, take_at, drop_at, take-append-drop}
use Rattle.shared_core_wire.specs.Grammar.{IsFieldRecord, IsRecordBody, IsGroupContent, IsRecordWithin, FieldRecord}
use Rattle.shared_core_wire.specs.Grammar.{RecordValue, Varint, Fixed64, Length, Group, Fixed32}
use Rattle.shared_core_wire.specs.Reader.{record_at}
use Rattle.std.specs.List.{slice_range}
use Rattle.shared_core_wire.specs.ReadRecords.{records_past, IsSliceWithin, IsValueWithin, AreRecordsFrom}
use Rattle.shared_core_wire.specs.Places.{EndsAt, LiesBefore, EachLies}
use Rattle.shared_core_wire.proofs.Readers.{none_some, record_long}
use Rattle.shared_core_wire.proofs.ReadRecords.{cases_option, read_nil, read_stop, read_more, read_again, read_encoded}

middle : (a b c : List ℕ) (to : ℕ) → to ≡ length a + length b → EndsAt (a ++ (b ++ c)) to b
middle a b c to e =
    let whole : length (a ++ (b ++ c)) ≡ length a + (length b + length c) = length-append a (b ++ c) ∙ ap
    (λ (n : ℕ). length a + n) (length-append b c) in
    let from : to - length b ≡ length a = omega arith in
    let len : to - (to - length b) ≡ length b = omega arith in
    (omega arith, omega arith, rw (len, from, drop_at a (b ++ c) (length a) refl) (take_at b c (length b) refl))

nothing_ends : (payload : List ℕ) (to : ℕ) → to ≤ length payload → EndsAt payload to []
nothing_ends payload to h = let none : to - (to - 0) ≡ 0 = omega arith in
    (h, omega arith, ap (λ n. take n (drop (to - 0) payload)) none)

whole_body : (front key body rest : List ℕ) (to : ℕ) → to ≡ length front + (length key + length body) → to ≤ length
    (front ++ ((key ++ body) ++ rest))
whole_body front key body rest to e = omega (
  arith,
  length-append front ((key ++ body) ++ rest),
  length-append
      (key ++ body) rest,
  length-append key body,
)

body_lies : (C : List ℕ → Type 0) (front key body rest : List ℕ) (number : ℕ) (v : RecordValue) (to : ℕ) → IsRecordBody
    C body number v → to ≡ length front + (length key + length body) → LiesBefore (front ++ ((key ++ body) ++ rest)) to
    v
body_lies C front key body rest number (Varint n) to h e = nothing_ends _ to (whole_body front key body rest to e)
body_lies C front key body rest number (Fixed64 bs) to h e = nothing_ends _ to (whole_body front key body rest to e)
body_lies C front key body rest number (Group bs) to h e = nothing_ends _ to (whole_body front key body rest to e)
body_lies C front key body rest number (Fixed32 bs) to h e = nothing_ends _ to (whole_body front key body rest to e)
body_lies C front key body rest number (Length bs) to h e =
    let regroup : front ++ ((key ++ (h.0 ++ bs)) ++ rest) ≡ (front ++ (key ++ h.0)) ++ (bs ++ rest) = simp append_assoc
    in
    let lens : length (front ++ (key ++ h.0)) ≡ length front + (length key + length h.0) = length-append front
    (key ++ h.0) ∙ ap (λ (n : ℕ). length front + n) (length-append key h.0) in
    let body_len = ap length h.2 ∙ length-append h.0 bs in
    subst (λ (w : List ℕ). EndsAt (front ++ ((key ++ w) ++ rest)) to bs) (sym h.2)
    (subst (λ (w : List ℕ). EndsAt w to bs) (sym regroup) (middle (front ++ (key ++ h.0)) bs rest to (omega arith)))

record_lies : (C : List ℕ → Type 0) (payload front bytes text rest : List ℕ) (r : FieldRecord) (to : ℕ) → IsFieldRecord
    C text r → payload ≡ front ++ bytes → bytes ≡ text ++ rest → to ≡ length front + length text → LiesBefore payload to
    r.value
record_lies C payload front bytes text rest r to h p b e =
    let len = ap length h.parts ∙ length-append h.key h.body in
    let whole : payload ≡ front ++ ((h.key ++ h.body) ++ rest) = p ∙ ap (λ (w : List ℕ). front ++ w)
    (b ∙ ap (λ (w : List ℕ). w ++ rest) h.parts) in
    subst (λ (w : List ℕ). LiesBefore w to r.value) (sym whole)
    (body_lies C front h.key h.body rest r.number r.value to h.valued (omega arith))

pub read_lie : (left most : ℕ) (payload front bytes : List ℕ) → length bytes ≤ most → payload ≡ front ++ bytes →
    EachLies payload (records_past (record_at left) (length payload) 0 bytes)
read_lie left most payload front [] le e = rw read_nil tt
read_lie left zero payload front (b ∷ bs) le e = absurd (omega arith)
read_lie left (suc most) payload front (b ∷ bs) le e =
    elim (cases_option (record_at left (b ∷ bs))) [
      | inl none ↦ subst (EachLies payload) (sym (read_stop (record_at left) (length payload) (b ∷ bs) (omega arith)
          none)) tt
      | inr w ↦
          let f = read_encoded left (b ∷ bs) w.0 w.1 in
          let long = record_long (IsGroupContent left) f.text w.0.0 f.is in
          let len : length (b ∷ bs) ≡ length f.text + length w.0.1 = ap length f.parts ∙ length-append f.text w.0.1 in
          let whole : length payload ≡ length front + length (b ∷ bs) = ap length e ∙ length-append front (b ∷ bs) in
          let next : payload ≡ (front ++ f.text) ++ w.0.1 = e ∙ ap (λ (w : List ℕ). front ++ w) f.parts ∙ sym
          (append_assoc front f.text w.0.1) in
          subst (EachLies payload) (sym (read_more (record_at left) (length payload) (b ∷ bs) f.text w.0.1 w.0.0 w.1
          f.parts (omega arith))) (
            record_lies (IsGroupContent left) payload front (b ∷ bs) f.text w.0.1 w.0.0 (length payload - length w.0.1)
                f.is e f.parts (omega arith),
            read_lie left most payload (front ++ f.text) w.0.1 (omega arith) next,
          )
    ]

-- ---- the items of a payload

slice_at : (a b c : List ℕ) (from to : ℕ) → from ≡ length a → to ≡ length a + length b → slice_range (a ++ (b ++ c))
    from to ≡ b
slice_at a b c from to f t =
    let len : to - from ≡ length b = omega (arith, f, t) in
    rw (len, f, drop_at a (b ++ c) (length a) refl) (take_at b c (length b) refl)

slice_front : (front bytes : List ℕ) (to : ℕ) → slice_range (front ++ bytes) (length front) to ≡ take
    (to - length front) bytes
slice_front front bytes to = ap (take (to - length front)) (drop_at front bytes (length front) refl)

slice_within : (payload a b c : List ℕ) (from to : ℕ) → payload ≡ a ++ (b ++ c) → from ≤ length a → length a + length b
    ≤ to → IsSliceWithin payload from to b
slice_within payload a b c from to e f t = (
  length a,
  f,
  t,
  ap
      (λ (w : List ℕ). slice_range w (length a) (length a + length b)) e
      ∙ slice_at a b c (length a) (length a + length b) refl refl,
)

body_within : (C : List ℕ → Type 0) (payload front key body rest : List ℕ) (number : ℕ) (v : RecordValue) (from to : ℕ)
    → IsRecordBody C body number v
    → payload ≡ front ++ ((key ++ body) ++ rest) → from ≡ length front → to ≡ length front + (length key + length body)
    → IsValueWithin payload from to v
body_within C payload front key body rest number (Varint n) from to h e f t = tt
body_within C payload front key body rest number (Fixed64 bs) from to h e f t =
    let whole : payload ≡ (front ++ key) ++ (bs ++ rest) = rw (e, h.0) (simp append_assoc) in
    slice_within payload (front ++ key) bs rest from to whole (omega (arith, f, length-append front key))
    (omega (arith, t, length-append front key, ap length h.0))
body_within C payload front key body rest number (Fixed32 bs) from to h e f t =
    let whole : payload ≡ (front ++ key) ++ (bs ++ rest) = rw (e, h.0) (simp append_assoc) in
    slice_within payload (front ++ key) bs rest from to whole (omega (arith, f, length-append front key))
    (omega (arith, t, length-append front key, ap length h.0))
body_within C payload front key body rest number (Length bs) from to h e f t =
    let whole : payload ≡ (front ++ (key ++ h.0)) ++ (bs ++ rest) = rw (e, h.2) (simp append_assoc) in
    let lens : length (front ++ (key ++ h.0)) ≡ length front + (length key + length h.0) = length-append front
    (key ++ h.0) ∙ ap (λ (n : ℕ). length front + n) (length-append key h.0) in
    let body_len = ap length h.2 ∙ length-append h.0 bs in
    slice_within payload (front ++ (key ++ h.0)) bs rest from to whole (omega (arith, f)) (omega (arith, t))
body_within C payload front key body rest number (Group bs) from to h e f t =
    let whole : payload ≡ (front ++ key) ++ (bs ++ (h.0 ++ rest)) = rw (e, h.3) (simp append_assoc) in
    let body_len = ap length h.3 ∙ length-append bs h.0 in
    slice_within payload (front ++ key) bs (h.0 ++ rest) from to whole (omega (arith, f, length-append front key))
    (omega (arith, t, length-append front key))

record_within : (C : List ℕ → Type 0) (payload front text rest : List ℕ) (r : FieldRecord) (from to : ℕ) → IsFieldRecord
    C text r
    → payload ≡ front ++ (text ++ rest) → from ≡ length front → to ≡ length front + length text → IsValueWithin payload
    from to r.value
record_within C payload front text rest r from to h e f t =
    let len = ap length h.parts ∙ length-append h.key h.body in
    body_within C payload front h.key h.body rest r.number r.value from to h.valued
    (e ∙ ap (λ (w : List ℕ). front ++ (w ++ rest)) h.parts) f (omega (arith, t))

pub read_are : (left most : ℕ) (payload front bytes : List ℕ) → length bytes ≤ most → payload ≡ front ++ bytes →
    AreRecordsFrom (IsRecordWithin left) payload (length front) (records_past (record_at left) (length payload) 0 bytes)
read_are left most payload front [] le e = rw read_nil (omega (arith, ap length e, length-append front []))
read_are left zero payload front (b ∷ bs) le e = absurd (omega arith)
read_are left (suc most) payload front (b ∷ bs) le e =
    let whole : length payload ≡ length front + length (b ∷ bs) = ap length e ∙ length-append front (b ∷ bs) in
    elim (cases_option (record_at left (b ∷ bs))) [
      | inl none ↦
          subst (AreRecordsFrom (IsRecordWithin left) payload (length front))
          (sym (read_stop (record_at left) (length payload) (b ∷ bs) (omega arith) none)) (
            refl,
            refl,
            omega arith,
            λ to r h.
                let k = to - length front in
                let cut : slice_range payload (length front) to ≡ take k (b ∷ bs) = ap
                (λ (w : List ℕ). slice_range w (length front) to) e ∙ slice_front front (b ∷ bs) to in
                none_some (r, drop k (b ∷ bs)) (sym none ∙ ap (record_at left) (sym (take-append-drop k (b ∷ bs))) ∙
                read_again left r (take k (b ∷ bs)) (drop k (b ∷ bs))
                (subst (λ (w : List ℕ). IsRecordWithin left w r) cut h)),
          )
      | inr w ↦
          let f = read_encoded left (b ∷ bs) w.0 w.1 in
          let long = record_long (IsGroupContent left) f.text w.0.0 f.is in
          let len : length (b ∷ bs) ≡ length f.text + length w.0.1 = ap length f.parts ∙ length-append f.text w.0.1 in
          let from = length payload - length (b ∷ bs) in
          let to = length payload - length w.0.1 in
          let at_from : from ≡ length front = omega arith in
          let at_to : to ≡ length front + length f.text = omega arith in
          let split : payload ≡ front ++ (f.text ++ w.0.1) = e ∙ ap (λ (w : List ℕ). front ++ w) f.parts in
          let slice : slice_range payload from to ≡ f.text = ap (λ (x : List ℕ). slice_range x from to) split ∙ slice_at
          front f.text w.0.1 from to at_from at_to in
          let next : length (front ++ f.text) ≡ to = length-append front f.text ∙ sym at_to in
          let others = read_are left most payload (front ++ f.text) w.0.1 (omega arith)
          (split ∙ sym (append_assoc front f.text w.0.1)) in
          subst (AreRecordsFrom (IsRecordWithin left) payload (length front))
          (sym (read_more (record_at left) (length payload) (b ∷ bs) f.text w.0.1 w.0.0 w.1 f.parts (omega arith))) (
            at_from,
            omega arith,
            omega arith,
            subst (λ (x : List ℕ). IsRecordWithin left x w.0.0) (sym slice) f.is,
            record_within (IsGroupContent left) payload front f.text w.0.1 w.0.0 from to f.is split at_from at_to,
            subst (λ (n : ℕ). AreRecordsFrom (IsRecordWithin left) payload n
                (records_past (record_at left) (length payload) 0 w.0.1)) next others,
          )
    ]
