-- Groups: where one ends, and what it contains.
use Rattle.std.proofs.Common.{◌≡◌, ℕ, zero, suc, ◌-◌, ◌<◌, ◌≤◌, cond, List, [], ◌∷◌, ◌++◌, length, take, drop, Option}
use Rattle.std.proofs.Common.{Some, None, refl, sym, ap, subst, ◌∙◌, append_assoc, arith, inl, inr, eq-eqb}
use Rattle.std.specs.Prelude.{◌==◌}
use Rattle.std.proofs.lemmas.Bool.{eqb-true, ne_eqb}
use Rattle.std.proofs.lemmas.List.{take_at, drop_at, length-append}
use Rattle.shared_core_wire.specs.Grammar.{IsSequence, IsKey, IsFieldRecord, IsGroupContent, RecordValue, Varint}
use Rattle.shared_core_wire.specs.Grammar.{Fixed64, Length, Group, Fixed32, FieldRecord, wire_type}
use Rattle.shared_core_wire.proofs.Readers.{BeginsWith}
use Rattle.shared_core_wire.specs.Reader.{◌>>=◌, varint_within, varint_at, key_at, value_with, record_with}
use Rattle.shared_core_wire.specs.Reader.{group_end_at, group_content_at}
use Rattle.shared_core_wire.proofs.Readers.{bind_some, chosen, passed, some_is, key_again, key_reads, ReadsGroups}
use Rattle.shared_core_wire.proofs.Readers.{record_again, record_reads, record_long}

pub record_is : (group : ℕ → List ℕ → Option (List ℕ × List ℕ)) (bytes after rest : List ℕ) (n w : ℕ) (v : RecordValue)
    → key_at bytes ≡ Some (n, w, after) → value_with group n w after ≡ Some (v, rest) → record_with group bytes ≡ Some
    (record { number = n; value = v }, rest)
unfolding record_with
record_is group bytes after rest n w v k e = rw (k, e) refl

pub record_no_value : (group : ℕ → List ℕ → Option (List ℕ × List ℕ)) (bytes after : List ℕ) (n w : ℕ) → key_at bytes ≡
    Some (n, w, after) → value_with group n w after ≡ None → record_with group bytes ≡ None
unfolding record_with
record_no_value group bytes after n w k e = rw (k, e) refl

key_nil : (x : ℕ × ℕ × List ℕ) → key_at [] ≡ Some x → ⊥
unfolding key_at varint_at varint_within
key_nil x e = cc

pub beyond : (b : ℕ) (bs text rest : List ℕ) → b ∷ bs ≡ text ++ rest → 0 < length text → drop (length bs - length rest)
    bs ≡ rest
beyond b bs [] rest e h = absurd (omega arith)
beyond b bs (t ∷ ts) rest e h =
    let same : bs ≡ ts ++ rest = cc in
    rw same (drop_at ts rest (length (ts ++ rest) - length rest) (omega (arith, length-append ts rest)))

module _ (one : List ℕ → Option (FieldRecord × List ℕ)) (number : ℕ) where
  end_past : (past : ℕ) (bytes : List ℕ) → group_end_at one number past bytes ≡ group_end_at one number 0
      (drop past bytes)
  unfolding group_end_at
  end_past zero bytes = refl
  end_past (suc past) [] = refl
  end_past (suc past) (b ∷ bs) = end_past past bs

  pub end_no_key : (bytes : List ℕ) → key_at bytes ≡ None → group_end_at one number 0 bytes ≡ None
  unfolding group_end_at
  end_no_key [] e = refl
  end_no_key (b ∷ bs) e = rw e refl

  pub end_nil : group_end_at one number 0 [] ≡ None
  unfolding group_end_at
  end_nil = refl

  pub end_here : (bytes rest : List ℕ) (n w : ℕ) → key_at bytes ≡ Some (n, w, rest) → w ≡ 4 → n ≡ number → group_end_at
      one number 0 bytes ≡ Some (bytes, rest)
  unfolding group_end_at
  end_here [] rest n w e is same = absurd (key_nil (n, w, rest) e)
  end_here (b ∷ bs) rest n w e is same = rw (e, eq-eqb w 4 is, eq-eqb n number same) refl

  pub end_other : (bytes rest : List ℕ) (n w : ℕ) → key_at bytes ≡ Some (n, w, rest) → w ≡ 4 → (n ≡ number → ⊥) →
      group_end_at one number 0 bytes ≡ None
  unfolding group_end_at
  end_other [] rest n w e is other = absurd (key_nil (n, w, rest) e)
  end_other (b ∷ bs) rest n w e is other = rw (e, eq-eqb w 4 is, ne_eqb n number other) refl

  pub end_no_record : (bytes rest : List ℕ) (n w : ℕ) → key_at bytes ≡ Some (n, w, rest) → (w ≡ 4 → ⊥) → one bytes ≡
      None → group_end_at one number 0 bytes ≡ None
  unfolding group_end_at
  end_no_record [] rest n w e is none = absurd (key_nil (n, w, rest) e)
  end_no_record (b ∷ bs) rest n w e is none = rw (e, ne_eqb w 4 is, none) refl

  pub end_more : (bytes text after rest : List ℕ) (n w : ℕ) (r : FieldRecord) → key_at bytes ≡ Some (n, w, after) →
      (w ≡ 4 → ⊥) → one bytes ≡ Some (r, rest) → bytes ≡ text ++ rest → 0 < length text → group_end_at one number 0
      bytes ≡ group_end_at one number 0 rest
  unfolding group_end_at
  end_more [] text after rest n w r e is o parts h = absurd (key_nil (n, w, after) e)
  end_more (b ∷ bs) text after rest n w r e is o parts h =
      rw (e, ne_eqb w 4 is, o) (end_past (length bs - length rest) bs ∙ ap (group_end_at one number 0)
      (beyond b bs text rest parts h))

not_end : (v : RecordValue) → wire_type v ≡ 4 → ⊥
not_end (Varint n) e = omega arith
not_end (Fixed64 bs) e = omega arith
not_end (Length bs) e = omega arith
not_end (Group bs) e = omega arith
not_end (Fixed32 bs) e = omega arith

-- a place in a group: the records that are left in it, its end, and what follows
record Closed (C : List ℕ → Type 0) (number : ℕ) (bytes : List ℕ) (x : List ℕ × List ℕ) : Type 0 where
  pub content : List ℕ
  pub end : List ℕ
  pub records : List FieldRecord
  pub parts : bytes ≡ content ++ x.0
  pub closes : x.0 ≡ end ++ x.1
  pub keyed : IsKey end number 4
  pub joined : IsSequence (IsFieldRecord C) content records

module _ (C : List ℕ → Type 0) (group : ℕ → List ℕ → Option (List ℕ × List ℕ)) (groups : ReadsGroups C group)
    (number : ℕ) where
  end_again : (rs : List FieldRecord) (content end rest : List ℕ) → IsSequence (IsFieldRecord C) content rs → IsKey end
      number 4 → group_end_at (record_with group) number 0 (content ++ (end ++ rest)) ≡ Some (end ++ rest, rest)
  end_again [] content end rest j k = rw j (end_here (record_with group) number (end ++ rest) rest number 4
      (key_again end rest number 4 k) refl refl)
  end_again (r ∷ rs) content end rest j k =
      let first = j.0 in
      let others = j.1 in
      let field_record = j.3 in
      let tail = others ++ (end ++ rest) in
      let key : key_at (first ++ tail) ≡ Some (r.number, wire_type r.value, field_record.body ++ tail) = rw
      (field_record.parts, append_assoc field_record.key field_record.body tail)
      (key_again field_record.key (field_record.body ++ tail) r.number (wire_type r.value) field_record.keyed) in
      let long : 2 ≤ length first = record_long C first r field_record in
      rw (j.2, append_assoc first others (end ++ rest))
      (end_more (record_with group) number (first ++ tail) first (field_record.body ++ tail) tail r.number
      (wire_type r.value) r key (not_end r.value) (record_again C group groups r first tail field_record) refl
      (omega arith)
      ∙ end_again rs others end rest j.4 k)

  one_more : (bytes : List ℕ) (r : FieldRecord × List ℕ) (x : List ℕ × List ℕ) → BeginsWith (IsFieldRecord C) bytes r →
      Closed C number r.1 x → Closed C number bytes x
  one_more bytes r x f c = record {
    content = f.text ++ c.content;
    end = c.end;
    records = r.0 ∷ c.records;
    parts = f.parts ∙ ap (λ (w : List ℕ). f.text ++ w) c.parts ∙ sym (append_assoc f.text c.content x.0);
    closes = c.closes;
    keyed = c.keyed;
    joined = (f.text, c.content, refl, f.is, c.joined);
  }

  end_reads : (past : ℕ) (bytes : List ℕ) (x : List ℕ × List ℕ) → group_end_at (record_with group) number past bytes ≡
      Some x → Closed C number (drop past bytes) x
  unfolding group_end_at
  end_reads past [] x e = absurd cc
  end_reads (suc past) (b ∷ bs) x e = end_reads past bs x e
  end_reads zero (b ∷ bs) x e =
      let k = bind_some (key_at (b ∷ bs)) (λ key. cond (key.1 == 4) (cond (key.0 == number) (Some (b ∷ bs, key.2)) None)
      (record_with group (b ∷ bs) >>= λ r. group_end_at (record_with group) number (length bs - length r.1) bs)) x e
      in
      elim (chosen (k.0.1 == 4) (cond (k.0.0 == number) (Some (b ∷ bs, k.0.2)) None)
      (record_with group (b ∷ bs) >>= λ r. group_end_at (record_with group) number (length bs - length r.1) bs)
      (Some x) k.2) [
        | inl w ↦
            let v = passed (k.0.0 == number) (Some (b ∷ bs, k.0.2)) x w.1 in
            let t = key_reads (b ∷ bs) k.0 k.1 in
            subst (Closed C number (b ∷ bs)) (some_is (b ∷ bs, k.0.2) x v.1)
            (record {
              content = [];
              end = t.text;
              records = [];
              parts = refl;
              closes = t.parts;
              keyed = subst
                  (λ (n : ℕ). IsKey t.text n 4) (eqb-true _ _ v.0) (subst (IsKey t.text k.0.0) (eqb-true _ _ w.0) t.is);
              joined = refl;
            })
        | inr w ↦
            let v = bind_some (record_with group (b ∷ bs)) (λ r. group_end_at (record_with group) number
            (length bs - length r.1) bs) x w.1 in
            let f = record_reads C group groups (b ∷ bs) v.0 v.1 in
            let long = record_long C f.text v.0.0 f.is in
            one_more (b ∷ bs) v.0 x f (subst (λ (w : List ℕ). Closed C number w x)
            (beyond b bs f.text v.0.1 f.parts (omega arith)) (end_reads (length bs - length v.0.1) bs x v.2))
      ]

pub front_taken : (bytes front rest : List ℕ) → bytes ≡ front ++ rest → take (length bytes - length rest) bytes ≡ front
front_taken bytes front rest e = rw e (take_at front rest (length (front ++ rest) - length rest)
    (omega (arith, length-append front rest)))

pub content_is : (room number : ℕ) (bytes tail rest : List ℕ) → group_end_at (record_with (group_content_at room))
    number 0 bytes ≡ Some (tail, rest) → group_content_at (suc room) number bytes ≡ Some
    (take (length bytes - length tail) bytes, rest)
unfolding group_content_at
content_is room number bytes tail rest e = rw e refl

pub content_none : (room number : ℕ) (bytes : List ℕ) → group_end_at (record_with (group_content_at room)) number 0
    bytes ≡ None → group_content_at (suc room) number bytes ≡ None
unfolding group_content_at
content_none room number bytes e = rw e refl

pub reads_groups : (room : ℕ) → ReadsGroups (IsGroupContent room) (group_content_at room)
unfolding group_content_at IsGroupContent
reads_groups zero = record { again = λ number content end rest h k. absurd h; reads = λ number bytes x e. absurd cc }
reads_groups (suc room) =
    let inner = reads_groups room in
    record {
      again = λ number content end rest h k.
          let closed = end_again (IsGroupContent room) (group_content_at room) inner number h.0 content end rest h.1 k
          in
          rw (append_assoc content end rest, closed) (ap (λ (w : List ℕ). Some (w, rest))
          (take_at content (end ++ rest) (length (content ++ (end ++ rest)) - length (end ++ rest))
          (omega (arith, length-append content (end ++ rest)))));
      reads = λ number bytes x e.
          let v = bind_some (group_end_at (record_with (group_content_at room)) number 0 bytes)
          (λ end. Some (take (length bytes - length end.0) bytes, end.1)) x e in
          let c = end_reads (IsGroupContent room) (group_content_at room) inner number 0 bytes v.0 v.1 in
          let content = front_taken bytes c.content v.0.0 c.parts in
          subst (BeginsWith (λ text content. (end : List ℕ) × IsKey end number 4 ×
          ((rs : List FieldRecord) × IsSequence (IsFieldRecord (IsGroupContent room)) content rs) ×
          (text ≡ content ++ end)) bytes) (some_is (take (length bytes - length v.0.0) bytes, v.0.1) x v.2)
          (record {
            text = c.content ++ c.end;
            parts = c.parts ∙ ap (λ (w : List ℕ). c.content ++ w) c.closes ∙ sym
                (append_assoc c.content c.end v.0.1);
            is = (
              c.end,
              c.keyed,
              rw content (c.records, c.joined),
              ap
                  (λ (w : List ℕ). w ++ c.end) (sym content),
            );
          });
    }
