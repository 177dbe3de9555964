-- Lists of things, by a reader of one.
use Rattle.std.proofs.Common.{◌≡◌, ℕ, zero, suc, ◌-◌, ◌<◌, List, [], ◌∷◌, ◌++◌, length, drop, Option, Some, None, refl}
use Rattle.std.proofs.Common.{ap, subst, ◌∙◌, arith}
use Rattle.std.proofs.lemmas.List.{length-append}
use Rattle.shared_core_wire.specs.Grammar.{IsSequence, IsVarint}
use Rattle.shared_core_wire.proofs.Readers.{BeginsWith}
use Rattle.shared_core_wire.specs.Reader.{◌>>=◌, varint_at, sequence_past, packed_numbers}
use Rattle.shared_core_wire.proofs.Readers.{bind_some, some_is, varint_again, varint_reads, varint_pos}
use Rattle.shared_core_wire.proofs.Groups.{beyond}

-- one reads what R encodes, from the front
pub record IsReader {A : Type 0} (R : List ℕ → A → Type 0) (one : List ℕ → Option (A × List ℕ)) : Type 0 where
  pub again : (text rest : List ℕ) (x : A) → R text x → one (text ++ rest) ≡ Some (x, rest)
  pub reads : (bytes : List ℕ) (x : A × List ℕ) → one bytes ≡ Some x → BeginsWith R bytes x
  pub long : (text : List ℕ) (x : A) → R text x → 0 < length text

pub reader_varint : IsReader IsVarint varint_at
reader_varint = record { again = varint_again; reads = varint_reads; long = varint_pos }

module _ {A : Type 0} (one : List ℕ → Option (A × List ℕ)) where
  all_over : (past : ℕ) (bytes : List ℕ) → sequence_past one past bytes ≡ sequence_past one 0 (drop past bytes)
  unfolding sequence_past
  all_over zero bytes = refl
  all_over (suc past) [] = refl
  all_over (suc past) (b ∷ bs) = all_over past bs

  pub all_nil : sequence_past one 0 [] ≡ Some []
  unfolding sequence_past
  all_nil = refl

  pub all_stop : (bytes : List ℕ) → 0 < length bytes → one bytes ≡ None → sequence_past one 0 bytes ≡ None
  unfolding sequence_past
  all_stop [] h e = absurd (omega arith)
  all_stop (b ∷ bs) h e = rw e refl

  pub all_more : (bytes text rest : List ℕ) (x : A) → one bytes ≡ Some (x, rest) → bytes ≡ text ++ rest → 0 < length
      text → sequence_past one 0 bytes ≡ (sequence_past one 0 rest >>= λ xs. Some (x ∷ xs))
  unfolding sequence_past
  all_more [] text rest x e parts h = absurd (omega (arith, ap length parts, length-append text rest))
  all_more (b ∷ bs) text rest x e parts h =
      rw e (ap (λ (o : Option (List A)). o >>= λ xs. Some (x ∷ xs))
      (all_over (length bs - length rest) bs ∙ ap (sequence_past one 0) (beyond b bs text rest parts h)))

module _ {A : Type 0} (R : List ℕ → A → Type 0) (one : List ℕ → Option (A × List ℕ)) (reader : IsReader R one) where
  pub all_again : (xs : List A) (bytes : List ℕ) → IsSequence R bytes xs → sequence_past one 0 bytes ≡ Some xs
  all_again [] bytes j = rw j (all_nil one)
  all_again (x ∷ xs) bytes j =
      rw (
        j.2,
        all_more one (j.0 ++ j.1) j.0 j.1 x (reader.again j.0 j.1 x j.3) refl (reader.long j.0 x j.3),
        all_again
            xs j.1 j.4,
      ) refl

  joined_one : (bytes text rest : List ℕ) (x : A) (xs : List A) → bytes ≡ text ++ rest → R text x → IsSequence R rest xs
      → IsSequence R bytes (x ∷ xs)
  joined_one bytes text rest x xs parts is j = (text, rest, parts, is, j)

  all_reads_past : (past : ℕ) (bytes : List ℕ) (xs : List A) → sequence_past one past bytes ≡ Some xs → IsSequence R
      (drop past bytes) xs
  unfolding sequence_past
  all_reads_past zero [] xs e = subst (IsSequence R []) (some_is [] xs e) refl
  all_reads_past (suc past) [] xs e = subst (IsSequence R []) (some_is [] xs e) refl
  all_reads_past (suc past) (b ∷ bs) xs e = all_reads_past past bs xs e
  all_reads_past zero (b ∷ bs) xs e =
      let v = bind_some (one (b ∷ bs)) (λ x. sequence_past one (length bs - length x.1) bs >>= λ xs. Some (x.0 ∷ xs)) xs
      e in
      let w = bind_some (sequence_past one (length bs - length v.0.1) bs) (λ xs. Some (v.0.0 ∷ xs)) xs v.2 in
      let f = reader.reads (b ∷ bs) v.0 v.1 in
      let rest = beyond b bs f.text v.0.1 f.parts (reader.long f.text v.0.0 f.is) in
      let others = subst (λ (w' : List ℕ). IsSequence R w' w.0) rest
      (all_reads_past (length bs - length v.0.1) bs w.0 w.1) in
      subst (IsSequence R (b ∷ bs)) (some_is (v.0.0 ∷ w.0) xs w.2)
      (joined_one (b ∷ bs) f.text v.0.1 v.0.0 w.0 f.parts f.is others)

  pub all_reads : (bytes : List ℕ) (xs : List A) → sequence_past one 0 bytes ≡ Some xs → IsSequence R bytes xs
  all_reads bytes xs e = all_reads_past 0 bytes xs e

-- ---- packed runs

pub packed_reads : (bytes ns : List ℕ) → packed_numbers bytes ≡ Some ns → IsSequence IsVarint bytes ns
unfolding packed_numbers
packed_reads bytes ns e = all_reads IsVarint varint_at reader_varint bytes ns e

pub packed_again : (bytes ns : List ℕ) → IsSequence IsVarint bytes ns → packed_numbers bytes ≡ Some ns
unfolding packed_numbers
packed_again bytes ns j = all_again IsVarint varint_at reader_varint ns bytes j
