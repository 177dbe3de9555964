-- Laws of encodings.
use Rattle.std.proofs.Common.{◌≡◌, ℕ, ◌*◌, ◌≤◌, List, [], ◌∷◌, ◌++◌, length, map, Option, Some, Result, Ok, refl, sym}
use Rattle.std.proofs.Common.{ap, ◌∙◌, append_assoc, arith}
use Rattle.std.proofs.lemmas.List.{append_cancel_right, length-append}
use Rattle.shared_core_wire.specs.declared.error.WireError.{WireError}
use Rattle.shared_core_wire.specs.Grammar.{IsVarint, IsRecordWithin, IsRecordListWithin, IsGroupContent, IsSequence}
use Rattle.shared_core_wire.specs.Grammar.{FieldRecord}
use Rattle.shared_core_wire.specs.Reader.{varint_at, record_at}
use Rattle.shared_core_wire.proofs.Readers.{some_is, varint_again, record_long}
use Rattle.shared_core_wire.proofs.ReadRecords.{read_again, read_only}

-- one reader reads two encodings again
same_front : {A : Type 0} (f : List ℕ → Option (A × List ℕ)) (a b x y : List ℕ) (m n : A) → f (a ++ x) ≡ Some (m, x) → f
    (b ++ y) ≡ Some (n, y) → a ++ x ≡ b ++ y → (a ≡ b) × (m ≡ n)
same_front {A} f a b x y m n p q e =
    let pairs = some_is (m, x) (n, y) (sym p ∙ ap f e ∙ q) in
    let rests : x ≡ y = ap (λ (z : A × List ℕ). z.1) pairs in
    (append_cancel_right a b y (ap (λ (w : List ℕ). a ++ w) (sym rests) ∙ e), ap (λ (z : A × List ℕ). z.0) pairs)

pub one_varint : (a b x y : List ℕ) (m n : ℕ) → IsVarint a m → IsVarint b n → a ++ x ≡ b ++ y → (a ≡ b) × (m ≡ n)
one_varint a b x y m n p q e = same_front varint_at a b x y m n (varint_again a x m p) (varint_again b y n q) e

pub one_record : (left : ℕ) (a b x y : List ℕ) (r s : FieldRecord) → IsRecordWithin left a r → IsRecordWithin left b s →
    a ++ x ≡ b ++ y → (a ≡ b) × (r ≡ s)
one_record left a b x y r s p q e = same_front (record_at left) a b x y r s (read_again left r a x p)
    (read_again left s b y q) e

same_oks : (rs ss : List FieldRecord) → map {B = Result FieldRecord WireError} Ok rs ≡ map Ok ss → rs ≡ ss
same_oks [] [] e = refl
same_oks [] (s ∷ ss) e = absurd cc
same_oks (r ∷ rs) [] e = absurd cc
same_oks (r ∷ rs) (s ∷ ss) e =
    let head : r ≡ s = cc in
    let tail : map {B = Result FieldRecord WireError} Ok rs ≡ map Ok ss = cc in
    let others = same_oks rs ss tail in cc

pub one_list : (left : ℕ) (payload : List ℕ) (rs ss : List FieldRecord) → IsRecordListWithin left payload rs →
    IsRecordListWithin left payload ss → rs ≡ ss
one_list left payload rs ss p q = same_oks rs ss (sym (read_only left rs 0 payload p) ∙ read_only left ss 0 payload q)

pub joined_lists : {A : Type 0} (R : List ℕ → A → Type 0) (a b : List ℕ) (rs ss : List A) → IsSequence R a rs →
    IsSequence R b ss → IsSequence R (a ++ b) (rs ++ ss)
joined_lists R a b [] ss p q = rw p q
joined_lists R a b (r ∷ rs) ss p q = (
  p.0,
  p.1 ++ b,
  ap (λ (w : List ℕ). w ++ b) p.2 ∙ append_assoc p.0 p.1 b,
  p.3,
  joined_lists R p.1 b rs ss p.4 q,
)

pub two_bytes : (left : ℕ) (rs : List FieldRecord) (payload : List ℕ) → IsRecordListWithin left payload rs → 2 * length
    rs ≤ length payload
two_bytes left [] payload p = omega arith
two_bytes left (r ∷ rs) payload p = omega (
  arith,
  ap length p.2,
  length-append p.0 p.1,
  record_long
      (IsGroupContent left) p.0 r p.3,
  two_bytes left rs p.1 p.4,
)
