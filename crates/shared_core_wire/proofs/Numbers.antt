-- Fields of numbers: the numbers that their values are written as, and the parts that fit them.
use Rattle.std.proofs.Common.{◌≡◌, ℕ, zero, suc, ◌+◌, ◌-◌, ◌%◌, ◌^◌, ◌<◌, List, [], ◌∷◌, ◌++◌, Bool, true, false, cond}
use Rattle.std.proofs.Common.{refl, ap, ◌∙◌, arith, ltb}
use Rattle.std.proofs.lemmas.Bool.{lt-ltb}
use Rattle.std.specs.Prelude.{flat_map}
use Rattle.std.specs.List.{list_all}
use Rattle.shared_core_wire.specs.Encoding.{shortest_varint}
use Rattle.shared_core_wire.specs.Schema.{Kind, Row, U32, U64, Boolean, Enumeration, Text, ByteString, Message}
use Rattle.shared_core_wire.specs.Value.{Part, Parts, Absent, Number, Bytes, Nested, Elements, Member, nil, cons}
use Rattle.shared_core_wire.specs.Acceptance.{accepts_number}
use Rattle.shared_core_wire.specs.Overlay.{number_part, number_parts}
use Rattle.shared_core_wire.specs.Fitting.{NumberFits, BytesFit, PartFits, ElementsFit}
use Rattle.shared_core_wire.specs.Canonical.{written_number, number_bytes, element_values, part_values}
use Rattle.shared_core_wire.proofs.Runs.{and_join}

pub number_back : (k : Kind) (n : ℕ) → NumberFits k n → number_part k (written_number k n) ≡ Number n
number_back U32 n h = ap Number (omega arith)
number_back U64 n h = refl
number_back Boolean zero h = refl
number_back Boolean (suc zero) h = refl
number_back Boolean (suc (suc n)) h = absurd (omega arith)
number_back Enumeration n h = by_sign (ltb n (2 ^ 31))
  where
    by_sign : (b : Bool) → Number (cond b n (n + (2 ^ 64 - 2 ^ 32)) % 2 ^ 32) ≡ Number n
    by_sign true = ap Number (omega arith)
    by_sign false = ap Number (omega arith)
number_back Text n h = absurd h
number_back ByteString n h = absurd h
number_back (Message s) n h = absurd h

pub number_small : (k : Kind) (n : ℕ) → NumberFits k n → written_number k n < 2 ^ 64
number_small U32 n h = omega arith
number_small U64 n h = h
number_small Boolean n h = omega arith
number_small Enumeration n h = by_sign (ltb n (2 ^ 31))
  where
    by_sign : (b : Bool) → cond b n (n + (2 ^ 64 - 2 ^ 32)) < 2 ^ 64
    by_sign true = omega arith
    by_sign false = omega arith
number_small Text n h = absurd h
number_small ByteString n h = absurd h
number_small (Message s) n h = absurd h

-- bytes fit no field of numbers
pub no_bytes : (k : Kind) (bytes : List ℕ) → accepts_number k ≡ true → BytesFit k bytes → ⊥
no_bytes U32 bytes a h = h
no_bytes U64 bytes a h = h
no_bytes Boolean bytes a h = h
no_bytes Enumeration bytes a h = h
no_bytes Text bytes a h = cc
no_bytes ByteString bytes a h = cc
no_bytes (Message s) bytes a h = cc

-- nor does a message
pub no_message : (table : ℕ → List Row) (k : Kind) (ps : Parts) → accepts_number k ≡ true → PartFits table (Nested ps) k
    → ⊥
unfolding PartFits
no_message table U32 ps a h = h
no_message table U64 ps a h = h
no_message table Boolean ps a h = h
no_message table Enumeration ps a h = h
no_message table Text ps a h = h
no_message table ByteString ps a h = h
no_message table (Message s) ps a h = cc

-- the numbers that elements of a kind are written as
pub element_numbers : Kind → Parts → List ℕ
element_numbers k nil = []
element_numbers k (cons Absent ps) = element_numbers k ps
element_numbers k (cons (Number n) ps) = written_number k n ∷ element_numbers k ps
element_numbers k (cons (Bytes bytes) ps) = element_numbers k ps
element_numbers k (cons (Nested qs) ps) = element_numbers k ps
element_numbers k (cons (Elements qs) ps) = element_numbers k ps
element_numbers k (cons (Member n p) ps) = element_numbers k ps

-- what elements of numbers are written as means them
pub run_back : (table : ℕ → List Row) (k : Kind) (ps : Parts) → accepts_number k ≡ true → ElementsFit table ps k →
    (flat_map number_bytes (element_values table ps k) ≡ flat_map shortest_varint (element_numbers k ps)) ×
    (number_parts k (element_numbers k ps) ≡ ps) ×
    (list_all (λ n. ltb n (2 ^ 64)) (element_numbers k ps) ≡ true)
unfolding part_values PartFits element_numbers
run_back table k nil a h = (refl, refl, refl)
run_back table k (cons Absent ps) a h = absurd (cc h.0)
run_back table k (cons (Number n) ps) a h =
    let r = run_back table k ps a h.2 in (
      ap (λ (bytes : List ℕ). shortest_varint (written_number k n) ++ bytes) r.0,
      ap (λ q. cons q (number_parts k (element_numbers k ps)))
          (number_back k n h.1) ∙ ap (cons (Number n)) r.1,
      and_join _ _ (lt-ltb (written_number k n) (2 ^ 64) (number_small k n h.1))
          r.2,
    )
run_back table k (cons (Bytes bytes) ps) a h = absurd (no_bytes k bytes a h.1)
run_back table k (cons (Nested qs) ps) a h = absurd (no_message table k qs a h.1)
run_back table k (cons (Elements qs) ps) a h = absurd (cc h.0)
run_back table k (cons (Member n p) ps) a h = absurd (cc h.0)
