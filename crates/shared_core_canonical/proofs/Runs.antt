-- Going over a packed run.
use Rattle.std.proofs.Common.{◌≡◌, ℕ, ◌<◌, List, [], ◌∷◌, ◌++◌, length, Option, Some, None, true, false, refl}
use Rattle.std.proofs.Common.{sym, ap}
use Rattle.std.proofs.Common.{◌∙◌, append_assoc, append-nil, arith}
use Rattle.std.specs.Option.{is_some}
use Rattle.std.proofs.lemmas.List.{length-append}
use Rattle.shared_core_wire.specs.Schema.{Kind}
use Rattle.shared_core_wire.specs.Encoding.{shortest_varint}
use Rattle.shared_core_wire.specs.Reader.{packed_numbers, sequence_past, varint_at, ◌>>=◌}
use Rattle.shared_core_wire.proofs.Readers.{varint_pos, varint_reads}
use Rattle.shared_core_wire.proofs.Sequences.{all_more, all_nil, all_stop}
use Rattle.shared_core_canonical.specs.Rows.{found_varints, rewritten_number}

-- what is read after a number of the run
pub record Turn (k : Kind) (run bytes : List ℕ) (n : ℕ) (rest : List ℕ) : Type 0 where
  pub shorter : length rest < length bytes
  pub packed : is_some (packed_numbers bytes) ≡ true → is_some (packed_numbers rest) ≡ true
  pub written : is_some (packed_numbers bytes) ≡ true → (run ++ shortest_varint (rewritten_number k n)) ++ found_varints
      k
      (packed_numbers rest) ≡ run ++ found_varints k (packed_numbers bytes)

some_later : (n : ℕ) (o : Option (List ℕ)) → is_some (o >>= λ ns. Some (n ∷ ns)) ≡ true → is_some o ≡ true
some_later n None h = h
some_later n (Some ns) h = refl

more_written : (k : Kind) (run : List ℕ) (n : ℕ) (o : Option (List ℕ)) → is_some o ≡ true → (run ++ shortest_varint
    (rewritten_number k n)) ++ found_varints k o ≡ run ++ found_varints k (o >>= λ ns. Some (n ∷ ns))
more_written k run n None h = absurd cc
more_written k run n (Some ns) h = append_assoc run (shortest_varint (rewritten_number k n)) (found_varints k (Some ns))

pub turn : (k : Kind) (run bytes : List ℕ) (n : ℕ) (rest : List ℕ) → varint_at bytes ≡ Some (n, rest) → Turn k run bytes
    n rest
unfolding packed_numbers
turn k run bytes n rest e =
    let f = varint_reads bytes (n, rest) e in
    let long = varint_pos f.text n f.is in
    let later = sequence_past varint_at 0 rest in
    let more : sequence_past varint_at 0 bytes ≡ (later >>= λ ns. Some (n ∷ ns)) =
    all_more varint_at bytes f.text rest n e f.parts long in
    record {
      shorter = omega (arith, ap length f.parts, length-append f.text rest);
      packed = λ h. some_later n later (sym (ap (λ (o : Option (List ℕ)). is_some o) more) ∙ h);
      written =
          λ h. more_written k run n later (some_later n later (sym (ap (λ (o : Option (List ℕ)). is_some o) more) ∙ h))
          ∙ sym (ap (λ (o : Option (List ℕ)). run ++ found_varints k o) more);
    }

pub run_stops : (bytes : List ℕ) → 0 < length bytes → varint_at bytes ≡ None → is_some (packed_numbers bytes) ≡ true → ⊥
unfolding packed_numbers
run_stops bytes h e s =
    let none : sequence_past varint_at 0 bytes ≡ None = all_stop varint_at bytes h e in
    let g : false ≡ true = sym (ap (λ (o : Option (List ℕ)). is_some o) none) ∙ s in
    absurd cc

pub run_ends : (k : Kind) (run bytes all : List ℕ) → bytes ≡ [] → run ++ found_varints k (packed_numbers bytes) ≡ all →
    run ≡ all
unfolding packed_numbers
run_ends k run bytes all e h =
    let none : packed_numbers bytes ≡ Some [] = ap packed_numbers e ∙ all_nil varint_at in
    sym (append-nil run) ∙ sym (ap (λ (o : Option (List ℕ)). run ++ found_varints k o) none) ∙ h
