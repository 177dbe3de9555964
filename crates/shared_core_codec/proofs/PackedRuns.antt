-- Going over a packed run.
use Rattle.std.proofs.Common.{◌≡◌, ℕ, ◌%◌, ◌<◌, List, [], ◌∷◌, ◌++◌, length, map, Option, Some, None, refl, sym, ap}
use Rattle.std.proofs.Common.{append_assoc, arith}
use Rattle.std.proofs.lemmas.List.{length-append}
use Rattle.shared_core_codec.specs.Computed.{packed_onto}
use Rattle.shared_core_wire.proofs.Readers.{varint_pos, varint_reads}
use Rattle.shared_core_wire.proofs.Sequences.{all_more, all_nil, all_stop}
use Rattle.shared_core_wire.specs.Reader.{packed_numbers, sequence_past, varint_at, ◌>>=◌}

abbrev low : ℕ → ℕ
low n = n % 4294967296

onto_more : (old : List ℕ) (n : ℕ) (o : Option (List ℕ)) → ((o >>= λ xs. Some (n ∷ xs)) >>= λ ns. Some
    (old ++ map low ns)) ≡ (o >>= λ ns. Some ((old ++ low n ∷ []) ++ map low ns))
onto_more old n None = refl
onto_more old n (Some ns) = ap (λ (w : List ℕ). Some w) (sym (append_assoc old (low n ∷ []) (map low ns)))

pub record PackedTurn (old bytes : List ℕ) (n : ℕ) (rest : List ℕ) : Type 0 where
  pub shorter : length rest < length bytes
  pub same : packed_onto old bytes ≡ packed_onto (old ++ low n ∷ []) rest

pub packed_turn : (old bytes : List ℕ) (n : ℕ) (rest : List ℕ) → varint_at bytes ≡ Some (n, rest) → PackedTurn old bytes
    n rest
unfolding packed_numbers
packed_turn old bytes n rest e =
    let f = varint_reads bytes (n, rest) e in
    let long = varint_pos f.text n f.is in
    record {
      shorter = omega (arith, ap length f.parts, length-append f.text rest);
      same = rw (all_more varint_at bytes f.text rest n e f.parts long)
          (onto_more old n (sequence_past varint_at 0 rest));
    }

pub packed_stop : (old bytes : List ℕ) → 0 < length bytes → varint_at bytes ≡ None → packed_onto old bytes ≡ None
unfolding packed_numbers
packed_stop old bytes h e = rw (all_stop varint_at bytes h e) refl

pub packed_end : (old : List ℕ) → packed_onto old [] ≡ Some (old ++ [])
unfolding packed_numbers
packed_end old = rw (all_nil varint_at) refl
