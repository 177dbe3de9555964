-- The numbers of packed runs, one after the other.
use Rattle.std.proofs.Common.{◌≡◌, ℕ, ◌<◌, List, [], ◌∷◌, length, Bool, true, false, Option, Some, None, refl, sym}
use Rattle.std.proofs.Common.{ap, ◌∙◌, arith}
use Rattle.std.specs.Prelude.{is_some}
use Rattle.std.specs.List.{list_all}
use Rattle.shared_core_wire.specs.Grammar.{IsVarint, IsSequence}
use Rattle.shared_core_wire.specs.Reader.{◌>>=◌, varint_at, sequence_past, packed_numbers}
use Rattle.shared_core_wire.specs.Schema.{Kind}
use Rattle.shared_core_wire.proofs.Readers.{varint_pos}
use Rattle.shared_core_wire.proofs.Runs.{and_split, and_join}
use Rattle.shared_core_wire.proofs.Sequences.{reader_varint, all_more, all_reads, all_stop, packed_again}
use Rattle.shared_core_codec.specs.Canonicity.{is_written_number, is_written_run, written_varint_at}
use Rattle.shared_core_codec.proofs.Canonicity.{IsWritten, reader_written}
use Rattle.shared_core_fields.specs.Runs.{numbers_or_none, run_numbers}

some_list : (o : Option (List ℕ)) → is_some o ≡ true → (ns : List ℕ) × (o ≡ Some ns)
some_list None h = absurd cc
some_list (Some ns) h = (ns, refl)

-- ---- the numbers of a run are written for its kind

as_varints : (k : Kind) (run ns : List ℕ) → IsSequence (IsWritten k) run ns → IsSequence IsVarint run ns
as_varints k run [] h = h
as_varints k run (n ∷ ns) h = (h.0, h.1, h.2, h.3.is, as_varints k h.1 ns h.4)

all_are_written : (k : Kind) (run ns : List ℕ) → IsSequence (IsWritten k) run ns → list_all (is_written_number k) ns ≡
    true
all_are_written k run [] h = refl
all_are_written k run (n ∷ ns) h = and_join _ _ h.3.written (all_are_written k h.1 ns h.4)

pub record WrittenNumbers (k : Kind) (run : List ℕ) : Type 0 where
  pub varints : is_some (packed_numbers run) ≡ true
  pub written : list_all (is_written_number k) (run_numbers run) ≡ true

pub written_numbers : (k : Kind) (run : List ℕ) → is_written_run k run ≡ true → WrittenNumbers k run
written_numbers k run h =
    let o = some_list (sequence_past (written_varint_at k) 0 run) (and_split _ _ h).1 in
    let all = all_reads (IsWritten k) (written_varint_at k) (reader_written k) run o.0 o.1 in
    let read : packed_numbers run ≡ Some o.0 = packed_again run o.0 (as_varints k run o.0 all) in
    record {
      varints = ap is_some read;
      written = ap (λ x. list_all (is_written_number k) (numbers_or_none x)) read ∙ all_are_written k run o.0 all;
    }

-- ---- the first number

pub no_numbers : (run : List ℕ) → length run ≡ 0 → run_numbers run ≡ []
unfolding packed_numbers sequence_past
no_numbers [] e = refl
no_numbers (b ∷ bs) e = absurd (omega (arith, e))

pub number_first : (run : List ℕ) → 0 < length run → is_some (packed_numbers run) ≡ true → varint_at run ≡ None → ⊥
unfolding packed_numbers
number_first run l h e = absurd (let none : is_some (sequence_past varint_at 0 run) ≡ false = ap is_some
    (all_stop varint_at run l e) in cc)

pub record NumberTurn (run rest : List ℕ) (n : ℕ) : Type 0 where
  pub more : is_some (packed_numbers rest) ≡ true
  pub numbers : run_numbers run ≡ n ∷ run_numbers rest

some_more : (n : ℕ) (o : Option (List ℕ)) → is_some (o >>= λ ns. Some (n ∷ ns)) ≡ true → is_some o ≡ true
some_more n None h = absurd cc
some_more n (Some ns) h = refl

pub number_turn : (run : List ℕ) (n : ℕ) (rest : List ℕ) → 0 < length run → is_some (packed_numbers run) ≡ true →
    varint_at run ≡ Some (n, rest) → NumberTurn run rest n
unfolding packed_numbers
number_turn run n rest l h e =
    let f = reader_varint.reads run (n, rest) e in
    let whole : packed_numbers run ≡ (packed_numbers rest >>= λ ns. Some (n ∷ ns)) = all_more varint_at run f.text rest
    n e f.parts (varint_pos f.text n f.is) in
    let more : is_some (packed_numbers rest) ≡ true = some_more n (packed_numbers rest) (sym (ap is_some whole) ∙ h) in
    let others = some_list (packed_numbers rest) more in
    record {
      more = more;
      numbers = ap numbers_or_none (whole ∙ ap (λ o. o >>= λ ns. Some (n ∷ ns)) others.1) ∙ ap
          (λ o. n ∷ numbers_or_none o) (sym others.1);
    }
