-- The payload of a whole table.
use Rattle.std.proofs.Common.{◌≡◌, length, ℕ, ◌<◌, ◌≤◌, List, ◌++◌, None, Ok, Err, refl, sym, ap, ◌∙◌, arith}
use Rattle.std.proofs.Common.{drop}
use Rattle.std.proofs.lemmas.Bool.{lt-ltb, le-ltb, le-leb, lt-leb}
use Rattle.shared_core_codec.specs.Table.{table}
use Rattle.shared_core_fields.specs.declared.table.FieldEntry.{FieldEntry}
use Rattle.shared_core_fields_writer.specs.declared.error.Reason.{Reason}
use Rattle.shared_core_fields_writer.specs.declared.error.Reason.TheVariants.{TooLong}
use Rattle.shared_core_fields_writer.specs.Walk.{Nothing, walk, rest_of, short_enough, entries_payload}
use Rattle.shared_core_fields_writer.specs.Written.{with_front}
use Rattle.shared_core_fields_writer.proofs.Stepping.{rest_none}

module _ (s : ℕ) (es : List FieldEntry) (bytes : List ℕ) where
  pub payload_given : (out : List ℕ) → walk bytes s (table s) None Nothing 0 100 es ≡ Ok out → length out < 4294967296 →
      entries_payload s es bytes ≡ Ok out
  unfolding entries_payload
  payload_given out e h = ap short_enough e ∙ rw (lt-ltb _ _ h) refl

  pub payload_too_long : (out : List ℕ) (left : List FieldEntry) → walk bytes s (table s) None Nothing 0 100 es ≡ Ok out
      → 4294967296 ≤ length out → left ≡ rest_of 0 es → entries_payload s es bytes ≡ Err (TooLong, length left)
  unfolding entries_payload
  payload_too_long out left e h r =
      let nothing : length left ≡ 0 = ap length (r ∙ rest_none es) in
      ap short_enough e ∙ rw (le-ltb (length out) 4294967296 h) refl ∙ ap (λ (n : ℕ). Err (TooLong, n)) (sym nothing)

  pub payload_error : (reason : Reason) (n : ℕ) → walk bytes s (table s) None Nothing 0 100 es ≡ Err (reason, n) →
      entries_payload s es bytes ≡ Err (reason, n)
  unfolding entries_payload
  payload_error reason n e = ap short_enough e

-- ---- written at the front of a slice

pub front_written : (payload old : List ℕ) (size : ℕ) → size ≡ length payload → size ≤ length old → payload ++ drop size
    old ≡ with_front payload old
front_written payload old size e h =
    rw (le-leb (length payload) (length old) (omega (arith, e, h))) (ap (λ (n : ℕ). payload ++ drop n old) e)

pub front_kept : (payload old : List ℕ) → length old < length payload → old ≡ with_front payload old
front_kept payload old h = rw (lt-leb (length payload) (length old) h) refl
