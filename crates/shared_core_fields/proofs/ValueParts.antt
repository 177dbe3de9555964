-- What the length-delimited values of a canonical payload give to the fields that they are of.
use Rattle.std.proofs.Common.{◌≡◌, ℕ, List, take, drop, Bool, true, false, cond, Option, Some, refl, sym, ap, ◌∙◌}
use Rattle.std.specs.Prelude.{option_map}
use Rattle.shared_core_wire.specs.Grammar.{Varint, Length}
use Rattle.shared_core_wire.specs.Schema.{Table, Kind, U32, U64, Boolean, Enumeration, Text, ByteString, Message}
use Rattle.shared_core_wire.specs.Value.{Part, Number, Elements}
use Rattle.shared_core_wire.specs.Acceptance.{accepts_number}
use Rattle.shared_core_wire.specs.Overlay.{number_parts}
use Rattle.shared_core_codec.specs.Canonicity.{is_canonical_payload_in, is_written_run, is_written_value}
use Rattle.shared_core_fields.specs.Coming.{is_nested_in, is_typed_in}
use Rattle.shared_core_fields.specs.Fields.{record_part_in}
use Rattle.shared_core_fields.specs.Runs.{held_numbers, run_numbers}
use Rattle.shared_core_fields.specs.KnownValues.{is_known_in, typed_parts_in, value_after}
use Rattle.shared_core_codec.specs.FieldParts.{parts_of}
use Rattle.shared_core_fields.proofs.Fronts.{Delimited, delimited_by_kind}
use Rattle.shared_core_fields.proofs.NumberParts.{numbers_held}

-- ---- no number is of such a kind

module _ (table : Table) where
  no_text : (r : Bool) (n : ℕ) → is_typed_in table (Text, r) (Varint n) ≡ false
  no_text true n = refl
  no_text false n = refl

  no_bytes : (r : Bool) (n : ℕ) → is_typed_in table (ByteString, r) (Varint n) ≡ false
  no_bytes true n = refl
  no_bytes false n = refl

  no_message : (s : ℕ) (r : Bool) (n : ℕ) → is_typed_in table (Message s, r) (Varint n) ≡ false
  no_message s true n = refl
  no_message s false n = refl

  module _ (k : Kind) (r : Bool) (wire n : ℕ) (bytes : List ℕ)
      (h : is_known_in table (k, r) (value_after wire (n, bytes)) ≡ true) where
    by_kind : (j : Kind) → k ≡ j → is_typed_in table (j, r) (Varint n) ≡ false → Delimited table (k, r) wire n bytes
    by_kind j e none =
        delimited_by_kind table (k, r) wire n bytes (ap (λ (i : Kind). is_typed_in table (i, r) (Varint n)) e ∙ none) h

    pub of_text : k ≡ Text → Delimited table (k, r) wire n bytes
    of_text e = by_kind Text e (no_text r n)

    pub of_bytes : k ≡ ByteString → Delimited table (k, r) wire n bytes
    of_bytes e = by_kind ByteString e (no_bytes r n)

    pub of_message : (s : ℕ) → k ≡ Message s → Delimited table (k, r) wire n bytes
    of_message s e = by_kind (Message s) e (no_message s r n)

  -- ---- what is said of the bytes

  pub typed_run : (k : Kind) (r : Bool) (bytes : List ℕ) → accepts_number k ≡ true → is_typed_in table (k, r)
      (Length bytes) ≡ true → is_written_run k bytes ≡ true
  typed_run k true bytes a h = sym (ap (λ (b : Bool). cond b (is_written_run k bytes)
      (is_written_value (is_nested_in table) k (Length bytes))) a) ∙ h
  typed_run U32 false bytes a h = absurd cc
  typed_run U64 false bytes a h = absurd cc
  typed_run Boolean false bytes a h = absurd cc
  typed_run Enumeration false bytes a h = absurd cc
  typed_run Text false bytes a h = absurd cc
  typed_run ByteString false bytes a h = absurd cc
  typed_run (Message s) false bytes a h = absurd cc

  pub run_part : (k : Kind) (r : Bool) (bytes : List ℕ) → accepts_number k ≡ true → record_part_in table (k, r)
      (Length bytes) ≡ Elements (number_parts k (run_numbers bytes))
  run_part k r bytes a = rw a refl

  pub held_part : (k : Kind) (r : Bool) (bytes : List ℕ) → accepts_number k ≡ true → record_part_in table (k, r)
      (Length bytes) ≡ Elements (parts_of Number (held_numbers k bytes))
  held_part k r bytes a = run_part k r bytes a ∙ ap Elements (numbers_held k (run_numbers bytes) a)

  pub typed_message : (k : Kind) (r : Bool) (s : ℕ) (bytes : List ℕ) → k ≡ Message s
      → is_typed_in table (k, r) (Length bytes) ≡
      true → is_canonical_payload_in table 100 s bytes ≡ true
  typed_message k true s bytes e h = sym (ap (λ (j : Kind). is_typed_in table (j, true) (Length bytes)) e) ∙ h
  typed_message k false s bytes e h = sym (ap (λ (j : Kind). is_typed_in table (j, false) (Length bytes)) e) ∙ h

  -- ---- what they give

  abbrev pub four : Kind → Part → List ℕ → List ℕ → Option (Kind × Part × List ℕ × List ℕ)
  four k p content rest = Some (k, p, content, rest)

  pub parts_are : (k j : Kind) (r : Bool) (wire n : ℕ) (bytes content rest : List ℕ)
      → Delimited table (k, r) wire n bytes → k ≡
      j → content ≡ take n bytes → rest ≡ drop n bytes
      → option_map (typed_parts_in table (k, r)) (value_after wire (n, bytes)) ≡ Some
      (j, record_part_in table (j, r) (Length content), content, rest)
  parts_are k j r wire n bytes content rest d e front back =
      ap (option_map (typed_parts_in table (k, r))) d.value
      ∙ ap (λ (z : List ℕ). four k (record_part_in table (k, r) (Length z)) z (drop n bytes)) (sym front)
      ∙ ap (λ (z : List ℕ). four k (record_part_in table (k, r) (Length content)) content z) (sym back)
      ∙ ap (λ (z : Kind). four z (record_part_in table (z, r) (Length content)) content rest) e
