-- A canonical payload is accepted and means its value: at any nesting depth.
use Rattle.std.proofs.Common.{◌≡◌, ℕ, zero, suc, ◌^◌, ◌<◌, ◌≤◌, List, [], ◌∷◌, length, true, sym, ap, subst, ◌∙◌, Some}
use Rattle.std.proofs.Common.{arith, ltb}
use Rattle.std.proofs.lemmas.Bool.{ltb-true}
use Rattle.std.specs.List.{list_all}
use Rattle.shared_core_wire.specs.Grammar.{FieldRecord}
use Rattle.shared_core_wire.specs.Reader.{record_list}
use Rattle.shared_core_wire.proofs.RecordLists.{records_empty, records_append}
use Rattle.shared_core_wire.proofs.EncodingLaws.{encodable, record_encoded}
use Rattle.shared_core_wire.specs.Encoding.{record_bytes, record_list_bytes}
use Rattle.shared_core_wire.specs.Schema.{Row, is_schema}
use Rattle.shared_core_wire.specs.Value.{Parts, empty_value}
use Rattle.shared_core_wire.specs.Acceptance.{some_passes, accepts_message, accepts_records, accepts_payload}
use Rattle.shared_core_wire.specs.Overlay.{message_overlay, or_empty, overlay, meaning}
use Rattle.shared_core_wire.specs.Canonical.{message_records, canonical_payload, levels}
use Rattle.shared_core_wire.specs.Fitting.{Fits}
use Rattle.shared_core_wire.proofs.Runs.{and_split}
use Rattle.shared_core_wire.proofs.ReadBack.{level_back}

module _ (table : ℕ → List Row) (schemas : (s : ℕ) → is_schema (table s) ≡ true) where
  -- what is encoded is read back
  records_encoded : (left : ℕ) (rs : List FieldRecord) → list_all encodable rs ≡ true → record_list left
      (record_list_bytes rs) ≡ Some rs
  records_encoded left [] h = records_empty left
  records_encoded left (r ∷ rs) h =
      let e = and_split _ _ h in
      records_append left (record_bytes r) (record_list_bytes rs) (r ∷ []) rs (record_encoded left r e.0)
      (records_encoded left rs e.1)

  read_back : (left s : ℕ) (v : Parts) → Fits table v (table s) → levels v ≤ left → length (canonical_payload table s v)
      < 2 ^ 64
      → ((t : ℕ) (ps : Parts) → Fits table ps (table t) → suc (levels ps) ≤ left → ltb
      (length (canonical_payload table t ps)) (2 ^ 64) ≡ true →
      (accepts_message table left t (canonical_payload table t ps) ≡ true) ×
      (message_overlay table left t (empty_value (table t)) (canonical_payload table t ps) ≡ ps))
      → (accepts_payload table left s (canonical_payload table s v) ≡ true) ×
      (meaning table left s (canonical_payload table s v) ≡ v)
  read_back left s v h l z back =
      let b = level_back table (message_overlay table left) (accepts_message table left) left back v (table s)
      (schemas s) h l z in
      let found = records_encoded left (message_records table v (table s)) b.encodes in (
        ap (some_passes (accepts_records table left s)) found ∙ b.allows,
        ap
            (λ o. overlay table left s (empty_value (table s)) (or_empty o)) found ∙ b.gives,
      )

  -- at any nesting depth
  pub canonical_back : (left s : ℕ) (v : Parts) → Fits table v (table s) → levels v ≤ left → length
      (canonical_payload table s v) < 2 ^ 64
      → (accepts_payload table left s (canonical_payload table s v) ≡ true) ×
      (meaning table left s (canonical_payload table s v) ≡ v)
  unfolding accepts_message message_overlay
  canonical_back zero s v h l z =
      read_back zero s v h l z (λ t ps f k c. absurd (omega arith))
  canonical_back (suc left) s v h l z =
      read_back (suc left) s v h l z (λ t ps f k c. canonical_back left t ps f (omega arith) (ltb-true _ _ c))

  -- the value is what its canonical payload means
  pub canonical_one : (left s : ℕ) (v w : Parts) → Fits table v (table s) → Fits table w (table s) → levels v ≤ left →
      levels w ≤ left
      → length (canonical_payload table s v) < 2 ^ 64 → canonical_payload table s v ≡ canonical_payload table s w → v ≡
      w
  canonical_one left s v w f g l m z e =
      sym (canonical_back left s v f l z).1 ∙ ap (meaning table left s) e ∙
      (canonical_back left s w g m (subst (λ (bytes : List ℕ). length bytes < 2 ^ 64) e z)).1
