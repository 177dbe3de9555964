-- A walk that checks a payload: each step leaves what is still to be shown as it is.
use Rattle.std.proofs.Common.{◌≡◌, ℕ, ◌<◌, List, length, Bool, false, Option, Some, None}
use Rattle.std.proofs.Common.{refl, sym, ap, ◌∙◌, subst}
use Rattle.std.specs.Prelude.{option_map}
use Rattle.shared_core_wire.specs.Grammar.{FieldRecord}
use Rattle.shared_core_wire.specs.Reader.{◌>>=◌, record_at}
use Rattle.shared_core_wire.specs.ReadRecords.{records_past}
use Rattle.shared_core_wire.specs.Schema.{Row}
use Rattle.shared_core_wire.specs.Acceptance.{NestedAcceptance}
use Rattle.shared_core_wire.proofs.Readers.{bind_some, some_is}
use Rattle.shared_core_wire.proofs.ReadRecords.{place, step}
use Rattle.shared_core_codec.specs.Canonicity.{all_come_read, coming_after, rows_after}
use Rattle.shared_core_fields.specs.WrittenRecords.{rows_and_rest, written_record_at}
use Rattle.shared_core_fields.proofs.Checked.{comes_not, comes_on, with_room}
use Rattle.shared_core_fields.proofs.WrittenRecords.{comes_so, is_written, none_comes}

-- The rows that are left, and the bytes.
abbrev Left : Type 0
Left = List Row × List ℕ

module _ (nested : NestedAcceptance) (end : ℕ) where
  -- Whether all that is left comes.
  abbrev pub comes : List Row → List ℕ → Bool
  comes rows bytes = all_come_read nested (rows, length bytes) (records_past (record_at 0) end 0 bytes)

  pub record Goes (rows rest : List Row) (bytes after : List ℕ) : Type 0 where
    pub shorter : length after < length bytes
    pub same : comes rows bytes ≡ comes rest after

  abbrev with_rest : FieldRecord × List ℕ → List Row → Left
  with_rest x rs = (rs, x.1)

  pub goes_on : (rows rest : List Row) (bytes after : List ℕ) → Some (rest, after) ≡ rows_and_rest nested rows bytes →
      Goes rows rest bytes after
  goes_on rows rest bytes after h = by_rows (rows_after nested rows v.0.0) refl v.2
    where
      last : Left
      last = (rest, after)

      v : (x : FieldRecord × List ℕ) × (written_record_at bytes ≡ Some x) × (option_map (with_rest x)
          (rows_after nested rows x.0) ≡ Some last)
      v = bind_some (written_record_at bytes) (λ x. option_map (with_rest x) (rows_after nested rows x.0)) last (sym h)

      by_rows : (o : Option (List Row)) → rows_after nested rows v.0.0 ≡ o → option_map (with_rest v.0) o ≡ Some last
          → Goes rows rest bytes after
      by_rows None i e = absurd cc
      by_rows (Some rs) i e =
          let x = v.0 in
          let first : Left = (rs, x.1) in
          let is = is_written bytes x.0 x.1 v.1 in
          let s = step 0 end bytes x.0 x.1 is.read in
          let here : Some (with_room (length x.1) rs) ≡ coming_after nested (rows, length bytes) x.0 = ap
          (option_map (with_room (length x.1))) (sym i) ∙ sym (comes_so nested rows bytes x.1 x.0 is.size) in
          let turn : comes rows bytes ≡ comes rs x.1 = ap (all_come_read nested (rows, length bytes)) s.more ∙ comes_on
          nested rows (length bytes) (with_room (length x.1) rs) (place end bytes x.0 x.1)
          (records_past (record_at 0) end 0 x.1) here in
          let same : first ≡ last = some_is first last e in
          record {
            shorter = subst (λ (p : Left). length p.1 < length bytes) same is.shorter;
            same = turn ∙ ap (λ (p : Left). comes p.0 p.1) same;
          }

  pub goes_not : (rows : List Row) (bytes : List ℕ) → 0 < length bytes → None ≡ rows_and_rest nested rows bytes → comes
      rows bytes ≡ false
  goes_not rows bytes some h = by_record (written_record_at bytes) refl (sym h)
    where
      by_rows : (x : FieldRecord × List ℕ) → written_record_at bytes ≡ Some x → (o : Option (List Row)) → rows_after
          nested rows x.0 ≡ o → option_map (with_rest x) o ≡ None → comes rows bytes ≡ false
      by_rows x e None i g =
          let is = is_written bytes x.0 x.1 e in
          let s = step 0 end bytes x.0 x.1 is.read in
          let none : None ≡ coming_after nested (rows, length bytes) x.0 = ap (option_map (with_room (length x.1)))
          (sym i) ∙ sym (comes_so nested rows bytes x.1 x.0 is.size) in
          ap (all_come_read nested (rows, length bytes)) s.more
          ∙ comes_not nested rows (length bytes) (place end bytes x.0 x.1) (records_past (record_at 0) end 0 x.1) none
      by_rows x e (Some rs) i g = absurd cc

      by_record : (o : Option (FieldRecord × List ℕ)) → written_record_at bytes ≡ o
          → (o >>= λ x. option_map (with_rest x) (rows_after nested rows x.0)) ≡ None → comes rows bytes ≡ false
      by_record None e g = none_comes nested end rows bytes some e
      by_record (Some x) e g = by_rows x e (rows_after nested rows x.0) refl g
