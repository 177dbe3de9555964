-- Merging the records of a payload one after the other is merging the whole list.
use Rattle.std.proofs.Common.{◌≡◌, ℕ, zero, suc, ◌+◌, ◌<◌, List, [], ◌∷◌, ◌++◌, length, take, get_or, Bool, true, false}
use Rattle.std.proofs.Common.{cond, inl, inr, Option, Some, None, Result, Ok, Err, refl, sym, ap, ◌∙◌, append-nil}
use Rattle.std.proofs.Common.{append_assoc, arith}
use Rattle.std.specs.Prelude.{OnOk, nat_lt, ◌&&◌}
use Rattle.std.proofs.lemmas.Bool.{lt-ltb}
use Rattle.std.specs.List.{All, concat}
use Rattle.std.proofs.lemmas.List.Elements.{All-push}
use Rattle.std.proofs.lemmas.List.Folds.{concat-append}
use Rattle.std.proofs.lemmas.List.{take_more}
use Rattle.std.specs.Result.{IsErrOf}
use Rattle.shared_core_wire.specs.declared.error.WireError.{WireError}
use Rattle.shared_core_wire.specs.declared.error.WireError.TheVariants.{Malformed, OutOfMemory}
use Rattle.shared_core_codec.proofs.FoldingRecords.{fold_again, fold_encoded}
use Rattle.shared_core_codec.specs.Computed.{IsComputed}
use Rattle.shared_core_codec.specs.Folding.{fold_read, fold_records}
use Rattle.shared_core_codec.specs.Occurrences.{is_length, merged_with}
use Rattle.shared_core_codec.specs.Payloads.{IsAccepted, merged_payload, payload_meaning}
use Rattle.shared_core_codec.specs.Table.{table}
use Rattle.shared_core_wire.proofs.ReadRecords.{cases_option}
use Rattle.shared_core_wire.proofs.Merging.{accepts_payload-append, overlay-append, overlay_bytes-append}
use Rattle.shared_core_wire.proofs.Merging.{rows_over_nothing}
use Rattle.shared_core_wire.proofs.Readers.{bind_some, none_some, passed, some_is}
use Rattle.shared_core_wire.proofs.RecordLists.{records_again, records_reads}
use Rattle.shared_core_wire.proofs.Runs.{and_join, and_split}
use Rattle.shared_core_wire.specs.Acceptance.{accepts_value, accepts_message, accepts_payload, accepts_records}
use Rattle.shared_core_wire.specs.Acceptance.{some_passes}
use Rattle.shared_core_wire.specs.Grammar.{RecordValue, Varint, Fixed64, Length, Group, Fixed32, FieldRecord}
use Rattle.shared_core_wire.specs.Schema.{Message}
use Rattle.shared_core_wire.specs.ReadRecords.{read_records}
use Rattle.shared_core_wire.specs.Overlay.{message_overlay, or_empty, overlay, overlay_payload}
use Rattle.shared_core_wire.specs.Reader.{record_list, ◌>>=◌}
use Rattle.shared_core_wire.specs.Value.{Parts, Nested, empty_value}

module _ (left s : ℕ) where
  abbrev merge : Parts → FieldRecord → Option Parts
  merge = merged_with left s

  abbrev Done : List FieldRecord → Parts → Parts → Type 0
  Done rs v w = (accepts_records table left s rs ≡ true) × (w ≡ overlay table left s v rs)

  first_of : (r : FieldRecord) (rs : List FieldRecord) → accepts_records table left s (r ∷ rs) ≡ true →
      (accepts_records table left s (r ∷ []) ≡ true) × (accepts_records table left s rs ≡ true)
  first_of r rs h = let e = and_split _ _ h in (and_join _ _ e.0 refl, e.1)

  of_first : (r : FieldRecord) (rs : List FieldRecord) → accepts_records table left s (r ∷ []) ≡ true → accepts_records
      table left s rs ≡ true → accepts_records table left s (r ∷ rs) ≡ true
  of_first r rs g h = and_join _ _ (and_split _ _ g).0 h

  listed_over : (rs : List FieldRecord) (v w : Parts) → fold_records merge v rs ≡ Some w → Done rs v w
  listed_over [] v w e = (
    refl,
    sym (some_is v w e) ∙ sym (rows_over_nothing table (message_overlay table left)
        (table s) v),
  )
  listed_over (r ∷ rs) v w e =
      let x = bind_some (merge v r) (λ u. fold_records merge u rs) w e in
      let t = passed (accepts_records table left s (r ∷ [])) (Some (overlay table left s v (r ∷ []))) x.0 x.1 in
      let rest = listed_over rs x.0 w x.2 in (
        of_first r rs t.0 rest.0,
        rest.1 ∙ ap (λ u. overlay table left s u rs) (sym (some_is _ _ t.1)) ∙ sym
            (overlay-append table left s v (r ∷ []) rs t.0 rest.0),
      )

  over_listed : (rs : List FieldRecord) (v : Parts) → accepts_records table left s rs ≡ true → (w : Parts) ×
      (fold_records merge v rs ≡ Some w)
  over_listed [] v h = (v, refl)
  over_listed (r ∷ rs) v h =
      let e = first_of r rs h in
      let rest = over_listed rs (overlay table left s v (r ∷ [])) e.1 in (
        rest.0,
        ap (λ b. cond b (Some (overlay table left s v (r ∷ []))) None >>= λ u. fold_records merge u rs) e.0 ∙
            rest.1,
      )

  pub fold_accepted : (payload : List ℕ) (v w : Parts) → fold_read merge v (read_records left payload) ≡ Some w →
      (accepts_payload table left s payload ≡ true) × (w ≡ overlay table left s v (or_empty (record_list left payload)))
  fold_accepted payload v w e =
      let f = fold_encoded left payload merge v w e in
      let d = listed_over f.0 v w f.2 in
      let found = records_again left payload f.0 f.1 in (
        ap (some_passes (accepts_records table left s)) found ∙ d.0,
        d.1 ∙ ap (λ o. overlay table left s v (or_empty o))
            (sym found),
      )

  not_accepted : (b : Bool) → (b ≡ true → ⊥) → b ≡ false
  not_accepted true h = absurd (h refl)
  not_accepted false h = refl

  pub fold_rejected : (payload : List ℕ) (v : Parts) → fold_read merge v (read_records left payload) ≡ None →
      accepts_payload table left s payload ≡ false
  fold_rejected payload v e =
      elim (cases_option (record_list left payload)) [
        | inl absent ↦ ap (some_passes (accepts_records table left s)) absent
        | inr w ↦
            ap (some_passes (accepts_records table left s)) w.1
            ∙ not_accepted (accepts_records table left s w.0)
            (λ h. let d = over_listed w.0 v h in none_some d.0
            (sym e ∙ fold_again left payload merge v w.0 (records_reads left payload w.0 w.1) ∙ d.1))
      ]

  -- the same of what a function returned
  pub computed_accepted : {X : Type 0} (f : X → Parts) (payload : List ℕ) (v : Parts) (result : Result X WireError) →
      IsComputed f result (fold_read merge v (read_records left payload)) → OnOk result
      (accepts_payload table left s payload ≡ true)
  computed_accepted f payload v (Ok x) h = (fold_accepted payload v (f x) h).0
  computed_accepted f payload v (Err e) h = tt

  pub computed_merged : {X : Type 0} (w : Parts) (payload : List ℕ) (v : Parts) (result : Result X WireError) →
      IsComputed (λ _. w) result (fold_read merge v (read_records left payload)) → OnOk result
      (w ≡ overlay table left s v (or_empty (record_list left payload)))
  computed_merged w payload v (Ok x) h = (fold_accepted payload v w h).1
  computed_merged w payload v (Err e) h = tt

  pub computed_rejected : {X : Type 0} (f : X → Parts) (payload : List ℕ) (v : Parts) (result : Result X WireError) →
      IsComputed f result (fold_read merge v (read_records left payload)) → IsErrOf result Malformed → accepts_payload
      table left s payload ≡ false
  computed_rejected f payload v (Ok x) h e = absurd cc
  computed_rejected f payload v (Err Malformed) h e = fold_rejected payload v h
  computed_rejected f payload v (Err OutOfMemory) h e = absurd cc

-- ---- one level down

pub message_zero : (s : ℕ) (bytes : List ℕ) → accepts_message table 0 s bytes ≡ false
unfolding accepts_message
message_zero s bytes = refl

pub message_below : (below left s : ℕ) (bytes : List ℕ) → below + 1 ≡ left → accepts_message table left s bytes ≡
    accepts_payload table below s bytes
unfolding accepts_message
message_below below zero s bytes h = absurd (omega (arith, h))
message_below below (suc left) s bytes h = let e : left ≡ below = omega (arith, h) in ap
    (λ l. accepts_payload table l s bytes) e

pub overlay_below : (below left s : ℕ) (v : Parts) (bytes : List ℕ) → below + 1 ≡ left → message_overlay table left s v
    bytes ≡ overlay_payload table below s v bytes
unfolding message_overlay
overlay_below below zero s v bytes h = absurd (omega (arith, h))
overlay_below below (suc left) s v bytes h = let e : left ≡ below = omega (arith, h) in ap
    (λ l. overlay_payload table l s v bytes) e

-- what a function returned that merged the bytes into a message, one level down
pub message_becomes : {X : Type 0} (below left s : ℕ) (bytes : List ℕ) (v w : Parts) (result : Result X WireError) →
    below + 1 ≡ left
    → OnOk result (accepts_payload table below s bytes ≡ true) → OnOk result (w ≡ overlay_payload table below s v bytes)
    → OnOk result ((accepts_message table left s bytes ≡ true) ×
    (Nested (message_overlay table left s v (bytes ++ [])) ≡ Nested w))
message_becomes below left s bytes v w (Ok x) h a m = (
  message_below below left s bytes h ∙ a,
  ap Nested (ap (message_overlay table left s v) (append-nil bytes) ∙
      overlay_below below left s v bytes h ∙ sym m),
)
message_becomes below left s bytes v w (Err e) h a m = tt

pub message_rejected : (below left s : ℕ) (bytes : List ℕ) → below + 1 ≡ left → accepts_payload table below s bytes ≡
    false → accepts_message table left s bytes ≡ false
message_rejected below left s bytes h e = message_below below left s bytes h ∙ e

-- where an occurrence may hold no message, no message field accepts it
pub no_message : (left s : ℕ) (w : RecordValue) → (is_length w && nat_lt 0 left) ≡ false → accepts_value
    (accepts_message table left) (Message s) w ≡ false
no_message left s (Varint n) h = refl
no_message left s (Fixed64 bytes) h = refl
no_message zero s (Length bytes) h = message_zero s bytes
no_message (suc left) s (Length bytes) h =
    let e : nat_lt 0 (suc left) ≡ true = lt-ltb 0 (suc left) (omega arith) in let f : true ≡ false = sym e ∙ h in cc
no_message left s (Group bytes) h = refl
no_message left s (Fixed32 bytes) h = refl

-- ---- parts

abbrev pub Joins : ℕ → List ℕ → List (List ℕ) → Parts → Type 0
Joins s first rest v = All (IsAccepted s) rest × IsAccepted s (first ++ concat rest) ×
    (v ≡ payload_meaning s (first ++ concat rest))

pub joins_cons : (s : ℕ) (first : List ℕ) (rest : List (List ℕ)) (part : List ℕ) (v w : Parts) → Joins s first rest v →
    IsAccepted s part → w ≡ merged_payload s v part → Joins s first (rest ++ part ∷ []) w
joins_cons s first rest part v w h g e =
    let whole : first ++ concat (rest ++ part ∷ []) ≡ (first ++ concat rest) ++ part =
    ap (λ (x : List ℕ). first ++ x) (concat-append rest (part ∷ []) ∙ ap (λ (x : List ℕ). concat rest ++ x)
    (append-nil part)) ∙ sym (append_assoc first (concat rest) part) in (
      All-push (IsAccepted s) rest part h.0 g,
      rw whole (accepts_payload-append table 100 s (first ++ concat rest) part h.1 g),
      rw whole (e ∙ ap (λ u. merged_payload s u part) h.2 ∙ sym
          (overlay_bytes-append table 100 s (empty_value (table s)) (first ++ concat rest) part h.1 g)),
    )

pub joins_next : (s : ℕ) (first : List ℕ) (rest : List (List ℕ)) (i : ℕ) (d : List ℕ) (v w : Parts) → i < length rest →
    Joins s first (take i rest) v → IsAccepted s (get_or rest i d) → w ≡ merged_payload s v (get_or rest i d) → Joins s
    first (take (i + 1) rest) w
joins_next s first rest i d v w lt h g e = rw (take_more rest i d lt)
    (joins_cons s first (take i rest) (get_or rest i d) v w h g e)
