-- What is read out of a payload, as a table, gives the payload back.
use Rattle.std.proofs.Common.{◌≡◌, ℕ, ◌+◌, ◌<◌, ◌≤◌, ◌^◌, List, [], ◌∷◌, ◌++◌, length, None, Ok, refl, sym}
use Rattle.std.proofs.Common.{ap}
use Rattle.std.proofs.Common.{◌∙◌, arith, append-nil, append_assoc, length-append, take, set, subst}
use Rattle.std.proofs.Math.Seq.{take-append_seam}
use Rattle.std.proofs.lemmas.Bool.{lt-ltb}
use Rattle.std.proofs.lemmas.List.{length-map}
use Rattle.shared_core_wire.specs.Value.{Parts}
use Rattle.shared_core_wire.specs.Canonical.{canonical_payload, levels}
use Rattle.shared_core_wire.specs.Fitting.{Fits}
use Rattle.shared_core_codec.specs.Canonicity.{IsCanonical}
use Rattle.shared_core_codec.specs.Payloads.{payload_meaning}
use Rattle.shared_core_codec.specs.Table.{table}
use Rattle.shared_core_fields.specs.Fields.{message_fields}
use Rattle.shared_core_fields.specs.Rows.{entry_row, level_rows, fields_rows, table_rows, written_at, WritesRows}
use Rattle.shared_core_fields.specs.declared.table.FieldEntry.{FieldEntry}
use Rattle.shared_core_fields.proofs.Depths.{all_entries}
use Rattle.shared_core_fields_writer.specs.Tables.{IsTable}
use Rattle.shared_core_fields_writer.specs.Walk.{Nothing, walk, short_enough, entries_payload}
use Rattle.shared_core_fields_writer.proofs.TableBack.{messages_walk}
use Rattle.shared_core_fields_writer.proofs.Tables.{Are, are_rows}

pub table_gives : (s : ℕ) (v : Parts) (bytes : List ℕ) (es : List FieldEntry) → Fits table v (table s) → levels v ≤ 100
    → length (canonical_payload table s v) < 2 ^ 32 → IsTable s v bytes es → entries_payload s es bytes ≡ Ok
    (canonical_payload table s v)
unfolding entries_payload
table_gives s v bytes es f l z t =
    let whole : fields_rows 100 0 (message_fields (table s) v) ≡ table_rows s v = ap level_rows (all_entries 100 0 s v
    l) in
    let are : Are bytes es (fields_rows 100 0 (message_fields (table s) v)) = subst (Are bytes es) (sym whole)
    (are_rows bytes es (table_rows s v) t.rows t.placed) in
    ap short_enough (ap (walk bytes s (table s) None Nothing 0 100) (sym (append-nil es))
    ∙ messages_walk bytes 100 0 s v es [] f l are tt)
    ∙ rw (lt-ltb (length (canonical_payload table s v)) 4294967296 z) refl

-- ---- the entries that were written

set_after : (a : FieldEntry) (front rest : List FieldEntry) (e : FieldEntry) → set (front ++ a ∷ rest) (length front) e
    ≡ front ++ e ∷ rest
set_after a [] rest e = refl
set_after a (x ∷ front) rest e = ap (λ (xs : List FieldEntry). x ∷ xs) (set_after a front rest e)

written_after : (es front rest : List FieldEntry) → length es ≤ length rest → take (length front + length es)
    (written_at (front ++ rest) (length front) es) ≡ front ++ es
written_after [] front rest h =
    let all : length front + 0 ≡ length front = omega arith in
    ap (λ (n : ℕ). take n (front ++ rest)) all ∙ take-append_seam front rest ∙ sym (append-nil front)
written_after (e ∷ es) front [] h = absurd (omega (arith, h))
written_after (e ∷ es) front (a ∷ rest) h =
    let old = set (front ++ a ∷ rest) (length front) e in
    let size = length (front ++ e ∷ []) in
    let one : length front + 1 ≡ size = sym (length-append front (e ∷ [])) in
    let all : length front + length (e ∷ es) ≡ size + length es = omega (arith, one) in
    ap (λ (n : ℕ). take n (written_at old (length front + 1) es)) all
    ∙ ap (λ (n : ℕ). take (size + length es) (written_at old n es)) one
    ∙ ap (λ (xs : List FieldEntry). take (size + length es) (written_at xs size es))
    (set_after a front rest e ∙ sym (append_assoc front (e ∷ []) rest))
    ∙ written_after es (front ++ e ∷ []) rest (omega (arith, h))
    ∙ append_assoc front (e ∷ []) es

taken : (es old : List FieldEntry) → length es ≤ length old → take (length es) (written_at old 0 es) ≡ es
taken es old h =
    let all : length es ≡ 0 + length es = omega arith in
    ap (λ (n : ℕ). take n (written_at old 0 es)) all ∙ written_after es [] old h

pub out_and_in : (s : ℕ) (payload : List ℕ) (old new : List FieldEntry) → IsCanonical s payload → length
    (table_rows s (payload_meaning s payload)) ≤ length old → WritesRows payload
    (table_rows s (payload_meaning s payload)) 0 old new → entries_payload s
    (take (length (table_rows s (payload_meaning s payload))) new) payload ≡ Ok payload
out_and_in s payload old new c h w =
    let v = payload_meaning s payload in
    let many : length (table_rows s v) ≡ length w.entries = ap length (sym w.are) ∙ length-map w.entries
    (entry_row payload) in
    let few : length w.entries ≤ length old = omega (arith, many, h) in
    let same : take (length (table_rows s v)) new ≡ w.entries = ap (λ (n : ℕ). take n new) many
    ∙ ap (take (length w.entries)) w.written ∙ taken w.entries old few in
    ap (λ (es : List FieldEntry). entries_payload s es payload) same
    ∙ table_gives s v payload w.entries c.fits c.low (omega (arith, ap length c.canonical, c.short))
    (record { rows = w.are; placed = w.placed })
    ∙ ap (λ (bs : List ℕ). Ok bs) (sym c.canonical)
