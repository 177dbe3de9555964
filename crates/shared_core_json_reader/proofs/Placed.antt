-- The length of a message or a run, put before its bytes.
use Rattle.std.proofs.Common.{◌≡◌, ◌≢◌, ℕ, ◌-◌, ◌<◌, List, [], ◌++◌, length, take, drop, Bool, true, false, cond}
use Rattle.std.proofs.Common.{Option, Some, None, option_map, refl, ap, sym, ◌∙◌, inl, inr, arith, nat_eq, ◌&&◌}
use Rattle.std.proofs.Common.{append_assoc, append-nil, eq-eqb}
use Rattle.std.proofs.Common.{length-append}
use Rattle.std.proofs.lemmas.Bool.{cases_lt, ne_eqb, eqb-true, eqb-false}
use Rattle.std.proofs.lemmas.List.{take-append-drop}
use Rattle.std.proofs.Math.Seq.{take-append_seam}
use Rattle.json.specs.Json.{Items, no_items, item}
use Rattle.shared_core_wire.specs.Encoding.{shortest_varint, key_bytes}
use Rattle.shared_core_wire.proofs.Shortest.{shortest_small, shortest_large}
use Rattle.shared_core_wire.specs.WrittenRecords.{content_record}
use Rattle.shared_core_json_reader.specs.Rows.{NamedField}
use Rattle.shared_core_json_reader.proofs.Contents.{content_put}
use Rattle.shared_core_json_reader.specs.Appended.{both, number_read, run_bytes, after}

-- `begun` has the key, and the bytes that leave room for the length
pub nested_put : (n place end : ℕ) (old out room begun new all : List ℕ) (o : Option (List ℕ)) → out ≡ old ++ key_bytes
    n 2 → place ≡ length out → begun ≡ out ++ room → end ≡ length begun → after begun o ≡ Some all → new ≡ take place
    all ++ (shortest_varint (length all - end) ++ drop end all) → after old (option_map (content_record false n) o) ≡
    Some new
nested_put n place end old out room begun new all None k p b q a e = absurd cc
nested_put n place end old out room begun new all (Some bytes) k p b q a e =
    let same : all ≡ begun ++ bytes = cc in
    ap (λ (xs : List ℕ). Some xs) (sym (content_put n place end old out room begun bytes new all k p b q same e))

some_bytes : (n : ℕ) → 0 < length (shortest_varint n)
some_bytes n =
    elim (cases_lt n 128) [
      | inl less ↦ rw (shortest_small n less) (omega arith)
      | inr more ↦ rw (shortest_large n more) (omega arith)
    ]

not_empty : (n : ℕ) (ys : List ℕ) → nat_eq (length (shortest_varint n ++ ys)) 0 ≡ false
not_empty n ys = ne_eqb _ 0 (λ e. omega (arith, some_bytes n, length-append (shortest_varint n) ys, e))

-- the bytes of a run of one number or more
there : (number more : Option (List ℕ)) → (m : ℕ) → number ≡ Some (shortest_varint m) → (bytes : List ℕ) → both number
    more ≡ Some bytes → nat_eq (length bytes) 0 ≡ false
there number None m e bytes h = absurd (let q : both (Some (shortest_varint m)) None ≡ Some bytes = ap
    (λ (o : Option (List ℕ)). both o None) (sym e) ∙ h in cc)
there number (Some ys) m e bytes h =
    let q : Some (shortest_varint m ++ ys) ≡ Some bytes = ap (λ (o : Option (List ℕ)). both o (Some ys)) (sym e) ∙ h in
    let same : shortest_varint m ++ ys ≡ bytes = cc in
    ap (λ (xs : List ℕ). nat_eq (length xs) 0) (sym same) ∙ not_empty m ys

run_there : (number : Option ℕ) (more : Option (List ℕ)) (bytes : List ℕ) → both (option_map shortest_varint number)
    more ≡ Some bytes → nat_eq (length bytes) 0 ≡ false
run_there None more bytes h = absurd cc
run_there (Some m) more bytes h = there (Some (shortest_varint m)) more m refl bytes h

full_run : (f : NamedField) (js : Items) (bytes : List ℕ) → js ≢ no_items → run_bytes f js ≡ Some bytes → nat_eq
    (length bytes) 0 ≡ false
full_run f no_items bytes h e = absurd (h refl)
full_run f (item j js) bytes h e = run_there (number_read f.kind f.form j) (run_bytes f js) bytes e

written_run : (f : NamedField) (n : ℕ) (js : Items) (o : Option (List ℕ)) → js ≢ no_items → run_bytes f js ≡ o →
    option_map (content_record true n) o ≡ option_map (content_record false n) o
written_run f n js None h e = refl
written_run f n js (Some bytes) h e = ap (λ (b : Bool). Some (cond b [] (key_bytes n 2 ++ (shortest_varint (length
    bytes)
    ++ bytes)))) (full_run f js bytes h e)

pub run_put : (f : NamedField) (n place end : ℕ) (old out room begun new all : List ℕ) (js : Items) → js ≢ no_items →
    out ≡ old ++ key_bytes n 2 → place ≡ length out → begun ≡ out ++ room → end ≡ length begun → after begun (run_bytes
    f js) ≡ Some
    all → new ≡ take place all ++ (shortest_varint (length all - end) ++ drop end all) → after old (option_map
    (content_record true n) (run_bytes f js)) ≡ Some new
run_put f n place end old out room begun new all js h k p b q a e =
    ap (after old) (written_run f n js (run_bytes f js) h refl)
    ∙ nested_put n place end old out room begun new all (run_bytes f js) k p b q a e

-- ---- bytes that are appended before their length is known

pub appended_bytes : (n : ℕ) (old new : List ℕ) (o : Option (List ℕ)) → o ≡ Some (drop n new) → take n new ≡ old → after
    old o ≡ Some new
appended_bytes n old new o e f = ap (after old) e ∙ ap (λ (xs : List ℕ). Some (xs ++ drop n new)) (sym f) ∙ ap
    (λ (xs : List ℕ). Some xs) (take-append-drop n new)

not_left_out : (plain : Bool) (end : ℕ) (begun bytes all : List ℕ) → all ≡ begun ++ bytes → end ≡ length begun →
    (plain && nat_eq (length all) end) ≡ false → (plain && nat_eq (length bytes) 0) ≡ false
not_left_out false end begun bytes all a q e = refl
not_left_out true end begun bytes all a q e =
    ne_eqb (length bytes) 0 (λ z. eqb-false (length all) end e
    (omega (arith, q, z, ap length a, length-append begun bytes)))

-- as `nested_put`, of a field that may be plain
pub bytes_put : (plain : Bool) (n place end : ℕ) (old out room begun new all : List ℕ) (o : Option (List ℕ)) → out ≡ old
    ++ key_bytes n 2 → place ≡ length out → begun ≡ out ++ room → end ≡ length begun → after begun o ≡ Some all →
    (plain && nat_eq (length all) end) ≡ false → new ≡ take place all ++
    (shortest_varint (length all - end) ++ drop end all) → after old (option_map (content_record plain n) o) ≡ Some new
bytes_put plain n place end old out room begun new all None k p b q a l e = absurd cc
bytes_put plain n place end old out room begun new all (Some bytes) k p b q a l e =
    let same : all ≡ begun ++ bytes = cc in
    ap (λ (t : Bool). Some (old ++ cond t [] (key_bytes n 2 ++ (shortest_varint (length bytes) ++ bytes))))
    (not_left_out plain end begun bytes all same q l)
    ∙ nested_put n place end old out room begun new all (Some bytes) k p b q a e

left_out : (plain : Bool) (end : ℕ) (begun bytes all : List ℕ) → all ≡ begun ++ bytes → end ≡ length begun →
    (plain && nat_eq (length all) end) ≡ true → (plain && nat_eq (length bytes) 0) ≡ true
left_out false end begun bytes all a q e = absurd cc
left_out true end begun bytes all a q e =
    eq-eqb (length bytes) 0 (omega (arith, q, eqb-true (length all) end e, ap length a, length-append begun bytes))

-- no bytes, of a plain field
pub bytes_left_out : (plain : Bool) (n start end : ℕ) (old out room begun new all : List ℕ) (o : Option (List ℕ)) →
    start ≡ length old → out ≡ old ++ key_bytes n 2 → begun ≡ out ++ room → end ≡ length begun → after begun o ≡ Some
    all → (plain && nat_eq (length all) end) ≡ true → new ≡ take start all → after old
    (option_map (content_record plain n) o) ≡ Some new
bytes_left_out plain n start end old out room begun new all None s k b q a l e = absurd cc
bytes_left_out plain n start end old out room begun new all (Some bytes) s k b q a l e =
    let same : all ≡ begun ++ bytes = cc in
    let whole : all ≡ old ++ (key_bytes n 2 ++ (room ++ bytes)) =
    same ∙ ap (λ (xs : List ℕ). xs ++ bytes) b ∙ append_assoc out room bytes
    ∙ ap (λ (xs : List ℕ). xs ++ (room ++ bytes)) k ∙ append_assoc old (key_bytes n 2) (room ++ bytes) in
    ap (λ (t : Bool). Some (old ++ cond t [] (key_bytes n 2 ++ (shortest_varint (length bytes) ++ bytes))))
    (left_out plain end begun bytes all same q l)
    ∙ ap (λ (xs : List ℕ). Some xs) (append-nil old ∙ sym (e ∙ ap (λ (i : ℕ). take i all) s
    ∙ ap (λ (xs : List ℕ). take (length old) xs) whole ∙ take-append_seam old (key_bytes n 2 ++ (room ++ bytes))))

-- what is appended to nothing
pub from_nothing : (o : Option (List ℕ)) (old new : List ℕ) → old ≡ [] → after old o ≡ Some new → o ≡ Some new
from_nothing None old new z e = absurd cc
from_nothing (Some bytes) old new z e = ap (λ (xs : List ℕ). Some (xs ++ bytes)) (sym z) ∙ e
