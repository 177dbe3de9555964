-- A message at each level, and one more element of a list.
use Rattle.std.proofs.Common.{◌≡◌, ℕ, zero, suc, ◌+◌, ◌-◌, ◌<◌, ◌≤◌, List, [], ◌∷◌, ◌++◌, drop, map, Bool, true, false}
use Rattle.std.proofs.Common.{Option, Some, None, option_and_then, refl, sym, ap, ◌∙◌, append_assoc}
use Rattle.std.proofs.Common.{append-nil, arith}
use Rattle.json.specs.Token.{Token}
use Rattle.json.specs.Json.{Json, Items, no_items, item, Members, if_last, value}
use Rattle.json_table.specs.Counts.{items_count}
use Rattle.shared_core_wire.specs.Schema.{Row}
use Rattle.shared_core_codec.specs.declared.rows.Field.{Field}
use Rattle.shared_core_json_reader.specs.Rows.{NamedField, in_schema, named_members, named_row, named_rows}
use Rattle.shared_core_json_reader.specs.Reading.{given, only_value, or_absent}
use Rattle.shared_core_json_reader.specs.Appended.{both, field_bytes, items_bytes, run_bytes, member_bytes, held_after}
use Rattle.shared_core_json_reader.specs.Appended.{oneof_bytes, object_bytes, message_bytes, after}
use Rattle.shared_core_json_reader.specs.Rows.{Format}

pub no_level : (format : Format) (levels s : ℕ) (j : Json) → levels ≡ 0 → message_bytes format levels s j ≡ None
unfolding message_bytes
no_level format levels s j e = rw e refl

less_one : (n : ℕ) → suc n - 1 ≡ n
less_one n = omega arith

pub at_level : (format : Format) (levels s : ℕ) (j : Json) → 0 < levels
    → object_bytes (message_bytes format (levels - 1)) (named_rows format s) j ≡
    message_bytes format levels s j
unfolding message_bytes
at_level format zero s j h = absurd (omega arith)
at_level format (suc left) s j h = rw (less_one left) refl

-- the rows of the table, with names
pub with_names : (format : Format) (s : ℕ) (rows : List Row) → rows ≡ format.table s → map (named_row format s) rows
    ≡ named_rows format s
unfolding named_rows
with_names format s rows e = ap (map (named_row format s)) e

-- what is appended first, and then more
pub after_both : (old new : List ℕ) (a b : Option (List ℕ)) → after old a ≡ Some new → after old (both a b) ≡ after new
    b
after_both old new None b e = absurd cc
after_both old new (Some xs) None e = refl
after_both old new (Some xs) (Some ys) e = let q : old ++ xs ≡ new = cc in ap (λ (zs : List ℕ). Some zs)
    (sym (append_assoc old xs ys) ∙ ap (λ (zs : List ℕ). zs ++ ys) q)

pub items_end : (nested : ℕ → Json → Option (List ℕ)) (f : NamedField) (js : Items) (old : List ℕ)
    (all : Option (List ℕ)) → js ≡ no_items → after old (items_bytes nested f js) ≡ all → all ≡ Some old
items_end nested f js old all is h =
    sym h ∙ ap (λ (ks : Items). after old (items_bytes nested f ks)) is ∙ ap (λ (xs : List ℕ). Some xs) (append-nil old)

pub items_turn : (nested : ℕ → Json → Option (List ℕ)) (f : NamedField) (js rest : Items) (j : Json) (old new : List ℕ)
    (all : Option (List ℕ)) → js ≡ item j rest → after old (field_bytes nested false f j) ≡ Some new → after old
    (items_bytes nested f js) ≡ all → after new (items_bytes nested f rest) ≡ all
items_turn nested f js rest j old new all is e h =
    sym (after_both old new (field_bytes nested false f j) (items_bytes nested f rest) e)
    ∙ sym (ap (λ (ks : Items). after old (items_bytes nested f ks)) is) ∙ h

pub run_end : (f : NamedField) (js : Items) (old : List ℕ) (all : Option (List ℕ)) → js ≡ no_items → after old
    (run_bytes f js) ≡ all → all
    ≡ Some old
run_end f js old all is h =
    sym h ∙ ap (λ (ks : Items). after old (run_bytes f ks)) is ∙ ap (λ (xs : List ℕ). Some xs) (append-nil old)

-- no items are left where none may be
pub none_left : (js : Items) → items_count js ≤ 0 → js ≡ no_items
none_left no_items h = refl
none_left (item j js) h = absurd (omega (arith, h))

-- what is appended for a member of a oneof that holds none before
one_held : (nested : ℕ → Json → Option (List ℕ)) (ms : Members) (f : NamedField) (fs : List NamedField) (j : Json) →
    given f ms ≡ Some (Some j)
    → oneof_bytes nested ms false (f ∷ fs) ≡ both (field_bytes nested false f j) (oneof_bytes nested ms true fs)
one_held nested ms f fs j g = ap (option_and_then (λ o. both (or_absent [] (member_bytes nested false f) o)
    (oneof_bytes nested ms (held_after false o) fs))) g

pub oneof_turn : (format : Format) (nested : ℕ → Json → Option (List ℕ)) (ms : Members) (s : ℕ) (xs : List Field)
    (i : ℕ) (x : Field)
    (j : Json) (held : Bool) (old new : List ℕ) (all : Option (List ℕ))
    → drop i xs ≡ x ∷ drop (i + 1) xs → given (in_schema format s x) ms ≡ Some (Some j) → held ≡ false
    → after old (field_bytes nested false (in_schema format s x) j) ≡ Some new → after old
    (oneof_bytes nested ms held (named_members format s (drop i xs))) ≡ all
    → after new (oneof_bytes nested ms true (named_members format s (drop (i + 1) xs))) ≡ all
oneof_turn format nested ms s xs i x j held old new all here found none e h =
    let rest = named_members format s (drop (i + 1) xs) in
    let f = in_schema format s x in
    sym (after_both old new (field_bytes nested false f j) (oneof_bytes nested ms true rest) e)
    ∙ ap (after old) (sym (one_held nested ms f rest j found))
    ∙ sym (ap (λ (ys : List Field). after old (oneof_bytes nested ms false (named_members format s ys))) here)
    ∙ sym (ap (λ (b : Bool). after old (oneof_bytes nested ms b (named_members format s (drop i xs)))) none)
    ∙ h

-- ---- what has an error

pub nothing_after : (old : List ℕ) (o : Option (List ℕ)) → None ≡ after old o → o ≡ None
nothing_after old None e = refl
nothing_after old (Some bytes) e = absurd cc

with_none : (o : Option (List ℕ)) → both (Some []) o ≡ o
with_none None = refl
with_none (Some xs) = refl

-- a member of a oneof that is not there
pub oneof_skip : (format : Format) (nested : ℕ → Json → Option (List ℕ)) (ms : Members) (s : ℕ) (xs : List Field)
    (i : ℕ) (x : Field)
    (held : Bool) (out : List ℕ) (all : Option (List ℕ)) → drop i xs ≡ x ∷ drop (i + 1) xs
    → given (in_schema format s x) ms ≡
    Some None → after out (oneof_bytes nested ms held (named_members format s (drop i xs))) ≡ all → after out
    (oneof_bytes nested ms held (named_members format s (drop (i + 1) xs))) ≡ all
oneof_skip format nested ms s xs i x held out all here found h =
    let rest = named_members format s (drop (i + 1) xs) in
    let f = in_schema format s x in
    sym (ap (after out) (ap (option_and_then (λ o. both (or_absent [] (member_bytes nested held f) o)
    (oneof_bytes nested ms (held_after held o) rest))) found ∙ with_none (oneof_bytes nested ms held rest)))
    ∙ sym (ap (λ (ys : List Field). after out (oneof_bytes nested ms held (named_members format s ys))) here)
    ∙ h

-- ---- one value and no more

pub no_value : (ts : List Token) → value 1000 ts ≡ None → only_value ts ≡ None
unfolding only_value
no_value ts e = ap (option_and_then (λ p. if_last p.0 p.1)) e

pub more_values : (ts rest us : List Token) (j : Json) (t : Token) → value 1000 ts ≡ Some (j, rest) → rest ≡ t ∷ us →
    only_value ts ≡ None
unfolding only_value
more_values ts rest us j t e r = ap (option_and_then (λ p. if_last p.0 p.1)) e ∙ ap (if_last j) r

pub one_value : (ts rest : List Token) (j : Json) → value 1000 ts ≡ Some (j, rest) → rest ≡ [] → only_value ts ≡ Some j
unfolding only_value
one_value ts rest j e r = ap (option_and_then (λ p. if_last p.0 p.1)) e ∙ ap (if_last j) r
