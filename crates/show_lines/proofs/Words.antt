-- Words in texts, and levels of messages.
use Rattle.std.proofs.Common.{◌≡◌, ◌-◌, ◌<◌, ℕ, zero, suc, List, [], ◌∷◌, ◌++◌, Bool, true, false, refl, ap, sym}
use Rattle.std.proofs.Common.{arith, ⊎_elim}
use Rattle.std.specs.Prelude.{eqb, ◌||◌, None}
use Rattle.std.specs.List.{list_any, starts_with}
use Rattle.std.specs.Bool.{MatchBool}
use Rattle.std.specs.Str.Iter.{HasSubslice}
use Rattle.std.specs.Str.Pattern.{FindsText, HasMatch}
use Rattle.std.proofs.lemmas.Bool.{or_cases}
use Rattle.std.proofs.lemmas.Bool.Decides.{Decides-eqb}
use Rattle.std.proofs.lemmas.Slice.Eq.{starts_is}
use Rattle.std.proofs.lemmas.Str.Pattern.{contains_text}
use Rattle.shared_core_wire.specs.Value.{Parts}
use Rattle.show_lines.specs.Contents.{value_fields}
use Rattle.show_lines.specs.Filter.{field_passes, fields_pass, has_part}
use Rattle.show_lines.specs.declared.filter.Test.{Test}

or_second : (one other : Bool) → other ≡ true → (one || other) ≡ true
or_second true other is = refl
or_second false other is = is

begins_has : (part text : List ℕ) → starts_with eqb text part ≡ true → has_part part text ≡ true
begins_has part [] begins = begins
begins_has part (byte ∷ bytes) begins = rw begins refl

part_within : (part front back text : List ℕ) → text ≡ front ++ (part ++ back) → has_part part text ≡ true
part_within part [] back text is = begins_has part text ((starts_is Decides-eqb text part _ refl).1 back is)
part_within part (byte ∷ front) back text is = rw is
    (or_second (starts_with eqb (byte ∷ (front ++ (part ++ back))) part) (has_part part (front ++ (part ++ back)))
    (part_within part front back (front ++ (part ++ back)) refl))

part_found : (part text : List ℕ) → has_part part text ≡ true → HasSubslice text part
part_found part [] has = ([], _, (starts_is Decides-eqb [] part _ refl).0 has)
part_found part (byte ∷ bytes) has = ⊎_elim
    (λ begins. ([], _, (starts_is Decides-eqb (byte ∷ bytes) part _ refl).0 begins))
    (λ later. let (front, back, is) = part_found part bytes later in
    (byte ∷ front, back, ap (λ (l : List ℕ). byte ∷ l) is))
    (or_cases (starts_with eqb (byte ∷ bytes) part) (has_part part bytes) has)

same_truth : (one other : Bool) → (one ≡ true → other ≡ true) → (other ≡ true → one ≡ true) → one ≡ other
same_truth true other to from = sym (to refl)
same_truth false true to from = from refl
same_truth false false to from = refl

-- `contains` finds a part
pub contains_part : (found : Bool) (part text : List ℕ) → MatchBool found (HasMatch (FindsText part) text)
    (FindsText part text None) → found ≡ has_part part text
contains_part found part text is =
    let (to, from) = contains_text found part text is in
    same_truth found (has_part part text) (λ yes. let (front, back, split) = to yes in
    part_within part front back text split) (λ yes. from (part_found part text yes))

-- one level less
pub levels_less : (t : Test) (levels s : ℕ) (value : Parts) → 0 < levels → fields_pass t levels s value ≡ list_any
    (field_passes t (levels - 1) s) (value_fields s value)
levels_less t zero s value some = absurd (omega (arith, some))
levels_less t (suc levels) s value some = let less : suc levels - 1 ≡ levels = omega arith in rw less refl

pub no_levels : (t : Test) (levels s : ℕ) (value : Parts) → levels ≡ 0 → fields_pass t levels s value ≡ false
no_levels t levels s value none = rw none refl
