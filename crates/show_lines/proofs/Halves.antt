-- The halves that wait, as the program and as contracts have them.
use Rattle.std.proofs.Common.{◌≡◌, ℕ, List, [], ◌∷◌, Bool, true, false, cond, refl, ap, Some, option_map}
use Rattle.std.specs.Ordering.{nat_cmp, match_ordering}
use Rattle.std.specs.declared.cmp.Ordering.{Ordering}
use Rattle.std.specs.declared.cmp.Ordering.TheVariants.{Less, Equal, Greater}
use Rattle.std.specs.BTreeMap.{insert_entry}
use Rattle.std.specs.Map.{lookup, remove_entry}
use Rattle.show_lines.specs.Waiting.{half_view, halves_view, Waiting}
use Rattle.show_lines.specs.declared.waiting.Half.{Half}

lookup_step : (b : Bool) (test : ℕ → Bool) (e : ℕ × Half) (es : List (ℕ × Half)) → lookup test (halves_view es) ≡
    option_map half_view (lookup test es) → cond b (Some (half_view e.1)) (lookup test (halves_view es)) ≡ option_map
    half_view (cond b (Some e.1) (lookup test es))
lookup_step true test e es rest = refl
lookup_step false test e es rest = rest

pub lookup_view : (test : ℕ → Bool) (es : List (ℕ × Half)) → lookup test (halves_view es) ≡ option_map half_view
    (lookup test es)
lookup_view test [] = refl
lookup_view test (e ∷ es) = lookup_step (test e.0) test e es (lookup_view test es)

remove_step : (b : Bool) (test : ℕ → Bool) (e : ℕ × Half) (es : List (ℕ × Half)) → halves_view (remove_entry test es) ≡
    remove_entry test (halves_view es) → halves_view (cond b es (e ∷ remove_entry test es)) ≡ cond b (halves_view es)
    ((e.0, half_view e.1) ∷ remove_entry test (halves_view es))
remove_step true test e es rest = refl
remove_step false test e es rest = ap (λ (others : Waiting). (e.0, half_view e.1) ∷ others) rest

pub remove_view : (test : ℕ → Bool) (es : List (ℕ × Half)) → halves_view (remove_entry test es) ≡ remove_entry test
    (halves_view es)
remove_view test [] = refl
remove_view test (e ∷ es) = remove_step (test e.0) test e es (remove_view test es)

insert_step : (o : Ordering) (e : ℕ × Half) (es : List (ℕ × Half)) (id : ℕ) (half : Half) → halves_view
    (insert_entry nat_cmp es id half) ≡ insert_entry nat_cmp (halves_view es) id (half_view half) → halves_view
    (match_ordering o ((id, half) ∷ e ∷ es) ((e.0, half) ∷ es) (e ∷ insert_entry nat_cmp es id half)) ≡ match_ordering o
    ((id, half_view half) ∷ (e.0, half_view e.1) ∷ halves_view es) ((e.0, half_view half) ∷ halves_view es)
    ((e.0, half_view e.1) ∷ insert_entry nat_cmp (halves_view es) id (half_view half))
insert_step Less e es id half rest = refl
insert_step Equal e es id half rest = refl
insert_step Greater e es id half rest = ap (λ (others : Waiting). (e.0, half_view e.1) ∷ others) rest

pub insert_view : (es : List (ℕ × Half)) (id : ℕ) (half : Half) → halves_view (insert_entry nat_cmp es id half) ≡
    insert_entry nat_cmp (halves_view es) id (half_view half)
insert_view [] id half = refl
insert_view (e ∷ es) id half = insert_step (nat_cmp id e.0) e es id half (insert_view es id half)
