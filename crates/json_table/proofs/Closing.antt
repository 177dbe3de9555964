-- The entry of an array or an object is set once those within it are there.
use Rattle.std.proofs.Common.{◌≡◌, ℕ, suc, ◌+◌, List, ◌∷◌, ◌++◌, length, map, slice_set, sym, ap, ◌∙◌, arith}
use Rattle.std.proofs.Common.{length-append}
use Rattle.std.proofs.lemmas.List.{map-set, set_at, length-map}
use Rattle.json.specs.declared.tape.Node.{Node}
use Rattle.json_table.specs.Entries as spec
use Rattle.json_table.specs.Views.{entry_view}

module _ (es : List Node) (old within : List spec.Entry) (opening : spec.Entry) (there : map entry_view es ≡ old ++
    opening ∷ within) where
  pub closed : (at : ℕ) → at ≡ length old → (e : Node) → map entry_view (slice_set es at e) ≡ old ++ entry_view e ∷
      within
  closed at place e = map-set entry_view es at e ∙ ap (λ xs. slice_set xs at (entry_view e)) there
      ∙ set_at old opening within (entry_view e) at (sym place)

  pub long : length es ≡ length old + suc (length within)
  long = omega (arith, length-map es entry_view, ap length there, length-append old (opening ∷ within))
