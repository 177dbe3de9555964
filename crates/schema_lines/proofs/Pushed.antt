-- One more match, and one more entry.
use Rattle.std.proofs.Common.{◌≡◌, ℕ, List, [], ◌∷◌, ◌++◌, All, Option, Some, None, IfSome, subst, sym, ap, ◌∙◌}
use Rattle.std.proofs.Common.{append_assoc, append-nil}
use Rattle.std.proofs.lemmas.List.Elements.{All-push}
use Rattle.std.specs.List.{cons_option}
use Rattle.shared_core_renumber.specs.declared.entries.Renumbering.{Renumbering}
use Rattle.schema_lines.specs.declared.numbering.Direction.{Direction}
use Rattle.schema_lines.specs.declared.numbering.Match.{Match}
use Rattle.schema_lines.specs.Numberings.{IsMatch, IsOurs}

-- Each match is one of the schema, with one more that may be there.
all_found : (s : ℕ) (xs : List Match) (found : Option Match) → All (IsMatch s) xs → IfSome found (IsMatch s)
    → All (IsMatch s) (xs ++ cons_option found [])
all_found s xs None h is = subst (All (IsMatch s)) (sym (append-nil xs)) h
all_found s xs (Some m) h is = All-push (IsMatch s) xs m h is

pub found_pushed : (s : ℕ) (xs ys : List Match) (found : Option Match) → ys ≡ xs ++ cons_option found []
    → All (IsMatch s) xs → IfSome found (IsMatch s) → All (IsMatch s) ys
found_pushed s xs ys found e h is = subst (All (IsMatch s)) (sym e) (all_found s xs found h is)

-- What follows such a match follows it among all.
joined : (xs rest : List Match) (found : Option Match)
    → (xs ++ cons_option found []) ++ rest ≡ xs ++ cons_option found rest
joined xs rest None = ap (λ ys. ys ++ rest) (append-nil xs)
joined xs rest (Some m) = append_assoc xs (m ∷ []) rest

pub found_next : (xs ys rest : List Match) (found : Option Match) → ys ≡ xs ++ cons_option found []
    → ys ++ rest ≡ xs ++ cons_option found rest
found_next xs ys rest found e = ap (λ zs. zs ++ rest) e ∙ joined xs rest found

pub entry_pushed : (d : Direction) (xs ys : List Renumbering) (x : Renumbering) → ys ≡ xs ++ x ∷ [] → All (IsOurs d) xs
    → IsOurs d x → All (IsOurs d) ys
entry_pushed d xs ys x e h is = subst (All (IsOurs d)) (sym e) (All-push (IsOurs d) xs x h is)
