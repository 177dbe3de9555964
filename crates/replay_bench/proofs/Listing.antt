-- Fields that are listed.
use Rattle.std.proofs.Common.{◌≡◌, List, [], ◌∷◌, ◌++◌, ◌∙◌, sym, ap, append_assoc}
use Rattle.std.proofs.Common.{append-nil}
use Rattle.std.specs.List.{FoldsTo}
use Rattle.shared_core_compare.specs.Differences.{FieldTexts, HasWrittenFields}

module _ {T : Type 0} (texts : T → List FieldTexts) where
  -- How a field is written to what has fields already.
  abbrev pub Lists : T → FieldTexts → T → Type 0
  Lists old field new = texts new ≡ texts old ++ (field ∷ [])

  folded : (old new : T) (fields : List FieldTexts) → FoldsTo Lists old fields new → texts new ≡ texts old ++ fields
  folded old new [] p = ap texts (sym p) ∙ sym (append-nil (texts old))
  folded old new (field ∷ fields) p =
      folded p.0 new fields p.2 ∙ ap (λ (xs : List FieldTexts). xs ++ fields) p.1 ∙ append_assoc (texts old)
      (field ∷ []) fields

  -- Fields that are written to what has none.
  pub all_listed : (old new : T) (fields : List FieldTexts) → texts old ≡ [] → HasWrittenFields Lists old fields new →
      texts new ≡ fields
  all_listed old new fields none written =
      folded old new fields written.folds ∙ ap (λ (xs : List FieldTexts). xs ++ fields) none
