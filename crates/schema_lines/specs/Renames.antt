-- A name there and a name here, in one word.
use Rattle.std.specs.Prelude.{◌≡◌, ℕ, ◌==◌, ◌||◌, List, ◌∷◌, ◌++◌, length, map, nat_lt, true, if◌then◌else◌}
use Rattle.std.specs.Prelude.{Option, Some, None}
use Rattle.std.specs.List.{after_first, before_first, position_or_len}
use Rattle.schema_lines.specs.declared.renames.Rename.{Rename}

-- A word is a name, a sign of equality and a name, in this order; a name is not empty.
pub record IsRename (word : List ℕ) (rename : Rename) : Type 0 where
  pub parts : word ≡ rename.theirs.now ++ (61 ∷ rename.ours.now)
  pub theirs : nat_lt 0 (length rename.theirs.now) ≡ true
  pub ours : nat_lt 0 (length rename.ours.now) ≡ true

-- The name there and the name here.
abbrev pub names_of : Rename → List ℕ × List ℕ
names_of rename = (rename.theirs.now, rename.ours.now)

-- The names of renames, as words say them: `map rename_of` of words that are renames.
abbrev pub said_names : List Rename → List (Option (List ℕ × List ℕ))
said_names renames = map (λ rename. Some (names_of rename)) renames

-- Two names, if neither is empty.
abbrev pub both_names : List ℕ → List ℕ → Option (List ℕ × List ℕ)
both_names theirs ours = if length theirs == 0 || length ours == 0 then None else Some (theirs, ours)

-- The names before and after the first sign of equality of a word, if it has one and neither is empty.
abbrev pub rename_of : List ℕ → Option (List ℕ × List ℕ)
rename_of word =
    if nat_lt (position_or_len (λ b. b == 61) word) (length word)
    then both_names (before_first (λ b. b == 61) word) (after_first (λ b. b == 61) word) else None
