-- Names of messages and fields, and what of them is compared.
use Rattle.std.specs.Prelude.{ℕ, ◌-◌, ◌==◌, not, if◌then◌else◌, List, [], ◌∷◌, length, take, codes, eqb}
use Rattle.std.specs.Prelude.{count_by}
use Rattle.std.specs.Char.{to_ascii_lowercase}
use Rattle.std.specs.List.{ends_with}

-- A name in lower case, without its underscores. Only the case of ASCII counts.
abbrev pub folded : List ℕ → List ℕ
folded [] = []
folded (b ∷ name) = if not (b == 95) then to_ascii_lowercase b ∷ folded name else folded name

-- A text without a suffix, if it has it.
abbrev pub without : List ℕ → List ℕ → List ℕ
without suffix text = if ends_with eqb text suffix then take (length text - length suffix) text else text

-- A name without what differs between files: its case, underscores, and the word Message at its end.
unfoldable pub plain : List ℕ → List ℕ
plain name = without (codes "message") (folded name)

-- What is after the last dot of a text, or else this.
abbrev pub after_dots : List ℕ → List ℕ → List ℕ
after_dots other [] = other
after_dots other (b ∷ text) = if b == 46 then after_dots text text else after_dots other text

-- The last part of a full name.
unfoldable pub last_name : List ℕ → List ℕ
last_name name = after_dots name name

-- The number of dots of a name: how deep its message is.
abbrev pub depth : List ℕ → ℕ
depth name = count_by (λ b. b == 46) name
