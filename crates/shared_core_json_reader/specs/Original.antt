-- What comes after the bytes of an original name.
use Rattle.std.specs.Prelude.{ℕ, ◌+◌, ◌&&◌, List, [], ◌∷◌, nat_le, ◌==◌, if◌then◌else◌, Option, Some, None}
use Rattle.std.specs.Prelude.{option_and_then}

-- What comes after a byte, if the text begins with it.
abbrev pub after_byte : ℕ → List ℕ → Option (List ℕ)
after_byte b [] = None
after_byte b (x ∷ xs) = if x == b then Some xs else None

-- What comes after a byte of a name in lower camel case as the original name has it, if the text begins with that.
abbrev pub after_original : ℕ → List ℕ → Option (List ℕ)
after_original c text = if nat_le 65 c && nat_le c 90 then option_and_then (after_byte (c + 32)) (after_byte 95 text)
    else after_byte c text
