-- What a whole text means.
use Rattle.std.specs.Prelude.{◌≡◌, List, ℕ, None, Bool, true, false}
use Rattle.encoded_input.specs.Text.{decoded, first_place, text_fault}
use Rattle.encoded_input.specs.declared.encoding.Encoding.{Encoding}
use Rattle.encoded_input.specs.declared.place.Place.{Place}
use Rattle.encoded_input.specs.declared.place.Place.TheVariants.{Backslash, Zero}
use Rattle.encoded_input.specs.declared.position.Position.{Position}

-- The beginning of a text.
abbrev pub start : Encoding → Position
start encoding = record { place = first_place encoding; offset = 0 }

-- A text means these bytes, and nothing is wrong with it.
abbrev pub Means : Encoding → List ℕ → List ℕ → Type 0
Means encoding text bytes = (decoded (start encoding) text ≡ bytes) × (text_fault (start encoding) text ≡ None)

-- Whether a blank at a place says nothing: not within a prefix, or after a first zero, which may begin one.
abbrev pub takes_blanks : Place → Bool
takes_blanks Zero = false
takes_blanks Backslash = false
takes_blanks place = true
