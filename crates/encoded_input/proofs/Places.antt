-- What a text means that has no fault, wherever it begins.
use Rattle.std.proofs.Common.{◌≡◌, ◌∙◌, ℕ, List, [], ◌∷◌, None, refl, ap}
use Rattle.encoded_input.specs.Text.{decoded, fault_at, first_place, next_offset, next_position, position_after}
use Rattle.encoded_input.specs.Text.{step_of, with_byte}
use Rattle.encoded_input.specs.Meaning.{Means}
use Rattle.encoded_input.specs.declared.encoding.Encoding.{Encoding}
use Rattle.encoded_input.specs.declared.place.Place.{Place}
use Rattle.encoded_input.specs.declared.place.Step.{Step}
use Rattle.encoded_input.specs.declared.position.Position.{Position}

-- from a place on a text means these bytes, and leads to a place
abbrev pub Reads : Place → List ℕ → List ℕ → Place → Type 0
Reads place text bytes last = (offset : ℕ)
    → (decoded (record { place = place; offset = offset }) text ≡ bytes)
    × ((position_after (record { place = place; offset = offset }) text).place ≡ last)

-- the empty text
pub reads_nil : (place : Place) → Reads place [] [] place
unfolding decoded position_after
reads_nil place offset = (refl, refl)

-- a character before a text
pub reads_step : (place : Place) (c : ℕ) (step : Step) (text bytes : List ℕ) (last : Place)
    → ((offset : ℕ) → step_of place offset c ≡ step) → Reads step.place text bytes last
    → Reads place (c ∷ text) (with_byte step.byte bytes) last
unfolding decoded position_after
reads_step place c step text bytes last is reads offset =
    let next : next_position (record { place = place; offset = offset }) c
    ≡ record { place = step.place; offset = next_offset offset } =
    ap (λ (s : Step). record { place = s.place; offset = next_offset offset }) (is offset) in
    let rest = reads (next_offset offset) in (
      ap (λ (s : Step). with_byte s.byte (decoded (next_position (record { place = place; offset = offset }) c) text))
          (is offset) ∙ ap (λ (p : Position). with_byte step.byte (decoded p text)) next
          ∙ ap (with_byte step.byte) rest.0,
      ap (λ (p : Position). (position_after p text).place) next ∙ rest.1,
    )

-- the whole text
pub reads_means : (encoding : Encoding) (text bytes : List ℕ) (last : Place)
    → Reads (first_place encoding) text bytes last
    → ((offset : ℕ) → fault_at last offset ≡ None) → Means encoding text bytes
reads_means encoding text bytes last reads sound =
    let whole = reads 0 in
    let after = position_after (record { place = first_place encoding; offset = 0 }) text in
    (whole.0, ap (λ (place : Place). fault_at place after.offset) whole.1 ∙ sound after.offset)
