-- A blank changes no more of a text than offsets, and these are only in faults.
use Rattle.std.proofs.Common.{◌≡◌, ◌∙◌, ℕ, ◌==◌, List, [], ◌∷◌, ◌++◌, refl, ap, sym, Bool, true, false, Option, Some}
use Rattle.std.proofs.Common.{None}
use Rattle.std.specs.Prelude.{if◌then◌else◌}
use Rattle.std.proofs.lemmas.Option.{none-some}
use Rattle.encoded_input.specs.Text.{after_blank, after_digit, after_sign, after_value, at, decoded, digit_at}
use Rattle.encoded_input.specs.Text.{end_fault, failed, fault_at}
use Rattle.encoded_input.specs.Text.{after_text, is_blank, next_offset, position_after, step_of, text_fault, with_byte}
use Rattle.encoded_input.specs.Meaning.{start, takes_blanks, Means}
use Rattle.encoded_input.specs.declared.encoding.Encoding.{Encoding}
use Rattle.encoded_input.specs.declared.fault.Fault.{Fault}
use Rattle.encoded_input.specs.declared.fault.Fault.TheVariants as fault
use Rattle.encoded_input.specs.declared.place.Place.{Place}
use Rattle.encoded_input.specs.declared.place.Place.TheVariants.{Hex, Zero, Backslash, High, Low, First, Second, Third}
use Rattle.encoded_input.specs.declared.place.Place.TheVariants.{Fourth, End, Failed}
use Rattle.encoded_input.specs.declared.place.Step.{Step}
use Rattle.encoded_input.specs.declared.position.Position.{Position}
use Rattle.encoded_input.proofs.Reading.{decoded-append, failed_stays, position_after-append}

-- a step that leads to no fault
abbrev Fine : Step → Type 0
Fine step = (first : Fault) → step.place ≡ Failed first → ⊥

failed_is : (place : Place) (offset : ℕ) → (first : Fault) × ((failed place offset).place ≡ Failed first)
failed_is (Failed first) offset = (first, refl)
failed_is place offset = (fault.Character offset, refl)

module _ (offset other : ℕ) where
  -- is the same at each offset
  same_failed : (place : Place) → Fine (failed place offset) → failed place other ≡ failed place offset
  same_failed place fine = let is = failed_is place offset in absurd (fine is.0 is.1)

  same_blank : (place : Place) → Fine (after_blank place offset) → after_blank place other ≡ after_blank place offset
  same_blank Backslash fine = same_failed Backslash fine
  same_blank place fine = refl

  same_digit : (place : Place) (value : ℕ) → Fine (after_digit place offset value)
      → after_digit place other value ≡ after_digit place offset value
  same_digit Hex value fine = refl
  same_digit High value fine = refl
  same_digit Zero value fine = refl
  same_digit (Low high) value fine = refl
  same_digit First value fine = refl
  same_digit (Second bits) value fine = refl
  same_digit (Third bits) value fine = refl
  same_digit (Fourth bits) value fine = refl
  same_digit place value fine = same_failed place fine

  same_value : (place : Place) (value : Option ℕ) → Fine (after_value place offset value)
      → after_value place other value ≡ after_value place offset value
  same_value place None fine = same_failed place fine
  same_value place (Some value) fine = same_digit place value fine

  same_text : (place : Place) (c : ℕ) (sign : Option Place) → Fine (after_text place offset c sign)
      → after_text place other c sign ≡ after_text place offset c sign
  same_text place c None fine = same_value place (digit_at place c) fine
  same_text place c (Some next) fine = refl

  same_either : (place : Place) (c : ℕ) (blank : Bool)
      → Fine (if blank then after_blank place offset else after_text place offset c (after_sign place c))
      → (if blank then after_blank place other else after_text place other c (after_sign place c))
      ≡ (if blank then after_blank place offset else after_text place offset c (after_sign place c))
  same_either place c true fine = same_blank place fine
  same_either place c false fine = same_text place c (after_sign place c) fine

  same_step : (place : Place) (c : ℕ) → Fine (step_of place offset c) → step_of place other c ≡ step_of place offset c
  same_step place c fine = same_either place c (is_blank c) fine

  same_bits : (bits : Bool) → (if bits then None else Some (fault.End offset)) ≡ None
      → (if bits then None else Some (fault.End other)) ≡ None
  same_bits true sound = refl
  same_bits false sound = absurd (none-some _ (sym sound))

  same_end : (place : Place) → fault_at place offset ≡ None → fault_at place other ≡ None
  same_end Hex sound = refl
  same_end High sound = refl
  same_end First sound = refl
  same_end End sound = refl
  same_end (Third bits) sound = same_bits (bits == 0) sound
  same_end (Fourth bits) sound = same_bits (bits == 0) sound
  same_end place sound = absurd (none-some _ (sym sound))

-- a text without a fault means the same at each offset
anywhere : (text : List ℕ) (place : Place) (offset other : ℕ)
    → text_fault (record { place = place; offset = offset }) text ≡ None
    → (decoded (record { place = place; offset = other }) text
    ≡ decoded (record { place = place; offset = offset }) text)
    × (text_fault (record { place = place; offset = other }) text ≡ None)
unfolding decoded position_after
anywhere [] place offset other sound = (refl, same_end offset other place sound)
anywhere (c ∷ text) place offset other sound =
    let step = step_of place offset c in
    let same = same_step offset other place c (λ first is. none-some first (sym sound
    ∙ failed_stays first (record { place = step.place; offset = next_offset offset }) text is)) in
    let rest = anywhere text step.place (next_offset offset) (next_offset other) sound in (
      ap (λ (s : Step). with_byte s.byte (decoded (record { place = s.place; offset = next_offset other }) text)) same
          ∙ ap (with_byte step.byte) rest.0,
      ap (λ (s : Step). text_fault (record { place = s.place; offset = next_offset other }) text) same ∙ rest.1,
    )

-- where a blank leads
stays : (place : Place) (offset : ℕ) → takes_blanks place ≡ true → after_blank place offset ≡ at place
stays Zero offset takes = absurd (cc)
stays Backslash offset takes = absurd (cc)
stays place offset takes = refl

blank_step : (place : Place) (offset blank : ℕ) → is_blank blank ≡ true → takes_blanks place ≡ true
    → step_of place offset blank ≡ at place
blank_step place offset blank is takes = rw is (stays place offset takes)

-- a text after a blank
after_blank_is : (position : Position) (blank : ℕ) (text : List ℕ) → is_blank blank ≡ true
    → takes_blanks position.place ≡ true → text_fault position text ≡ None
    → (decoded position (blank ∷ text) ≡ decoded position text) × (text_fault position (blank ∷ text) ≡ None)
unfolding decoded position_after
after_blank_is position blank text is takes sound =
    let same = blank_step position.place position.offset blank is takes in
    let next = next_offset position.offset in
    let rest = anywhere text position.place position.offset next sound in (
      ap (λ (s : Step). with_byte s.byte (decoded (record { place = s.place; offset = next }) text)) same ∙ rest.0,
      ap (λ (s : Step). text_fault (record { place = s.place; offset = next }) text) same ∙ rest.1,
    )

pub blank_means : (encoding : Encoding) (front back bytes : List ℕ) (blank : ℕ) → is_blank blank ≡ true
    → takes_blanks (position_after (start encoding) front).place ≡ true → Means encoding (front ++ back) bytes
    → Means encoding (front ++ (blank ∷ back)) bytes
blank_means encoding front back bytes blank is takes means =
    let after = position_after (start encoding) front in
    let sound : text_fault after back ≡ None =
    ap end_fault (sym (position_after-append (start encoding) front back)) ∙ means.1 in
    let rest = after_blank_is after blank back is takes sound in (
      decoded-append (start encoding) front (blank ∷ back)
          ∙ ap (λ (left : List ℕ). decoded (start encoding) front ++ left) rest.0
          ∙ sym (decoded-append (start encoding) front back) ∙ means.0,
      ap end_fault (position_after-append (start encoding) front (blank ∷ back)) ∙ rest.1,
    )
