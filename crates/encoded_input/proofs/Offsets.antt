-- A fault has the offset of its character.
use Rattle.std.proofs.Common.{◌≡◌, ◌∙◌, ℕ, ◌+◌, ◌-◌, ◌^◌, ◌≤◌, ◌==◌, min, List, [], ◌∷◌, ◌++◌, length, refl, ap, sym}
use Rattle.std.proofs.Common.{arith}
use Rattle.std.proofs.Common.{Bool, true, false, Option, Some, None}
use Rattle.std.specs.Prelude.{if◌then◌else◌}
use Rattle.std.proofs.lemmas.Option.{none-some, same_Some}
use Rattle.encoded_input.specs.Text.{after_blank, after_digit, after_sign, after_text, after_value, digit_at, end_fault}
use Rattle.encoded_input.specs.Text.{failed, fault_before, is_blank, next_position, past_fault}
use Rattle.encoded_input.specs.Text.{position_after, text_fault}
use Rattle.encoded_input.specs.Meaning.{start}
use Rattle.encoded_input.specs.declared.encoding.Encoding.{Encoding}
use Rattle.encoded_input.specs.declared.fault.Fault.{Fault}
use Rattle.encoded_input.specs.declared.fault.Fault.TheVariants as fault
use Rattle.encoded_input.specs.declared.place.Place.{Place}
use Rattle.encoded_input.specs.declared.place.Place.TheVariants.{Hex, Zero, Backslash, High, Low, First, Second, Third}
use Rattle.encoded_input.specs.declared.place.Place.TheVariants.{Fourth, Padding, End, Failed}
use Rattle.encoded_input.specs.declared.place.Step.{Step}
use Rattle.encoded_input.specs.declared.position.Position.{Position}
use Rattle.encoded_input.proofs.Reading.{failed_stays, past_place, position_after-append}

-- the offset after a text
offset_after : (position : Position) (text : List ℕ) → position.offset ≤ 2 ^ 64 - 1
    → (position_after position text).offset ≡ min (position.offset + length text) (2 ^ 64 - 1)
unfolding position_after
offset_after position [] within = omega arith
offset_after position (c ∷ text) within =
    let rest = offset_after (next_position position c) text (omega arith) in
    omega (arith, rest)

-- a fault that a step leads to, from a place after none
abbrev Found : ℕ → Step → Type 0
Found offset step = (first : Fault) → fault_before step.place ≡ Some first → first ≡ fault.Character offset

module _ (offset : ℕ) where
  none_found : (first : Fault) → None ≡ Some first → first ≡ fault.Character offset
  none_found first is = absurd (none-some first is)

  failed_found : (place : Place) → fault_before place ≡ None → Found offset (failed place offset)
  failed_found (Failed before) none first is = absurd (none-some before (sym none))
  failed_found place none first is = sym (same_Some _ _ is)

  blank_found : (place : Place) → fault_before place ≡ None → Found offset (after_blank place offset)
  blank_found (Failed before) none first is = absurd (none-some before (sym none))
  blank_found Backslash none first is = failed_found Backslash none first is
  blank_found place none first is = none_found first is

  digit_found : (place : Place) (value : ℕ) → fault_before place ≡ None → Found offset (after_digit place offset value)
  digit_found Hex value none first is = none_found first is
  digit_found High value none first is = none_found first is
  digit_found Zero value none first is = none_found first is
  digit_found (Low high) value none first is = none_found first is
  digit_found First value none first is = none_found first is
  digit_found (Second bits) value none first is = none_found first is
  digit_found (Third bits) value none first is = none_found first is
  digit_found (Fourth bits) value none first is = none_found first is
  digit_found place value none first is = failed_found place none first is

  value_found : (place : Place) (value : Option ℕ) → fault_before place ≡ None
      → Found offset (after_value place offset value)
  value_found place None none first is = failed_found place none first is
  value_found place (Some value) none first is = digit_found place value none first is

  -- a sign leads to no fault
  x_fine : (test : Bool) (next : Place) → fault_before next ≡ None → (to : Place)
      → (if test then Some next else None) ≡ Some to → fault_before to ≡ None
  x_fine true next fine to is = ap fault_before (sym (same_Some _ _ is)) ∙ fine
  x_fine false next fine to is = absurd (none-some to is)

  hex_fine : (test other : Bool) (to : Place)
      → (if test then Some Backslash else if other then Some Zero else None) ≡ Some to → fault_before to ≡ None
  hex_fine true other to is = ap fault_before (sym (same_Some _ _ is))
  hex_fine false other to is = x_fine other Zero refl to is

  sign_fine : (place : Place) (c : ℕ) (to : Place) → after_sign place c ≡ Some to → fault_before to ≡ None
  sign_fine Hex c to is = hex_fine (c == 92) (c == 48) to is
  sign_fine Zero c to is = x_fine _ High refl to is
  sign_fine Backslash c to is = x_fine _ High refl to is
  sign_fine (Third bits) c to is = x_fine _ Padding refl to is
  sign_fine (Fourth bits) c to is = x_fine _ End refl to is
  sign_fine Padding c to is = x_fine _ End refl to is
  sign_fine place c to is = absurd (none-some to is)

  text_found : (place : Place) (c : ℕ) (sign : Option Place) → after_sign place c ≡ sign → fault_before place ≡ None
      → Found offset (after_text place offset c sign)
  text_found place c None same none first is = value_found place (digit_at place c) none first is
  text_found place c (Some to) same none first is = absurd (none-some first (sym (sign_fine place c to same) ∙ is))

  either_found : (place : Place) (c : ℕ) (blank : Bool) → fault_before place ≡ None
      → Found offset (if blank then after_blank place offset else after_text place offset c (after_sign place c))
  either_found place c true none first is = blank_found place none first is
  either_found place c false none first is = text_found place c (after_sign place c) refl none first is

-- the first fault of a text is at its character
first_fault : (position : Position) (c : ℕ) (text : List ℕ) (found : Option Fault) → past_fault position ≡ None
    → past_fault (next_position position c) ≡ found → (found ≡ None → ⊥)
    → text_fault position (c ∷ text) ≡ Some (fault.Character position.offset)
unfolding position_after
first_fault position c text None none is some = absurd (some refl)
first_fault position c text (Some first) none is some =
    failed_stays first (next_position position c) text (past_place first (next_position position c).place is)
    ∙ ap Some (either_found position.offset position.place c (is_blank c) none first is)

pub fault_offset : (encoding : Encoding) (front back : List ℕ) (c : ℕ)
    → past_fault (position_after (start encoding) front) ≡ None
    → (past_fault (position_after (start encoding) (front ++ (c ∷ []))) ≡ None → ⊥)
    → text_fault (start encoding) (front ++ (c ∷ back)) ≡ Some (fault.Character (min (length front) (2 ^ 64 - 1)))
unfolding position_after
fault_offset encoding front back c none some =
    let after = position_after (start encoding) front in
    let whole : after.offset ≡ min (0 + length front) (2 ^ 64 - 1) =
    offset_after (start encoding) front (omega arith) in
    let count : after.offset ≡ min (length front) (2 ^ 64 - 1) = omega (arith, whole) in
    ap end_fault (position_after-append (start encoding) front (c ∷ back))
    ∙ first_fault after c back (past_fault (next_position after c)) none refl
    (λ is. some (ap past_fault (position_after-append (start encoding) front (c ∷ [])) ∙ is))
    ∙ ap (λ (offset : ℕ). Some (fault.Character offset)) count
