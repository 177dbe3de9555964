-- What is left of a text, after some of it is read.
use Rattle.std.proofs.Common.{◌<◌, ◌≡◌, ◌∙◌, ℕ, List, [], ◌∷◌, ◌++◌, refl, ap, sym, Bool, true, false}
use Rattle.std.proofs.Common.{Option, Some, None, IfSome}
use Rattle.std.proofs.lemmas.Option.{none-some, same_Some}
use Rattle.std.specs.Io.KnownBytes.{Consumes, IsAtEnd, Keeps}
use Rattle.encoded_input.specs.Text.{decoded, end_fault, ended, fault_at, fault_before, is_blank, next_byte}
use Rattle.encoded_input.specs.Text.{next_position, past_fault}
use Rattle.encoded_input.specs.Text.{position_after, text_fault, with_byte}
use Rattle.encoded_input.specs.Known.{decoded_known, fault_known, IsFault, SameFault}
use Rattle.encoded_input.specs.declared.fault.Fault.{Fault}
use Rattle.encoded_input.specs.declared.place.Place.{Place}
use Rattle.encoded_input.specs.declared.place.Place.TheVariants.{Failed}
use Rattle.encoded_input.specs.declared.position.Position.{Position}

-- a byte before those of two texts
with_byte-append : (byte : Option ℕ) (first second : List ℕ)
    → with_byte byte (first ++ second) ≡ with_byte byte first ++ second
with_byte-append None first second = refl
with_byte-append (Some byte) first second = refl

-- a text, and then another one
pub decoded-append : (position : Position) (text more : List ℕ) → decoded position (text ++ more)
    ≡ decoded position text ++ decoded (position_after position text) more
unfolding decoded position_after
decoded-append position [] more = refl
decoded-append position (c ∷ text) more =
    ap (with_byte (next_byte position c)) (decoded-append (next_position position c) text more)
    ∙ with_byte-append (next_byte position c) (decoded (next_position position c) text) _

pub position_after-append : (position : Position) (text more : List ℕ) → position_after position (text ++ more)
    ≡ position_after (position_after position text) more
unfolding position_after
position_after-append position [] more = refl
position_after-append position (c ∷ text) more = position_after-append (next_position position c) text more

-- the empty text
decoded_nil : (position : Position) (text : List ℕ) → text ≡ [] → decoded position text ≡ []
unfolding decoded
decoded_nil position text is = ap (decoded position) is

fault_nil : (position : Position) (text : List ℕ) → text ≡ [] → text_fault position text ≡ end_fault position
unfolding position_after
fault_nil position text is = ap (text_fault position) is

module _ (position : Position) where
  module _ (next : Position) (given : List ℕ) (text : List ℕ) (is_next : next ≡ position_after position text)
      (is_given : given ≡ decoded position text) where
    -- what is read of a text is decoded
    pub read_gives : (old new : Option (List ℕ)) → Consumes old new text
        → Consumes (decoded_known position old) (decoded_known next new) given
    read_gives None new taken = tt
    read_gives (Some all) None taken = absurd taken
    read_gives (Some all) (Some left) taken =
        ap (decoded position) taken ∙ decoded-append position text left
        ∙ ap (λ (p : Position). decoded position text ++ decoded p left) (sym is_next)
        ∙ ap (λ (bytes : List ℕ). bytes ++ decoded next left) (sym is_given)

    -- of no byte
    pub read_keeps : (old new : Option (List ℕ)) → given ≡ [] → Consumes old new text
        → Keeps (decoded_known position old) (decoded_known next new)
    read_keeps None new none taken = tt
    read_keeps (Some all) None none taken = absurd taken
    read_keeps (Some all) (Some left) none taken =
        sym (read_gives (Some all) (Some left) taken ∙ ap (λ (bytes : List ℕ). bytes ++ decoded next left) none)

    -- and what is wrong with it stays
    pub read_same : (old new : Option (List ℕ)) → Consumes old new text
        → SameFault (fault_known position old) (fault_known next new)
    read_same None new taken = tt
    read_same (Some all) None taken = absurd taken
    read_same (Some all) (Some left) taken =
        ap Some (ap (λ (p : Position). text_fault p left) is_next
        ∙ ap end_fault (sym (ap (position_after position) taken ∙ position_after-append position text left)))

  module _ (next : Position) (text : List ℕ) (none : text ≡ []) where
    -- the end of a text
    pub end_keeps : (old new : Option (List ℕ)) → Consumes old new text → IsAtEnd new
        → Keeps (decoded_known position old) (decoded_known next new)
    end_keeps None new taken over = tt
    end_keeps (Some all) None taken over = absurd taken
    end_keeps (Some all) (Some left) taken over =
        decoded_nil next left over
        ∙ sym (decoded_nil position all (taken ∙ ap (λ (bytes : List ℕ). bytes ++ left) none ∙ over))

    pub end_gives : (old new : Option (List ℕ)) → Consumes old new text → IsAtEnd new
        → Consumes (decoded_known position old) (decoded_known next new) []
    end_gives None new taken over = tt
    end_gives (Some all) None taken over = absurd taken
    end_gives (Some all) (Some left) taken over = sym (end_keeps (Some all) (Some left) taken over)

    pub end_over : (new : Option (List ℕ)) → IsAtEnd new → IsAtEnd (decoded_known next new)
    end_over None over = tt
    end_over (Some left) over = decoded_nil next left over

  -- a fault that is found at the end stays
  ended_fault : (fault : Option Fault) → end_fault position ≡ fault → end_fault (ended position fault) ≡ fault
  ended_fault None is = is
  ended_fault (Some first) is = refl

  pub end_same : (next : Position) (text : List ℕ) (old new : Option (List ℕ)) → text ≡ []
      → next ≡ ended position (end_fault position) → Consumes old new text → IsAtEnd new
      → SameFault (fault_known position old) (fault_known next new)
  end_same next text None new none is_next taken over = tt
  end_same next text (Some all) None none is_next taken over = absurd taken
  end_same next text (Some all) (Some left) none is_next taken over =
      ap Some (fault_nil next left over ∙ ap end_fault is_next ∙ ended_fault (end_fault position) refl
      ∙ sym (fault_nil position all (taken ∙ ap (λ (bytes : List ℕ). bytes ++ left) none ∙ over)))

-- a character after a fault
failed_steps : (blank : Bool) (first : Fault) (offset c : ℕ) → is_blank c ≡ blank
    → (next_position (record { place = Failed first; offset = offset }) c).place ≡ Failed first
failed_steps true first offset c is = rw is refl
failed_steps false first offset c is = rw is refl

-- a text with a fault before it
pub failed_stays : (first : Fault) (position : Position) (text : List ℕ) → position.place ≡ Failed first
    → text_fault position text ≡ Some first
unfolding position_after
failed_stays first position [] is = ap (λ (place : Place). fault_at place position.offset) is
failed_stays first position (c ∷ text) is =
    failed_stays first (next_position position c) text
    (ap (λ (place : Place). (next_position (record { place = place; offset = position.offset }) c).place) is
    ∙ failed_steps (is_blank c) first position.offset c refl)

-- the place after a fault
pub past_place : (first : Fault) (place : Place) → fault_before place ≡ Some first → place ≡ Failed first
past_place first (Failed found) is = ap Failed (same_Some _ _ is)
past_place first place is = absurd (none-some _ is)

-- the fault that is found is that of the text
fault_found : (found : Option Fault) (position : Position) (old : Option (Option Fault)) (new : Option (List ℕ))
    → past_fault position ≡ found → SameFault old (fault_known position new)
    → IfSome found (λ fault. IsFault old (Some fault))
fault_found None position old new is same = tt
fault_found (Some first) position None new is same = tt
fault_found (Some first) position (Some fault) None is same = absurd (none-some _ same)
fault_found (Some first) position (Some fault) (Some text) is same =
    sym (same_Some _ _ same) ∙ failed_stays first position text (past_place first position.place is)

pub fault_told : (position : Position) (old : Option (Option Fault)) (new : Option (List ℕ))
    → SameFault old (fault_known position new)
    → IfSome (past_fault position) (λ fault. IsFault old (Some fault))
fault_told position old new same = fault_found (past_fault position) position old new refl same

-- the end comes of a text without a fault
pub end_sound : (position : Position) (old : Option (Option Fault)) (new : Option (List ℕ))
    → SameFault old (fault_known position new) → IsAtEnd new → end_fault position ≡ None → IsFault old None
end_sound position None new same over sound = tt
end_sound position (Some fault) None same over sound = absurd (none-some _ same)
end_sound position (Some fault) (Some text) same over sound =
    same_Some _ _ (sym same ∙ ap Some (fault_nil position text over ∙ sound))

-- a read of some bytes is not the end
pub no_end : (count room : ℕ) (new : Option (List ℕ)) → (count ≡ 0 → ⊥) → count ≡ 0 → 0 < room → IsAtEnd new
no_end count room new some none within = absurd (some none)
