-- What a reader of text has left, where the text is known.
use Rattle.std.specs.Prelude.{◌≡◌, ℕ, ◌<◌, List, length, take, Option, Some, None, option_map, ⊤, Result, MatchResult}
use Rattle.std.specs.Io.KnownBytes.{Consumes, IsAtEnd, Keeps}
use Rattle.encoded_input.specs.Text.{decoded, end_fault, first_place, past_fault, text_fault}
use Rattle.encoded_input.specs.declared.decoded.Decoded.{Decoded}
use Rattle.encoded_input.specs.declared.encoding.Encoding.{Encoding}
use Rattle.encoded_input.specs.declared.fault.Fault.{Fault}
use Rattle.encoded_input.specs.declared.position.Position.{Position}

-- The bytes that a text means from a position on, before its first fault.
abbrev pub decoded_known : Position → Option (List ℕ) → Option (List ℕ)
decoded_known position text = option_map (decoded position) text

-- What is wrong with it: nothing, or a fault.
abbrev pub fault_known : Position → Option (List ℕ) → Option (Option Fault)
fault_known position text = option_map (text_fault position) text

-- What is wrong with a known text does not change as it is read.
abbrev pub SameFault : Option (Option Fault) → Option (Option Fault) → Type 0
SameFault None new = ⊤
SameFault (Some fault) new = new ≡ Some fault

-- This is what is wrong with a text that is known.
abbrev pub IsFault : Option (Option Fault) → Option Fault → Type 0
IsFault None fault = ⊤
IsFault (Some known) fault = known ≡ fault

-- A read returned a count of bytes, which it gave, or none, before which the input has not ended.
abbrev pub Gives : Option (List ℕ) → Option (List ℕ) → List ℕ → Option ℕ → Type 0
Gives old new buf None = Keeps old new
Gives old new buf (Some count) = Consumes old new (take count buf) × (count ≡ 0 → 0 < length buf → IsAtEnd new)

-- The same, or it failed, and took nothing that means bytes.
abbrev pub ReadGives : {E : Type 0} → Option (List ℕ) → Option (List ℕ) → Result (Option ℕ) E → List ℕ → Type 0
ReadGives old new r buf = MatchResult r (Gives old new buf) (λ _. Keeps old new)

-- The same for an input that is text if it has a position in it.
abbrev pub input_known : Option Position → Option (List ℕ) → Option (List ℕ)
input_known None bytes = bytes
input_known (Some position) text = decoded_known position text

abbrev pub input_fault : Option Position → Option (List ℕ) → Option (Option Fault)
input_fault None bytes = option_map (λ _. None) bytes
input_fault (Some position) text = fault_known position text

abbrev pub input_end_fault : Option Position → Option Fault
input_end_fault None = None
input_end_fault (Some position) = end_fault position

abbrev pub input_past_fault : Option Position → Option Fault
input_past_fault None = None
input_past_fault (Some position) = past_fault position

-- The beginning of a text of this encoding, if it is one.
abbrev pub first_position : Option Encoding → Option Position
first_position None = None
first_position (Some encoding) = Some (record { place = first_place encoding; offset = 0 })

module _ {R : Type 0} (remaining : R → Option (List ℕ)) where
  -- The bytes that reads of an input will give, where what its reader has left is known.
  abbrev pub bytes_left : Decoded R → Option (List ℕ)
  bytes_left input = input_known input.position (remaining input.reader)

  -- What is wrong with it.
  abbrev pub fault_left : Decoded R → Option (Option Fault)
  fault_left input = input_fault input.position (remaining input.reader)
