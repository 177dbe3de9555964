-- The text at the front of bytes.
use Rattle.std.proofs.Common.{◌≡◌, ℕ, ◌+◌, Bool, true, false, List, [], ◌∷◌, ◌++◌, take, drop, length, sym, refl, ap}
use Rattle.std.proofs.Common.{arith, ◌∙◌}
use Rattle.std.proofs.Math.Seq.{take-length}
use Rattle.std.proofs.lemmas.Str.{IsUtf8-from_is_utf8, utf8_lossy-IsUtf8}
use Rattle.std.specs.Prelude.{if◌then◌else◌, None, Some, unwrap_or}
use Rattle.std.specs.Int.{is_in_range}
use Rattle.std.specs.Str.{IsUtf8, is_utf8, IsValidUpTo}
use Rattle.std.specs.Str.Lossy.{utf8_lossy, utf8_valid_len, utf8_error_len, replacement_bytes}

-- a text at the front of bytes is shown as it is
pub front_shown : (text front : List ℕ) → (text ≡ front) × IsUtf8 front → text ≡ utf8_lossy front
front_shown text front (same, is) = same ∙ sym (utf8_lossy-IsUtf8 front is)

-- the same of bytes that are a text
pub whole_shown : (text bytes : List ℕ) → (text ≡ bytes) × IsUtf8 bytes → text ≡ utf8_lossy (take (length bytes) bytes)
whole_shown text bytes is = rw take-length (front_shown text bytes is)

-- nothing is left after a byte that is not text
after_one : (byte : ℕ) → drop (0 + unwrap_or (utf8_error_len (byte ∷ [])) 1) (byte ∷ []) ≡ []
unfolding utf8_error_len
after_one byte = by (is_in_range 0xC2 0xF4 byte)
  where
    by : (b : Bool) → drop (0 + unwrap_or (if b then None else Some 1) 1) (byte ∷ []) ≡ []
    by true = refl
    by false = refl

-- such a byte is shown as U+FFFD
one_shown : (byte : ℕ) → is_utf8 (byte ∷ []) ≡ false → replacement_bytes ≡ utf8_lossy (byte ∷ [])
unfolding utf8_lossy utf8_valid_len
one_shown byte is_none = rw is_none (ap (λ (rest : List ℕ). replacement_bytes ++ rest) (sym (after_one byte)))

-- of bytes that begin with no character the first is shown so
pub none_shown : (bytes : List ℕ) (valid : ℕ) → valid ≡ 0 → IsValidUpTo bytes valid → replacement_bytes ≡ utf8_lossy
    (take 1 bytes)
none_shown [] valid none is = absurd (omega (arith, is.short))
none_shown (byte ∷ bytes) valid none is = by (is_utf8 (byte ∷ [])) refl
  where
    by : (b : Bool) → is_utf8 (byte ∷ []) ≡ b → replacement_bytes ≡ utf8_lossy (byte ∷ [])
    by true one = absurd (is.longest 1 (omega arith) (IsUtf8-from_is_utf8 (byte ∷ []) one))
    by false one = one_shown byte one
