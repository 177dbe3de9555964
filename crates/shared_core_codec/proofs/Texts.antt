-- Whether bytes are UTF-8, by the definition and by the function that decides it.
use Rattle.std.proofs.Common.{◌≡◌, ℕ, Bool, true, false, IsTrue, List, ◌↔◌, refl, sym}
use Rattle.std.specs.Str.{IsUtf8, is_utf8}
use Rattle.std.proofs.lemmas.Str.{is_utf8-from_IsUtf8, IsUtf8-from_is_utf8}

pub not_utf8 : (bytes : List ℕ) → ¬ (IsUtf8 bytes) → is_utf8 bytes ≡ false
not_utf8 bytes h = by_test (is_utf8 bytes) refl
  where
    by_test : (b : Bool) → is_utf8 bytes ≡ b → b ≡ false
    by_test true e = absurd (h (IsUtf8-from_is_utf8 bytes e))
    by_test false e = refl

pub utf8_or_not : (test : Bool) (bytes : List ℕ) → (IsTrue test ↔ IsUtf8 bytes) → test ≡ is_utf8 bytes
utf8_or_not true bytes is = sym (is_utf8-from_IsUtf8 bytes (is.0 refl))
utf8_or_not false bytes is = sym (not_utf8 bytes (λ h. absurd (let e = is.1 h in cc)))
