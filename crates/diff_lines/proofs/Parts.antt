-- Parts that are appended one after the other.
use Rattle.std.proofs.Common.{◌≡◌, ℕ, List, ◌++◌, ◌∙◌, append_assoc}

pub three_parts : (old one two new first second third : List ℕ) → one ≡ old ++ first → two ≡ one ++ second
    → new ≡ two ++ third → new ≡ old ++ (first ++ (second ++ third))
three_parts old one two new first second third a b c =
    rw (c, b, a) (append_assoc (old ++ first) second third ∙ append_assoc old first (second ++ third))

pub five_parts : (old one two three four new first second third fourth fifth : List ℕ) → one ≡ old ++ first
    → two ≡ one ++ second → three ≡ two ++ third → four ≡ three ++ fourth → new ≡ four ++ fifth
    → new ≡ old ++ (first ++ (second ++ (third ++ (fourth ++ fifth))))
five_parts old one two three four new first second third fourth fifth a b c d e =
    three_parts two three four new third fourth fifth c d e
    ∙ rw (b, a) (append_assoc (old ++ first) second (third ++ (fourth ++ fifth))
    ∙ append_assoc old first (second ++ (third ++ (fourth ++ fifth))))
