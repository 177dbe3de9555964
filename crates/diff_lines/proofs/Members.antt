-- Tokens that are appended three and four times.
use Rattle.std.proofs.Common.{◌≡◌, List, ◌++◌, ◌∙◌, append_assoc}
use Rattle.json.specs.Token.{Token}

pub three_after : (old one two new last first second third : List Token) → one ≡ old ++ first → two ≡ one ++ second →
    new ≡ two ++ third
    → new ++ last ≡ old ++ (first ++ (second ++ (third ++ last)))
three_after old one two new last first second third a b c =
    rw (c, b, a) (append_assoc ((old ++ first) ++ second) third last ∙
    (append_assoc (old ++ first) second (third ++ last) ∙ append_assoc old first (second ++ (third ++ last))))

pub four_after : (old one two three new last first second third fourth : List Token) → one ≡ old ++ first
    → two ≡ one ++ second → three ≡ two ++ third → new ≡ three ++ fourth
    → new ++ last ≡ old ++ (first ++ (second ++ (third ++ (fourth ++ last))))
four_after old one two three new last first second third fourth a b c d =
    three_after one two three new last second third fourth b c d
    ∙ rw a (append_assoc old first (second ++ (third ++ (fourth ++ last))))
