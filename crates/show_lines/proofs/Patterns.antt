-- What is before or after a text in a text.
use Rattle.std.proofs.Common.{◌≡◌, ℕ, ◌-◌, List, Bool, true, false, length, take, drop, refl, sym, ap, ◌∙◌}
use Rattle.std.proofs.Common.{Option, Some, None}
use Rattle.std.specs.Prelude.{eqb, if◌then◌else◌, unwrap_or}
use Rattle.std.specs.List.{starts_with, ends_with}
use Rattle.std.specs.Option.{MatchOption}
use Rattle.std.specs.Str.Pattern.{FindsTextPrefix, FindsTextSuffix, StripsPrefix, StripsSuffix}
use Rattle.std.proofs.lemmas.Bool.Decides.{Decides-eqb}
use Rattle.std.proofs.lemmas.Slice.Eq.{starts_is, ends_is}
use denote.Ref.{Bor}

-- a text begins with another one, and this comes after that
pub record Begins (text start after : List ℕ) : Type 0 where
  pub begins : starts_with eqb text start ≡ true
  pub rest : after ≡ drop (length start) text

-- a text ends with another one, and this comes before that
pub record Ends (text end before : List ℕ) : Type 0 where
  pub ends : ends_with eqb text end ≡ true
  pub front : before ≡ take (length text - length end) text

false_by : (b : Bool) → (b ≡ true → false ≡ true) → b ≡ false
false_by true h = sym (h refl)
false_by false h = refl

pub begins_by : (start text : List ℕ) (r : Option (Bor (List ℕ))) → MatchOption r (FindsTextPrefix start text None)
    (λ x. StripsPrefix (FindsTextPrefix start) text x.now)
    → MatchOption r (starts_with eqb text start ≡ false) (λ x. Begins text start x.now)
begins_by start text None lacks =
    let is = starts_is Decides-eqb text start _ refl in
    false_by (starts_with eqb text start) (λ begins. absurd (lacks (drop (length start) text) (is.0 begins)))
begins_by start text (Some x) (n, (long, is, cut), rest, size) = record {
  begins = (starts_is Decides-eqb text start _ refl).1 (drop n text) is;
  rest = rest ∙ ap (λ (m : ℕ). drop m text) long;
}

pub ends_by : (end text : List ℕ) (r : Option (Bor (List ℕ))) → MatchOption r (FindsTextSuffix end text None)
    (λ x. StripsSuffix (FindsTextSuffix end) text x.now)
    → MatchOption r (ends_with eqb text end ≡ false) (λ x. Ends text end x.now)
ends_by end text None lacks =
    let is = ends_is Decides-eqb text end _ refl in
    false_by (ends_with eqb text end) (λ ends. absurd (lacks (take (length text - length end) text) (is.0 ends)))
ends_by end text (Some x) (n, (long, is, cut), front, size) = record {
  ends = (ends_is Decides-eqb text end _ refl).1 (take (length text - n) text) is;
  front = front ∙ ap (λ (m : ℕ). take (length text - m) text) long;
}

-- what is after a text that may be at the beginning
pub after_start : (start text : List ℕ) (r : Option (Bor (List ℕ))) (whole out : Bor (List ℕ)) → MatchOption r
    (FindsTextPrefix start text None) (λ x. StripsPrefix (FindsTextPrefix start) text x.now) → whole.now ≡ text → out ≡
    unwrap_or r whole → out.now ≡ if starts_with eqb text start then drop (length start) text else text
after_start start text None whole out lacks is e =
    let not = begins_by start text None lacks in
    rw (not, e) is
after_start start text (Some x) whole out strips is e =
    let begins = begins_by start text (Some x) strips in
    rw (begins.begins, e) begins.rest
