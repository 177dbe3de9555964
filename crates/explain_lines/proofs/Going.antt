-- Lines that are added step by step.
use Rattle.std.proofs.Common.{ℕ, ◌≡◌, Bool, true, false, List, [], ◌∷◌, ◌++◌, length, take, ◌-◌, refl, sym, ap, ◌∙◌}
use Rattle.std.proofs.Common.{arith}
use Rattle.std.proofs.Common.{Result, Ok, Err, subst}
use Rattle.std.proofs.lemmas.Grind.{common_steps}
use Rattle.std.proofs.lemmas.List.{length-append}
use Rattle.explain_lines.specs.declared.lines.Lines.{Lines}
use Rattle.explain_lines.specs.declared.piece.FieldAt.{FieldAt}
use Rattle.explain_lines.specs.Explanation.{Explanation, followed_by, nothing}
use Rattle.explain_lines.specs.Lines.{Line, Told, show, with_line}
use Rattle.explain_lines.specs.State.{told, Explains}

pub show_append : (t : Told) (xs ys : List Line) → show t (xs ++ ys) ≡ show (show t xs) ys
show_append t [] ys = refl
show_append t (x ∷ xs) ys = show_append (with_line t x) xs ys

-- What is shown so far, before an explanation that is still to come, is what is shown at first of the whole one.
pub record Going (t₀ : Told) (e₀ : Explanation) (t : Told) (e : Explanation) : Type 0 where
  pub shown : show t e.lines ≡ show t₀ e₀.lines
  pub ended : e.ended ≡ e₀.ended

pub goes_on : (t₀ : Told) (e₀ : Explanation) (t : Told) (first next : Explanation) → first.ended ≡ false → Going t₀ e₀ t
    (followed_by first next) → Going t₀ e₀ (show t first.lines) next
goes_on t₀ e₀ t first next e g = by_end first.ended e first.lines g
  where
    by_end : (b : Bool) → b ≡ false → (lines : List Line) → Going t₀ e₀ t
        (followed_by (record { lines = lines; ended = b }) next) → Going t₀ e₀ (show t lines) next
    by_end false e lines g = record {
      shown = sym (show_append t lines next.lines) ∙ g.shown;
      ended = g.ended;
    }
    by_end true e lines g = cc

pub ends : (t₀ : Told) (e₀ : Explanation) (t : Told) (first next : Explanation) → first.ended ≡ true → Going t₀ e₀ t
    (followed_by first next) → Going t₀ e₀ t first
ends t₀ e₀ t first next e g = by_end first.ended e first.lines g
  where
    by_end : (b : Bool) → b ≡ true → (lines : List Line) → Going t₀ e₀ t
        (followed_by (record { lines = lines; ended = b }) next) → Going t₀ e₀ t (record { lines = lines; ended = b })
    by_end true e lines g = record { shown = g.shown; ended = g.ended }
    by_end false e lines g = cc

pub left_field : (path : List FieldAt) (field : FieldAt) → take (length (path ++ field ∷ []) - 1) (path ++ field ∷ [])
    ≡ path
left_field path field = grind (arith, common_steps, length-append)

-- A first part is added, after which nothing follows.
pub last_part : (t₀ t t₁ : Told) (e₀ e first : Explanation) (p₀ p p₁ : List FieldAt) (ended : Bool) → Going t₀ e₀ t e →
    p ≡ p₀ → e ≡ first → (t₁ ≡ show t first.lines) × (p₁ ≡ p) × (ended ≡ first.ended) →
    (t₁ ≡ show t₀ e₀.lines) × (p₁ ≡ p₀)
    × (ended ≡ e₀.ended)
last_part t₀ t t₁ e₀ e first p₀ p p₁ ended g same is added = (
  added.0 ∙ (ap (λ (x : Explanation). show t x.lines) (sym is) ∙ g.shown),
  added.1 ∙ same,
  added.2 ∙ (ap (λ (x : Explanation). x.ended) (sym is) ∙ g.ended),
)

pub explains_last : {E : Type 0} (old mid new : Lines) (r : Result Bool E) (e₀ e first : Explanation) → Going (told old)
    e₀ (told mid) e → mid.path.items ≡ old.path.items → e ≡ first → Explains mid new r first → Explains old new r e₀
explains_last old mid new (Ok ended) e₀ e first g same is added =
    last_part (told old) (told mid) (told new) e₀ e first old.path.items mid.path.items new.path.items ended g same is
    added
explains_last old mid new (Err x) e₀ e first g same is added = added

-- A first part is added, after which the explanation goes on.
pub goes_with : (t₀ : Told) (e₀ : Explanation) (t : Told) (e first next : Explanation) (t₁ : Told) → Going t₀ e₀ t e → e
    ≡ followed_by first next → first.ended ≡ false → t₁ ≡ show t first.lines → Going t₀ e₀ t₁ next
goes_with t₀ e₀ t e first next t₁ g is more shown =
    subst (λ (x : Told). Going t₀ e₀ x next) (sym shown)
    (goes_on t₀ e₀ t first next more (subst (λ (x : Explanation). Going t₀ e₀ t x) is g))

-- A first part is added, which ends at a fault.
pub ends_with : (t₀ : Told) (e₀ : Explanation) (t : Told) (e first next : Explanation) (t₁ : Told) → Going t₀ e₀ t e → e
    ≡ followed_by first next → true ≡ first.ended → t₁ ≡ show t first.lines → (t₁ ≡ show t₀ e₀.lines)
    × (true ≡ e₀.ended)
ends_with t₀ e₀ t e first next t₁ g is last shown =
    let whole = ends t₀ e₀ t first next (sym last) (subst (λ (x : Explanation). Going t₀ e₀ t x) is g) in
    (shown ∙ whole.shown, last ∙ whole.ended)

-- Nothing is left.
pub goes_to_end : (t₀ : Told) (e₀ : Explanation) (t : Told) (e : Explanation) → Going t₀ e₀ t e → e ≡ nothing → (t
    ≡ show t₀ e₀.lines) × (false ≡ e₀.ended)
goes_to_end t₀ e₀ t e g is =
    let whole = subst (λ (x : Explanation). Going t₀ e₀ t x) is g in (whole.shown, whole.ended)

-- What is added within a field, which is entered before and left after it.
pub added_within : (t₀ t₁ t₂ t₃ : Told) (p₀ p₁ p₂ p₃ : List FieldAt) (field : FieldAt) (e : List FieldAt → Explanation)
    (ended : Bool) → t₁ ≡ t₀ → p₁ ≡ p₀ ++ field ∷ [] → (t₂ ≡ show t₁ (e p₁).lines) × (p₂ ≡ p₁) × (ended
    ≡ (e p₁).ended) → t₃ ≡ t₂ → p₃ ≡ take (length p₂ - 1) p₂ → (t₃ ≡ show t₀ (e (p₀ ++ field ∷ [])).lines) × (p₃ ≡ p₀)
    × (ended ≡ (e (p₀ ++ field ∷ [])).ended)
added_within t₀ t₁ t₂ t₃ p₀ p₁ p₂ p₃ field e ended entered inside added left outside = (
  left ∙ (added.0 ∙ (ap (λ (t : Told). show t (e p₁).lines) entered
      ∙ ap (λ (p : List FieldAt). show t₀ (e p).lines) inside)),
  outside ∙ (ap (λ (p : List FieldAt). take (length p - 1) p) (added.1 ∙ inside) ∙ left_field p₀ field),
  added.2 ∙ ap (λ (p : List FieldAt). (e p).ended) inside,
)

-- What is added for a group: a line, what is within its field, and a line.
pub added_group : (t₀ t₁ t₂ t₃ : Told) (p₀ p₁ p₂ p₃ : List FieldAt) (field : FieldAt) (inner : List FieldAt →
    Explanation)
    (b₁ b₂ first last s₁ s₂ : List ℕ) → (t₁ ≡ with_line t₀ (record { path = p₀; bytes = b₁; says = s₁ })) × (p₁ ≡ p₀) →
    t₂ ≡ show t₁ (inner (p₁ ++ field ∷ [])).lines → p₂ ≡ p₁ → (t₃
    ≡ with_line t₂ (record { path = p₂; bytes = b₂; says = s₂ })) × (p₃ ≡ p₂) → b₁ ≡ first → b₂ ≡ last → (t₃
    ≡ show t₀ (record { path = p₀; bytes = first; says = s₁ } ∷ (inner (p₀ ++ field ∷ [])).lines
    ++ record { path = p₀; bytes = last; says = s₂ } ∷ [])) × (p₃ ≡ p₀) × (false ≡ false)
added_group t₀ t₁ t₂ t₃ p₀ p₁ p₂ p₃ field inner b₁ b₂ first last s₁ s₂ begun within same ended begins ends_so =
    let ls = (inner (p₀ ++ field ∷ [])).lines in
    let t : Told = with_line t₀ (record { path = p₀; bytes = b₁; says = s₁ }) in
    let all_within : t₂ ≡ show t ls = within
    ∙ (ap (λ (x : Told). show x (inner (p₁ ++ field ∷ [])).lines) begun.0
    ∙ ap (λ (p : List FieldAt). show t (inner (p ++ field ∷ [])).lines) begun.1) in
    let shown : t₃ ≡ show t₀ (record { path = p₀; bytes = first; says = s₁ } ∷ ls
    ++ record { path = p₀; bytes = last; says = s₂ } ∷ []) = ended.0
    ∙ (ap (λ (x : Told). with_line x (record { path = p₂; bytes = b₂; says = s₂ })) all_within
    ∙ (ap (λ (p : List FieldAt). with_line (show t ls) (record { path = p; bytes = b₂; says = s₂ })) (same ∙
    begun.1)
    ∙ (ap (λ (b : List ℕ). with_line (show t ls) (record { path = p₀; bytes = b; says = s₂ })) ends_so
    ∙ (ap (λ (b : List ℕ). with_line (show (with_line t₀ (record { path = p₀; bytes = b; says = s₁ })) ls)
    (record { path = p₀; bytes = last; says = s₂ })) begins
    ∙ sym (show_append (with_line t₀ (record { path = p₀; bytes = first; says = s₁ })) ls
    (record { path = p₀; bytes = last; says = s₂ } ∷ [])))))) in
    (shown, ended.1 ∙ (same ∙ begun.1), refl)
