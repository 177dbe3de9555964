use Rattle.std.proofs.Common.{◌<◌, ◌≤◌, ◌^◌, ◌≡◌, ℕ, ◌-◌, List, [], length, drop, sym, ap, ◌∙◌, Result, Ok, Err}
use Rattle.std.specs.Prelude.{codes, OnOk}
use Rattle.explain_lines.specs.declared.piece.FieldAt.{FieldAt}
use Rattle.explain_lines.specs.Explanation.{Explanation, all_lines, explained}
use Rattle.explain_lines.specs.Lines.{Told, bytes_of, show, with_line}
use Rattle.explain_lines.specs.State.{told}
use Rattle.explain_lines.proofs.Explaining.{shown_with_rest, shown_without_rest, size_shown}
use Rattle.explain_lines.proofs.payload.explain_all.Goals as goal

-- What was shown, within no field.
shown_at_top : (t u : Told) (path : List FieldAt) (s : ℕ) (bytes : List ℕ) → path ≡ [] → u
    ≡ show t (explained 100 path s bytes).lines → u ≡ show t (explained 100 [] s bytes).lines
shown_at_top t u path s bytes outside shown =
    shown ∙ ap (λ (p : List FieldAt). show t (explained 100 p s bytes).lines) outside

-- The bytes after those that have lines.
rest_is : (t u : Told) (path : List FieldAt) (s : ℕ) (bytes rest : List ℕ) (size : ℕ) → path ≡ [] → t.count ≤ 8 → length
    bytes < 2 ^ 64 → u ≡ show t (explained 100 path s bytes).lines → size ≡ u.count - t.count → rest ≡ drop size bytes →
    rest ≡ drop (length (bytes_of (explained 100 [] s bytes).lines)) bytes
rest_is t u path s bytes rest size outside few short shown sized is =
    is ∙ ap (λ (n : ℕ). drop n bytes) (sized ∙ size_shown t u path s bytes outside few short shown)

-- The line of the rest, after what was shown.
with_rest : {T E : Type 0} (result : Result T E) (t u v : Told) (p₀ p₁ p₂ : List FieldAt) (e : Explanation)
    (bytes rest : List ℕ) → OnOk result ((v ≡ with_line u (record {
      path = p₁;
      bytes = rest;
      says = codes
          "not explained";
    })) × (p₂ ≡ p₁)) → u ≡ show t e.lines → p₁ ≡ p₀ → p₀ ≡ [] → rest
    ≡ drop (length (bytes_of e.lines)) bytes → (length rest ≡ 0 → ⊥) → OnOk result ((v ≡ show t (all_lines e bytes))
    × (p₂ ≡ p₀))
with_rest (Ok x) t u v p₀ p₁ p₂ e bytes rest added shown same outside is some = (
  added.0
      ∙ (ap (λ (x : Told). with_line x (record { path = p₁; bytes = rest; says = codes "not explained" })) shown
      ∙ (ap (λ (p : List FieldAt). with_line (show t e.lines) (record {
        path = p;
        bytes = rest;
        says = codes "not explained";
      })) (same ∙ outside)
      ∙ (ap (λ (b : List ℕ). with_line (show t e.lines) (record { path = []; bytes = b; says = codes "not explained" }))
      is
      ∙ sym (shown_with_rest t e bytes (λ none. some (ap length is ∙ none)))))),
  added.1 ∙ same,
)
with_rest (Err x) t u v p₀ p₁ p₂ e bytes rest added shown same outside is some = added

pub returns-then-rest-eq0 : goal.returns-then-rest-eq0
returns-then-rest-eq0 c =
    let t = told c.args.lines.now in
    let u = told c.explain_records.new.lines in
    let added = c.in_ok-explain_records.ensures in
    let shown = shown_at_top t u c.args.lines.now.path.items c.args.schema c.args.payload.now c.requires.outside added.0
    in
    let is = rest_is t u c.args.lines.now.path.items c.args.schema c.args.payload.now c.rest_after-rest.result.now
    c.saturating_sub.result c.requires.outside c.requires.header c.rest_after-rest.ensures.short added.0
    c.saturating_sub.ensures c.rest_after-rest.ensures.rest in (
      shown ∙ sym (shown_without_rest t (explained 100 [] c.args.schema c.args.payload.now) c.args.payload.now
          (ap (λ (b : List ℕ). length b) (sym is) ∙ c.if-rest-eq0.true)),
      added.1,
    )

pub returns : goal.returns
returns c =
    let t = told c.args.lines.now in
    let u = told c.explain_records.new.lines in
    let added = c.in_ok-explain_records.ensures in
    let shown = shown_at_top t u c.args.lines.now.path.items c.args.schema c.args.payload.now c.requires.outside added.0
    in
    let is = rest_is t u c.args.lines.now.path.items c.args.schema c.args.payload.now c.rest_after-rest.result.now
    c.saturating_sub.result c.requires.outside c.requires.header c.rest_after-rest.ensures.short added.0
    c.saturating_sub.ensures c.rest_after-rest.ensures.rest in
    with_rest c.add.result t u (told c.add.new.self) c.args.lines.now.path.items c.explain_records.new.lines.path.items
    c.add.new.self.path.items (explained 100 [] c.args.schema c.args.payload.now) c.args.payload.now
    c.rest_after-rest.result.now c.add.ensures shown added.1 c.requires.outside is c.if-rest-eq0.false
