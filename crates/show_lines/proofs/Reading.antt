-- The words of a filter, read one after another.
use Rattle.std.proofs.Common.{◌≡◌, ℕ, zero, suc, ◌-◌, ◌<◌, List, [], ◌∷◌, Bool, Option, Result, Ok, Err, length, refl}
use Rattle.std.proofs.Common.{ap, subst}
use Rattle.std.proofs.Common.{inl, inr, arith, codes}
use Rattle.std.specs.Prelude.{◌==◌, eqb, IsErrAnd}
use Rattle.std.specs.List.{starts_with, before_first, after_first}
use Rattle.show_lines.specs.Words.{Adds, IsFilter, Reads, Refuses, end_of, field_said, fields, first_said}
use Rattle.show_lines.specs.Words.{without_mark}
use Rattle.show_lines.specs.declared.filter.FieldName.{FieldName}
use Rattle.show_lines.specs.declared.filter.Filter.{Filter}
use Rattle.show_lines.specs.declared.filter.FilterError.{FilterError}
use Rattle.show_lines.specs.declared.filter.Word.{Word}

-- what the steps from the beginning of a word on find is the first word
pub first_is : (text : List ℕ) (without : Bool) (marked : List ℕ) (field : Option FieldName) (unfielded : List ℕ)
    (phrase : Bool) (unquoted : List ℕ) (end : ℕ) (before after : List ℕ) → without ≡ starts_with eqb text (codes "-") →
    marked ≡ without_mark (codes "-") text → field ≡ (field_said fields marked).0 → unfielded
    ≡ (field_said fields marked).1 → phrase ≡ starts_with eqb unfielded (codes "\"") → unquoted
    ≡ without_mark (codes "\"") unfielded → end ≡ end_of phrase → before
    ≡ before_first (λ (byte : ℕ). byte == end) unquoted → after ≡ after_first (λ (byte : ℕ). byte == end) unquoted
    → (record { is_without = without; field = field; is_phrase = phrase; text = before }, after) ≡ first_said text
first_is text without marked field unfielded phrase unquoted end before after is_without is_marked is_field is_rest
    is_phrase is_unquoted is_end is_before is_after = rw
    (is_without, is_before, is_after, is_end, is_unquoted, is_phrase, is_field, is_rest, is_marked) refl

-- the next word adds something, and the rest is read
pub reads_next : (n : ℕ) (rest : List ℕ) (words : List Word) (opens : Bool) (more : List Word) (now : Bool)
    (result : Result Filter FilterError) → 0 < length rest → 0 < n → Adds (first_said rest).0 words opens more now →
    Reads (n - 1) (first_said rest).1 more now result → Reads n rest words opens result
reads_next n [] words opens more now result some turns adds reads = absurd (omega (arith, some))
reads_next zero (byte ∷ bytes) words opens more now result some turns adds reads = absurd (omega (arith, turns))
reads_next (suc n) (byte ∷ bytes) words opens more now result some turns adds reads =
    let less : suc n - 1 ≡ n = omega arith in
    inr (more, now, adds, subst (λ (m : ℕ). Reads m (first_said (byte ∷ bytes)).1 more now result) less reads)

-- the next word is refused
pub reads_refused : (n : ℕ) (rest : List ℕ) (words : List Word) (opens : Bool) (e : FilterError) → 0 < length rest → 0 <
    n → Refuses (first_said rest).0 e → Reads n rest words opens (Err e)
reads_refused n [] words opens e some turns refuses = absurd (omega (arith, some))
reads_refused zero (byte ∷ bytes) words opens e some turns refuses = absurd (omega (arith, turns))
reads_refused (suc n) (byte ∷ bytes) words opens e some turns refuses = inl refuses

-- nothing is n to read
pub reads_end : (n : ℕ) (rest : List ℕ) (words : List Word) (opens : Bool) (result : Result Filter FilterError) →
    length rest ≡ 0 → IsFilter words opens result → Reads n rest words opens result
reads_end zero rest words opens result none is = is
reads_end (suc n) [] words opens result none is = is
reads_end (suc n) (byte ∷ bytes) words opens result none is =
    let some : suc (length bytes) ≡ 0 = none in
    absurd (omega (arith, some))

-- nothing may be read any more
pub reads_over : (n : ℕ) (rest : List ℕ) (words : List Word) (opens : Bool) (result : Result Filter FilterError) → n ≡
    0 → IsFilter words opens result → Reads n rest words opens result
reads_over zero rest words opens result over is = is
reads_over (suc n) rest words opens result over is = absurd (omega (arith, over))

-- the error that is passed on
pub error_is : (result : Result Filter FilterError) (e : FilterError) → IsErrAnd result (λ found. found ≡ e)
    → result ≡ Err e
error_is (Ok filter) e is = absurd is
error_is (Err found) e is = ap (λ (error : FilterError). Err error) is
