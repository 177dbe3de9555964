-- Runs of bytes copied one after the other.
use Rattle.std.proofs.Common.{◌≡◌, ℕ, ◌+◌, ◌-◌, ◌≤◌, List, [], ◌++◌, length, take, drop, Option, Result, Ok, Err}
use Rattle.std.proofs.Common.{refl, sym, ap, ◌∙◌, subst, arith, append-nil, append_assoc, length-append, length-drop}
use Rattle.std.proofs.lemmas.List.{drop-append-le, drop_all, take-append-le, take_all}
use Rattle.stream_lines.specs.Printing.{Begins}
use Rattle.stream_parts.specs.Copying.{kept, slice, IsCopied, IsPassedOn, IsPassedOver}
use Rattle.stream_parts.specs.declared.copy.Part.{Part}
use Rattle.stream_parts.specs.declared.error.CopyError.{CopyError}
use Rattle.stream_parts.specs.declared.error.CopyError.TheVariants.{Input, Output, OutOfMemory, Ended}

-- nothing is received of a run that begins later
slice_none : (from until : ℕ) (l : List ℕ) → length l ≤ from → slice from until l ≡ []
slice_none from until l short =
    ap (take (until - from)) (drop_all from l short) ∙ take_all (until - from) [] (omega arith)

-- within a run, what comes is of it
slice_more : (from until : ℕ) (l more : List ℕ) → from ≤ length l → length l + length more ≤ until
    → slice from until (l ++ more) ≡ slice from until l ++ more
slice_more from until l more begun within =
    ap (take (until - from)) (drop-append-le from l more begun)
    ∙ take_all (until - from) (drop from l ++ more)
    (omega (arith, length-append (drop from l) more, length-drop from l, within, begun))
    ∙ ap (λ t. t ++ more) (sym (take_all (until - from) (drop from l) (omega (arith, length-drop from l, within))))

-- after a run, what comes is not of it
slice_stays : (from until : ℕ) (l more : List ℕ) → from ≤ until → until ≤ length l
    → slice from until (l ++ more) ≡ slice from until l
slice_stays from until l more order past =
    ap (take (until - from)) (drop-append-le from l more (omega (arith, order, past)))
    ∙ take-append-le (until - from) (drop from l) more (omega (arith, length-drop from l, order, past))

module _ (part : Part) (first : part.after ≤ part.front) (between : part.front ≤ part.from)
    (second : part.from ≤ part.until) where
  module _ (a : List ℕ) where
    -- before the first run
    kept_none : length a ≤ part.after → kept part a ≡ []
    kept_none short = rw (
      slice_none part.after part.front a short,
      slice_none part.from part.until a (omega (arith, short, first, between)),
    ) refl

    pub over_first : (error : CopyError) (left : Option (List ℕ)) → IsPassedOver part.after (Err error) a left
        → IsCopied part (Err error) a [] left
    over_first Input left short =
        (omega (arith, short, first, between, second), sym (kept_none (omega (arith, short))))
    over_first Ended left (end, short) =
        (end, omega (arith, short, first, between, second), sym (kept_none (omega (arith, short))))
    over_first Output left never = absurd never
    over_first OutOfMemory left never = absurd never

    module _ (is_a : length a ≡ part.after) (b : List ℕ) where
      -- within the first run
      kept_first : length b ≤ part.front - part.after → kept part (a ++ b) ≡ b
      kept_first short =
          ap (λ t. t ++ slice part.from part.until (a ++ b))
          (slice_more part.after part.front a b (omega (arith, is_a)) (omega (arith, is_a, short, first))
          ∙ ap (λ t. t ++ b) (slice_none part.after part.front a (omega (arith, is_a))))
          ∙ ap (λ t. b ++ t) (slice_none part.from part.until (a ++ b)
          (omega (arith, length-append a b, is_a, short, first, between)))
          ∙ append-nil b

      pub on_first : (error : CopyError) (written : List ℕ) (left : Option (List ℕ))
          → IsPassedOn (part.front - part.after) (Err error) b written left
          → IsCopied part (Err error) (a ++ b) written left
      on_first Input written left (short, is) = (
        omega (arith, length-append a b, is_a, short, first, between, second),
        is ∙ sym (kept_first (omega (arith, short))),
      )
      on_first Ended written left (end, short, is) = (
        end,
        omega (arith, length-append a b, is_a, short, first, between, second),
        is ∙ sym (kept_first (omega (arith, short))),
      )
      on_first Output written left (short, begins) = (
        omega (arith, length-append a b, is_a, short, first, between, second),
        subst (Begins written) (sym (kept_first short)) begins,
      )
      on_first OutOfMemory written left never = absurd never

      module _ (is_b : length b ≡ part.front - part.after) (d : List ℕ) where
        -- between the runs
        kept_between : length d ≤ part.from - part.front → kept part ((a ++ b) ++ d) ≡ b
        kept_between short =
            ap (λ t. t ++ slice part.from part.until ((a ++ b) ++ d))
            (slice_stays part.after part.front (a ++ b) d first (omega (arith, length-append a b, is_a, is_b, first))
            ∙ slice_more part.after part.front a b (omega (arith, is_a)) (omega (arith, is_a, is_b, first))
            ∙ ap (λ t. t ++ b) (slice_none part.after part.front a (omega (arith, is_a))))
            ∙ ap (λ t. b ++ t) (slice_none part.from part.until ((a ++ b) ++ d)
            (omega (arith, length-append (a ++ b) d, length-append a b, is_a, is_b, short, first, between)))
            ∙ append-nil b

        pub over_second : (error : CopyError) (left : Option (List ℕ))
            → IsPassedOver (part.from - part.front) (Err error) d left
            → IsCopied part (Err error) ((a ++ b) ++ d) b left
        over_second Input left short = (
          omega (arith, length-append (a ++ b) d, length-append a b, is_a, is_b, short, first, between, second),
          sym (kept_between (omega (arith, short))),
        )
        over_second Ended left (end, short) = (
          end,
          omega (arith, length-append (a ++ b) d, length-append a b, is_a, is_b, short, first, between, second),
          sym (kept_between (omega (arith, short))),
        )
        over_second Output left never = absurd never
        over_second OutOfMemory left never = absurd never

        module _ (is_d : length d ≡ part.from - part.front) (e : List ℕ) where
          long : length ((a ++ b) ++ d) ≡ part.from
          long = omega (arith, length-append (a ++ b) d, length-append a b, is_a, is_b, is_d, first, between)

          -- within the second run
          kept_second : length e ≤ part.until - part.from → kept part (((a ++ b) ++ d) ++ e) ≡ b ++ e
          kept_second short =
              ap (λ t. t ++ slice part.from part.until (((a ++ b) ++ d) ++ e))
              (slice_stays part.after part.front ((a ++ b) ++ d) e first (omega (arith, long, between))
              ∙ slice_stays part.after part.front (a ++ b) d first
              (omega (arith, length-append a b, is_a, is_b, first))
              ∙ slice_more part.after part.front a b (omega (arith, is_a)) (omega (arith, is_a, is_b, first))
              ∙ ap (λ t. t ++ b) (slice_none part.after part.front a (omega (arith, is_a))))
              ∙ ap (λ t. b ++ t)
              (slice_more part.from part.until ((a ++ b) ++ d) e (omega (arith, long))
              (omega (arith, long, short, second))
              ∙ ap (λ t. t ++ e) (slice_none part.from part.until ((a ++ b) ++ d) (omega (arith, long))))

          pub on_second : (result : Result Unit CopyError) (written : List ℕ) (left : Option (List ℕ))
              → IsPassedOn (part.until - part.from) result e written left
              → IsCopied part result (((a ++ b) ++ d) ++ e) (b ++ written) left
          on_second (Ok done) written left (whole, is) = (
            length-append ((a ++ b) ++ d) e ∙ omega (arith, long, whole, second),
            ap (λ t. b ++ t) is ∙ sym (kept_second (omega (arith, whole))),
          )
          on_second (Err Input) written left (short, is) = (
            omega (arith, length-append ((a ++ b) ++ d) e, long, short, second),
            ap (λ t. b ++ t) is ∙ sym (kept_second (omega (arith, short))),
          )
          on_second (Err Ended) written left (end, short, is) = (
            end,
            omega (arith, length-append ((a ++ b) ++ d) e, long, short, second),
            ap (λ t. b ++ t) is ∙ sym (kept_second (omega (arith, short))),
          )
          on_second (Err Output) written left (short, (more, is)) = (
            omega (arith, length-append ((a ++ b) ++ d) e, long, short, second),
            (
              more,
              kept_second short ∙ ap (λ t. b ++ t) is ∙ sym (append_assoc b written more),
            ),
          )
          on_second (Err OutOfMemory) written left never = absurd never
