-- How the making of a stream continues, and what is written when it ends.
use Rattle.std.proofs.Common.{◌≡◌, ℕ, suc, ◌+◌, List, [], ◌∷◌, ◌++◌, length, Option, Some, Result, Ok, Err, inl}
use Rattle.std.proofs.Common.{inr, refl, sym, ap, subst, ◌∙◌, append_assoc, append-nil, length-append}
use Rattle.std.specs.Io.KnownBytes.{Appends, Consumes, IsAtEnd, Keeps}
use Rattle.std.proofs.KnownBytes.{Appends-nil, Appends-trans, Consumes-nil, Consumes-trans, Consumes-kept}
use Rattle.make_lines.specs.Making.{Making}
use Rattle.stream_lines.specs.Printing.{Begins}
use Rattle.make_lines.specs.declared.error.MakeError.{MakeError}
use Rattle.make_lines.specs.declared.error.MakeError.TheVariants.{Input, Output, OutOfMemory, Line}
use Rattle.make_lines.specs.declared.stream.Lines.{Lines}
use Rattle.make_lines.specs.Lines.{line_made}
use Rattle.make_lines.specs.Appending.{IsRejected}
use Rattle.make_lines.specs.Made.{made, counted, BeginWith, AreLines, IsMade, StandsMade}
use Rattle.make_lines.specs.Steps.{IsStep, IsFinished}
use Rattle.make_lines.proofs.Taking.{none_yet, then_lines, then_bytes, all_lines, made_join, made_one, counted_more}
use Rattle.make_lines.proofs.Taking.{counted_next, counted_suc}

begins_join : (front xs ys : List ℕ) → Begins xs ys → Begins (front ++ xs) (front ++ ys)
begins_join front xs ys (more, e) = (more, ap (λ (zs : List ℕ). front ++ zs) e ∙ sym (append_assoc front xs more))

-- A making that is not at its end: what the complete lines mean is written, and the rest is pending.
pub record GoesOn (by : Making) (first start left out : Option (List ℕ)) (pending : List ℕ) (taken : ℕ) : Type 0
  where
    pub read : List ℕ
    pub lines : List (List ℕ)
    pub bytes : List ℕ
    pub split : AreLines read lines pending
    pub came : Consumes first left read
    pub meant : made (line_made by) lines ≡ Some bytes
    pub wrote : Appends start out bytes
    pub count : taken ≡ counted (length lines)

-- A making that has ended, as its contract says it.
abbrev pub HasEnded : Making → Option (List ℕ) → Option (List ℕ) → Option (List ℕ) → Option (List ℕ) → Result
    (Unit {0}) MakeError → Type 0
HasEnded by first start left out result =
    (read : List ℕ) × (written : List ℕ) × Consumes first left read × Appends start out written × IsMade by result
    read written left

-- an allocation fails before anything is read
pub out_at_once : (by : Making) (first start : Option (List ℕ)) → HasEnded by first start first start
    (Err OutOfMemory)
out_at_once by first start = (
  [],
  [],
  Consumes-nil first,
  Appends-nil start,
  record {
    lines = [];
    rest = [];
    split = record { begins = none_yet []; unended = refl };
    stands =
        ([], ([], refl), refl);
  },
)

module _ (by : Making) (first start : Option (List ℕ)) where
  starts : GoesOn by first start first start [] 0
  starts = record {
    read = [];
    lines = [];
    bytes = [];
    split = record { begins = none_yet []; unended = refl };
    came = Consumes-nil first;
    meant = refl;
    wrote = Appends-nil start;
    count = refl;
  }

  pub started : (pending : List ℕ) → pending ≡ [] → GoesOn by first start first start pending 0
  started pending e = subst (λ (xs : List ℕ). GoesOn by first start first start xs 0) (sym e) starts

  module _ (left out : Option (List ℕ)) (pending : List ℕ) (taken : ℕ)
      (so_far : GoesOn by first start left out pending taken) where
    pub ended_input : (now : Option (List ℕ)) → Keeps left now → HasEnded by first start now out (Err Input)
    ended_input now kept = (
      so_far.read,
      so_far.bytes,
      Consumes-kept first left now so_far.read so_far.came kept,
      so_far.wrote,
      record { lines = so_far.lines; rest = pending; split = so_far.split; stands = so_far.meant },
    )

    -- at the end of the input, the pending bytes are a line
    module _ (now grown : Option (List ℕ)) (written : List ℕ) (state : Lines) (came : Consumes left now [])
        (end : IsAtEnd now) (wrote : Appends out grown written)
        (held : state.pending.items ≡ pending) (count : state.taken ≡ taken) where
      came_all : Consumes first now so_far.read
      came_all = subst (Consumes first now) (append-nil so_far.read)
          (Consumes-trans first left now so_far.read [] so_far.came came)

      wrote_all : Appends start grown (so_far.bytes ++ written)
      wrote_all = Appends-trans start out grown so_far.bytes written so_far.wrote wrote

      then_ended : (result : Result (Unit {0}) MakeError) → StandsMade (line_made by) (IsRejected by) result
          so_far.lines pending (so_far.bytes ++ written) now → HasEnded by first start now grown result
      then_ended result stands = (
        so_far.read,
        so_far.bytes ++ written,
        came_all,
        wrote_all,
        record
            { lines = so_far.lines; rest = pending; split = so_far.split; stands = stands },
      )

      meant_last : (bytes : List ℕ) → line_made by state.pending.items ≡ Some bytes → made (line_made by)
          (so_far.lines ++ pending ∷ []) ≡ Some (so_far.bytes ++ bytes)
      meant_last bytes e =
          made_join (line_made by) so_far.lines (pending ∷ []) so_far.bytes bytes so_far.meant
          (made_one (line_made by) pending bytes (subst (λ (xs : List ℕ). line_made by xs ≡ Some bytes)
          held e))

      nothing_more : written ≡ [] → so_far.bytes ≡ so_far.bytes ++ written
      nothing_more e = sym (append-nil so_far.bytes) ∙ ap (λ (xs : List ℕ). so_far.bytes ++ xs) (sym e)

      pub ended_finish : (result : Result (Unit {0}) MakeError) → IsFinished (line_made by) (IsRejected by)
          result written state → HasEnded by first start now grown result
      ended_finish (Ok done) is = then_ended (Ok done) (end, meant_last written is)
      ended_finish (Err Input) is = absurd is
      ended_finish (Err Output) (bytes, e, b) = then_ended (Err Output) (
        so_far.lines ++ pending ∷ [],
        so_far.bytes ++ bytes,
        inr (end, refl),
        meant_last bytes e,
        begins_join
            so_far.bytes written bytes b,
      )
      ended_finish (Err OutOfMemory) e = then_ended (Err OutOfMemory) (
        so_far.lines,
        ([], sym (append-nil so_far.lines)),
        so_far.meant ∙ ap (λ (xs : List ℕ). Some xs)
            (nothing_more e),
      )
      ended_finish (Err (Line number error)) (e, n, c) = then_ended (Err (Line number error)) (
        so_far.lines,
        pending,
        inr (end, refl),
        so_far.meant ∙ ap (λ (xs : List ℕ). Some xs) (nothing_more e),
        subst (λ (xs : List ℕ). IsRejected by xs error) held n,
        c ∙ ap (λ (k : ℕ). counted (suc k)) count ∙ ap (λ (k : ℕ). counted (suc k)) so_far.count ∙ counted_suc
            (length so_far.lines),
      )

    -- a chunk was taken
    module _ (now grown : Option (List ℕ)) (chunk written : List ℕ) (old new : Lines) (came : Consumes left now chunk)
        (wrote : Appends out grown written)
        (held : old.pending.items ≡ pending) (count : old.taken ≡ taken) where
      came_more : Consumes first now (so_far.read ++ chunk)
      came_more = Consumes-trans first left now so_far.read chunk so_far.came came

      wrote_more : Appends start grown (so_far.bytes ++ written)
      wrote_more = Appends-trans start out grown so_far.bytes written so_far.wrote wrote

      then_begin : (ls : List (List ℕ)) (rest : List ℕ) → BeginWith (old.pending.items ++ chunk) ls rest → BeginWith
          (so_far.read ++ chunk) (so_far.lines ++ ls) rest
      then_begin ls rest b =
          then_lines (so_far.read ++ chunk) (pending ++ chunk) rest so_far.lines ls
          (then_bytes so_far.read pending chunk so_far.lines so_far.split.begins)
          (subst (λ (xs : List ℕ). BeginWith (xs ++ chunk) ls rest) held b)

      pub goes_on : IsStep (line_made by) (IsRejected by) (old.pending.items ++ chunk) (Ok tt) written old new
          → GoesOn by first start now grown new.pending.items new.taken
      goes_on (ls, are, e, none, n) = record {
        read = so_far.read ++ chunk;
        lines = so_far.lines ++ ls;
        bytes = so_far.bytes ++ written;
        split = record { begins = then_begin ls new.pending.items are.begins; unended = are.unended };
        came = came_more;
        meant = made_join (line_made by) so_far.lines ls so_far.bytes written so_far.meant e;
        wrote = wrote_more;
        count = n ∙ ap (λ (k : ℕ). counted (k + length ls)) (count ∙ so_far.count) ∙ counted_more (length so_far.lines)
            (length ls) ∙ ap counted (sym (length-append so_far.lines ls));
      }

      pub ended_step : (error : MakeError) → IsStep (line_made by) (IsRejected by)
          (old.pending.items ++ chunk) (Err error) written old new → HasEnded by first start now grown (Err error)
      ended_step Input is = absurd is
      ended_step Output (ls, rest, more, b, e, cut) =
          let (all, last, are, first_ones) = all_lines (so_far.read ++ chunk) rest (so_far.lines ++ ls)
          (then_begin ls rest b) in (
            so_far.read ++ chunk,
            so_far.bytes ++ written,
            came_more,
            wrote_more,
            record {
              lines = all;
              rest = last;
              split = are;
              stands = (
                so_far.lines ++ ls,
                so_far.bytes ++ more,
                inl first_ones,
                made_join (line_made by)
                    so_far.lines ls so_far.bytes more so_far.meant e,
                begins_join so_far.bytes written more cut,
              );
            },
          )
      ended_step OutOfMemory none =
          let (all, last, are, first_ones) = all_lines (so_far.read ++ chunk) (pending ++ chunk) so_far.lines
          (then_bytes so_far.read pending chunk so_far.lines so_far.split.begins) in (
            so_far.read ++ chunk,
            so_far.bytes ++ written,
            came_more,
            wrote_more,
            record {
              lines = all;
              rest = last;
              split = are;
              stands = (
                so_far.lines,
                first_ones,
                so_far.meant ∙ ap (λ (xs : List ℕ). Some xs)
                    (sym (append-nil so_far.bytes) ∙ ap (λ (xs : List ℕ). so_far.bytes ++ xs) (sym none)),
              );
            },
          )
      ended_step (Line number error) (ls, line, rest, b, e, n, c) =
          let joined = then_begin (ls ++ line ∷ []) rest b in
          let before = so_far.lines ++ ls in
          let until = subst (λ (xs : List (List ℕ)). BeginWith (so_far.read ++ chunk) xs rest)
          (sym (append_assoc so_far.lines ls (line ∷ []))) joined in
          let (all, last, are, first_ones) = all_lines (so_far.read ++ chunk) rest (before ++ line ∷ []) until in (
            so_far.read ++ chunk,
            so_far.bytes ++ written,
            came_more,
            wrote_more,
            record {
              lines = all;
              rest = last;
              split = are;
              stands = (
                before,
                line,
                inl first_ones,
                made_join (line_made by) so_far.lines ls so_far.bytes written so_far.meant e,
                n,
                c ∙ ap (λ (k : ℕ). counted (suc (k + length ls))) (count ∙ so_far.count) ∙ counted_next
                    (length so_far.lines) (length ls) ∙ ap (λ (k : ℕ). counted (suc k))
                    (sym (length-append so_far.lines ls)),
              );
            },
          )
