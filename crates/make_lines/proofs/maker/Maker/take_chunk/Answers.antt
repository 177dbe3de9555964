use Rattle.std.proofs.Common.{◌≡◌, ℕ, suc, ◌+◌, ◌-◌, ◌^◌, ◌<◌, List, [], ◌∷◌, ◌++◌, length, take, drop, false, refl}
use Rattle.std.proofs.Common.{sym, ap, subst, ◌∙◌, append_assoc, append-nil, length-append, arith, rules}
use Rattle.std.proofs.lemmas.List.{length-take, length-drop}
use Rattle.make_lines.specs.Lines.{line_made}
use Rattle.make_lines.specs.Making.{making}
use Rattle.make_lines.specs.Made.{counted, has_newline, BeginWith}
use Rattle.make_lines.proofs.Taking.{none_yet, then_lines, line_found, rest_after, none_found, newline_append}
use Rattle.make_lines.proofs.Taking.{made_join, made_one, counted_suc}
use Rattle.make_lines.proofs.maker.Maker.take_chunk.Goals as goal

pub loop-at-init : goal.loop-at-init
loop-at-init g c =
    let fits : c.args.lines.now.taken < 2 ^ 64 = search rules in (
      c.requires,
      [],
      [],
      none_yet (c.args.lines.now.pending.items ++ c.args.chunk.now),
      refl,
      sym
          (append-nil c.args.lines.now.made.items),
      omega (arith, fits),
      omega arith,
    )

pub overflow_add-rest : goal.overflow_add-rest
overflow_add-rest g c =
    let (unended, ls, more, begins, meant, made_is, count, short) = c.loop-at.invariant in
    let fits : length c.args.chunk.now < 2 ^ 64 = search rules in
    omega (arith, c.in-Some.ensures.0.high, short, fits)

pub returns-in-Some-2 : goal.returns-in-Some-2
returns-in-Some-2 g c =
    let (unended, ls, more, begins, meant, made_is, count, short) = c.loop-at.invariant in
    let (none, here) = c.in-Some.ensures in
    let pending = c.loop-at.lines.pending.items in
    let rest = c.loop-at.rest.now in
    let at = c.in-Some.at in
    let line = pending ++ take at rest in
    let (rejected, kept, number) = rw c.in-Some-2.is at c.in_ok-rejected.ensures in (
      ls,
      line,
      drop (suc at) rest,
      more,
      then_lines _ (pending ++ rest) (drop (suc at) rest) ls (line ∷ []) begins
          (line_found pending rest line at unended none here refl),
      meant,
      kept ∙ made_is,
      rejected,
      number ∙ ap (λ (n : ℕ). counted (suc n)) count ∙ counted_suc (c.args.lines.now.taken + length ls),
    )

pub loop-at-preserved : goal.loop-at-preserved
loop-at-preserved g c =
    let made_of = line_made (making (g.M.LineTable.messages c.args.self.now.messages.now) c.args.self.now.version) in
    let (unended, ls, more, begins, meant, made_is, count, short) = c.loop-at.invariant in
    let (none, here) = c.in-Some.ensures in
    let pending = c.loop-at.lines.pending.items in
    let rest = c.loop-at.rest.now in
    let at = c.in-Some.at in
    let line = pending ++ take at rest in
    let (bytes, means, wrote, empty, number) = rw c.in_default-2.is at c.in_ok-rejected.ensures in (
      subst (λ (xs : List ℕ). has_newline xs ≡ false) (sym empty) refl,
      ls ++ line ∷ [],
      more ++ bytes,
      subst (BeginWith _ (ls ++ line ∷ [])) (rest_after c.take_line.new.lines.pending.items rest at empty)
          (then_lines _ (pending ++ rest) (drop (suc at) rest) ls (line ∷ []) begins
          (line_found pending rest line at unended none here refl)),
      made_join made_of ls (line ∷ []) more
          bytes meant
          (made_one made_of line bytes means),
      wrote ∙ ap (λ (xs : List ℕ). xs ++ bytes) made_is ∙ append_assoc c.args.lines.now.made.items more bytes,
      number ∙ ap (λ (n : ℕ). counted (suc n)) count ∙ counted_suc (c.args.lines.now.taken + length ls) ∙ ap counted
          (omega (arith, length-append ls (line ∷ []))),
      omega (arith, short, length-take (length rest - (at + 1)) (drop (at + 1) rest), length-drop (at + 1) rest),
    )

pub returns : goal.returns
returns g c =
    let (unended, ls, more, begins, meant, made_is, count, short) = c.loop-at.invariant in
    let pending = c.loop-at.lines.pending.items in
    let rest = c.loop-at.rest.now in
    let grown : c.extend_from_slice.new.self.items ≡ pending ++ rest = search rules in (
      ls,
      more,
      record {
        begins = subst (BeginWith _ ls) (sym grown) begins;
        unended = subst (λ (xs : List ℕ). has_newline xs ≡ false) (sym grown)
            (newline_append pending rest unended (none_found rest c.in_default.ensures));
      },
      meant,
      made_is,
      count,
    )
