use Rattle.std.proofs.Common.{◌≡◌, ℕ, ◌+◌, ◌-◌, ◌<◌, List, [], false, Result, Ok, Err, length, refl}
use Rattle.std.proofs.Common.{subst, sym, ap, ◌∙◌}
use Rattle.std.proofs.Common.{arith, rules}
use Rattle.std.proofs.lemmas.Bool.Decides.{nat_tests}
use Rattle.std.specs.StrCase.Lower.{str_to_lowercase}
use Rattle.show_lines.specs.Words.{Said, Adds, Reads, Refuses, first_said}
use Rattle.show_lines.specs.declared.filter.Filter.{Filter}
use Rattle.show_lines.specs.declared.filter.FilterError.{FilterError}
use Rattle.show_lines.proofs.Reading.{error_is, reads_next, reads_refused, reads_end, reads_over}
use Rattle.show_lines.proofs.filter.Filter.parse.Goals as goal
use Rattle.show_lines.proofs.filter.Filter.parse.Goals.{else-loop-test, then-loop-test+then-is_empty}

pub returns-in_err-add : goal.returns-in_err-add
returns-in_err-add c known =
    let e : FilterError = c.in_err-add.field-0.0 in
    let is = error_is c.from_residual-in_err-add.result e c.from_residual-in_err-add.ensures.1 in
    let some : 0 < length c.loop.rest.now = grind (arith, nat_tests) in
    let turns : 0 < c.len-end.result - c.loop.counter = omega arith in
    let refuses = c.in_err-add.ensures.refused (λ lacking. known (is ∙ ap (λ (x : FilterError). Err x) lacking)) in
    subst (λ (result : Result Filter FilterError). Reads (length (str_to_lowercase c.args.text.now))
    (str_to_lowercase c.args.text.now) [] false result) (sym is)
    (c.loop.invariant.read (Err e) (reads_refused (c.len-end.result - c.loop.counter) c.loop.rest.now
    c.loop.filter.words.items c.loop.filter.«open» e some turns
    (subst (λ (said : Said). Refuses said e) c.first_word.ensures.word refuses)))

pub loop-preserved : goal.loop-preserved
loop-preserved c =
    let some : 0 < length c.loop.rest.now = grind (arith, nat_tests) in
    let turns : 0 < c.len-end.result - c.loop.counter = omega arith in
    let less : c.len-end.result - (c.loop.counter + 1) ≡ c.len-end.result - c.loop.counter - 1 = omega arith in
    let words = c.loop.filter.words.items in
    let more = c.add.new.self.words.items in
    let now = c.add.new.self.«open» in
    let adds =
    subst (λ (said : Said). Adds said words c.loop.filter.«open» more now) c.first_word.ensures.word
    c.in_ok-add.ensures.added in
    record {
      utf8 = search rules;
      read =
          λ (result : Result Filter FilterError) (reads : Reads (c.len-end.result - (c.loop.counter + 1))
          c.first_word.result.1.now more now result).
          c.loop.invariant.read result (reads_next (c.len-end.result - c.loop.counter) c.loop.rest.now words
          c.loop.filter.«open» more now result some turns adds
          (subst (λ (n : ℕ). Reads n (first_said c.loop.rest.now).1 more now result) less
          (subst (λ (after : List ℕ). Reads (c.len-end.result - (c.loop.counter + 1)) after more now result)
          c.first_word.ensures.after reads)));
    }

pub returns : goal.returns
returns c known = elim c.loop-test.branch [
  | else-loop-test w ↦
      let over : c.len-end.result - c.loop.counter ≡ 0 = omega arith in
      c.loop.invariant.read (Ok c.loop.filter) (reads_over (c.len-end.result - c.loop.counter) c.loop.rest.now
      c.loop.filter.words.items c.loop.filter.«open» (Ok c.loop.filter) over (refl, refl))
  | then-loop-test+then-is_empty w ↦
      let none : length c.loop.rest.now ≡ 0 = grind (arith, nat_tests) in
      c.loop.invariant.read (Ok c.loop.filter) (reads_end (c.len-end.result - c.loop.counter) c.loop.rest.now
      c.loop.filter.words.items c.loop.filter.«open» (Ok c.loop.filter) none (refl, refl))
]
