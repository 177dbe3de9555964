use Rattle.std.proofs.Common.{List, ℕ, ap}
use Rattle.show_lines.specs.Words.{Said}
use Rattle.show_lines.proofs.Reading.{first_is}
use Rattle.show_lines.proofs.filter.first_word.Goals as goal

pub returns-clause-word : goal.returns-clause-word
returns-clause-word c =
    let is =
    first_is c.args.text.now c.split_mark-is_without.result.0 c.split_mark-is_without.result.1.now
    c.field_of-field.result.0 c.field_of-field.result.1.now c.split_mark-is_phrase.result.0
    c.split_mark-is_phrase.result.1.now c.end_of.result c.split_end.result.0.now c.split_end.result.1.now
    c.split_mark-is_without.ensures.begins c.split_mark-is_without.ensures.rest c.field_of-field.ensures.field
    c.field_of-field.ensures.rest c.split_mark-is_phrase.ensures.begins c.split_mark-is_phrase.ensures.rest
    c.end_of.ensures.value c.split_end.ensures.before c.split_end.ensures.after in
    ap (λ (said : Said × List ℕ). said.0) is

pub returns-clause-after : goal.returns-clause-after
returns-clause-after c =
    let is =
    first_is c.args.text.now c.split_mark-is_without.result.0 c.split_mark-is_without.result.1.now
    c.field_of-field.result.0 c.field_of-field.result.1.now c.split_mark-is_phrase.result.0
    c.split_mark-is_phrase.result.1.now c.end_of.result c.split_end.result.0.now c.split_end.result.1.now
    c.split_mark-is_without.ensures.begins c.split_mark-is_without.ensures.rest c.field_of-field.ensures.field
    c.field_of-field.ensures.rest c.split_mark-is_phrase.ensures.begins c.split_mark-is_phrase.ensures.rest
    c.end_of.ensures.value c.split_end.ensures.before c.split_end.ensures.after in
    ap (λ (said : Said × List ℕ). said.1) is
