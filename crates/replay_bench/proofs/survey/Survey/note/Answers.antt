use Rattle.std.proofs.Common.{ap, ◌∙◌, refl}
use Rattle.replay_bench.specs.Survey.{is_command, is_malformed, is_other, is_skipped, is_unknown}
use Rattle.replay_bench.proofs.Surveys.{count_next_fits, survey_next}
use Rattle.replay_bench.proofs.survey.Survey.note.Goals as goal

pub count-requires : goal.count-requires
count-requires c =
    let (is_strict, items, is, small) = c.requires in
    count_next_fits is_command items c.args.item.now _ _ _ small (ap (λ s. s.commands) is)
    (ap (λ s. s.commands) c.note_fault.ensures) c.is_command-is_next_command.ensures

pub count-requires-2 : goal.count-requires-2
count-requires-2 c =
    let (is_strict, items, is, small) = c.requires in
    count_next_fits is_other items c.args.item.now _ _ _ small (ap (λ s. s.others) is)
    (ap (λ s. s.others) c.note_fault.ensures) c.is_other.ensures

pub count-requires-3 : goal.count-requires-3
count-requires-3 c =
    let (is_strict, items, is, small) = c.requires in
    count_next_fits is_unknown items c.args.item.now _ _ _ small (ap (λ s. s.unknown) is)
    (ap (λ s. s.unknown) c.note_fault.ensures) c.is_unknown.ensures

pub count-requires-4 : goal.count-requires-4
count-requires-4 c =
    let (is_strict, items, is, small) = c.requires in
    count_next_fits is_skipped items c.args.item.now _ _ _ small (ap (λ s. s.skipped) is)
    (ap (λ s. s.skipped) c.note_fault.ensures) c.is_skipped.ensures

pub count-requires-5 : goal.count-requires-5
count-requires-5 c =
    let (is_strict, items, is, small) = c.requires in
    let strict = ap (λ b. is_malformed c.args.version b c.args.item.now) (ap (λ s. s.is_strict) is) in
    count_next_fits (is_malformed c.args.version is_strict) items c.args.item.now _ _ _ small (ap (λ s. s.malformed) is)
    (ap (λ s. s.malformed) c.note_fault.ensures) (c.is_malformed-is_next_malformed.ensures ∙ strict)

pub returns-clause-noted : goal.returns-clause-noted
returns-clause-noted c = λ is_strict items is.
    rw (
      c.count.ensures,
      c.count-2.ensures,
      c.count-3.ensures,
      c.count-4.ensures,
      c.count-5.ensures,
      c.last_of-self.ensures,
      c.size.ensures,
      c.note_fault.ensures,
      c.is_command-is_next_command.ensures,
      c.is_other.ensures,
      c.is_unknown.ensures,
      c.is_skipped.ensures,
      c.is_malformed-is_next_malformed.ensures,
    )
    (survey_next c.args.version is_strict items c.args.item.now c.args.self.now _ is refl)
