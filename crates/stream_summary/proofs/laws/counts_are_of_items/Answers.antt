use Rattle.std.proofs.Common.{refl, true}
use Rattle.show_lines.specs.Lines.{is_command, item_facts}
use Rattle.stream_summary.specs.Summary.{is_notification}
use Rattle.stream_summary.proofs.Counting.{counts_are}
use Rattle.stream_summary.proofs.laws.counts_are_of_items.Goals as goal

pub returns-clause-all : goal.returns-clause-all
returns-clause-all c = λ version items. counts_are version (λ item. true) (λ seen. seen.all)
    (λ seen item. refl) refl items

pub returns-clause-commands : goal.returns-clause-commands
returns-clause-commands c = λ version items. counts_are version (λ item. is_command (item_facts version item))
    (λ seen. seen.commands) (λ seen item. refl) refl items

pub returns-clause-notifications : goal.returns-clause-notifications
returns-clause-notifications c = λ version items. counts_are version
    (λ item. is_notification (item_facts version item)) (λ seen. seen.notifications) (λ seen item. refl) refl items
