use Rattle.terminal_text.proofs.Lossy.{front_shown, none_shown, whole_shown}
use Rattle.terminal_text.proofs.texts.front_text.Goals as goal

pub returns-in-Ok-clause-text : goal.returns-in-Ok-clause-text
returns-in-Ok-clause-text c = whole_shown _ _ c.in-Ok.ensures.cases

pub returns-then-valid-eq0-clause-text : goal.returns-then-valid-eq0-clause-text
returns-then-valid-eq0-clause-text c = none_shown _ _ (cc) c.in-Err.ensures.cases.1

pub returns-clause-text : goal.returns-clause-text
returns-clause-text c = front_shown _ _ c.in-Ok-from_utf8.ensures.cases
