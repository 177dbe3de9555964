use Rattle.shared_core.proofs.Views.{schema_of_named, schema_within}
use Rattle.shared_core.proofs.laws.notifications_are_within_the_template.Goals as goal

pub returns-clause-named : goal.returns-clause-named
returns-clause-named c = schema_of_named

pub returns-clause-within : goal.returns-clause-within
returns-clause-within c ty s first last is = schema_within ty s first is
