-- Results of notifications.
use Rattle.shared_core_parts.specs.declared.notification_template.Result.{Result}
use Rattle.shared_core_parts.specs.declared.notification_template.Result.TheVariants.{Failure}

-- The result is a failure.
abbrev pub IsFailure : Result → Type 0
IsFailure (Failure failure) = Unit {0}
IsFailure other = ⊥
