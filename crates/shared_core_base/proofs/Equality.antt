-- A test of errors or values decides whether their parts are the same.
use Rattle.std.proofs.Common.{rules, ◌≡◌, ℕ, List, [], ◌∷◌, Some, None, Bool, eqb, refl, ap, ◌∙◌}
use Rattle.std.specs.Prelude.{Option, option_map, map, ◌&&◌, String, string_bytes, string_eq}
use Rattle.std.specs.Bool.{Decides}
use Rattle.std.specs.Cmp.Lexicographic.{pointwise, bytes_decides}
use Rattle.std.specs.Cow.{cow_str_bytes}
use Rattle.std.specs.Option.{option_eq}
use Rattle.std.specs.declared.borrow.CowStr.{CowStr}
use Rattle.std.specs.declared.alloc.Global.{Global}
use Rattle.std.specs.declared.time.Duration.{Duration}
use Rattle.std.proofs.lemmas.Bool.{eqb-true, eq-eqb, and_from, and_parts}
use Rattle.shared_core_base.proofs.Types.{types_equal, types_same}
use Rattle.shared_core_base.specs.contracts.header.MessageTypePartialEq.TheImpl as types
use Rattle.shared_core_base.specs.declared.error.CommandMetadata.{CommandMetadata}
use Rattle.shared_core_base.specs.declared.error.NotificationMetadata.{NotificationMetadata}
use Rattle.shared_core_base.specs.declared.error.NotificationMetadata.TheVariants as notification
use Rattle.shared_core_base.specs.declared.error.Error.{Error}
use Rattle.shared_core_base.specs.contracts.error.CommandMetadataPartialEq.TheImpl as commands
use Rattle.shared_core_base.specs.contracts.error.NotificationMetadataPartialEq.TheImpl as notifications
use Rattle.shared_core_base.specs.contracts.error.ErrorPartialEq.TheImpl as errors
use Rattle.shared_core_base.specs.contracts.error.ErrorBehaviorPartialEq.TheImpl as behaviors
use Rattle.shared_core_base.specs.contracts.command_type.CommandTypePartialEq.TheImpl as command_types
use Rattle.shared_core_base.specs.contracts.values.TerminalFailurePartialEq.TheImpl as failures
use Rattle.shared_core_base.specs.contracts.values.ValuePartialEq.TheImpl as values
use Rattle.shared_core_base.specs.contracts.values.CommandRelationshipPartialEq.TheImpl as relationships
use Rattle.shared_core_base.specs.declared.command_type.CommandType.{CommandType}
use Rattle.shared_core_base.specs.declared.error.ErrorBehavior.{ErrorBehavior}
use Rattle.shared_core_base.specs.declared.error.ErrorBehavior.TheVariants.{Retry, Pause}
use Rattle.shared_core_base.specs.declared.values.TerminalFailure.{TerminalFailure}
use Rattle.shared_core_base.specs.declared.values.Value.{Value}
use Rattle.shared_core_base.specs.declared.values.Value.TheVariants as value
use Rattle.shared_core_base.specs.declared.values.CommandRelationship.{CommandRelationship}
use Rattle.shared_core_base.specs.declared.values.CommandRelationship.TheVariants as relationship
use Rattle.shared_core_base.specs.Values.{failure_parts, value_parts, relationship_parts, Success, Failure, StateKeys}
use Rattle.shared_core_base.specs.Values.{InvocationId}
use Rattle.shared_core_base.specs.Error.{command_parts, notification_parts, error_parts, RelatedToCommand, Awakeable}

-- a test of two optional values decides as the test of two values does
options_decide : {X Y : Type 0} {test : X → X → Bool} {part : X → Y} →
    ((a b : X) → Decides (test a b) (part a ≡ part b)) → (a b : Option X) → Decides (option_eq test a b)
    (option_map part a ≡ option_map part b)
options_decide decides None None = (λ is. refl, λ same. refl)
options_decide decides (Some x) (Some y) = (λ is. ap Some ((decides x y).0 is), λ same. (decides x y).1 (cc))
options_decide decides a b = (λ is. cc, λ same. cc)

-- a test of two lists decides as the test of two elements does
lists_decide : {X Y : Type 0} {test : X → X → Bool} {part : X → Y} → ((a b : X) → Decides (test a b) (part a ≡ part b))
    → (xs ys : List X) → Decides (pointwise test xs ys) (map part xs ≡ map part ys)
lists_decide decides [] [] = (λ is. refl, λ same. refl)
lists_decide {test = test} decides (x ∷ xs) (y ∷ ys) = (
  λ is.
      let both = and_parts (test x y) (pointwise test xs ys) is in
      let first = (decides x y).0 both.0 in
      let others = (lists_decide decides xs ys).0 both.1 in
      cc,
  λ same. and_from _ _ ((decides x y).1 (cc)) ((lists_decide decides xs ys).1 (cc)),
)
lists_decide decides xs ys = (λ is. cc, λ same. cc)

-- texts
texts_decide : (a b : String Global) → Decides (string_eq a b) (string_bytes a ≡ string_bytes b)
texts_decide a b = bytes_decides (string_bytes a) (string_bytes b)

-- names
names_decide : (a b : Option (CowStr Global)) → Decides (option_eq
    (λ x y. pointwise eqb (cow_str_bytes x) (cow_str_bytes y)) a b)
    (option_map cow_str_bytes a ≡ option_map cow_str_bytes b)
names_decide = options_decide (λ x y. bytes_decides (cow_str_bytes x) (cow_str_bytes y))

-- commands' metadata
pub commands_decide : (a b : CommandMetadata) → Decides (commands.eq-value.it a b) (command_parts a ≡ command_parts b)
commands_decide a b = (
  λ is.
      let parts = and_parts (eqb a.index b.index) _ is in
      let others = and_parts (types.eq-value.it a.ty b.ty) _ parts.1 in
      let index_is = eqb-true a.index b.index parts.0 in
      let type_is = types_equal a.ty b.ty others.0 in
      let name_is = (names_decide a.name b.name).0 others.1 in
      cc,
  λ same.
      and_from _ _ (eq-eqb a.index b.index (ap (λ p. p.index) same))
      (and_from _ _ (types_same a.ty b.ty (ap (λ p. p.ty) same))
      ((names_decide a.name b.name).1 (ap (λ p. p.name) same))),
)

-- notifications' metadata
pub notifications_decide : (a b : NotificationMetadata) → Decides (notifications.eq-value.it a b)
    (notification_parts a ≡ notification_parts b)
notifications_decide (notification.RelatedToCommand x) (notification.RelatedToCommand y) =
    (λ is. ap RelatedToCommand ((commands_decide x y).0 is), λ same. (commands_decide x y).1 (cc))
notifications_decide (notification.Awakeable x) (notification.Awakeable y) =
    (λ is. ap Awakeable ((texts_decide x y).0 is), λ same. (texts_decide x y).1 (cc))
notifications_decide notification.Cancellation notification.Cancellation = (λ is. refl, λ same. refl)
notifications_decide a b = (λ is. cc, λ same. cc)

-- delays
delays_decide : (a b : Duration) → Decides (eqb a.secs b.secs && eqb a.nanos b.nanos) (a ≡ b)
delays_decide a b = (
  λ is.
      let both = and_parts (eqb a.secs b.secs) (eqb a.nanos b.nanos) is in
      let seconds_are = eqb-true a.secs b.secs both.0 in
      let nanoseconds_are = eqb-true a.nanos b.nanos both.1 in
      ap (λ (s : ℕ). delay s a.nanos) seconds_are ∙ ap (delay b.secs) nanoseconds_are,
  λ same. and_from _ _ (eq-eqb a.secs b.secs (ap (λ d. d.secs) same)) (eq-eqb a.nanos b.nanos (ap (λ d. d.nanos) same)),
)
  where
    delay : ℕ → ℕ → Duration
    delay s n = record { secs = s; nanos = n }

-- behaviors
behaviors_decide : (a b : ErrorBehavior) → Decides (behaviors.eq-value.it a b) (a ≡ b)
behaviors_decide Retry Retry = (λ is. refl, λ same. refl)
behaviors_decide Pause Pause = (λ is. refl, λ same. refl)
behaviors_decide a b = (λ is. cc, λ same. cc)

-- optional delays
optional_delays_decide : (a b : Option Duration) → Decides (option_eq (λ x y. eqb x.secs y.secs && eqb x.nanos y.nanos)
    a b) (a ≡ b)
optional_delays_decide None None = (λ is. refl, λ same. refl)
optional_delays_decide (Some x) (Some y) = (
  λ is. ap Some ((delays_decide x y).0 is),
  λ same. (delays_decide x y).1
      (cc),
)
optional_delays_decide a b = (λ is. cc, λ same. cc)

-- errors
pub errors_decide : (a b : Error) → Decides (errors.eq-value.it a b) (error_parts a ≡ error_parts b)
errors_decide a b = (
  λ is.
      let with_code = and_parts (eqb a.code b.code) _ is in
      let with_message = and_parts (pointwise eqb (cow_str_bytes a.message) (cow_str_bytes b.message)) _ with_code.1 in
      let with_command = and_parts (option_eq commands.eq-value.it a.related_command b.related_command) _ with_message.1
      in
      let with_delay = and_parts (option_eq (λ x y. eqb x.secs y.secs && eqb x.nanos y.nanos) a.next_retry_delay
      b.next_retry_delay) _ with_command.1 in
      let code_is = eqb-true a.code b.code with_code.0 in
      let message_is = (bytes_decides (cow_str_bytes a.message) (cow_str_bytes b.message)).0 with_message.0 in
      let command_is = (options_decide commands_decide a.related_command b.related_command).0 with_command.0 in
      let delay_is = (optional_delays_decide a.next_retry_delay b.next_retry_delay).0 with_delay.0 in
      let behavior_is = (behaviors_decide a.behavior b.behavior).0 with_delay.1 in
      cc,
  λ same.
      and_from _ _ (eq-eqb a.code b.code (ap (λ p. p.code) same))
      (and_from _ _ ((bytes_decides (cow_str_bytes a.message) (cow_str_bytes b.message)).1 (ap (λ p. p.message) same))
      (and_from _ _ ((options_decide commands_decide a.related_command b.related_command).1
      (ap (λ p. p.related_command) same))
      (and_from _ _ ((optional_delays_decide a.next_retry_delay b.next_retry_delay).1
      (ap (λ p. p.next_retry_delay) same))
      ((behaviors_decide a.behavior b.behavior).1 (ap (λ p. p.behavior) same))))),
)

-- the bytes of a pair of texts
abbrev text_pair : String Global × String Global → List ℕ × List ℕ
text_pair pair = (string_bytes pair.0, string_bytes pair.1)

-- pairs of texts
pairs_decide : (a b : String Global × String Global) → Decides (string_eq a.0 b.0 && string_eq a.1 b.1)
    (text_pair a ≡ text_pair b)
pairs_decide a b = (
  λ is.
      let both = and_parts (string_eq a.0 b.0) _ is in
      let first = (texts_decide a.0 b.0).0 both.0 in
      let second = (texts_decide a.1 b.1).0 both.1 in
      cc,
  λ same. and_from _ _ ((texts_decide a.0 b.0).1 (ap (λ p. p.0) same)) ((texts_decide a.1 b.1).1 (ap (λ p. p.1) same)),
)

-- terminal failures
pub failures_decide : (a b : TerminalFailure) → Decides (failures.eq-value.it a b) (failure_parts a ≡ failure_parts b)
failures_decide a b = (
  λ is.
      let with_code = and_parts (eqb a.code b.code) _ is in
      let with_message = and_parts (string_eq a.message b.message) _ with_code.1 in
      let code_is = eqb-true a.code b.code with_code.0 in
      let message_is = (texts_decide a.message b.message).0 with_message.0 in
      let metadata_is = (lists_decide pairs_decide a.metadata.items b.metadata.items).0 with_message.1 in
      cc,
  λ same.
      and_from _ _ (eq-eqb a.code b.code (ap (λ p. p.code) same))
      (and_from _ _ ((texts_decide a.message b.message).1 (ap (λ p. p.message) same))
      ((lists_decide pairs_decide a.metadata.items b.metadata.items).1 (ap (λ p. p.metadata) same))),
)

-- values
pub values_decide : (a b : Value) → Decides (values.eq-value.it a b) (value_parts a ≡ value_parts b)
values_decide value.Void value.Void = (λ is. refl, λ same. refl)
values_decide (value.Success x) (value.Success y) = (
  λ is. ap Success ((bytes_decides x y).0 is),
  λ same.
      (bytes_decides x y).1 (cc),
)
values_decide (value.Failure x) (value.Failure y) = (
  λ is. ap Failure ((failures_decide x y).0 is),
  λ same.
      (failures_decide x y).1 (cc),
)
values_decide (value.StateKeys x) (value.StateKeys y) = (
  λ is. ap StateKeys ((lists_decide texts_decide x.items y.items).0 is),
  λ same. (lists_decide texts_decide x.items y.items).1 (cc),
)
values_decide (value.InvocationId x) (value.InvocationId y) =
    (λ is. ap InvocationId ((texts_decide x y).0 is), λ same. (texts_decide x y).1 (cc))
values_decide a b = (λ is. cc, λ same. cc)

-- command types
command_types_decide : (a b : CommandType) → Decides (command_types.eq-value.it a b) (a ≡ b)
command_types_decide a b = search rules

-- commands that an error is about
pub relationships_decide : (a b : CommandRelationship) → Decides (relationships.eq-value.it a b)
    (relationship_parts a ≡ relationship_parts b)
relationships_decide relationship.Last relationship.Last = (λ is. refl, λ same. refl)
relationships_decide (relationship.Next ty name) (relationship.Next ty' name') = (
  λ is.
      let both = and_parts (command_types.eq-value.it ty ty') _ is in
      let type_is = (command_types_decide ty ty').0 both.0 in
      let name_is = (names_decide name name').0 both.1 in
      cc,
  λ same. and_from _ _ ((command_types_decide ty ty').1 (cc)) ((names_decide name name').1 (cc)),
)
relationships_decide (relationship.Specific index ty name) (relationship.Specific index' ty' name') = (
  λ is.
      let with_index = and_parts (eqb index index') _ is in
      let with_type = and_parts (command_types.eq-value.it ty ty') _ with_index.1 in
      let index_is = eqb-true index index' with_index.0 in
      let type_is = (command_types_decide ty ty').0 with_type.0 in
      let name_is = (names_decide name name').0 with_type.1 in
      cc,
  λ same. and_from _ _ (eq-eqb index index' (cc)) (and_from _ _ ((command_types_decide ty ty').1 (cc))
      ((names_decide name name').1 (cc))),
)
relationships_decide a b = (λ is. cc, λ same. cc)
