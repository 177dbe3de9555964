-- The values that the SDK state machine takes and gives.
use Rattle.std.specs.Prelude.{ℕ, List, Option, option_map, map, codes}
use Rattle.std.specs.Cow.{cow_str_bytes}
use Rattle.std.specs.String.{string_bytes}
use Rattle.shared_core_base.specs.declared.command_type.CommandType.{CommandType}
use Rattle.shared_core_base.specs.declared.values.Value.{Value}
use Rattle.shared_core_base.specs.declared.values.Value.TheVariants as value
use Rattle.shared_core_base.specs.declared.values.NonEmptyValue.{NonEmptyValue}
use Rattle.shared_core_base.specs.declared.values.NonEmptyValue.TheVariants as outcome
use Rattle.shared_core_base.specs.declared.values.TerminalFailure.{TerminalFailure}
use Rattle.shared_core_base.specs.declared.values.Header.{Header}
use Rattle.shared_core_base.specs.declared.values.CommandRelationship.{CommandRelationship}
use Rattle.shared_core_base.specs.declared.values.CommandRelationship.TheVariants as relationship

-- The name of a value's variant.
abbrev pub variant_name_of : Value → List ℕ
variant_name_of value.Void = codes "Void"
variant_name_of (value.Success bytes) = codes "Success"
variant_name_of (value.Failure failure) = codes "Failure"
variant_name_of (value.StateKeys keys) = codes "StateKeys"
variant_name_of (value.InvocationId id) = codes "InvocationId"

-- The value with the same contents.
abbrev pub value_of_non_empty : NonEmptyValue → Value
value_of_non_empty (outcome.Success bytes) = value.Success bytes
value_of_non_empty (outcome.Failure failure) = value.Failure failure

-- The contents of a terminal failure, apart from where its texts are in memory.
pub record FailureParts : Type 0 where
  pub code : ℕ
  pub message : List ℕ
  pub metadata : List (List ℕ × List ℕ)

-- The parts of a terminal failure.
abbrev pub failure_parts : TerminalFailure → FailureParts
failure_parts failure = record {
  code = failure.code;
  message = string_bytes failure.message;
  metadata = map (λ pair. (string_bytes pair.0, string_bytes pair.1)) failure.metadata.items;
}

-- The contents of a value, apart from where its texts are in memory.
pub data ValueParts : Type 0 where
  Void : ValueParts
  Success : List ℕ → ValueParts
  Failure : FailureParts → ValueParts
  StateKeys : List (List ℕ) → ValueParts
  InvocationId : List ℕ → ValueParts

-- The parts of a value.
abbrev pub value_parts : Value → ValueParts
value_parts value.Void = Void
value_parts (value.Success bytes) = Success bytes
value_parts (value.Failure failure) = Failure (failure_parts failure)
value_parts (value.StateKeys keys) = StateKeys (map string_bytes keys.items)
value_parts (value.InvocationId id) = InvocationId (string_bytes id)

-- The bytes of a header's name and of its value.
abbrev pub header_parts : Header → List ℕ × List ℕ
header_parts header = (cow_str_bytes header.key, cow_str_bytes header.value)

-- The command that an error is about, apart from where its name is in memory.
pub data RelationshipParts : Type 0 where
  Last : RelationshipParts
  Next : CommandType → Option (List ℕ) → RelationshipParts
  Specific : ℕ → CommandType → Option (List ℕ) → RelationshipParts

-- The parts of the command that an error is about.
abbrev pub relationship_parts : CommandRelationship → RelationshipParts
relationship_parts relationship.Last = Last
relationship_parts (relationship.Next ty name) = Next ty (option_map cow_str_bytes name)
relationship_parts (relationship.Specific index ty name) = Specific index ty (option_map cow_str_bytes name)
