-- The messages of a set for the protocol's, by names and renames.
use Rattle.std.specs.Prelude.{◌≡◌, ℕ, ◌+◌, Bool, true, false, if◌then◌else◌, List, [], ◌∷◌, ◌++◌, codes}
use Rattle.std.specs.Prelude.{Option, Some, None, Result, Ok, Err, Vec, slice_get, slice_set}
use Rattle.std.specs.Option.{option_or}
use Rattle.std.specs.Str.{bytes_eq}
use Rattle.descriptor_set.specs.declared.set.DescriptorSet.{DescriptorSet}
use Rattle.schema_lines.specs.declared.error.SchemaError.{SchemaError}
use Rattle.schema_lines.specs.declared.error.SchemaError.TheVariants as error
use Rattle.schema_lines.specs.declared.named.Renamed.{Renamed}
use Rattle.schema_lines.specs.declared.renames.Rename.{Rename}
use Rattle.schema_lines.specs.declared.renames.RenameFault.{RenameFault}
use Rattle.schema_lines.specs.declared.renames.RenameFault.TheVariants as fault
use Rattle.schema_lines.specs.MessageNames.{message_names}
use Rattle.schema_lines.specs.Messages.{found_in, their_index}
use Rattle.schema_lines.specs.Names.{plain}

-- The index of the first of some names that has a plain form, counted from this one on.
abbrev pub place_in : List ℕ → ℕ → List (List ℕ) → Option ℕ
place_in key place [] = None
place_in key place (name ∷ names) = if bytes_eq (plain name) key then Some place else place_in key (place + 1) names

-- The index of the schema of a name of the protocol, in any form.
unfoldable pub our_place : List ℕ → Option ℕ
our_place name = place_in (plain name) 0 message_names

-- What renames say: the message of a set for each schema, if it has one, and the indices of these messages.
pub record State : Type 0 where
  pub named : List (Option ℕ)
  pub taken : List ℕ

abbrev pub state_of : Renamed → State
state_of renamed = record { named = renamed.named.items; taken = renamed.taken.items }

-- No message for each of some names.
abbrev pub none_of : List (List ℕ) → List (Option ℕ)
none_of [] = []
none_of (name ∷ names) = None ∷ none_of names

-- What no renames say.
unfoldable pub start : State
start = record { named = none_of message_names; taken = [] }

-- Whether a place is there and has no message.
abbrev pub is_free : Option (Option ℕ) → Bool
is_free None = false
is_free (Some None) = true
is_free (Some (Some message)) = false

-- One more message at a place; none may be there yet.
abbrev pub with_message : State → ℕ → ℕ → Result State RenameFault
with_message state place message =
    if is_free (slice_get state.named place)
    then Ok (record { named = slice_set state.named place (Some message); taken = state.taken ++ message ∷ [] })
    else Err fault.Twice

-- The same of a place and a message that may be unknown.
abbrev pub with_found : State → Option ℕ → Option ℕ → Result State RenameFault
with_found state None theirs = Err fault.UnknownHere
with_found state (Some place) None = Err fault.UnknownThere
with_found state (Some place) (Some message) = with_message state place message

-- The same of those that a rename names.
unfoldable pub renamed : DescriptorSet → State → Rename → Result State RenameFault
renamed set state rename = with_found state (our_place rename.ours.now) (their_index set rename.theirs.now)

-- What is said after one more rename, or what is wrong with that and its index.
abbrev pub after_one : ℕ → Result State RenameFault → (State → Result State (ℕ × RenameFault))
    → Result State (ℕ × RenameFault)
after_one index (Err wrong) next = Err (index, wrong)
after_one index (Ok state) next = next state

-- What renames from an index on say, after what earlier ones say; or the index of the first one that is wrong, and
-- what is wrong with it.
abbrev pub renamed_from : DescriptorSet → ℕ → State → List Rename → Result State (ℕ × RenameFault)
renamed_from set index state [] = Ok state
renamed_from set index state (rename ∷ rest) =
    after_one index (renamed set state rename) (λ next. renamed_from set (index + 1) next rest)

-- The messages for names: those of renames, or else those that are found.
abbrev pub filled : DescriptorSet → List ℕ → List (List ℕ) → List (Option ℕ) → List (Option ℕ)
filled set taken [] named = []
filled set taken (name ∷ names) [] = []
filled set taken (name ∷ names) (message ∷ named) =
    option_or message (found_in set taken name) ∷ filled set taken names named

abbrev pub filled_from : DescriptorSet → Result State (ℕ × RenameFault) → Result (List (Option ℕ)) (ℕ × RenameFault)
filled_from set (Err wrong) = Err wrong
filled_from set (Ok state) = Ok (filled set state.taken message_names state.named)

-- The message of a set for each schema, by its name; or the index of the first wrong rename, and what is wrong with it.
unfoldable pub named_of : DescriptorSet → List Rename → Result (List (Option ℕ)) (ℕ × RenameFault)
named_of set renames = filled_from set (renamed_from set 0 start renames)

-- The message of the later suspension, if it is found by this name or was before.
abbrev pub suspension_after : Option ℕ → List ℕ → Option ℕ → Option ℕ
suspension_after before name found = if bytes_eq name (codes "SuspensionMessage") then found else before

-- The message for a name: for the earlier suspension the later one, if there is no own one.
abbrev pub own_of : Option ℕ → List ℕ → Option ℕ → Option ℕ
own_of suspension name (Some found) = Some found
own_of suspension name None = if bytes_eq name (codes "SuspensionMessageV6") then suspension else None

-- The messages for names, after those before which the later suspension may be.
abbrev pub suspended : Option ℕ → List (List ℕ) → List (Option ℕ) → List (Option ℕ)
suspended before [] named = []
suspended before (name ∷ names) [] = []
suspended before (name ∷ names) (found ∷ named) =
    own_of (suspension_after before name found) name found
    ∷ suspended (suspension_after before name found) names named

-- The message of a set for each schema. If it has one suspension, it is that of each version.
unfoldable pub with_suspensions : List (Option ℕ) → List (Option ℕ)
with_suspensions named = suspended None message_names named

-- A rename is added: nothing is wrong with it, or this.
abbrev pub Adds : Result State RenameFault → State → Option RenameFault → Type 0
Adds wanted state None = wanted ≡ Ok state
Adds wanted state (Some fault) = wanted ≡ Err fault

-- The result of renames. An allocation may fail.
abbrev pub Renames : Result State (ℕ × RenameFault) → Result Renamed SchemaError → Type 0
Renames wanted (Ok renamed) = wanted ≡ Ok (state_of renamed)
Renames wanted (Err (error.Rename index fault)) = wanted ≡ Err (index, fault)
Renames wanted (Err error.OutOfMemory) = Unit {0}
Renames wanted (Err other) = ⊥

-- The result of finding the messages of a set for the protocol's. An allocation may fail.
abbrev pub FindsNamed : {Z : Type 0} → Result (List (Option ℕ)) (ℕ × RenameFault)
    → Result (Vec (Option ℕ) Z) SchemaError → Type 0
FindsNamed wanted (Ok named) = wanted ≡ Ok named.items
FindsNamed wanted (Err (error.Rename index fault)) = wanted ≡ Err (index, fault)
FindsNamed wanted (Err error.OutOfMemory) = Unit {0}
FindsNamed wanted (Err other) = ⊥
