-- Which message of a set a name finds.
use Rattle.std.specs.Prelude.{◌≡◌, ℕ, ◌+◌, ◌-◌, ◌==◌, Bool, true, false, not, ◌&&◌, ◌||◌, nat_lt, if◌then◌else◌}
use Rattle.std.specs.Prelude.{List, [], ◌∷◌, map, length, codes, Option, Some, None, Vec}
use Rattle.std.specs.List.{list_any, position}
use Rattle.std.specs.Option.{option_map, option_or}
use Rattle.std.specs.Str.{bytes_eq}
use Rattle.std.specs.String.{string_bytes}
use Rattle.descriptor_set.specs.declared.set.DescriptorSet.{DescriptorSet}
use Rattle.descriptor_set.specs.declared.set.MessageDescriptor.{MessageDescriptor}
use Rattle.schema_lines.specs.declared.messages.Fit.{Fit}
use Rattle.schema_lines.specs.declared.messages.Messages.{Messages}
use Rattle.schema_lines.specs.declared.messages.Wanted.{Wanted}
use Rattle.schema_lines.specs.Names.{depth, last_name, plain}

-- The full name of a message, its last name, and the plain form of that.
abbrev pub full_name_of : MessageDescriptor → List ℕ
full_name_of message = string_bytes message.name

abbrev pub last_name_of : MessageDescriptor → List ℕ
last_name_of message = last_name (full_name_of message)

abbrev pub key_of : MessageDescriptor → List ℕ
key_of message = plain (last_name_of message)

abbrev pub keys_of : List MessageDescriptor → List (List ℕ)
keys_of messages = map key_of messages

-- What lists of the program are.
abbrev pub items_of : {Z : Type 0} → List (Vec ℕ Z) → List (List ℕ)
items_of lists = map (λ list. list.items) lists

-- The messages of a set are with the plain forms of their last names.
abbrev pub HasKeys : Messages → Type 0
HasKeys messages = items_of messages.keys.now ≡ keys_of messages.set.now.messages.items

-- A name that a message is looked for by; the indices of those that are not found; and the number of files.
pub record Search : Type 0 where
  pub name : List ℕ
  pub taken : List ℕ
  pub files : ℕ

abbrev pub search_of : Wanted → Search
search_of wanted = record { name = wanted.name.now; taken = wanted.taken.now; files = wanted.files }

-- Whether a message is protobuf's without fields, and the name is that of the protocol's.
abbrev pub is_empty_message : List ℕ → MessageDescriptor → Bool
is_empty_message name message =
    bytes_eq name (codes "Void") && (bytes_eq (last_name_of message) (codes "Empty")
    && length message.fields.items == 0)

-- Whether a message has a name in some form.
abbrev pub is_called : List ℕ → MessageDescriptor → Bool
is_called name message = bytes_eq (key_of message) (plain name) || is_empty_message name message

-- How well the message of an index fits.
unfoldable pub fit_of : Search → ℕ → MessageDescriptor → Fit
fit_of search index message =
    record {
      index = index;
      is_other = not (bytes_eq (last_name_of message) search.name);
      files_after = search.files - message.file;
      depth = depth (full_name_of message);
    }

-- The same, if it has the name in some form and is not taken.
unfoldable pub candidate : Search → ℕ → MessageDescriptor → Option Fit
candidate search index message =
    if is_called search.name message && not (list_any (λ taken. taken == index) search.taken)
    then Some (fit_of search index message) else None

-- Of two names that are the same or have only the same plain form, whether the first one is before the other one; or
-- else this.
abbrev pub is_closer : Bool → Bool → Bool → Bool
is_closer true false rest = false
is_closer false true rest = true
is_closer true true rest = rest
is_closer false false rest = rest

-- Whether a message fits better than an earlier one: its last name is the same, or else its file is a later one, since
-- what a file imports comes before it, or else it is less deep.
abbrev pub is_better : Fit → Fit → Bool
is_better one earlier =
    is_closer one.is_other earlier.is_other
    (if one.files_after == earlier.files_after then nat_lt one.depth earlier.depth
    else nat_lt one.files_after earlier.files_after)

-- The one of two that fits better, if there is one; the first one if neither does.
abbrev pub better : Option Fit → Option Fit → Option Fit
better None one = one
better (Some earlier) None = Some earlier
better (Some earlier) (Some one) = if is_better one earlier then Some one else Some earlier

-- The one that fits best, of one that may be there and messages from an index on.
abbrev pub best_from : Search → ℕ → Option Fit → List MessageDescriptor → Option Fit
best_from search index best [] = best
best_from search index best (message ∷ rest) =
    best_from search (index + 1) (better best (candidate search index message)) rest

-- The index of the message of a set that fits a name best. Those that are taken are not found.
unfoldable pub found_in : DescriptorSet → List ℕ → List ℕ → Option ℕ
found_in set taken name =
    option_map (λ fit. fit.index)
    (best_from (record { name = name; taken = taken; files = length set.files.items }) 0 None set.messages.items)

-- The index of the message of a full name.
abbrev pub full_index : List MessageDescriptor → List ℕ → Option ℕ
full_index messages name = position (λ message. bytes_eq (full_name_of message) name) messages

-- The index of the message of a set of a full name, or else of a last name.
unfoldable pub their_index : DescriptorSet → List ℕ → Option ℕ
their_index set name = option_or (full_index set.messages.items name) (found_in set [] name)
