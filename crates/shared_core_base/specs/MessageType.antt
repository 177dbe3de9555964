-- The types of messages, and the 16-bit codes that denote them in a header.
use Rattle.std.specs.Prelude.{◌≡◌, ℕ, ◌++◌, Bool, true, false, codes, decimal, find, List, Option, Some, None, Result}
use Rattle.std.specs.Prelude.{Ok, Err, ◌==◌, if◌then◌else◌, bit_and, [], ◌∷◌}
use Rattle.std.specs.Option.{option_or}
use Rattle.std.specs.Str.{bytes_eq}
use Rattle.std.specs.Fmt.{digits}
use Rattle.shared_core_base.specs.declared.header.MessageType.{MessageType}
use Rattle.shared_core_base.specs.declared.header.MessageType.TheVariants.{ProposeRunCompletion, CustomEntry}
use Rattle.shared_core_base.specs.declared.type_kinds.UnknownMessageType.{UnknownMessageType}
pub use Rattle.shared_core_base.specs.TypeTable.{code_of, variant_name_of}
unfoldable pub use Rattle.shared_core_base.specs.TypeTable.{named_types}

-- The type is one of those that have a name.
abbrev pub IsNamed : MessageType → Type 0
IsNamed (CustomEntry code) = ⊥
IsNamed ty = Unit {0}

-- The custom entry of a code: there is one where one of the code's upper six bits is set.
abbrev pub custom_entry : ℕ → Option MessageType
custom_entry code = if bit_and code 0xFC00 == 0 then None else Some (CustomEntry code)

-- The type that a code denotes: the named type whose code it is, otherwise its custom entry, if it has one.
unfoldable pub type_of : ℕ → Option MessageType
type_of code = option_or (find (λ ty. code_of ty == code) named_types) (custom_entry code)

-- The first type of a list that has the name.
abbrev pub type_in : List MessageType → List ℕ → Option MessageType
type_in [] name = None
type_in (ty ∷ types) name = if bytes_eq (variant_name_of ty) name then Some ty else type_in types name

-- Reading a code returns the type that it denotes, or the code itself if it denotes none.
abbrev pub ReadsType : ℕ → Result MessageType UnknownMessageType → Type 0
ReadsType code (Ok ty) = type_of code ≡ Some ty
ReadsType code (Err unknown) = (type_of code ≡ None) × (unknown.0 ≡ code)

-- The one type whose headers may request an acknowledgement.
abbrev pub allows_ack : MessageType → Bool
allows_ack ProposeRunCompletion = true
allows_ack ty = false

-- The text of a type's debug name: the name of its variant, and after that of a custom entry its code in decimal
-- digits.
abbrev pub debug_name_of : MessageType → List ℕ
debug_name_of (CustomEntry code) = codes "CustomEntry(" ++ decimal code ++ codes ")"
debug_name_of ty = variant_name_of ty

-- The text of an unknown code: lower hexadecimal digits without leading zeros.
abbrev pub unknown_type_text : ℕ → List ℕ
unknown_type_text code = codes "unknown protocol.message code 0x" ++ digits 16 false code
