-- The named types, by their names.
use Rattle.std.proofs.Common.{◌≡◌, ℕ, List, [], ◌∷◌, Some, true, false, cond, refl, sym, ap, ◌∙◌}
use Rattle.std.specs.Prelude.{find, ◌↔◌}
use Rattle.std.specs.List.{list_all}
use Rattle.std.specs.Str.{bytes_eq}
use Rattle.std.proofs.lemmas.Slice.Eq.{bytes_eq-Decides}
use Rattle.std.proofs.lemmas.Bool.{both_ways}
use Rattle.shared_core_base.specs.declared.header.MessageType.{MessageType}
use Rattle.shared_core_base.specs.declared.header.MessageType.TheVariants.{CustomEntry}
use Rattle.shared_core_base.specs.MessageType.{IsNamed, named_types, type_in, variant_name_of}
use Rattle.shared_core_base.proofs.Types.{found_passes, is_named}

named_from : (ty : MessageType) → is_named ty ≡ true → IsNamed ty
unfolding is_named
named_from ty = elim ty as (λ ty. is_named ty ≡ true → IsNamed ty) [
  | CustomEntry code ↦ λ is. absurd (both_ways _ refl is)
  | _ ↦ λ is. tt
]

all_named : list_all is_named named_types ≡ true
unfolding is_named named_types
all_named = refl

found_by_name : (ty : MessageType) → IsNamed ty → type_in named_types (variant_name_of ty) ≡ Some ty
unfolding named_types
found_by_name ty = elim ty as (λ ty. IsNamed ty → type_in named_types (variant_name_of ty) ≡ Some ty) [
  | CustomEntry code ↦ λ named. absurd named
  | _ ↦ λ named. refl
]

type_in-find : (types : List MessageType) (name : List ℕ) → type_in types name ≡ find
    (λ ty. bytes_eq (variant_name_of ty) name) types
type_in-find [] name = refl
type_in-find (ty ∷ types) name =
    elim (bytes_eq (variant_name_of ty) name) as (λ b. cond b (Some ty) (type_in types name)
    ≡ cond b (Some ty) (find (λ t. bytes_eq (variant_name_of t) name) types)) [
      | true ↦ refl
      | false ↦ type_in-find types name
    ]

-- a name finds a type among the named types if and only if the type is named so
pub type_of_name : (name : List ℕ) (ty : MessageType) → (type_in named_types name ≡ Some ty) ↔
    (IsNamed ty × (variant_name_of ty ≡ name))
type_of_name name ty = (
  λ is.
      let found : find (λ t. bytes_eq (variant_name_of t) name) named_types ≡ Some ty = sym
      (type_in-find named_types name) ∙ is in
      let both = found_passes (λ t. bytes_eq (variant_name_of t) name) is_named named_types ty all_named found in
      (named_from ty both.1, (bytes_eq-Decides (variant_name_of ty) name).0 both.0),
  λ named. ap (type_in named_types) (sym named.1) ∙ found_by_name ty named.0,
)
