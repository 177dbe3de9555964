-- The type that has a name, as a call finds it.
use Rattle.std.proofs.Common.{◌≡◌, ◌↔◌, ℕ, List, Option, Some, None, option_map, refl, sym, ap, ◌∙◌}
use Rattle.shared_core_base.specs.declared.header.MessageType.{MessageType}
use Rattle.shared_core_base.specs.MessageType.{IsNamed, code_of, named_types, type_in, variant_name_of}
use Rattle.shared_core_base.proofs.TypeNames.{type_of_name}
use Rattle.make_lines.specs.Lines.{code_named}

named_found : (r : Option MessageType) (name : List ℕ) → ((ty : MessageType) → (r ≡ Some ty) ↔
    (IsNamed ty × (variant_name_of ty ≡ name))) → type_in named_types name ≡ r
named_found (Some ty) name h = (type_of_name name ty).1 ((h ty).0 refl)
named_found None name h = by (type_in named_types name) refl
  where
    by : (o : Option MessageType) → type_in named_types name ≡ o → o ≡ None
    by None e = refl
    by (Some ty) e =
        let found : None ≡ Some ty = (h ty).1 ((type_of_name name ty).0 e) in
        absurd cc

-- the codes of what is found
abbrev code_of_found : Option MessageType → Option ℕ
code_of_found o = option_map code_of o

pub code_found : (r : Option MessageType) (name : List ℕ) (ty : MessageType) (code : ℕ) →
    ((ty : MessageType) → (r ≡ Some ty) ↔ (IsNamed ty × (variant_name_of ty ≡ name))) → r ≡ Some ty → code ≡ code_of ty
    → Some code ≡ code_named name
code_found r name ty code h e f = ap (λ (n : ℕ). Some n) f ∙ sym (ap code_of_found (named_found r name h ∙ e))

pub no_code_found : (r : Option MessageType) (name : List ℕ) →
    ((ty : MessageType) → (r ≡ Some ty) ↔ (IsNamed ty × (variant_name_of ty ≡ name))) → r ≡ None → None ≡ code_named
    name
no_code_found r name h e = sym (ap code_of_found (named_found r name h ∙ e))
