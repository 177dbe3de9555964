-- Codes and types convert back to each other, and types and headers that are found equal are the same.
use Rattle.std.proofs.Common.{◌≡◌, ℕ, List, [], ◌∷◌, Some, None, Bool, true, false, cond, eqb, inl, inr, refl, sym, ap}
use Rattle.std.proofs.Common.{◌∙◌}
use Rattle.std.specs.Prelude.{find, bit_and, ◌≢◌, ◌↔◌, ◌⊎◌, Option, not, ◌||◌}
use Rattle.std.specs.Bool.{beq}
use Rattle.std.specs.List.{list_all}
use Rattle.std.specs.Option.{option_or, option_eq}
use Rattle.std.proofs.lemmas.Bool.{eqb-true, eq-eqb, ne_eqb, and_from, and_parts, both_ways}
use Rattle.std.proofs.lemmas.Option.{none-some}
use Rattle.shared_core_base.specs.declared.header.MessageType.{MessageType}
use Rattle.shared_core_base.specs.declared.header.MessageType.TheVariants.{CustomEntry}
use Rattle.shared_core_base.specs.contracts.header.MessageTypePartialEq.TheImpl as types
use Rattle.shared_core_base.specs.declared.message_header.MessageHeader.{MessageHeader}
use Rattle.shared_core_base.specs.contracts.message_header.MessageHeaderPartialEq.TheImpl as headers
use Rattle.shared_core_base.specs.MessageType.{code_of, named_types, IsNamed, custom_entry, type_of}

-- what is found passes the test, and passes any other that each element does
pub found_passes : {X : Type 0} (test other : X → Bool) (xs : List X) (x : X) → list_all other xs ≡ true → find test xs
    ≡ Some x → (test x ≡ true) × (other x ≡ true)
found_passes test other [] x all found = cc
found_passes test other (y ∷ ys) x all found =
    let both = and_parts (other y) (list_all other ys) all in
    (elim (test y) as (λ b. test y ≡ b → cond b (Some y) (find test ys) ≡ Some x → (test x ≡ true) × (other x ≡ true)) [
      | true ↦ λ passes is. let same : y ≡ x = cc in (ap test (sym same) ∙ passes, ap other (sym same) ∙ both.0)
      | false ↦ λ passes is. found_passes test other ys x both.1 is
    ]) refl found

-- ---- types with a name

unfoldable pub is_named : MessageType → Bool
is_named (CustomEntry code) = false
is_named ty = true

custom_or_named : (ty : MessageType) → ((code : ℕ) × (ty ≡ CustomEntry code)) ⊎ (is_named ty ≡ true)
unfolding is_named
custom_or_named ty = elim ty as (λ ty. ((code : ℕ) × (ty ≡ CustomEntry code)) ⊎ (is_named ty ≡ true)) [
  | CustomEntry code ↦ inl (code, refl)
  | _ ↦ inr refl
]

named_type : ℕ → Option MessageType
named_type code = find (λ ty. eqb (code_of ty) code) named_types

named_type_of_code : (ty : MessageType) → is_named ty ≡ true → named_type (code_of ty) ≡ Some ty
unfolding is_named named_type named_types
named_type_of_code ty = elim ty as (λ ty. is_named ty ≡ true → named_type (code_of ty) ≡ Some ty) [
  | CustomEntry code ↦ λ named. absurd (both_ways _ refl named)
  | _ ↦ λ named. refl
]

-- a named type passes each test that all named types pass
named_passes : (test : MessageType → Bool) → list_all test named_types ≡ true → (ty : MessageType) → is_named ty ≡ true
    → test ty ≡ true
unfolding named_type
named_passes test all ty named = (found_passes (λ t. eqb (code_of t) (code_of ty)) test named_types ty all
    (named_type_of_code ty named)).1

named_type_found : (code : ℕ) (ty : MessageType) → named_type code ≡ Some ty → (code_of ty ≡ code) ×
    (is_named ty ≡ true)
unfolding named_types is_named named_type
named_type_found code ty found =
    let both = found_passes (λ t. eqb (code_of t) code) is_named named_types ty refl found in
    (eqb-true _ _ both.0, both.1)

-- ---- codes and types

custom_entry_code : (code : ℕ) (ty : MessageType) → custom_entry code ≡ Some ty → code_of ty ≡ code
custom_entry_code code ty is =
    (elim (eqb (bit_and code 0xFC00) 0) as (λ b. cond b None (Some (CustomEntry code)) ≡ Some ty → code_of ty ≡ code) [
      | true ↦ λ none. cc
      | false ↦ λ some. let same : CustomEntry code ≡ ty = cc in sym (ap code_of same)
    ]) is

-- the type that a code denotes has that code
pub code_of_type : (code : ℕ) (ty : MessageType) → type_of code ≡ Some ty → code_of ty ≡ code
unfolding type_of named_type
code_of_type code ty is =
    (elim (named_type code) as (λ found. named_type code ≡ found → option_or found (custom_entry code) ≡ Some ty →
    code_of ty ≡ code) [
      | Some named ↦ λ found chosen. let same : named ≡ ty = cc in (named_type_found code ty (found ∙ ap Some same)).0
      | None ↦ λ found chosen. custom_entry_code code ty chosen
    ]) refl is

-- a code denotes its custom entry if and only if no named type has it and one of its upper six bits is set
pub type_of_custom : (code : ℕ) → (type_of code ≡ Some (CustomEntry code)) ↔
    ((find (λ ty. eqb (code_of ty) code) named_types ≡ None) × (bit_and code 0xFC00 ≢ 0))
unfolding type_of named_type is_named
type_of_custom code = (
  λ is.
      (elim (named_type code) as (λ found. named_type code ≡ found → option_or found (custom_entry code) ≡ Some
      (CustomEntry code) → (named_type code ≡ None) × (bit_and code 0xFC00 ≢ 0)) [
        | Some named ↦ λ found chosen. absurd (both_ways _ refl
            (named_type_found code (CustomEntry code) (found ∙ chosen)).1)
        | None ↦ λ found chosen. (
          found,
          λ zero_bits. none-some (CustomEntry code)
              (sym (ap (λ n. cond (eqb n 0) None (Some (CustomEntry code))) zero_bits) ∙ chosen),
        )
      ]) refl is,
  λ is. ap (λ found. option_or found (custom_entry code)) is.0
      ∙ ap (λ b. cond b None (Some (CustomEntry code))) (ne_eqb _ _ is.1),
)

-- a named type's code denotes it
pub type_of_code : (ty : MessageType) → IsNamed ty → type_of (code_of ty) ≡ Some ty
unfolding type_of named_types
type_of_code ty = elim ty as (λ ty. IsNamed ty → type_of (code_of ty) ≡ Some ty) [
  | CustomEntry code ↦ λ named. absurd named
  | _ ↦ λ named. refl
]

-- ---- equality

-- equal types have one code
agrees : MessageType → MessageType → Bool
agrees a b = not (types.eq-value.it a b) || eqb (code_of a) (code_of b)

agrees_is : (equal same : Bool) → (not equal || same) ≡ true → equal ≡ true → same ≡ true
agrees_is true same holds is = holds
agrees_is false same holds is = absurd (both_ways _ refl is)

all_agree : list_all (λ a. list_all (agrees a) named_types) named_types ≡ true
unfolding agrees named_types
all_agree = refl

named_equal : (a b : MessageType) → is_named a ≡ true → is_named b ≡ true → types.eq-value.it a b ≡ true → a ≡ b
unfolding agrees
named_equal a b named other is =
    let tested = named_passes (agrees a) (named_passes (λ t. list_all (agrees t) named_types) all_agree a named) b other
    in
    let codes_are : code_of a ≡ code_of b = eqb-true _ _ (agrees_is _ _ tested is) in
    let types_are : Some a ≡ Some b = sym (named_type_of_code a named) ∙ ap named_type codes_are ∙ named_type_of_code b
    other in
    cc

custom_on_the_left : (code : ℕ) (b : MessageType) → is_named b ≡ true → types.eq-value.it (CustomEntry code) b ≡ false
unfolding is_named
custom_on_the_left code b = elim b as (λ b. is_named b ≡ true → types.eq-value.it (CustomEntry code) b ≡ false) [
  | CustomEntry _ ↦ λ named. absurd (both_ways _ refl named)
  | _ ↦ λ named. refl
]

custom_on_the_right : (a : MessageType) (code : ℕ) → is_named a ≡ true → types.eq-value.it a (CustomEntry code) ≡ false
unfolding is_named
custom_on_the_right a code = elim a as (λ a. is_named a ≡ true → types.eq-value.it a (CustomEntry code) ≡ false) [
  | CustomEntry _ ↦ λ named. absurd (both_ways _ refl named)
  | _ ↦ λ named. refl
]

-- what is found equal is the same
pub types_equal : (a b : MessageType) → types.eq-value.it a b ≡ true → a ≡ b
types_equal a b =
    elim (custom_or_named a) as (λ _. types.eq-value.it a b ≡ true → a ≡ b) [
      | inl (x, a_is) ↦
          (elim (custom_or_named b) as (λ _. types.eq-value.it a b ≡ true → a ≡ b) [
            | inl (y, b_is) ↦ λ is. let codes_equal = rw (a_is, b_is) at is in a_is ∙ ap CustomEntry
                (eqb-true x y codes_equal) ∙ sym b_is
            | inr b_named ↦ λ is. absurd (both_ways _ (ap (λ t. types.eq-value.it t b) a_is ∙ custom_on_the_left x b
                b_named) is)
          ])
      | inr a_named ↦
          (elim (custom_or_named b) as (λ _. types.eq-value.it a b ≡ true → a ≡ b) [
            | inl (y, b_is) ↦ λ is. absurd (both_ways _ (ap (types.eq-value.it a) b_is ∙ custom_on_the_right a y
                a_named) is)
            | inr b_named ↦ named_equal a b a_named b_named
          ])
    ]

-- a type is equal to itself
pub types_same : (a b : MessageType) → a ≡ b → types.eq-value.it a b ≡ true
types_same a b same = ap (types.eq-value.it a) (sym same) ∙ equal_to_itself a
  where
    equal_to_itself : (a : MessageType) → types.eq-value.it a a ≡ true
    equal_to_itself a = elim a as (λ a. types.eq-value.it a a ≡ true) [
      | CustomEntry code ↦ eq-eqb code code refl
      | _ ↦ refl
    ]

-- ---- headers

same_flag : (a b : Option Bool) → option_eq beq a b ≡ true → a ≡ b
same_flag None None is = refl
same_flag None (Some y) is = cc
same_flag (Some x) None is = cc
same_flag (Some true) (Some true) is = refl
same_flag (Some true) (Some false) is = cc
same_flag (Some false) (Some true) is = cc
same_flag (Some false) (Some false) is = refl

flag_to_itself : (a : Option Bool) → option_eq beq a a ≡ true
flag_to_itself None = refl
flag_to_itself (Some true) = refl
flag_to_itself (Some false) = refl

abbrev header : MessageType → ℕ → Option Bool → MessageHeader
header ty length flag = record { ty = ty; length = length; requested_ack = flag }

-- headers that are found equal are the same
pub headers_equal : (a b : MessageHeader) → headers.eq-value.it a b ≡ true → a ≡ b
headers_equal a b is =
    let parts = and_parts (types.eq-value.it a.ty b.ty) _ is in
    let others = and_parts (eqb a.length b.length) _ parts.1 in
    ap (λ ty. header ty a.length a.requested_ack) (types_equal a.ty b.ty parts.0)
    ∙ ap (λ length. header b.ty length a.requested_ack) (eqb-true a.length b.length others.0)
    ∙ ap (header b.ty b.length) (same_flag a.requested_ack b.requested_ack others.1)

-- a header is equal to itself
pub headers_same : (a b : MessageHeader) → a ≡ b → headers.eq-value.it a b ≡ true
headers_same a b same =
    ap (headers.eq-value.it a) (sym same)
    ∙ and_from _ _ (types_same a.ty a.ty refl) (and_from _ _ (eq-eqb a.length a.length refl)
    (flag_to_itself a.requested_ack))
