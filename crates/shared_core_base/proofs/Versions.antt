-- The content types of two versions differ, and a number denotes at most one supported version.
use Rattle.std.proofs.Common.{◌≡◌, ℕ, ◌++◌, codes, drop, length, ◌<◌, ◌≤◌, ◌^◌, ◌==◌, if◌then◌else◌, Some, eqb, leb}
use Rattle.std.proofs.Common.{refl, sym, ap, ◌∙◌, arith}
use Rattle.std.specs.Prelude.{◌↔◌}
use Rattle.std.proofs.lemmas.Bool.{eqb-true, leb-true}
use Rattle.std.proofs.lemmas.Fmt.{decimal_injective}
use Rattle.std.specs.Fmt.{decimal}
use Rattle.shared_core_base.specs.declared.version.Version.{Version}
use Rattle.shared_core_base.specs.declared.version.Version.TheVariants.{V1, V2, V3, V4, V5, V6, V7, V8, V9}
use Rattle.shared_core_base.specs.Version.{version_number, supported_versions, supported_version, restate_content_types}
use Rattle.shared_core_base.specs.Version.{content_type_of}
use Rattle.shared_core_base.proofs.Types.{found_passes}

-- the version of a number
version_of_number : ℕ → Version
version_of_number number =
    if number == 1
    then V1
    else (if number == 2 then V2 else (if number == 3 then V3 else
    (if number == 4 then V4 else (if number == 5 then V5 else
    (if number == 6 then V6 else (if number == 7 then V7 else (if number == 8 then V8 else V9)))))))

numbers_convert_back : (version : Version) → version_of_number (version_number version) ≡ version
unfolding version_of_number
numbers_convert_back version = elim version as (λ version. version_of_number (version_number version) ≡ version)
    [ V1 ↦ refl | _ ↦ refl ]

numbers_fit : (version : Version) → version_number version < 2 ^ 64
numbers_fit version = elim version as (λ version. version_number version < 2 ^ 64)
    [ V1 ↦ omega arith | _ ↦ omega arith ]

pub content_types_differ : (a b : Version) → content_type_of a ≡ content_type_of b → a ≡ b
content_types_differ a b same =
    let digits_are : decimal (version_number a) ≡ decimal (version_number b) = ap
    (drop (length (restate_content_types ++ codes "v"))) same in
    let number_is = decimal_injective (version_number a) (version_number b) (numbers_fit a) (numbers_fit b) digits_are
    in
    sym (numbers_convert_back a) ∙ ap version_of_number number_is ∙ numbers_convert_back b

found_again : (version : Version) → 5 ≤ version_number version → supported_version (version_number version) ≡ Some
    version
found_again version = elim version as (λ version. 5 ≤ version_number version → supported_version
    (version_number version) ≡ Some version) [
      | V1 ↦ λ low. absurd (omega (arith, low))
      | V2 ↦ λ low. absurd (omega (arith, low))
      | V3 ↦ λ low. absurd (omega (arith, low))
      | V4 ↦ λ low. absurd (omega (arith, low))
      | _ ↦ λ supported. refl
    ]

-- a number denotes a version if and only if it is the version's, and the version is supported
pub supported_version_is : (number : ℕ) (version : Version) → (supported_version number ≡ Some version) ↔
    ((number ≡ version_number version) × (5 ≤ version_number version))
supported_version_is number version = (
  λ found.
      let both = found_passes (λ v. eqb (version_number v) number) (λ v. leb 5 (version_number v)) supported_versions
      version refl found in
      (sym (eqb-true _ _ both.0), leb-true _ _ both.1),
  λ is. ap supported_version is.0 ∙ found_again version is.1,
)
