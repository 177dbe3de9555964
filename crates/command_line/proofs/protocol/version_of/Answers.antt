use Rattle.std.proofs.Common.{◌∙◌, ℕ, ◌<◌, arith, sym, ap, rules}
use Rattle.std.proofs.lemmas.Fmt.{parse-decimal}
use Rattle.std.proofs.lemmas.Option.{none-some}
use Rattle.std.specs.Prelude.{Option, unwrap_or}
use Rattle.shared_core_base.specs.Version.{version_number}
use Rattle.shared_core_base.specs.declared.version.Version.{Version as AnyVersion}
use Rattle.shared_core_base.specs.declared.version.Version.TheVariants.{V1}
use Rattle.command_line.proofs.protocol.version_of.Goals as goal

-- the number of a version has one digit
short : (version : AnyVersion) → version_number version < 10
short version = elim version as (λ version. version_number version < 10) [ V1 ↦ omega arith | _ ↦ omega arith ]

pub returns-in_err-ok-clause-named : goal.returns-in_err-ok-clause-named
returns-in_err-ok-clause-named c version high is =
    let small = short version in
    let parsed = parse-decimal 32 (version_number version) _ c.parse.result (omega arith) (omega arith) is
    (search rules) in
    absurd (none-some (version_number version) (sym (rw parsed at (sym c.ok.ensures.value ∙ c.in_err-ok.was))))

pub returns-clause-named : goal.returns-clause-named
returns-clause-named c version high is =
    let small = short version in
    let parsed = parse-decimal 32 (version_number version) _ c.parse.result (omega arith) (omega arith) is
    (search rules) in
    (c.from_number.ensures.exact version).1 (
      ap (λ (o : Option ℕ). unwrap_or o 0)
          (rw parsed at (sym c.in_ok-ok.was ∙ c.ok.ensures.value)),
      high,
    )
