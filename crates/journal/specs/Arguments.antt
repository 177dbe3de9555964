-- What the arguments of subcommands say, by what is found of them.
use Rattle.std.specs.Prelude.{◌≡◌, ◌≢◌, ℕ, List, [], Bool, true, false, Some, None, codes}
use Rattle.std.specs.Prelude.{Ok, length, map, not, option_map, unwrap_or}
use Rattle.std.specs.StrCase.Lower.{str_to_lowercase}
use Rattle.clap.specs.Matches.{first_value, matched_of, one_text, raw_values}
use Rattle.clap.specs.declared.parser.matches.Found.{Found}
use Rattle.command_line.specs.Colors.{IsColorOf}
use Rattle.command_line.specs.Input.{input_value}
use Rattle.schema_lines.specs.Renames.{rename_of, said_names}
use Rattle.schema_lines.specs.declared.numbering.Direction.{Direction}
use Rattle.schema_lines.specs.declared.numbering.Direction.TheVariants.{Reading, Writing}
use Rattle.schema_lines.specs.declared.renames.Rename.{Rename}
use Rattle.show_lines.specs.Words.{Reads}
use Rattle.show_lines.specs.declared.filter.Filter.{Filter}
use Rattle.journal.specs.Files.{AreOptionsOf, IsFileOf}
use Rattle.journal.specs.declared.descriptors.SchemaArguments.{SchemaArguments}
use Rattle.journal.specs.declared.diff.arguments.Arguments.{Arguments as DiffArguments}
use Rattle.journal.specs.declared.diff.arguments.ValuesChoice.{ValuesChoice}
use Rattle.journal.specs.declared.diff.arguments.ValuesChoice.TheVariants.{Auto, Short, Whole}
use Rattle.journal.specs.declared.dump.arguments.Arguments.{Arguments as DumpArguments}

-- Whether the flag of this name is set.
abbrev pub IsFlagOf : Found → List ℕ → Bool → Type 0
IsFlagOf found name is-set =
    (one_text found name ≡ Some (codes "true") → is-set ≡ true)
    × (one_text found name ≡ Some (codes "false") → is-set ≡ false) × (one_text found name ≡ None → is-set ≡ false)

-- They are those of the option `--rename`, in its order, each of which has the form of one.
abbrev pub AreRenamesOf : Found → List Rename → Type 0
AreRenamesOf found renames =
    said_names renames ≡ map rename_of (unwrap_or (option_map raw_values (matched_of found (codes "rename"))) [])

-- They are the set that `--schema` names, if it names one, and what `--rename` says of it.
abbrev pub IsSchemaOf : Found → SchemaArguments → Type 0
IsSchemaOf found schema =
    (option_map (λ path. path.now) schema.path ≡ first_value found (codes "schema"))
    × AreRenamesOf found schema.renames.items

-- The filter is what this text says.
abbrev pub SaysFilter : List ℕ → Filter → Type 0
SaysFilter text filter = Reads (length text) text [] false (Ok filter)

-- The filter is what the words of `--where` say, in lower case; without the option there is none.
abbrev pub IsFilterOf : Found → Filter → Type 0
IsFilterOf found filter = SaysFilter (str_to_lowercase (unwrap_or (first_value found (codes "where")) [])) filter

-- The direction is the one that writes if `--back` is given, and otherwise the one that reads.
abbrev pub IsDirectionOf : Found → Direction → Type 0
IsDirectionOf found Writing = IsFlagOf found (codes "back") true
IsDirectionOf found Reading = IsFlagOf found (codes "back") false

-- They are the arguments of a dump. Which types it selects is not said: without the option `--type` it selects
-- none, and so all items.
abbrev pub IsDumpOf : Found → DumpArguments → Type 0
IsDumpOf found parsed =
    IsFileOf found parsed.file × IsSchemaOf found parsed.schema
    × IsFlagOf found (codes "no-payload") (not parsed.payloads)
    × IsFlagOf found (codes "text") parsed.texts × IsFlagOf found (codes "pretty") parsed.pretty
    × IsFlagOf found (codes "strict") parsed.strict
    × (matched_of found (codes "type") ≡ None → parsed.codes.items ≡ [])

-- It is what `--values` names, and otherwise `auto`.
abbrev pub IsValuesOf : Found → ValuesChoice → Type 0
IsValuesOf found choice =
    (first_value found (codes "values") ≡ Some (codes "short") → choice ≡ Short)
    × (first_value found (codes "values") ≡ Some (codes "whole") → choice ≡ Whole)
    × (first_value found (codes "values") ≢ Some (codes "short")
    → first_value found (codes "values") ≢ Some (codes "whole") → choice ≡ Auto)

-- Whether the inputs are dumps.
abbrev pub IsDumpInput : Found → Bool → Type 0
IsDumpInput found is-dump =
    (input_value found ≡ Some (codes "dump") → is-dump ≡ true)
    × (input_value found ≢ Some (codes "dump") → is-dump ≡ false)

-- They are the arguments of a comparison: the two journals, how they are read and compared, and what is printed.
abbrev pub AreBothOf : Found → DiffArguments → Type 0
AreBothOf found parsed =
    (first_value found (codes "recorded") ≡ Some parsed.recorded.now)
    × (first_value found (codes "replayed") ≡ Some parsed.replayed.now) × AreOptionsOf found parsed.options
    × IsDumpInput found parsed.is_dump × IsSchemaOf found parsed.schema × IsFlagOf found (codes "all") parsed.is_all
    × IsFlagOf found (codes "verdict") parsed.is_verdict × IsValuesOf found parsed.values
    × IsFlagOf found (codes "ignore-payloads") parsed.ignore_payloads
    × IsFlagOf found (codes "ignore-ids") parsed.ignore_ids × IsFlagOf found (codes "strict") parsed.is_strict
    × IsFlagOf found (codes "json") parsed.is_json × IsColorOf found parsed.color
