-- What is made of a set and the renames of a text.
use Rattle.std.proofs.Common.{◌≡◌, ◌≤◌, ℕ, List, Option, Ok, length}
use Rattle.shared_core_json.specs.Fields.{Names}
use Rattle.shared_core_renumber.specs.declared.entries.Renumbering.{Renumbering}
use Rattle.shared_core_wire.specs.Schema.{table_of, Table}
use Rattle.dump_lines.specs.Other.{reading_by}
use Rattle.descriptor_set.specs.Sets.{IsSetOf}
use Rattle.descriptor_set.specs.TableNames.{set_names}
use Rattle.descriptor_set.specs.Tables as tables
use Rattle.descriptor_set.specs.declared.set.DescriptorSet.{DescriptorSet}
use Rattle.schema_lines.specs.Entries.{numbering_entries}
use Rattle.schema_lines.specs.Named.{named_of}
use Rattle.schema_lines.specs.Pairs.{schemas_in}
use Rattle.schema_lines.specs.declared.numbering.Direction.{Direction}
use Rattle.schema_lines.specs.declared.renames.Rename.{Rename}
use Rattle.journal_c_api.specs.Numberings.{AreRenamesOf, IsNumberingOf, IsReadingOf}

module _ (set text : List ℕ) (found : DescriptorSet) (renames : List Rename) (is : IsSetOf set found)
    (said : AreRenamesOf text renames) where
  pub numbering_found : (direction : Direction) (entries : List Renumbering)
      → numbering_entries found renames direction ≡ Ok entries → 1 ≤ length entries
      → IsNumberingOf direction set text entries
  unfolding IsNumberingOf
  numbering_found direction entries are some = (found, is, renames, said, are, some)

  pub reading_found : (table : Table) (names : Names) (schemas : List (Option ℕ))
      → table ≡ table_of (tables.schemas_of found) → names ≡ set_names found
      → schemas_in found (named_of found renames) ≡ Ok schemas
      → IsReadingOf set text (reading_by table names schemas)
  unfolding IsReadingOf
  reading_found table names schemas of_set called are =
      (found, is, renames, said, schemas, are, λ i. reading_by (of_set i) (called i) schemas)
