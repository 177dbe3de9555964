-- What is made of the set that bytes are, with renames.
use Rattle.std.proofs.Common.{◌≡◌, ℕ, List, Result, Ok, IfOk, Vec, subst}
use Rattle.descriptor_set.specs.Sets.{IsSetOf}
use Rattle.descriptor_set.specs.declared.set.DescriptorSet.{DescriptorSet}
use Rattle.schema_lines.specs.Entries.{numbering_entries, IsNumbering}
use Rattle.schema_lines.specs.Named.{named_of}
use Rattle.schema_lines.specs.Pairs.{schemas_in}
use Rattle.schema_lines.specs.declared.error.SchemaError.{SchemaError}
use Rattle.schema_lines.specs.declared.numbering.Direction.{Direction}
use Rattle.schema_lines.specs.declared.numbering.Direction.TheVariants.{Reading}
use Rattle.schema_lines.specs.declared.renames.Rename.{Rename}
use Rattle.shared_core_renumber.specs.declared.entries.Renumbering.{Renumbering}
use Rattle.journal.specs.Schemas.{IsNumberingBy, IsNumberingIn, IsTableIn}
use Rattle.journal.specs.declared.descriptors.Description.{Description}
use Rattle.journal.specs.declared.descriptors.OtherMessages.{OtherMessages}

module _ (bytes : List ℕ) (set : DescriptorSet) (renames : List Rename) (is : IsSetOf bytes set) where
  pub numbering_made : {Z : Type 0} (direction : Direction) (made : Result (Vec Renumbering Z) SchemaError)
      (entries : Vec Renumbering Z) → IsNumbering set (numbering_entries set renames direction) made
      → made ≡ Ok entries → IsNumberingIn bytes renames direction entries.items
  unfolding IsNumberingIn
  numbering_made direction made entries found was =
      (set, is, (subst (IsNumbering set (numbering_entries set renames direction)) was found).1)

  pub table_made : (made : Result OtherMessages SchemaError) (messages : OtherMessages)
      → IfOk made (λ m. schemas_in set (named_of set renames) ≡ Ok m.schemas.items) → made ≡ Ok messages
      → IsTableIn bytes renames messages.schemas.items
  unfolding IsTableIn
  table_made made messages found was =
      (set, is, subst (λ r. IfOk r (λ m. schemas_in set (named_of set renames) ≡ Ok m.schemas.items)) was found)

  pub described_numbering : (made : Result Description SchemaError) (description : Description)
      → IfOk made (λ d. numbering_entries set renames Reading ≡ Ok d.numbering.items) → made ≡ Ok description
      → IsNumberingIn bytes renames Reading description.numbering.items
  unfolding IsNumberingIn
  described_numbering made description found was =
      (set, is, subst (λ r. IfOk r (λ d. numbering_entries set renames Reading ≡ Ok d.numbering.items)) was found)

  pub described_table : (made : Result Description SchemaError) (description : Description)
      → IfOk made (λ d. schemas_in set (named_of set renames) ≡ Ok d.messages.schemas.items) → made ≡ Ok description
      → IsTableIn bytes renames description.messages.schemas.items
  unfolding IsTableIn
  described_table made description found was = (
    set,
    is,
    subst (λ r. IfOk r (λ d. schemas_in set (named_of set renames) ≡ Ok d.messages.schemas.items)) was
        found,
  )

pub numbering_of_a_file : (bytes : List ℕ) (renames given : List Rename) (direction : Direction)
    (entries : List Renumbering) → IsNumberingIn bytes renames direction entries → renames ≡ given
    → IsNumberingBy given direction entries
unfolding IsNumberingBy
numbering_of_a_file bytes renames given direction entries found same =
    (bytes, subst (λ r. IsNumberingIn bytes r direction entries) same found)
