-- Which descriptor set is read, and what is made of it.
use Rattle.std.specs.Prelude.{◌≡◌, ◌≢◌, ℕ, List, [], Bool, false, codes}
use Rattle.std.specs.Prelude.{Option, None, Some, IsSome, is_some, option_map, Ok}
use Rattle.descriptor_set.specs.Sets.{IsSetOf}
use Rattle.descriptor_set.specs.declared.set.DescriptorSet.{DescriptorSet}
use Rattle.schema_lines.specs.Entries.{numbering_entries}
use Rattle.schema_lines.specs.Named.{named_of}
use Rattle.schema_lines.specs.Pairs.{schemas_in}
use Rattle.schema_lines.specs.declared.numbering.Direction.{Direction}
use Rattle.schema_lines.specs.declared.renames.Rename.{Rename}
use Rattle.shared_core_renumber.specs.declared.entries.Renumbering.{Renumbering}
use Rattle.journal.specs.declared.descriptors.SchemaArguments.{SchemaArguments}
use Rattle.journal.specs.declared.file.File.{File}

-- The path is the one that an option names. Without the option there may be one all the same, which is not empty.
abbrev pub IsPathBy : Option (List ℕ) → Option (List ℕ) → Type 0
IsPathBy None path = path ≢ Some []
IsPathBy (Some named) path = path ≡ Some named

-- It is the path of the set by which an input is read: the one that an option names, if one does. Only one of both
-- comes from the standard input, and renames are of a set.
abbrev pub IsSetPath : SchemaArguments → List ℕ → Option (List ℕ) → Type 0
IsSetPath schema input path =
    IsPathBy (option_map (λ named. named.now) schema.path) path × (path ≡ Some (codes "-") → input ≢ codes "-")
    × (path ≡ None → schema.renames.items ≡ [])

-- It is the path of the set by which a file is read. With a set the version is given.
abbrev pub IsSetFor : SchemaArguments → File → Option (List ℕ) → Type 0
IsSetFor schema file path =
    IsSetPath schema file.path.now path × (IsSome path → file.options.is_auto ≡ false)

-- Whether there is a set by which the file is read.
abbrev pub HasSetFor : SchemaArguments → File → Bool → Type 0
HasSetFor schema file has-set = (path : Option (List ℕ)) × IsSetFor schema file path × (is_some path ≡ has-set)

-- They are the entries of the numbering, in a direction, of the set that these bytes are, with these renames.
unfoldable pub IsNumberingIn : List ℕ → List Rename → Direction → List Renumbering → Type 0
IsNumberingIn bytes renames direction entries =
    (set : DescriptorSet) × IsSetOf bytes set × (numbering_entries set renames direction ≡ Ok entries)

-- They are those of some set with these renames. No contract can say what a file has.
unfoldable pub IsNumberingBy : List Rename → Direction → List Renumbering → Type 0
IsNumberingBy renames direction entries = (bytes : List ℕ) × IsNumberingIn bytes renames direction entries

-- They are the messages for the protocol's schemas of the set that these bytes are, with these renames.
unfoldable pub IsTableIn : List ℕ → List Rename → List (Option ℕ) → Type 0
IsTableIn bytes renames schemas =
    (set : DescriptorSet) × IsSetOf bytes set × (schemas_in set (named_of set renames) ≡ Ok schemas)
