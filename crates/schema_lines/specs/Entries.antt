-- The entries of the numbering of a set: by schemas, by the rows of what is written, and by the fields of a row.
use Rattle.std.specs.Prelude.{◌≡◌, ◌≤◌, ℕ, ◌+◌, ◌==◌, length, min, if◌then◌else◌, List, [], ◌∷◌, ◌++◌, map}
use Rattle.std.specs.Prelude.{Option, Some, None, Result, Ok, Err, Vec, slice_get}
use Rattle.std.specs.List.{cons_option}
use Rattle.shared_core_wire.specs.Schema.{numbers, Kind}
use Rattle.shared_core_codec.specs.Table.{table}
use Rattle.shared_core_json.specs.Fields.{names_of}
use Rattle.shared_core_renumber.specs.declared.entries.Renumbering.{Renumbering}
use Rattle.descriptor_set.specs.declared.field.FieldDescriptor.{FieldDescriptor}
use Rattle.descriptor_set.specs.declared.set.DescriptorSet.{DescriptorSet}
use Rattle.descriptor_set.specs.declared.set.MessageDescriptor.{MessageDescriptor}
use Rattle.descriptor_set.specs.TableErrors.{HasTable, IsTableError}
use Rattle.descriptor_set.specs.Tables.{is_among, is_oneof, oneof_of, with_oneof}
use Rattle.schema_lines.specs.declared.error.SchemaError.{SchemaError}
use Rattle.schema_lines.specs.declared.error.SchemaError.TheVariants as error
use Rattle.schema_lines.specs.declared.numbering.Direction.{Direction}
use Rattle.schema_lines.specs.declared.numbering.Direction.TheVariants.{Reading, Writing}
use Rattle.schema_lines.specs.declared.numbering.Match.{Match}
use Rattle.schema_lines.specs.declared.renames.Rename.{Rename}
use Rattle.schema_lines.specs.declared.renames.RenameFault.{RenameFault}
use Rattle.schema_lines.specs.Fields.{matching}
use Rattle.schema_lines.specs.Kinds.{is_same_kind, message_at, our_field, OurField}
use Rattle.schema_lines.specs.Named.{named_of, with_suspensions}
use Rattle.schema_lines.specs.Numberings.{nested_of}
use Rattle.schema_lines.specs.Pairs.{read_of}

-- A field of the protocol with one of a set, if they are of one kind.
abbrev pub match_with : DescriptorSet → List (Option ℕ) → OurField → Option FieldDescriptor → Option Match
match_with set named ours None = None
match_with set named ours (Some theirs) =
    if is_same_kind set named ours theirs
    then Some (record { ours = ours.number; theirs = theirs.number; nested = nested_of ours.kind }) else None

-- The same of a field of the protocol that may be there, and of the index of one of some fields.
abbrev pub match_at : DescriptorSet → List (Option ℕ) → List FieldDescriptor → Option OurField → Option ℕ → Option Match
match_at set named fields None found = None
match_at set named fields (Some ours) None = None
match_at set named fields (Some ours) (Some index) = match_with set named ours (slice_get fields index)

-- The field of the protocol of a number and a name, with that of some fields which it finds.
unfoldable pub match_of : DescriptorSet → List (Option ℕ) → ℕ → List FieldDescriptor → ℕ × List ℕ → Option Match
match_of set named s fields name = match_at set named fields (our_field s name.0) (matching fields name.1)

-- The same of each of some numbers and names.
abbrev pub matches_in : DescriptorSet → List (Option ℕ) → ℕ → List FieldDescriptor → List (ℕ × List ℕ) → List Match
matches_in set named s fields [] = []
matches_in set named s fields (name ∷ names) =
    cons_option (match_of set named s fields name) (matches_in set named s fields names)

-- The fields of a schema that the message of a set has too, of one kind.
unfoldable pub matches_of : DescriptorSet → List (Option ℕ) → ℕ → List FieldDescriptor → List Match
matches_of set named s fields = matches_in set named s fields (names_of s).names

-- The numbers of the members of a oneof.
abbrev pub member_numbers : List (ℕ × Kind) → List ℕ
member_numbers members = map (λ m. m.0) members

-- The numbers of a oneof's members among some fields.
abbrev pub members_of : ℕ → List FieldDescriptor → List ℕ
members_of oneof [] = []
members_of oneof (field ∷ rest) =
    if is_oneof oneof (oneof_of field.presence) then field.number ∷ members_of oneof rest else members_of oneof rest

-- The numbers that stand in a row with a field, from the fields that follow.
abbrev pub others_of : Option ℕ → List FieldDescriptor → List ℕ
others_of None rest = []
others_of (Some oneof) rest = members_of oneof rest

-- The rows of a message of a set, by the numbers of their fields: a oneof is a row at its first member. Some have had
-- their row.
abbrev pub their_rows : List ℕ → List FieldDescriptor → List (List ℕ)
their_rows seen [] = []
their_rows seen (field ∷ rest) =
    if is_among seen (oneof_of field.presence) then their_rows seen rest
    else (field.number ∷ others_of (oneof_of field.presence) rest)
    ∷ their_rows (with_oneof seen (oneof_of field.presence)) rest

-- The rows of what is written, by the numbers of their fields.
abbrev pub rows_in : Direction → ℕ → List FieldDescriptor → List (List ℕ)
rows_in Reading s fields = map numbers (table s)
rows_in Writing s fields = their_rows [] fields

-- The number of a match in what is read, and in what is written.
abbrev pub read_number : Direction → Match → ℕ
read_number Reading m = m.theirs
read_number Writing m = m.ours

abbrev pub written_number : Direction → Match → ℕ
written_number Reading m = m.ours
written_number Writing m = m.theirs

-- The entry of a match in a group.
abbrev pub entry_of : Direction → ℕ → ℕ → Match → Renumbering
entry_of direction s group m =
    record {
      schema = s;
      group = group;
      number = read_number direction m;
      renumbered = written_number direction m;
      nested = m.nested;
    }

-- The entries of the matches that are written at a number.
abbrev pub number_entries : Direction → ℕ → ℕ → ℕ → List Match → List Renumbering
number_entries direction s group number [] = []
number_entries direction s group number (m ∷ matches) =
    if written_number direction m == number
    then entry_of direction s group m ∷ number_entries direction s group number matches
    else number_entries direction s group number matches

-- The same of the numbers of a row.
abbrev pub row_entries : Direction → ℕ → ℕ → List ℕ → List Match → List Renumbering
row_entries direction s group [] matches = []
row_entries direction s group (number ∷ row) matches =
    number_entries direction s group number matches ++ row_entries direction s group row matches

-- The group after a group.
abbrev pub next_group : ℕ → ℕ
next_group group = min (group + 1) 0xFFFF_FFFF_FFFF_FFFF

-- The entries of rows after a group: those of each row are a group.
abbrev pub rows_entries : Direction → ℕ → ℕ → List (List ℕ) → List Match → List Renumbering
rows_entries direction s group [] matches = []
rows_entries direction s group (row ∷ rows) matches =
    row_entries direction s (next_group group) row matches
    ++ rows_entries direction s (next_group group) rows matches

-- The group of the last one of some rows.
abbrev pub last_group : ℕ → List (List ℕ) → ℕ
last_group group [] = group
last_group group (row ∷ rows) = last_group (next_group group) rows

-- The rows of a message that may be there, and its matches.
abbrev pub found_rows : Direction → ℕ → Option MessageDescriptor → List (List ℕ)
found_rows direction s None = []
found_rows direction s (Some message) = rows_in direction s message.fields.items

abbrev pub found_matches : DescriptorSet → List (Option ℕ) → ℕ → Option MessageDescriptor → List Match
found_matches set named s None = []
found_matches set named s (Some message) = matches_of set named s message.fields.items

-- The entries of the schemas from a number on after a group, by the indices of their messages.
abbrev pub entries_from : DescriptorSet → List (Option ℕ) → Direction → ℕ → ℕ → List (Option ℕ) → List Renumbering
entries_from set named direction group s [] = []
entries_from set named direction group s (found ∷ read) =
    rows_entries direction s group (found_rows direction s (message_at set found))
    (found_matches set named s (message_at set found))
    ++ entries_from set named direction (last_group group (found_rows direction s (message_at set found))) (s + 1) read

-- The entries by the messages that names find.
abbrev pub entries_in : DescriptorSet → Direction → Result (List (Option ℕ)) (ℕ × RenameFault)
    → Result (List Renumbering) (ℕ × RenameFault)
entries_in set direction (Err wrong) = Err wrong
entries_in set direction (Ok named) =
    Ok (entries_from set named direction 0 0 (read_of set (with_suspensions named)))

-- The entries of the numbering of a set with renames; or the index of the first wrong rename, and what is wrong with
-- it.
abbrev pub numbering_entries : DescriptorSet → List Rename → Direction → Result (List Renumbering) (ℕ × RenameFault)
numbering_entries set renames direction = entries_in set direction (named_of set renames)

-- The result of a numbering of a set that should have these entries. An error is of the table of the set, or else of
-- the wrong rename, or that there are none, or an allocation that failed.
abbrev pub IsNumbering : {Z : Type 0} → DescriptorSet → Result (List Renumbering) (ℕ × RenameFault)
    → Result (Vec Renumbering Z) SchemaError → Type 0
IsNumbering set wanted (Ok entries) =
    HasTable set × (wanted ≡ Ok entries.items) × (1 ≤ length entries.items)
IsNumbering set wanted (Err (error.Rename index fault)) = HasTable set × (wanted ≡ Err (index, fault))
IsNumbering set wanted (Err (error.Descriptor why)) = IsTableError set why
IsNumbering set wanted (Err error.NoFields) = HasTable set × (wanted ≡ Ok [])
IsNumbering set wanted (Err error.OutOfMemory) = Unit {0}
IsNumbering set wanted (Err error.Output) = ⊥
