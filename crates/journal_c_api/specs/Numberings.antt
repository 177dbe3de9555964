-- The results of the calls on payloads at other field numbers.
use Rattle.std.specs.Prelude.{◌≡◌, ◌≢◌, ℕ, ◌<◌, ◌≤◌, ◌^◌, List, [], ◌∷◌, ◌++◌, take, drop, length, Vec, All}
use Rattle.std.specs.Prelude.{true, false, map, Option, Some, None, nat_eq, if◌then◌else◌}
use Rattle.std.specs.Prelude.{Result, Ok, Err}
use Rattle.std.specs.Str.Lines.{lines}
use Rattle.shared_core_base.specs.declared.version.Version.{Version}
use Rattle.dump_lines.specs.declared.options.Options.{Options}
use Rattle.dump_lines.specs.Lines.{line_of_in, rest_line}
use Rattle.dump_lines.specs.Other.{reading_by}
use Rattle.dump_lines.specs.Reading.{Reading as AnyReading}
use Rattle.shared_core_wire.specs.Schema.{table_of}
use Rattle.shared_core_stream.specs.declared.encoding.item.Item.{Item}
use Rattle.shared_core_stream.specs.Items.{SplitsInto}
use Rattle.stream_lines.specs.Printing.{all_lines, first_trouble, Begins}
use Rattle.stream_renumbering.specs.Streams.{item_bytes, item_trouble, IsLong}
use Rattle.descriptor_set.specs.Descriptors.{IsDescriptorSet}
use Rattle.descriptor_set.specs.Sets.{IsSetOf}
use Rattle.descriptor_set.specs.TableNames.{set_names}
use Rattle.descriptor_set.specs.Tables as tables
use Rattle.descriptor_set.specs.declared.set.DescriptorSet.{DescriptorSet}
use Rattle.schema_lines.specs.declared.numbering.Direction.{Direction}
use Rattle.schema_lines.specs.declared.numbering.Direction.TheVariants.{Reading, Writing}
use Rattle.schema_lines.specs.declared.renames.Rename.{Rename}
use Rattle.schema_lines.specs.Entries.{numbering_entries}
use Rattle.schema_lines.specs.Named.{named_of}
use Rattle.schema_lines.specs.Numberings.{IsOurs}
use Rattle.schema_lines.specs.Pairs.{schemas_in}
use Rattle.schema_lines.specs.Renames.{rename_of, said_names}
use Rattle.shared_core_renumber.specs.declared.entries.Renumbering.{Renumbering}
use Rattle.shared_core_renumber.specs.Payloads.{IsRenumberable, IsRenumbered, IsRenumberedTooLong}
use Rattle.journal_c_api.specs.declared.outcome.CallError.{CallError}
use Rattle.journal_c_api.specs.declared.outcome.CallError.TheVariants.{Malformed, NoRoom, OutOfMemory, TooLong}
use Rattle.journal_c_api.specs.declared.outcome.CallError.TheVariants.{UnknownOption}
use Rattle.journal_c_api.specs.Outcomes.{AtVersion, supported_version, written_over}

-- A slice, with the first elements written at its front, as many as it has room for.
abbrev pub front_over : {A : Type 0} → List A → List A → List A
front_over elements old = take (length old) elements ++ drop (length elements) old

-- The direction that a number denotes.
abbrev pub direction_of : ℕ → Option Direction
direction_of number =
    if nat_eq number 0 then Some Reading else (if nat_eq number 1 then Some Writing else None)

-- Renames are those that the lines of a text say, one a line, in their order.
abbrev pub AreRenamesOf : List ℕ → List Rename → Type 0
AreRenamesOf text renames = said_names renames ≡ map rename_of (lines text)

-- Entries are all those of the numbering of what is read of a set, with the renames of a text, in their order. There is
-- at least one.
unfoldable pub IsNumberingOf : Direction → List ℕ → List ℕ → List Renumbering → Type 0
IsNumberingOf direction set text entries =
    (found : DescriptorSet) × IsSetOf set found × (renames : List Rename) × AreRenamesOf text renames
    × (numbering_entries found renames direction ≡ Ok entries) × (1 ≤ length entries)

-- The entries of the numbering of a set, which is then a descriptor set: each is of a field of the protocol.
abbrev pub FindsNumbering : {Z : Type 0} → Direction → List ℕ → List ℕ → Result (Vec Renumbering Z) CallError → Type 0
FindsNumbering direction set text (Ok entries) =
    IsDescriptorSet set × All (IsOurs direction) entries.items × IsNumberingOf direction set text entries.items
FindsNumbering direction set text (Err Malformed) = Unit {0}
FindsNumbering direction set text (Err OutOfMemory) = Unit {0}
FindsNumbering direction set text (Err error) = ⊥

-- The result of journal_numbering, and what it writes: the first entries of a numbering, as many as there is room for,
-- each of a field of the protocol. UnknownOption if the number denotes no direction; each error leaves the slice
-- unchanged.
abbrev pub WritesNumbering : ℕ → List ℕ → List ℕ → List Renumbering → List Renumbering → Result ℕ CallError → Type 0
WritesNumbering number set text old new (Ok count) =
    (direction : Direction) × (direction_of number ≡ Some direction) × IsDescriptorSet set
    × (entries : List Renumbering) × All (IsOurs direction) entries × IsNumberingOf direction set text entries
    × (count ≡ length entries) × (new ≡ front_over entries old)
WritesNumbering number set text old new (Err UnknownOption) = (direction_of number ≡ None) × (new ≡ old)
WritesNumbering number set text old new (Err Malformed) = (direction_of number ≢ None) × (new ≡ old)
WritesNumbering number set text old new (Err OutOfMemory) = (direction_of number ≢ None) × (new ≡ old)
WritesNumbering number set text old new (Err error) = ⊥

-- The result of journal_numbering_text, and what it writes: one number, 0 only of a descriptor set, and the bytes of a
-- text. NoRoom if there is no room for the number; each error leaves both slices unchanged.
abbrev pub WritesList : List ℕ → List ℕ → List ℕ → List ℕ → List ℕ → Result ℕ CallError → Type 0
WritesList set numbers_old numbers_new old new (Ok count) =
    (1 ≤ length numbers_old) × (kind : ℕ) × (text : List ℕ) × (kind ≤ 2) × (kind ≡ 0 → IsDescriptorSet set)
    × (count ≡ length text) × (numbers_new ≡ written_over (kind ∷ []) numbers_old) × (new ≡ written_over text old)
WritesList set numbers_old numbers_new old new (Err NoRoom) =
    (length numbers_old < 1) × (numbers_new ≡ numbers_old) × (new ≡ old)
WritesList set numbers_old numbers_new old new (Err OutOfMemory) =
    (1 ≤ length numbers_old) × (numbers_new ≡ numbers_old) × (new ≡ old)
WritesList set numbers_old numbers_new old new (Err error) = ⊥

-- The result of journal_renumber: the payload at the numbers of the table. Malformed if and only if it cannot be
-- written at other numbers; TooLong if the result has more bytes than 32 bits can count. An allocation may fail.
abbrev pub ReturnsRenumbered : ℕ → List Renumbering → List ℕ → Result (List ℕ) CallError → Type 0
ReturnsRenumbered s table payload (Ok bytes) =
    IsRenumberable table s payload × IsRenumbered table s payload bytes × (length bytes < 2 ^ 32)
ReturnsRenumbered s table payload (Err Malformed) = ¬ (IsRenumberable table s payload)
ReturnsRenumbered s table payload (Err TooLong) = IsRenumberedTooLong table s payload
ReturnsRenumbered s table payload (Err OutOfMemory) = Unit {0}
ReturnsRenumbered s table payload (Err error) = ⊥

-- The result of journal_renumber_stream at a version: each item at the numbers of the table, and the trailing bytes.
-- Malformed if and only if the payload of a message cannot be written at other numbers; TooLong if one would be too
-- long for a header. An allocation may fail.
abbrev pub ReturnsItems : List Renumbering → List ℕ → Result (List ℕ) CallError → Version → Type 0
ReturnsItems table stream (Ok bytes) version =
    (items : List Item) × (rest : List ℕ) × SplitsInto version stream items rest
    × (first_trouble (item_trouble table version) 0 items ≡ None)
    × (bytes ≡ all_lines (λ at. item_bytes table version) (λ at rest. rest) stream items rest)
ReturnsItems table stream (Err Malformed) version =
    (items : List Item) × (rest : List ℕ) × SplitsInto version stream items rest
    × (first_trouble (item_trouble table version) 0 items ≢ None)
ReturnsItems table stream (Err TooLong) version =
    (read : List ℕ) × Begins read stream × (items : List Item) × (rest : List ℕ) × SplitsInto version read items rest
    × (done : List Item) × (front : List Item) × (item : Item) × Begins (done ++ (front ++ item ∷ [])) items
    × IsLong table version item
ReturnsItems table stream (Err OutOfMemory) version = Unit {0}
ReturnsItems table stream (Err error) version = ⊥

-- The same at the version that a number denotes.
abbrev pub ReturnsStream : ℕ → List Renumbering → List ℕ → Result (List ℕ) CallError → Type 0
ReturnsStream number table stream outcome =
    AtVersion (supported_version number) outcome (ReturnsItems table stream outcome)

-- The options of a dump of all items with their payloads, on one line each, and of the trailing bytes.
pub record IsWhole (version : Version) (options : Options) : Type 0 where
  pub version_is : options.version ≡ version
  pub codes : options.codes.now ≡ []
  pub payloads : options.payloads ≡ true
  pub texts : options.texts ≡ false
  pub pretty : options.pretty ≡ false
  pub rest : options.rest ≡ true

-- The dump of a stream by messages and options. TooLong if a payload would be too long for a header. An allocation may
-- fail.
abbrev pub IsDumpBy : AnyReading → Options → List ℕ → Result (List ℕ) CallError → Type 0
IsDumpBy reading options stream (Ok bytes) =
    (items : List Item) × (rest : List ℕ) × SplitsInto options.version stream items rest
    × (bytes ≡ all_lines (line_of_in reading options) (rest_line options) stream items rest)
IsDumpBy reading options stream (Err TooLong) = Unit {0}
IsDumpBy reading options stream (Err OutOfMemory) = Unit {0}
IsDumpBy reading options stream (Err error) = ⊥

-- The dump of all items of a stream by some messages, at a version.
abbrev pub ReturnsLines : AnyReading → List ℕ → Result (List ℕ) CallError → Version → Type 0
ReturnsLines reading stream (Ok bytes) version =
    (options : Options) × IsWhole version options × IsDumpBy reading options stream (Ok bytes)
ReturnsLines reading stream (Err TooLong) version = Unit {0}
ReturnsLines reading stream (Err OutOfMemory) version = Unit {0}
ReturnsLines reading stream (Err error) version = ⊥

-- Payloads are read by the messages of a set with the renames of a text, at the set's numbers and by its names.
unfoldable pub IsReadingOf : List ℕ → List ℕ → AnyReading → Type 0
IsReadingOf set text reading =
    (found : DescriptorSet) × IsSetOf set found × (renames : List Rename) × AreRenamesOf text renames
    × (schemas : List (Option ℕ)) × (schemas_in found (named_of found renames) ≡ Ok schemas)
    × (reading ≡ reading_by (table_of (tables.schemas_of found)) (set_names found) schemas)

-- The dump by the messages of a set. Malformed if no numbering comes of the set and the renames.
abbrev pub ReturnsDumpAt : List ℕ → List ℕ → List ℕ → Result (List ℕ) CallError → Version → Type 0
ReturnsDumpAt set text stream (Ok bytes) version =
    IsDescriptorSet set
    × (reading : AnyReading) × IsReadingOf set text reading × ReturnsLines reading stream (Ok bytes) version
ReturnsDumpAt set text stream (Err Malformed) version = Unit {0}
ReturnsDumpAt set text stream (Err TooLong) version = Unit {0}
ReturnsDumpAt set text stream (Err OutOfMemory) version = Unit {0}
ReturnsDumpAt set text stream (Err error) version = ⊥

-- The result of journal_numbering_dump: at the version that a number denotes.
abbrev pub ReturnsDump : ℕ → List ℕ → List ℕ → List ℕ → Result (List ℕ) CallError → Type 0
ReturnsDump number set text stream outcome =
    AtVersion (supported_version number) outcome (ReturnsDumpAt set text stream outcome)
