-- The codes of types that the comments of a file say at its messages.
use Rattle.std.specs.Prelude.{◌≡◌, ℕ, zero, suc, ◌%◌, Bool, not, ◌&&◌, ◌==◌, if◌then◌else◌}
use Rattle.std.specs.Prelude.{List, [], ◌∷◌, ◌++◌, flat_map, length, Option, Some, None, Vec}
use Rattle.std.specs.Global.{Global}
use Rattle.std.specs.BTreeMap.{get_by}
use Rattle.std.specs.Cmp.Lexicographic.{slice_cmp}
use Rattle.std.specs.Option.{option_map, option_or}
use Rattle.std.specs.Ordering.{nat_cmp}
use Rattle.std.specs.Str.{bytes_eq}
use Rattle.shared_core_wire.specs.Grammar.{RecordValue, Varint, Length, FieldRecord}
use Rattle.shared_core_wire.specs.Reader.{varint_at}
use Rattle.descriptor_set.specs.declared.codes.SaidCode.{SaidCode}
use Rattle.descriptor_set.specs.declared.comments.Comment.{Comment}
use Rattle.descriptor_set.specs.declared.comments.Comments.{Comments}
use Rattle.descriptor_set.specs.Codes.{said_codes}
use Rattle.descriptor_set.specs.Values.{content_in, contents_in, records_in}

-- The low 32 bits of varints that follow one another, at most this many. The first one was read, where it could be.
abbrev pub numbers_past : ℕ → Option (ℕ × List ℕ) → List ℕ
numbers_past zero found = []
numbers_past (suc most) None = []
numbers_past (suc most) (Some found) = found.0 % 4294967296 ∷ numbers_past most (varint_at found.1)

-- The numbers that bytes begin with.
abbrev pub packed_path : List ℕ → List ℕ
packed_path bytes = numbers_past (length bytes) (varint_at bytes)

-- The numbers of a path that a record of a Location has: one, or those of a packed run.
abbrev pub path_held : RecordValue → List ℕ
path_held (Varint n) = n % 4294967296 ∷ []
path_held (Length bytes) = packed_path bytes
path_held w = []

abbrev pub path_at : FieldRecord → List ℕ
path_at r = if r.number == 1 then path_held r.value else []

-- The path of a Location: the numbers of fields and the indices that lead from the file to what it is at.
abbrev pub path_of : List FieldRecord → List ℕ
path_of rs = flat_map path_at rs

abbrev pub path_in : List ℕ → List ℕ
path_in location = path_of (records_in location)

-- What the comments of a place say: the codes of the one above it and of the one after its beginning, and whether
-- there is one above it.
pub record Said : Type 0 where
  pub above : List SaidCode
  pub after : List SaidCode
  pub has_above : Bool

-- What those of a Location say.
abbrev pub said_in : List ℕ → Said
said_in location =
    record {
      above = said_codes (content_in 3 location);
      after = said_codes (content_in 4 location);
      has_above = not (length (content_in 3 location) == 0);
    }

-- The codes of the first of two comments that says any.
abbrev pub first_said : List SaidCode → List SaidCode → List SaidCode
first_said [] second = second
first_said (code ∷ first) second = code ∷ first

-- The codes of the first of the two comments that says any.
abbrev pub own_codes : Said → List SaidCode
own_codes said = first_said said.above said.after

-- The codes of the comment above a place, or of the one after its beginning if there is none above it.
abbrev pub first_codes : Said → List SaidCode
first_codes said = if said.has_above then said.above else said.after

-- What a Location says, if it is at a path and says codes.
abbrev pub said_here : List ℕ → List ℕ → Option Said
said_here path location =
    if bytes_eq (path_in location) path && not (length (own_codes (said_in location)) == 0)
    then Some (said_in location) else None

-- What the first of some Locations says that says codes at a path.
abbrev pub said_at : List ℕ → List (List ℕ) → Option Said
said_at path [] = None
said_at path (location ∷ rest) = option_or (said_here path location) (said_at path rest)

-- The Locations of a file, of all records of its SourceCodeInfo.
abbrev pub locations_of : List (List ℕ) → List (List ℕ)
locations_of sources = flat_map (contents_in 1) sources

abbrev pub locations_in : List ℕ → List (List ℕ)
locations_in file = locations_of (contents_in 9 file)

-- The codes of what was found; none of what was not.
abbrev pub own_found : Option Said → List SaidCode
own_found None = []
own_found (Some said) = own_codes said

abbrev pub first_found : Option Said → List SaidCode
first_found None = []
first_found (Some said) = first_codes said

-- The codes of the message of a path: those that its own comments say, or else the first comment of its first field,
-- whose path has the field's number 2 and the index 0 after it. Of several Locations of one path that say codes, the
-- first one counts.
abbrev pub codes_at : List ℕ → List ℕ → List SaidCode
codes_at file path =
    first_said (own_found (said_at path (locations_in file)))
    (first_found (said_at (path ++ 2 ∷ 0 ∷ []) (locations_in file)))

-- ---- the program's comments

-- What a comment of the program says.
abbrev pub said_by : Comment → Said
said_by comment =
    record { above = comment.above.items; after = comment.after.items; has_above = comment.has_above }

-- What the program's comments say at a path.
abbrev pub found_at : Comments → List ℕ → Option Said
found_at comments path = option_map said_by (get_by (λ key. slice_cmp nat_cmp path key.items) comments.by_path)

-- They are the comments of a file.
abbrev pub AreCommentsOf : List ℕ → Comments → Type 0
AreCommentsOf file comments =
    (path : Vec ℕ Global) → found_at comments path.items ≡ said_at path.items (locations_in file)
