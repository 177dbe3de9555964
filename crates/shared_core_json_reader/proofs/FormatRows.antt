-- What is known of the rows of a format by which JSON is read.
use Rattle.std.proofs.Common.{◌≡◌, ℕ, List, [], ◌∷◌, true, false, not, refl, nat_eq, length, Some}
use Rattle.std.specs.Prelude.{Vec}
use Rattle.std.specs.declared.alloc.Global.{Global}
use Rattle.std.specs.List.{list_all}
use Rattle.shared_core_wire.specs.Schema.{Kind, Row, U32, U64, Boolean, Enumeration, Text, ByteString, Message}
use Rattle.shared_core_wire.specs.Schema.{Plain, Optional, Repeated, OneOf, is_schema}
use Rattle.shared_core_wire.proofs.Runs.{and_split, and_join}
use Rattle.shared_core_codec.specs.LoadedRows.{schemas_view}
use Rattle.shared_core_codec.specs.declared.loaded_rows.LoadedRow.{LoadedRow}
use Rattle.shared_core_json.specs.LoadedNames.{all_names_view}
use Rattle.shared_core_json.specs.declared.loaded_names.LoadedName.{LoadedName}
use Rattle.shared_core_codec.specs.Tables.{is_message, may_be_empty}
use Rattle.shared_core_json.proofs.PlainScalars.{is_scalar, plain_scalars}
use Rattle.shared_core_json_reader.specs.Rows.{Format}
use Rattle.shared_core_json_reader.specs.Readable.{IsReadable, unreadable_from}

pub schemas_of : (format : Format) (law : IsReadable format) (s : ℕ) → is_schema (format.table s) ≡ true
schemas_of format law s = (and_split _ _ (law.rows s)).0

scalar_of : (k : Kind) → not (is_message k) ≡ true → is_scalar k ≡ true
scalar_of U32 h = refl
scalar_of U64 h = refl
scalar_of Boolean h = refl
scalar_of Enumeration h = refl
scalar_of Text h = refl
scalar_of ByteString h = refl
scalar_of (Message s) h = absurd cc

all_scalars : (rows : List Row) → list_all may_be_empty rows ≡ true → plain_scalars rows ≡ true
unfolding plain_scalars
all_scalars [] h = refl
all_scalars (Plain n k ∷ rows) h = let e = and_split _ _ h in and_join _ _ (scalar_of k e.0) (all_scalars rows e.1)
all_scalars (Optional n k ∷ rows) h = all_scalars rows h
all_scalars (Repeated n k ∷ rows) h = all_scalars rows h
all_scalars (OneOf members ∷ rows) h = all_scalars rows h

pub scalars_of : (format : Format) (law : IsReadable format) (s : ℕ) → plain_scalars (format.table s) ≡ true
scalars_of format law s = all_scalars (format.table s) (and_split _ _ (law.rows s)).1

-- names of more schemas than there are
pub more_names : (s : ℕ) (names : List (Vec LoadedName Global)) (schemas : List (Vec LoadedRow Global)) → length schemas
    ≡ 0 → nat_eq (length names) 0 ≡ false → unreadable_from s (all_names_view names) (schemas_view schemas) ≡ Some s
more_names s [] schemas e h = absurd cc
more_names s (own ∷ names) [] e h = refl
more_names s (own ∷ names) (rows ∷ schemas) e h = absurd cc
