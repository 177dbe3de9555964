-- The names of the subcommands, and what is known of how one is asked for.
use Rattle.std.specs.Prelude.{◌≡◌, ◌&&◌, ◌++◌, List, ℕ, Bool, true, false, if◌then◌else◌, codes, Some}
use Rattle.std.specs.Path.{path_file_name}
use Rattle.journal.specs.declared.subcommand.Asked.{Asked}
use Rattle.journal.specs.declared.subcommand.Subcommand.{Subcommand}
use Rattle.journal.specs.declared.subcommand.Subcommand.TheVariants.{List as Listing, Dump, Make, Diff, Show, Cut, Cat}
use Rattle.journal.specs.declared.subcommand.Subcommand.TheVariants.{Schema, Redact, Describe, Get, Explain, Renumber}

-- The name of a subcommand.
abbrev pub subcommand_name : Subcommand → List ℕ
subcommand_name Listing = codes "list"
subcommand_name Dump = codes "dump"
subcommand_name Make = codes "make"
subcommand_name Diff = codes "diff"
subcommand_name Show = codes "show"
subcommand_name Cut = codes "cut"
subcommand_name Cat = codes "cat"
subcommand_name Schema = codes "schema"
subcommand_name Redact = codes "redact"
subcommand_name Describe = codes "describe"
subcommand_name Get = codes "get"
subcommand_name Explain = codes "explain"
subcommand_name Renumber = codes "renumber"

-- Whether a program of its own is called as the subcommand.
abbrev pub has_program : Subcommand → Bool
has_program Dump = true
has_program Make = true
has_program Diff = true
has_program Show = true
has_program subcommand = false

-- The path is that of the program which is called as the subcommand, in some folder.
abbrev pub IsProgramOf : List ℕ → Subcommand → Type 0
IsProgramOf path subcommand =
    (has_program subcommand ≡ true) × (path_file_name path ≡ Some (codes "journal_" ++ subcommand_name subcommand))

-- The path is that of no such program.
abbrev pub IsNoProgram : List ℕ → Type 0
IsNoProgram path = (subcommand : Subcommand) → IsProgramOf path subcommand → ⊥

-- How the subcommand is called: as its program, or as an argument of the whole one.
abbrev pub call_name : Asked → List ℕ
call_name asked =
    (if asked.is_program && has_program asked.subcommand then codes "journal_" else codes "journal ")
    ++ subcommand_name asked.subcommand

-- The status of a failure: 2 where 1 says something else, as that two journals differ.
abbrev pub failure_status : Subcommand → ℕ
failure_status Make = 2
failure_status Diff = 2
failure_status Cut = 2
failure_status Cat = 2
failure_status subcommand = 1
