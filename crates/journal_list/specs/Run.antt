-- How a run of the program ends, and what it prints and returns then.
use Rattle.std.specs.Prelude.{ℕ, List, [], ◌++◌, codes, Result, Ok, Err, ⊤}
use Rattle.command_line.specs.declared.arguments.ArgumentsError.{ArgumentsError}
use Rattle.command_line.specs.declared.arguments.ArgumentsError.TheVariants as arguments_error
use Rattle.journal_list.specs.declared.error.ListError.{ListError}
use Rattle.journal_list.specs.declared.error.ListError.TheVariants.{Input, OutOfMemory}
use Rattle.journal_list.specs.Listing.{error_text}
use Rattle.journal_list.specs.declared.run.Outcome.{Outcome}
use Rattle.journal_list.specs.declared.run.Outcome.TheVariants.{Rejected, Listed}

-- How a run ends whose arguments cannot be read.
abbrev pub error_of_arguments : ArgumentsError → ListError
error_of_arguments arguments_error.NotText = Input
error_of_arguments arguments_error.OutOfMemory = OutOfMemory

-- The arguments were rejected.
abbrev pub IsRejected : Outcome → Type 0
IsRejected Rejected = ⊤
IsRejected (Listed _) = ⊥

-- The condition holds of the listing's result, if there is one.
abbrev pub IfListed : Outcome → (Result (Unit {0}) ListError → Type 0) → Type 0
IfListed Rejected fact = ⊤
IfListed (Listed listing) fact = fact listing

-- The line on the standard error: none after a whole listing.
abbrev pub message_of : Outcome → List ℕ
message_of Rejected = codes "usage: journal_list [1..65536] [v9]\n"
message_of (Listed (Ok _)) = []
message_of (Listed (Err error)) = codes "journal_list: " ++ (error_text error ++ codes "\n")

-- The exit status: 0 after a whole listing, 1 after a failure, 2 for rejected arguments.
abbrev pub status_of : Outcome → ℕ
status_of Rejected = 2
status_of (Listed (Ok _)) = 0
status_of (Listed (Err _)) = 1
