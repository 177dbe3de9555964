-- What is read of parsed arguments.
use Rattle.std.specs.Prelude.{ℕ, List, true}
use Rattle.clap.specs.Matches.{found_of}
use Rattle.clap.specs.Simple.{App, HasMatchesOf}
use Rattle.clap.specs.declared.parser.matches.ArgMatches.{ArgMatches}
use Rattle.clap.specs.declared.parser.matches.Found.{Found}

-- The command, whose words begin after the name of the program.
abbrev pub without_name : App → App
without_name app = record app { top = record app.top { no_binary_name = true } }

module _ {A : Type 0} (is_read : Found → A → Type 0) where
  -- It is what is found when a command takes these words.
  abbrev pub IsReadOf : App → List (List ℕ) → A → Type 0
  IsReadOf app words parsed =
      (matches : ArgMatches) × HasMatchesOf app words matches × is_read (found_of matches) parsed
