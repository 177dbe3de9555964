-- What is found of the files that a call reads.
use Rattle.std.specs.Prelude.{◌≡◌, ℕ, List, [], ◌∷◌, codes, map, option_map, unwrap_or, false}
use Rattle.clap.specs.Matches.{first_value, matched_of, raw_values}
use Rattle.clap.specs.declared.parser.matches.Found.{Found}
use Rattle.command_line.specs.Input.{IsEncodingOf}
use Rattle.command_line.specs.MaxMessage.{IsLimitOf}
use Rattle.command_line.specs.Protocol.{IsAutoOf, IsVersionOf}
use Rattle.journal.specs.declared.file.File.{File}
use Rattle.journal.specs.declared.file.FileOptions.{FileOptions}
use Rattle.journal.specs.declared.file.Files.{Files}

-- The path that is found, or that of the standard input.
abbrev pub path_of : Found → List ℕ
path_of found = unwrap_or (first_value found (codes "file")) (codes "-")

-- The paths that are found, or only that of the standard input.
abbrev pub paths_of : Found → List (List ℕ)
paths_of found = unwrap_or (option_map raw_values (matched_of found (codes "file"))) (codes "-" ∷ [])

-- They are what `--protocol`, `--max-message` and `--input` say.
abbrev pub AreOptionsOf : Found → FileOptions → Type 0
AreOptionsOf found options =
    IsVersionOf found options.version × IsAutoOf found options.is_auto × IsLimitOf found options.limit
    × IsEncodingOf found options.encoding

-- It is the file that is found, which is read as the options say.
abbrev pub IsFileOf : Found → File → Type 0
IsFileOf found file = (file.path.now ≡ path_of found) × AreOptionsOf found file.options

-- They are the files that are found, which are read as the options say.
abbrev pub AreFilesOf : Found → Files → Type 0
AreFilesOf found files =
    (map (λ path. path.now) files.paths.items ≡ paths_of found) × AreOptionsOf found files.options

-- The second options read files as the first ones ask for it: only the version may be another one, and only where the
-- newest is asked for.
abbrev pub AreFittedTo : FileOptions → FileOptions → Type 0
AreFittedTo asked fitted =
    (fitted ≡ record asked { version = fitted.version }) × (asked.is_auto ≡ false → fitted ≡ asked)
