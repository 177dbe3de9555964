-- The arguments after the program's name.
use Rattle.std.specs.Prelude.{◌≡◌, ◌≤◌, ◌⊎◌, ℕ, List, [], ◌∷◌, codes, length}
use Rattle.std.specs.Str.Parse.{IsNumeral, digits_value}
use Rattle.shared_core_base.specs.declared.version.Version.{Version}
use Rattle.shared_core_base.specs.declared.version.Version.TheVariants.{V8, V9}
use Rattle.shared_core_base.specs.Version.{version_number}

-- The argument is one to five digits, and their value is the number, from 1 to 65,536.
pub record IsChunkSize (word : List ℕ) (chunk_size : ℕ) : Type 0 where
  pub numeral : IsNumeral 10 word
  pub short : length word ≤ 5
  pub value : chunk_size ≡ digits_value 10 word
  pub low : 1 ≤ chunk_size
  pub high : chunk_size ≤ 65536

-- An argument is the number of bytes of a chunk, without which it is 4,096; the version is V9 if `v9` comes after it,
-- and V8 if nothing does. Other arguments are invalid.
abbrev pub AreOptions : List (List ℕ) → Version → ℕ → Type 0
AreOptions [] version chunk_size = (version ≡ V8) × (chunk_size ≡ 4096)
AreOptions (word ∷ []) version chunk_size =
    ((word ≡ codes "v9") × (version ≡ V9) × (chunk_size ≡ 4096)) ⊎ ((version ≡ V8) × IsChunkSize word chunk_size)
AreOptions (word ∷ last ∷ []) version chunk_size = (last ≡ codes "v9") × (version ≡ V9) × IsChunkSize word chunk_size
AreOptions (_ ∷ _ ∷ _ ∷ _) version chunk_size = ⊥

-- A version and a number of bytes that a stream can be listed with.
abbrev pub IsAccepted : Version → ℕ → Type 0
IsAccepted version chunk_size = (5 ≤ version_number version) × (1 ≤ chunk_size) × (chunk_size ≤ 65536)
