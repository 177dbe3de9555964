-- What contents are replaced by.
use Rattle.std.specs.Prelude.{ℕ, ◌+◌, ◌%◌, List, ◌++◌, length, map, get_or, replicate}
use Rattle.std.specs.List.{range_with_len}
use Rattle.sha2.specs.Sha256.{sha256}
use Rattle.stream_redaction.specs.declared.key.Key.{Key}

-- The letter at a place, from a to z: by the bytes of a digest, one after the other and again from the first.
abbrev pub letter : List ℕ → ℕ → ℕ
letter digest place = 97 + get_or digest (place % 32) 0 % 26

-- This many characters by a digest.
abbrev pub letters : List ℕ → ℕ → List ℕ
letters digest count = map (letter digest) (range_with_len 0 count)

-- What a content is replaced by: as many characters as it has bytes, by the SHA-256 digest of the secret's digest and
-- the content.
unfoldable pub replacement : Key → List ℕ → List ℕ
replacement key content = letters (sha256 (key.digest ++ content)) (length content)

-- This many zeros, which stand for bytes of an unknown structure.
abbrev pub zeros : ℕ → List ℕ
zeros count = replicate count 0
