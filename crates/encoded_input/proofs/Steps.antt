-- A text is read character by character, and its bytes are stored in its place.
use Rattle.std.proofs.Common.{◌≡◌, ◌∙◌, ℕ, ◌+◌, ◌<◌, ◌≤◌, List, [], ◌∷◌, ◌++◌, get_or, set, length, take, drop, ap, sym}
use Rattle.std.proofs.Common.{Option, Some, None, append_assoc, arith}
use Rattle.std.proofs.lemmas.List.{at_drop_more, drop-set-lt, take_more_set, drop_all, append-nil}
use Rattle.encoded_input.specs.Text.{decoded, next_byte, next_position, position_after, with_byte}
use Rattle.encoded_input.specs.declared.position.Position.{Position}

-- the position after the character at an index
position_more : (position : Position) (text : List ℕ) (index : ℕ) → index < length text
    → position_after position (drop index text)
    ≡ position_after (next_position position (get_or text index 0)) (drop (index + 1) text)
unfolding position_after
position_more position text index within = at_drop_more (position_after position) text index 0 within

-- what is decoded of the character at an index
decoded_more : (position : Position) (text : List ℕ) (index : ℕ) → index < length text
    → decoded position (drop index text)
    ≡ with_byte (next_byte position (get_or text index 0))
    (decoded (next_position position (get_or text index 0)) (drop (index + 1) text))
unfolding decoded
decoded_more position text index within = at_drop_more (decoded position) text index 0 within

-- a byte that is stored after those before it
stored : (text rest : List ℕ) (given byte : ℕ) → given < length text
    → take given text ++ (byte ∷ rest) ≡ take (given + 1) (set text given byte) ++ rest
stored text rest given byte within =
    sym (ap (λ (bytes : List ℕ). bytes ++ rest) (take_more_set text given byte within)
    ∙ append_assoc (take given text) (byte ∷ []) rest)

module _ (position next : Position) (text : List ℕ) (index given : ℕ) (within : index < length text) where
  -- a character that completes a byte
  pub completes : (byte : ℕ) → given ≤ index → next_byte position (get_or text index 0) ≡ Some byte
      → next ≡ next_position position (get_or text index 0)
      → take given text ++ decoded position (drop index text)
      ≡ take (given + 1) (set text given byte) ++ decoded next (drop (index + 1) (set text given byte))
  completes byte few is is_next =
      let after = next_position position (get_or text index 0) in
      let rest = drop (index + 1) text in
      let same : drop (index + 1) (set text given byte) ≡ rest =
      drop-set-lt (index + 1) text given byte (omega arith) in
      ap (λ (bytes : List ℕ). take given text ++ bytes) (decoded_more position text index within
      ∙ ap (λ (found : Option ℕ). with_byte found (decoded after rest)) is)
      ∙ stored text (decoded after rest) given byte (omega arith)
      ∙ ap (λ (p : Position). take (given + 1) (set text given byte) ++ decoded p rest) (sym is_next)
      ∙ ap (λ (left : List ℕ). take (given + 1) (set text given byte) ++ decoded next left) (sym same)

  -- one that does not
  pub passes : next_byte position (get_or text index 0) ≡ None → next ≡ next_position position (get_or text index 0)
      → take given text ++ decoded position (drop index text) ≡ take given text ++ decoded next (drop (index + 1) text)
  passes is is_next =
      let after = next_position position (get_or text index 0) in
      let rest = drop (index + 1) text in
      ap (λ (bytes : List ℕ). take given text ++ bytes) (decoded_more position text index within
      ∙ ap (λ (found : Option ℕ). with_byte found (decoded after rest)) is
      ∙ ap (λ (p : Position). decoded p rest) (sym is_next))

  -- the position after either
  pub comes_to : next ≡ next_position position (get_or text index 0)
      → position_after position (drop index text) ≡ position_after next (drop (index + 1) text)
  comes_to is_next =
      position_more position text index within
      ∙ ap (λ (p : Position). position_after p (drop (index + 1) text)) (sym is_next)

  pub comes_to_stored : (byte : ℕ) → given ≤ index → next ≡ next_position position (get_or text index 0)
      → position_after position (drop index text)
      ≡ position_after next (drop (index + 1) (set text given byte))
  comes_to_stored byte few is_next =
      let same : drop (index + 1) (set text given byte) ≡ drop (index + 1) text =
      drop-set-lt (index + 1) text given byte (omega arith) in
      comes_to is_next ∙ ap (position_after next) (sym same)

-- what is decoded, and the position, where all is read
pub all_decoded : (position : Position) (text bytes : List ℕ) (index : ℕ) → length text ≤ index
    → bytes ++ decoded position (drop index text) ≡ bytes
unfolding decoded
all_decoded position text bytes index over =
    ap (λ (left : List ℕ). bytes ++ decoded position left) (drop_all index text over) ∙ append-nil bytes

pub all_passed : (position : Position) (text : List ℕ) (index : ℕ) → length text ≤ index
    → position_after position (drop index text) ≡ position
unfolding position_after
all_passed position text index over = ap (position_after position) (drop_all index text over)
