-- Texts with colors.
use Rattle.std.specs.Prelude.{◌≡◌, ℕ, List, [], ◌∷◌, ◌++◌, codes, flat_map}
use Rattle.terminal_text.specs.declared.colors.Style.{Style}
use Rattle.terminal_text.specs.declared.colors.Style.TheVariants.{Plain, Bold, Red, Green}

-- The bytes of a sequence for a terminal: the character escape, `[`, what the sequence says, and `m`.
abbrev pub sequence : List ℕ → List ℕ
sequence said = 27 ∷ codes "[" ++ (said ++ codes "m")

-- The sequence that begins a style.
abbrev pub opening : Style → List ℕ
opening Plain = []
opening Bold = sequence (codes "1")
opening Red = sequence (codes "31")
opening Green = sequence (codes "32")

-- The sequence that ends a style.
abbrev pub closing : Style → List ℕ
closing Plain = []
closing style = sequence (codes "0")

-- A part of a text in a style: its bytes, between the sequences of the style if there are any bytes.
abbrev pub painted_part : Style → List ℕ → List ℕ
painted_part style [] = []
painted_part style (byte ∷ bytes) = opening style ++ ((byte ∷ bytes) ++ closing style)

-- A part of a text, and its style.
pub record Span : Type 0 where
  pub style : Style
  pub part : List ℕ

-- These are a text and the same text with colors: its parts, and each of these parts in its style.
abbrev pub IsPainted : List ℕ → List ℕ → Type 0
IsPainted text painted =
    (spans : List Span)
    × (text ≡ flat_map (λ span. span.part) spans)
    × (painted ≡ flat_map (λ span. painted_part span.style span.part) spans)
