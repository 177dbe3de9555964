-- What each step of the loop that shows a stream adds.
use Rattle.std.specs.Prelude.{◌≡◌, ◌≤◌, ℕ, ◌+◌, List, ◌++◌}
use Rattle.shared_core_stream.specs.declared.encoding.item.Item.{Item}
use Rattle.shared_core_stream.specs.Items.{IsItemsThen}
use Rattle.stream_lines.specs.Printing.{items_size, AllWithin}
use Rattle.show_lines.specs.Lines.{Known, lines, known_after}
use Rattle.show_lines.specs.Waiting.{Waiting, halves_view}
use Rattle.show_lines.specs.declared.options.Options.{Options}
use Rattle.show_lines.specs.declared.place.Place.{Place}
use Rattle.show_lines.specs.declared.stream.Lines.{Lines as AnyLines}

-- What waits after the items so far.
abbrev pub waiting_of : AnyLines → Waiting
waiting_of lines = halves_view lines.waiting.halves.entries

-- Where the next item is.
abbrev pub place_of : AnyLines → Place
place_of lines = record { index = lines.index; command = lines.commands; offset = lines.offset }

-- No more commands were counted than items, and no more items than bytes.
abbrev pub AreCounted : AnyLines → Type 0
AreCounted lines = (lines.index ≤ lines.offset) × (lines.commands ≤ lines.index)

-- What is known after the items so far.
abbrev pub known_by : AnyLines → Known
known_by lines = record { place = place_of lines; waiting = waiting_of lines }

-- Items at the front of the bytes, each within the limit, were added to the text, to the offset and to what is known;
-- these bytes are left.
pub record Added (options : Options) (limit : ℕ) (at : ℕ) (known : Known) (text : List ℕ) (bytes : List ℕ)
    (offset : ℕ) (learnt : Known) (longer rest : List ℕ) : Type 0 where
  pub more : List Item
  pub next : IsItemsThen options.version bytes more rest
  pub within : AllWithin limit more
  pub printed : longer ≡ text ++ lines options known more
  pub place : offset ≡ at + items_size more
  pub noted : learnt ≡ known_after options known more
