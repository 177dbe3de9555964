-- How the split of a stream begins.
use Rattle.std.proofs.Common.{ℕ, List, [], ◌∷◌}
use Rattle.shared_core_base.specs.declared.version.Version.{Version}
use Rattle.shared_core_stream.specs.declared.encoding.item.Item.{Item}
use Rattle.shared_core_stream.specs.Items.{TakesItem, NoItemBegins, SplitsInto}
use Rattle.shared_core_stream.proofs.Items.{then_start, then_one, then_join}

-- the item that is taken off a stream is the first that it splits into
pub taken_comes_first : (version : Version) (old new rest : List ℕ) (item : Item) (items : List Item) → TakesItem
    version old item new → SplitsInto version new items rest → SplitsInto version old (item ∷ items) rest
taken_comes_first version old new rest item items taken split = record {
  items_then = then_join version old new rest (item ∷ []) items (then_one version old new item taken) split.items_then;
  no_more = split.no_more;
}

-- a stream that no item begins splits into none
pub none_is_all_rest : (version : Version) (stream : List ℕ) → NoItemBegins version stream → SplitsInto version stream
    [] stream
none_is_all_rest version stream none = record { items_then = then_start version stream; no_more = none }
