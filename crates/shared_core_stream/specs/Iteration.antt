-- What a contract sees of an iterator over the items that a decoder holds.
use Rattle.std.specs.Prelude.{◌≡◌, ℕ, ◌+◌, true, false, length, Option, Some, None, Result, Ok, Err, if◌then◌else◌}
use Rattle.shared_core_stream.specs.Limits.{ReturnsWithin}
use Rattle.shared_core_stream.specs.declared.encoding.error.ItemError.{ItemError}
use Rattle.shared_core_stream.specs.declared.encoding.item.Item.{Item}
use Rattle.shared_core_stream.specs.declared.encoding.items.Items.{Items}

-- The greatest number of results: one for each byte that is left and one for an error; none after an error.
abbrev pub results_left : Items → ℕ
results_left items = if items.has_failed then 0 else 1 + length items.decoder.now.bytes

-- `next` changed old to new: its decoder returned this result of `next_item`, and no result follows an error. After an
-- error nothing changes.
abbrev pub GivesItem : Items → Option (Result Item ItemError) → Items → Type 0
GivesItem old None new =
    (new.decoder.ghost_name ≡ old.decoder.ghost_name) × (new.has_failed ≡ old.has_failed)
    × (new.decoder.now ≡ old.decoder.now)
    × (old.has_failed ≡ false → ReturnsWithin old.decoder.now (Ok None) new.decoder.now)
GivesItem old (Some (Ok item)) new =
    (new.decoder.ghost_name ≡ old.decoder.ghost_name) × (old.has_failed ≡ false) × (new.has_failed ≡ false)
    × ReturnsWithin old.decoder.now (Ok (Some item)) new.decoder.now
GivesItem old (Some (Err error)) new =
    (new.decoder.ghost_name ≡ old.decoder.ghost_name) × (old.has_failed ≡ false) × (new.has_failed ≡ true)
    × ReturnsWithin old.decoder.now (Err error) new.decoder.now
