-- What an item buffer holds.
use Rattle.shared_core_stream.specs.Unread.{Unread}
use Rattle.shared_core_io.specs.Reading.{held}
use Rattle.shared_core_io.specs.declared.item_buffer.ItemBuffer.{ItemBuffer}

-- What is held, as a decoder that has received all of it.
abbrev pub held_in : ItemBuffer → Unread
held_in items = held items.decoder items.chunk items.buffer
