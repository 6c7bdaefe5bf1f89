-- The sixteen places of a host over streams.
use Rattle.std.specs.Prelude.{List, Option}
use Rattle.booth_stream.specs.Places.{OpenLink}
use Rattle.booth_stream.specs.Slots.{links_in}
use Rattle.booth_stream.specs.declared.table.Table.{Table}

abbrev pub places_of : Table → List (Option OpenLink)
places_of table = links_in table.slots.items
