-- What is known about all places together.
use Rattle.std.specs.Prelude.{◌≡◌, List, true}
use Rattle.std.specs.List.{All, list_all}
use Rattle.booth_stream.specs.Places.{is_free}
use Rattle.booth_stream.specs.Slot.{IsAtRest, PlainSlot, link_in}
use Rattle.booth_stream.specs.declared.table.Known.{Known}
use Rattle.booth_stream.specs.declared.table.Known.TheVariants as knowns

-- If anything is known of the places, no whole frame waits and no link is broken.
abbrev pub KnowsRest : Known → List PlainSlot → Type 0
KnowsRest known slots = (known ≡ knowns.Nothing → ⊥) → All IsAtRest slots

-- If the places are known to be empty, no link is open.
abbrev pub KnowsEmpty : Known → List PlainSlot → Type 0
KnowsEmpty known slots = known ≡ knowns.Empty → list_all (λ slot. is_free (link_in slot)) slots ≡ true
