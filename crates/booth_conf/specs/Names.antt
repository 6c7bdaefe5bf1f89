-- The names of a text's tickets.
use Rattle.std.specs.Prelude.{◌≡◌, ℕ, List, Option, Some, None, slice_get}
use Rattle.std.specs.List.{filter_map}
use Rattle.booth_conf.specs.Reads.{lines_of}
use Rattle.booth_conf.specs.Rules.{setting_said}
use Rattle.booth_conf.specs.Said.{AreSaid}
use Rattle.booth_conf.specs.declared.line_meaning.Said.{Said}
use Rattle.booth_conf.specs.declared.settings.Setting.{Setting}
use Rattle.booth_conf.specs.declared.settings.Setting.TheVariants.{Ticket}

abbrev pub ticket_set : Option Setting → Option (List ℕ)
ticket_set (Some (Ticket name)) = Some name
ticket_set setting = None

-- the ticket's name on the line with this content
abbrev pub name_said : Said → Option (List ℕ)
name_said line = ticket_set (setting_said line)

-- the names on the `ticket` lines, in their order and without `__default__`
abbrev pub names_said : List Said → List (List ℕ)
names_said lines = filter_map name_said lines

-- the name on the text's `ticket` line with this number, counted from 0, if there is such a line
pub record NamesTicket (text : List ℕ) (place : ℕ) (name : Option (List ℕ)) : Type 0 where
  pub said : List Said
  pub reads : AreSaid (lines_of text) said
  pub at_place : name ≡ slice_get (names_said said) place
