-- One more setting: the reader's draft after it, which is the summary of all settings so far.
use Rattle.std.specs.Prelude.{ℕ, nat_lt, List, [], ◌∷◌, ◌++◌, length, Option, Some, None, option_map, if◌then◌else◌}
use Rattle.booth_conf.specs.Rules.{Summary, prereqs_of}
use Rattle.booth_conf.specs.declared.sections.NamedSection.{NamedSection}
use Rattle.booth_conf.specs.declared.settings.Entry.{Entry}
use Rattle.booth_conf.specs.declared.settings.Setting.{Setting}
use Rattle.booth_conf.specs.declared.settings.Setting.TheVariants.{File, Member, Ticket, Defaults, Of}
use Rattle.booth_conf.specs.declared.line_meaning.Said.{Said}
use Rattle.booth_conf.specs.declared.line_meaning.Said.TheVariants.{Pair}

-- a ticket with one more entry
abbrev pub with_entry : NamedSection → Entry → NamedSection
with_entry t e = record t { section = t.section ++ e ∷ [] }

-- the last ticket with one more entry
abbrev pub last_added : List NamedSection → Entry → List NamedSection
last_added [] e = []
last_added (t ∷ []) e = with_entry t e ∷ []
last_added (t ∷ u ∷ ts) e = t ∷ last_added (u ∷ ts) e

abbrev pub placed : Summary → Entry → Summary
placed d e =
    if nat_lt 0 (length d.tickets) then record d { tickets = last_added d.tickets e }
    else record d { defaults = option_map (λ section. section ++ e ∷ []) d.defaults }

abbrev pub begun : Summary → List ℕ → NamedSection
begun d name = record { name = name; section = prereqs_of d.defaults }

abbrev pub added : Summary → Setting → Summary
added d (File e) = record d { top = d.top ++ e ∷ [] }
added d (Member m) = record d { members = d.members ++ m ∷ [] }
added d (Ticket n) = record d { tickets = d.tickets ++ begun d n ∷ [] }
added d Defaults = record d { defaults = Some [] }
added d (Of e) = placed d e

abbrev pub value_added : Summary → Option Setting → Summary
value_added d None = d
value_added d (Some s) = added d s

abbrev pub said_added : Summary → Said → Summary
said_added d (Pair key setting) = value_added d setting
said_added d line = d
