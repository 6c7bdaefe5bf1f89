-- The texts about a whole program, and how they are printed.
use Rattle.std.specs.Prelude.{◌≡◌, ◌++◌, ℕ, List, [], ◌∷◌, Ok, Err, codes}
use Rattle.booth_host.specs.declared.host.Failed.{Failed}
use Rattle.booth_host.specs.declared.entry.Entry.{Entry}
use Rattle.booth_host.specs.declared.entry.Entry.TheVariants as calls
use Rattle.booth_cli.specs.declared.page.Page.{Page}
use Rattle.booth_cli.specs.declared.page.Page.TheVariants.{Help, Version}
use Rattle.booth_cli.specs.declared.program.Program.{Program}
use Rattle.booth_cli.specs.declared.program.Program.TheVariants.{Boothd, Booth, Geostore, BoothFollow}
use Rattle.booth_outcomes.specs.declared.outcome.Outcome.{Outcome}
use Rattle.booth_outcomes.specs.declared.outcome.Outcome.TheVariants.{Shown, PrintFault}
use Rattle.booth_outcomes.specs.Texts.{unprinted_text, version_text}

-- what a program does, and its commands; `booth-follow` has only one command, which has the help
abbrev pub help_text : Program → List ℕ
help_text Boothd =
    codes "Usage: boothd COMMAND [OPTIONS]\n\n"
    ++ codes "Decides with the other members which site holds each ticket of a geo-cluster.\n\n"
    ++ codes "Commands:\n"
    ++ codes "  daemon  Runs the daemon of one member, in the foreground\n"
    ++ codes "  status  Prints whether a daemon runs on this machine\n"
    ++ codes "  sim     Runs a whole cluster in memory, through generated events\n"
    ++ codes "  audit   Prints which member held which ticket when, from the journals of members\n"
    ++ codes "  help    Prints this text\n\n"
    ++ codes "Options:\n"
    ++ codes "  -h, --help     Prints this text, or after a command its options\n"
    ++ codes "  -V, --version  Prints the version\n\n"
    ++ codes "See boothd(8) for more.\n"
help_text Booth =
    codes "Usage: booth COMMAND [OPTIONS]\n\n"
    ++ codes "Asks a daemon of a geo-cluster about its tickets, and has sites acquire and release them.\n\n"
    ++ codes "Commands:\n"
    ++ codes "  list    Lists the tickets, with the holder of each\n"
    ++ codes "  show    Prints the state of one ticket\n"
    ++ codes "  peers   Lists the other members, with the messages from and to each\n"
    ++ codes "  status  Prints whether the daemon runs\n"
    ++ codes "  grant   Makes a site acquire a ticket\n"
    ++ codes "  revoke  Makes a site release a ticket\n"
    ++ codes "  move    Makes the holder release a ticket, and then another site acquire it\n"
    ++ codes "  help    Prints this text\n\n"
    ++ codes "Options:\n"
    ++ codes "  -h, --help     Prints this text, or after a command its options\n"
    ++ codes "  -V, --version  Prints the version\n\n"
    ++ codes "See booth(8) for more.\n"
help_text Geostore =
    codes "Usage: geostore COMMAND [OPTIONS]\n\n"
    ++ codes "Sets, prints and deletes attributes of tickets at one site.\n\n"
    ++ codes "Commands:\n"
    ++ codes "  set     Sets an attribute of a ticket\n"
    ++ codes "  get     Prints the value of an attribute\n"
    ++ codes "  delete  Deletes an attribute\n"
    ++ codes "  list    Lists the attributes of a ticket\n"
    ++ codes "  help    Prints this text\n\n"
    ++ codes "Options:\n"
    ++ codes "  -h, --help     Prints this text, or after a command its options\n"
    ++ codes "  -V, --version  Prints the version\n\n"
    ++ codes "See geostore(8) for more.\n"
help_text BoothFollow = []

abbrev pub page_text : Program → Page → List ℕ
page_text program Help = help_text program
page_text program Version = version_text program

-- the one print of a text about a program, and how the run ends
abbrev pub IsPageTold : Program → Page → Outcome → List ℕ → List Entry → Type 0
IsPageTold program page (Shown told) said entries = (told ≡ page) × (said ≡ [])
    × (entries ≡ calls.Out (page_text program page) (Ok tt) ∷ [])
IsPageTold program page PrintFault said entries = (said ≡ unprinted_text)
    × (failed : Failed) × (entries ≡ calls.Out (page_text program page) (Err failed) ∷ [])
IsPageTold program page outcome said entries = ⊥

-- the outcomes of such a print
abbrev pub IsPageOutcome : Page → Outcome → Type 0
IsPageOutcome page (Shown told) = told ≡ page
IsPageOutcome page PrintFault = Unit {0}
IsPageOutcome page outcome = ⊥
