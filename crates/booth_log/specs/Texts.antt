-- The lines of the log, as texts.
use Rattle.std.specs.Prelude.{ℕ, ℤ, ◌++◌, ◌/◌, ◌==◌, List, Option, None, Some, codes, decimal, if◌then◌else◌}
use Rattle.std.specs.Fmt.{signed_decimal}
use Rattle.std.specs.List.{list_all}
use Rattle.booth_base.specs.declared.address.Address.{Address}
use Rattle.booth_base.specs.Address.{printed}
use Rattle.booth_base.specs.Name.{is_text_byte}
use Rattle.booth_talk.specs.Civil.{date_text}
use Rattle.booth_manual.specs.declared.view.TheConstants.{NO_END}
use Rattle.booth_rec.specs.declared.record.Lease.{Lease}
use Rattle.booth_log.specs.declared.happening.Happening.{Happening}
use Rattle.booth_log.specs.declared.happening.Happening.TheVariants.{Gains, GivesBack, FailsToKeep, FailsToGiveBack, Begins}
use Rattle.booth_log.specs.declared.texts.TheConstants.{VERSION}

-- a whole line: the program's name, a text, and a line feed
abbrev pub line : List ℕ → List ℕ
line text = codes "boothd: " ++ text ++ codes "\n"

-- a path, if each byte of it prints
abbrev pub printed_path : List ℕ → List ℕ
printed_path path = if list_all is_text_byte path then path else codes "?"

abbrev pub printed_local : Option Address → List ℕ
printed_local None = codes "any"
printed_local (Some address) = printed address

-- the first line of a daemon
abbrev pub begins_text : Option Address → ℕ → List ℕ → List ℕ → List ℕ
begins_text local port records conf_path =
    codes "begins: version " ++ VERSION.now ++ codes ", address " ++ printed_local local
    ++ codes ", port " ++ decimal port ++ codes ", records " ++ printed_path records ++ codes ", configuration "
    ++ printed_path conf_path

-- the daemon has read all records, of this many tickets
abbrev pub ready_text : ℕ → List ℕ
ready_text tickets = codes "ready, tickets: " ++ decimal tickets

-- a text about the ticket with this name
abbrev pub of_ticket : List ℕ → List ℕ → List ℕ
of_ticket name text = codes "ticket " ++ name ++ codes ": " ++ text

-- the text for the end of a lease; the lease of a manual ticket has no end
abbrev pub end_text : ℕ → List ℕ
end_text until =
    if until == NO_END then codes " without an end" else codes " until " ++ date_text (until / 1000) ++ codes " UTC"

abbrev pub lease_text : Lease → List ℕ
lease_text lease = codes " the lease of term " ++ decimal lease.term ++ end_text lease.until

abbrev pub happening_text : Happening → List ℕ
happening_text (Gains lease) = codes "gains" ++ lease_text lease
happening_text (GivesBack lease) = codes "gives back" ++ lease_text lease
happening_text (FailsToKeep lease) = codes "fails to keep" ++ lease_text lease
happening_text (FailsToGiveBack lease) = codes "fails to give back" ++ lease_text lease
happening_text (Begins lease) = codes "begins with" ++ lease_text lease

-- a handler could not be started
abbrev pub unstarted_text : List ℕ
unstarted_text = codes "its handler cannot be started"

-- the handler of a ticket ended with a status
abbrev pub status_text : ℤ → List ℕ
status_text status = codes "its handler ended with status " ++ signed_decimal status

-- the status of a handler whose ticket is not known
abbrev pub stray_text : ℕ → ℤ → List ℕ
stray_text job status =
    codes "the handler of job " ++ decimal job ++ codes " ended with status " ++ signed_decimal status
