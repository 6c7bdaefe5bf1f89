-- A test of worlds: of their form, of five premises, and of the clock readings in them. A world that passes is a
-- world if its members begin free and its clocks are true.
use Rattle.std.specs.Prelude.{ℕ, suc, Bool, true, false, not, ◌&&◌, ◌||◌, ◌==◌, nat_le, nat_lt, List, [], ◌∷◌, ◌++◌, Option, Some, None, Result, Ok, Err, bytes_eq}
use Rattle.std.specs.List.{list_all, list_any, range_with_len}
use Rattle.booth_auth.specs.Verdict.{verdict}
use Rattle.booth_auth.specs.declared.admission.DropFault.{DropFault}
use Rattle.booth_base.specs.declared.address.MemberId.{MemberId}
use Rattle.booth_conf.specs.Config.{ConfigSays}
use Rattle.booth_conf.specs.declared.members.Member.{Member}
use Rattle.booth_conf.specs.declared.tickets.TicketConf.{TicketConf}
use Rattle.booth_host.specs.declared.entry.Entry.TheVariants as calls
use Rattle.booth_host.specs.declared.host.Arrival.TheVariants as arrivals
use Rattle.booth_keys.specs.declared.ring.Hash.TheVariants.{Sha1}
use Rattle.booth_conf.specs.Sound.{each}
use Rattle.booth_rec.specs.declared.record.Lease.{Lease}
use Rattle.booth_rec.specs.declared.record.Promise.{Promise}
use Rattle.booth_rec.specs.declared.record.Record.{Record}
use Rattle.booth_rec.specs.Record.{first_plain, is_second}
use Rattle.booth_wire.specs.Command.{direction_of}
use Rattle.booth_wire.specs.PlainMessage.{PlainMessage}
use Rattle.booth_wire.specs.declared.command.Direction.{Direction}
use Rattle.booth_wire.specs.declared.command.Direction.TheVariants.{BetweenMembers}
use Rattle.booth_node.specs.Opening.{is_site_at}
use Rattle.booth_node.specs.Reaction.{used}
use Rattle.booth_node.specs.Records.{record_at, may_be_kept}
use Rattle.booth_node.specs.Session.{SessionEntry, Starts, Makes, IsCut, CutSend, Stand, Down, Hearing, after_entry}
use Rattle.booth_node.specs.World.{World, WorldEntry, members_of, id_at, entries_of, begins_with, last_time, clock_at}
use Rattle.booth_node.specs.declared.node_config.NodeConfig.{NodeConfig}
use Rattle.booth_examples.specs.Fitting.{is_sound}
use Rattle.booth_examples.specs.Premises.{Premise, NothingHeld, SameMembers, TrueClocks, RecordsReturn, VersionsRise, MembersSpeak, OneDaemon}
use Rattle.booth_examples.specs.Same.{same_id, same_list, same_member, same_option, same_record}
use Rattle.booth_examples.specs.Sessions.{are_sessions}

-- Each entry passes the test, together with the entries before it.
abbrev pub along : (List WorldEntry → WorldEntry → Bool) → List WorldEntry → List WorldEntry → Bool
along test before [] = true
along test before (entry ∷ entries) = test before entry && along test (before ++ entry ∷ []) entries

-- Each ticket passes the test, together with its place.
abbrev pub each_ticket : (ℕ → TicketConf → Bool) → ℕ → List TicketConf → Bool
each_ticket test place [] = true
each_ticket test place (ticket ∷ tickets) = test place ticket && each_ticket test (suc place) tickets

-- ---- the form

-- The configuration of these members and of one ticket.
abbrev pub config_of : List Member → TicketConf → ConfigSays
config_of members ticket = record {
  port = 9929;
  authfile = None;
  skew = 600;
  authfile_old = None;
  auth_hash = Sha1;
  extras = [];
  members = members;
  tickets = ticket ∷ [];
}

-- A ticket with a one-letter name and short times.
abbrev pub least_ticket : TicketConf
least_ticket = record {
  name = 97 ∷ [];
  manual = false;
  times = record { expire = 6000; after = 0; timeout = 1000; retries = 3; renewal = 5000 };
  weights = record { items = [] };
  handler = None;
  prereqs = [];
  steady = false;
}

abbrev pub fits_in : World → List WorldEntry → WorldEntry → Bool
fits_in w before entry =
    nat_lt entry.member (members_of w) && (nat_le (last_time 0 before) entry.time && nat_lt entry.time w.span)

abbrev pub has_form : World → Bool
has_form w = is_sound (config_of w.members least_ticket) && along (fits_in w) [] w.entries

-- ---- starts

abbrev pub is_node_of : World → ℕ → NodeConfig → Bool
is_node_of w m node =
    is_sound node.config && (same_list same_member node.config.members w.members && same_id node.me (id_at w m))

abbrev pub has_configuration : World → WorldEntry → SessionEntry → Bool
has_configuration w entry (Starts node reading records) = is_node_of w entry.member node
has_configuration w entry what = true

abbrev pub has_record : Record → List Record → Bool
has_record kept may = list_any (λ one. same_record one kept) may

-- of version 1 and without a lease; at a site of no earlier term than one that may be kept
abbrev pub is_silent : Bool → List Record → Record → Bool
is_silent site may kept =
    same_record kept (first_plain kept.term None) && (not site || list_any (λ one. nat_le one.term kept.term) may)

abbrev pub may_read : Bool → List Record → Record → Bool
may_read site may kept = has_record kept may || is_silent site may kept

abbrev pub reads_kept : World → List WorldEntry → WorldEntry → SessionEntry → Bool
reads_kept w before entry (Starts node reading records) =
    each_ticket (λ place ticket. may_read (is_site_at w.members entry.member)
    (may_be_kept ticket.name (begins_with w entry.member ticket.name) (entries_of entry.member before)
    (Starts node reading records ∷ []))
    (record_at records place)) 0 node.config.tickets
reads_kept w before entry what = true

abbrev pub was_second : List SessionEntry → Bool
was_second [] = false
was_second (Starts node reading records ∷ entries) = node.second || was_second entries
was_second (entry ∷ entries) = was_second entries

abbrev pub stays_second : World → List WorldEntry → WorldEntry → SessionEntry → Bool
stays_second w before entry (Starts node reading records) =
    not ((w.begins entry.member).second || was_second (entries_of entry.member before)) || node.second
stays_second w before entry what = true

-- ---- readings

abbrev pub reads_clock : World → WorldEntry → SessionEntry → Bool
reads_clock w entry (Starts node reading records) = reading == clock_at w entry.member entry.time
reads_clock w entry (Makes (calls.Now reading)) = reading == clock_at w entry.member entry.time
reads_clock w entry what = true

-- ---- messages

abbrev pub sent_bytes : SessionEntry → Option (List ℕ)
sent_bytes (Makes (calls.Send to bytes answer)) = Some bytes
sent_bytes (IsCut (CutSend to bytes)) = Some bytes
sent_bytes what = None

-- The member with this id sent these bytes, by this entry.
abbrev pub is_sent_by : World → MemberId → List ℕ → WorldEntry → Bool
is_sent_by w from bytes entry =
    same_id (id_at w entry.member) from && same_option bytes_eq (sent_bytes entry.what) (Some bytes)

abbrev pub was_said : World → List WorldEntry → List ℕ → MemberId → Direction → Bool
was_said w before bytes from BetweenMembers = list_any (is_sent_by w from bytes) before
was_said w before bytes from direction = true

-- If the bytes are accepted as a member's message, that member sent exactly these bytes.
abbrev pub was_sent : World → List WorldEntry → List ℕ → Result PlainMessage DropFault → Bool
was_sent w before bytes (Err fault) = true
was_sent w before bytes (Ok message) = was_said w before bytes message.head.from (direction_of message.head.cmd)

abbrev pub hears_sent : World → List WorldEntry → Stand → SessionEntry → Bool
hears_sent w before (Hearing node old (Ok (arrivals.Datagram from)) bytes) (Makes (calls.Now reading)) =
    was_sent w before bytes (verdict node.config node.ring node.me (used old.last_reading reading) bytes)
hears_sent w before stand what = true

-- The state of a member after an entry, which may be another member's.
abbrev pub stand_next : Bool → Stand → SessionEntry → Stand
stand_next true stand what = after_entry stand what
stand_next false stand what = stand

abbrev pub hears_if : Bool → World → List WorldEntry → Stand → SessionEntry → Bool
hears_if true w before stand what = hears_sent w before stand what
hears_if false w before stand what = true

-- The messages that this member received were sent, from its state after the entries before.
abbrev pub hears_along : World → ℕ → Stand → List WorldEntry → List WorldEntry → Bool
hears_along w m stand before [] = true
hears_along w m stand before (entry ∷ entries) =
    hears_if (entry.member == m) w before stand entry.what
    && hears_along w m (stand_next (entry.member == m) stand entry.what) (before ++ entry ∷ []) entries

-- ---- worlds

abbrev pub each_member : World → (ℕ → Bool) → Bool
each_member w test = list_all test (range_with_len 0 (members_of w))

abbrev pub same_members : World → Bool
same_members w = along (λ before entry. has_configuration w entry entry.what) [] w.entries

abbrev pub reads_clocks : World → Bool
reads_clocks w = along (λ before entry. reads_clock w entry entry.what) [] w.entries

abbrev pub records_return : World → Bool
records_return w = along (λ before entry. reads_kept w before entry entry.what) [] w.entries

abbrev pub versions_rise : World → Bool
versions_rise w = along (λ before entry. stays_second w before entry entry.what) [] w.entries

abbrev pub members_speak : World → Bool
members_speak w = each_member w (λ m. hears_along w m Down [] w.entries)

abbrev pub one_daemon : World → Bool
one_daemon w = each_member w (λ m. are_sessions Down (entries_of m w.entries))

-- The whole test of a world.
abbrev pub is_world : World → Bool
is_world w =
    has_form w && (same_members w && (reads_clocks w && (records_return w && (versions_rise w
    && (members_speak w && one_daemon w)))))

-- All sessions of the world are of version 2.
abbrev pub is_second_start : SessionEntry → Bool
is_second_start (Starts node reading records) = node.second
is_second_start what = true

abbrev pub is_second_world : World → Bool
is_second_world w = along (λ before entry. is_second_start entry.what) [] w.entries

-- ---- a world that lacks one premise

abbrev pub same_premise : Premise → Premise → Bool
same_premise NothingHeld NothingHeld = true
same_premise SameMembers SameMembers = true
same_premise TrueClocks TrueClocks = true
same_premise RecordsReturn RecordsReturn = true
same_premise VersionsRise VersionsRise = true
same_premise MembersSpeak MembersSpeak = true
same_premise OneDaemon OneDaemon = true
same_premise a b = false

-- The part of the test for each premise. It tests nothing about the records with which members begin, and tests only
-- the readings of clocks.
abbrev pub is_met : World → Premise → Bool
is_met w NothingHeld = true
is_met w SameMembers = same_members w
is_met w TrueClocks = reads_clocks w
is_met w RecordsReturn = records_return w
is_met w VersionsRise = versions_rise w
is_met w MembersSpeak = members_speak w
is_met w OneDaemon = one_daemon w

abbrev pub premises : List Premise
premises =
    NothingHeld ∷ SameMembers ∷ TrueClocks ∷ RecordsReturn ∷ VersionsRise ∷ MembersSpeak ∷ OneDaemon ∷ []

abbrev pub is_world_but : Premise → World → Bool
is_world_but broken w =
    has_form w && list_all (λ premise. same_premise premise broken || is_met w premise) premises

-- ---- the records with which members begin

abbrev pub is_member_id : World → MemberId → Bool
is_member_id w id = list_any (λ m. same_id (id_at w m) id) (range_with_len 0 (members_of w))

abbrev pub is_over : Lease → ℕ → Bool
is_over lease reading = nat_le lease.until reading

abbrev pub is_past : World → Record → ℕ → Promise → Bool
is_past w kept reading promise =
    is_member_id w promise.to && (nat_le promise.term kept.term && nat_le kept.abstain reading)

-- A record holds nothing if its member's clock first reads this.
abbrev pub holds_nothing : World → ℕ → ℕ → Record → Bool
holds_nothing w m reading kept =
    each (λ lease. is_over lease reading) kept.lease
    && ((same_record kept (first_plain kept.term kept.lease) || (is_second kept && (w.begins m).second))
    && (each (is_member_id w) kept.bound && each (is_past w kept reading) kept.promise))
