-- Who passes the tests of holding, holds.
use Rattle.std.proofs.Common.{◌≡◌, ℕ, ◌<◌, ◌≤◌, Bool, true, false, not, ◌&&◌, List, [], ◌∷◌, ◌++◌, refl, sym, ap, ◌∙◌, inl, inr, arith, if◌then◌else◌, ⊎_elim}
use Rattle.std.specs.Prelude.{◌==◌, nat_le, nat_lt, Some, None, IsSomeAnd, bytes_eq, Option}
use Rattle.std.specs.List.{list_any}
use Rattle.std.proofs.lemmas.Bool.{and_parts, or_cases, eq-eqb, ltb-true, leb-true, leb-false, not-true}
use Rattle.std.proofs.lemmas.Slice.Eq.{bytes_eq-Decides}
use Rattle.booth_conf.specs.declared.tickets.TicketConf.{TicketConf}
use Rattle.booth_rec.specs.Record.{IsInForce}
use Rattle.booth_rec.specs.declared.record.Lease.{Lease}
use Rattle.booth_rec.specs.declared.record.Record.{Record}
use Rattle.booth_node.specs.Held.{Moment, IsBefore, IsAutomatic, Holds}
use Rattle.booth_node.specs.Records.{Has}
use Rattle.booth_node.specs.Session.{SessionEntry, Starts, Makes, IsCut}
use Rattle.booth_node.specs.World.{World, WorldEntry, IsOneTicket, StartsWithIt, members_of, last_time, clock_at}
use Rattle.booth_examples.specs.Checks.{config_of}
use Rattle.booth_examples.specs.Fitting.{is_sound}
use Rattle.booth_examples.specs.Holding.{is_alike, starts_with_it, is_one_ticket, is_automatic, up_to, later_than, lasts, may_then, holds_then, holds_at}
use Rattle.booth_examples.specs.Laws.{CheckedHoldersHold, CheckedTwoHold}
use Rattle.booth_examples.specs.Same.{same_bool, same_times}
use Rattle.booth_examples.proofs.FittingLemmas.{config_is}
use Rattle.booth_examples.proofs.SameLemmas.{no_test, bool_is, times_are}
use Rattle.booth_examples.proofs.WorldLemmas.{at_each, each_ticket_at}

-- ---- the ticket

alike_is : (ticket own : TicketConf) → is_alike ticket own ≡ true → own.name ≡ ticket.name
    → (own.manual ≡ ticket.manual) × (own.times ≡ ticket.times)
alike_is ticket own e named =
    ⊎_elim (λ (other : not (bytes_eq own.name ticket.name) ≡ true).
    no_test (sym (not-true _ other) ∙ (bytes_eq-Decides own.name ticket.name).1 named))
    (λ (same : same_bool own.manual ticket.manual && same_times own.times ticket.times ≡ true).
    let q = and_parts (same_bool own.manual ticket.manual) _ same in
    (bool_is own.manual ticket.manual q.0, times_are own.times ticket.times q.1))
    (or_cases (not (bytes_eq own.name ticket.name)) _ e)

start_is : (ticket : TicketConf) (what : SessionEntry) → starts_with_it ticket what ≡ true → StartsWithIt ticket what
start_is ticket (Starts node reading records) e = λ place own at named.
    alike_is ticket own (each_ticket_at (λ n t. is_alike ticket t) node.config.tickets e place own at) named
start_is ticket (Makes call) e = tt
start_is ticket (IsCut call) e = tt

pub one_ticket_is : (w : World) (ticket : TicketConf) → is_one_ticket w ticket ≡ true → IsOneTicket w ticket
one_ticket_is w ticket e =
    let q = and_parts (is_sound (config_of w.members ticket)) _ e in
    record {
      config = config_of w.members ticket;
      sound = config_is _ q.0;
      place = 0;
      said = refl;
      same = at_each w _ _ (λ before entry h. start_is ticket entry.what h) q.1;
    }

pub automatic_is : (w : World) (ticket : TicketConf) → is_automatic w ticket ≡ true → IsAutomatic w ticket
automatic_is w ticket e =
    let q = and_parts (is_one_ticket w ticket) _ e in
    (one_ticket_is w ticket q.0, not-true ticket.manual q.1)

-- ---- the moment

whole_if : (b : Bool) (entry : WorldEntry) (entries early late : List WorldEntry) → entries ≡ early ++ late
    → entry ∷ entries ≡ (if b then entry ∷ early else []) ++ (if b then late else entry ∷ entries)
whole_if true entry entries early late e = ap (λ (xs : List WorldEntry). entry ∷ xs) e
whole_if false entry entries early late e = refl

pub whole_is : (time : ℕ) (entries : List WorldEntry) → entries ≡ up_to time entries ++ later_than time entries
whole_is time [] = refl
whole_is time (entry ∷ entries) =
    whole_if (nat_le entry.time time) entry entries (up_to time entries) (later_than time entries) (whole_is time entries)

since_if : (b : Bool) (time first : ℕ) (entry : WorldEntry) (early : List WorldEntry) → first ≤ time
    → (b ≡ true → last_time entry.time early ≤ time) → last_time first (if b then entry ∷ early else []) ≤ time
since_if true time first entry early before rest = rest refl
since_if false time first entry early before rest = before

pub since_is : (time first : ℕ) (entries : List WorldEntry) → first ≤ time → last_time first (up_to time entries) ≤ time
since_is time first [] early = early
since_is time first (entry ∷ entries) early =
    since_if (nat_le entry.time time) time first entry (up_to time entries) early
    (λ e. since_is time entry.time entries (leb-true entry.time time e))

until_if : (b : Bool) (time : ℕ) (entry : WorldEntry) (entries late : List WorldEntry) → IsBefore time late
    → (b ≡ false → time ≤ entry.time) → IsBefore time (if b then late else entry ∷ entries)
until_if true time entry entries late rest here = rest
until_if false time entry entries late rest here = here refl

pub until_is : (time : ℕ) (entries : List WorldEntry) → IsBefore time (later_than time entries)
until_is time [] = tt
until_is time (entry ∷ entries) =
    until_if (nat_le entry.time time) time entry entries (later_than time entries) (until_is time entries)
    (λ e. omega (arith, leb-false entry.time time e))

abbrev pub moment_at : (w : World) (time : ℕ) → time < w.span → Moment w
moment_at w time within = record {
  before = up_to time w.entries;
  after = later_than time w.entries;
  time = time;
  whole = whole_is time w.entries;
  since = since_is time 0 w.entries (omega arith);
  until = until_is time w.entries;
  within = within;
}

-- ---- who holds

force_is : (kept : Record) (reading : ℕ) → lasts kept.lease reading ≡ true → IsInForce kept reading
force_is kept reading e = by kept.lease e
  where
    by : (o : Option Lease) → lasts o reading ≡ true → IsSomeAnd o (λ lease. reading < lease.until)
    by None f = no_test f
    by (Some lease) f = ltb-true reading lease.until f

abbrev IsHeld : List Record → ℕ → Type 0
IsHeld may reading = (kept : Record) × Has may kept × IsInForce kept reading

held_in : (may : List Record) (reading : ℕ) → list_any (λ kept. lasts kept.lease reading) may ≡ true → IsHeld may reading
held_in [] reading e = no_test e
held_in (kept ∷ may) reading e =
    ⊎_elim (λ (here : lasts kept.lease reading ≡ true). let found : IsHeld (kept ∷ may) reading = (kept, inl refl, force_is kept reading here) in found)
    (λ (there : list_any (λ other. lasts other.lease reading) may ≡ true). let rest = held_in may reading there in
    let found : IsHeld (kept ∷ may) reading = (rest.0, inr rest.1, rest.2) in found)
    (or_cases (lasts kept.lease reading) _ e)

then_is : (w : World) (ticket : TicketConf) (m time : ℕ) (within : time < w.span) → holds_then w ticket m time ≡ true
    → Holds w ticket m (moment_at w time within)
then_is w ticket m time within e =
    let q = and_parts (nat_lt m (members_of w)) _ e in
    let held = held_in (may_then w ticket m time) (clock_at w m time) q.1 in
    (held.0, (ltb-true m (members_of w) q.0, held.1, held.2))

pub holders_hold : CheckedHoldersHold
holders_hold w ticket m time e =
    let q = and_parts (is_automatic w ticket) _ e in
    let r = and_parts (nat_lt time w.span) _ q.1 in
    let within = ltb-true time w.span r.0 in
    record {
      automatic = automatic_is w ticket q.0;
      moment = moment_at w time within;
      at = refl;
      holds = then_is w ticket m time within r.1;
    }

pub two_hold : CheckedTwoHold
two_hold w ticket m n time e =
    let p = and_parts (not (m == n)) _ e in
    let both = and_parts (holds_at w ticket m time) _ p.1 in
    let q = and_parts (is_automatic w ticket) _ both.0 in
    let r = and_parts (nat_lt time w.span) _ q.1 in
    let within = ltb-true time w.span r.0 in
    record {
      ticket = ticket;
      automatic = automatic_is w ticket q.0;
      moment = moment_at w time within;
      first = m;
      second = n;
      two = λ same. no_test (sym (not-true (m == n) p.0) ∙ eq-eqb m n same);
      first_holds = then_is w ticket m time within r.1;
      second_holds = then_is w ticket n time within both.1;
    }
