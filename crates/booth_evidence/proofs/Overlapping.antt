-- Lines of two members overlap for no longer than their clocks and writes allow.
use Rattle.std.specs.Prelude.{◌*◌, ◌-◌, bytes_eq, max, min, slice_get, IsSomeAnd, Option, Some, if◌then◌else◌}
use Rattle.std.proofs.Common.{◌≡◌, ◌≢◌, ◌⊎◌, ⊎_elim, inl, inr, ℕ, zero, suc, ◌+◌, ◌<◌, ◌≤◌, Bool, true, false, List, [], ◌∷◌, ◌++◌, sym, ◌∙◌, ap, subst, arith}
use Rattle.booth_conf.specs.Config.{ConfigSays}
use Rattle.booth_conf.specs.Sound.{IsSound}
use Rattle.booth_conf.specs.declared.tickets.TicketConf.{TicketConf}
use Rattle.booth_keys.specs.declared.ring.Ring.{Ring}
use Rattle.booth_rec.specs.declared.record.Lease.{Lease}
use Rattle.booth_rec.specs.declared.record.Record.{Record}
use Rattle.booth_node.specs.Held.{HoldsBy, IsAutomatic, IsBefore, Moment}
use Rattle.booth_node.specs.Records.{Has, may_after_all, with_next}
use Rattle.booth_host.specs.declared.entry.Entry.TheVariants as calls
use Rattle.booth_node.specs.Session.{CutKeep, IsCut, Makes, SessionEntry}
use Rattle.booth_node.specs.World.{IsWorld, World, WorldEntry, clock_at, entries_of, members_of}
use Rattle.booth_world.specs.Clusters.{cluster_of}
use Rattle.booth_world.specs.Held.{IsApartFrom}
use Rattle.booth_world.specs.Worlds.{IsLater, ReleasedIn}
use Rattle.booth_world.proofs.Configured.{one_configuration_is_enough}
use Rattle.booth_world.proofs.WorldLaws.{worlds_are_apart}
use Rattle.booth_audit.specs.declared.holding.Holding.{Holding}
use Rattle.booth_audit.specs.Audit.{AuditSays, IsAudited}
use Rattle.booth_evidence.specs.Journals.{FitsJournals}
use Rattle.booth_evidence.specs.Overlaps.{ClocksDifferBy, LinesAreApart, OverlapAtMost, WasReleased, WritesWithin}
use Rattle.booth_evidence.proofs.Fitting.{begins_bare, is_world, one_configuration}
use Rattle.booth_evidence.proofs.Lines.{LineAt, in_use, line_at}
use Rattle.booth_evidence.proofs.Lists.{IsBehind, joins, last_join, rises, two_places}

-- ---- numbers

-- a line that was over when its entry was made is short
short : (from until other_from other_until apart pause reading : ℕ) → until ≤ reading → reading ≤ from + pause
    → min until other_until ≤ max from other_from + (apart + pause)
short from until other_from other_until apart pause reading over soon = grind arith

-- a line that was over when the other's entry was made
over_then : (from until other_from other_until apart pause reading other_reading : ℕ) → until ≤ reading → reading ≤ other_reading + apart
    → other_reading ≤ other_from + pause → min until other_until ≤ max from other_from + (apart + pause)
over_then from until other_from other_until apart pause reading other_reading over near soon = grind arith

turned : (one other : Holding) (most : ℕ) → OverlapAtMost most other one → OverlapAtMost most one other
turned one other most h = grind arith

in_force_or_over : (a b : ℕ) → (a < b) ⊎ (b ≤ a)
in_force_or_over a zero = inr (omega arith)
in_force_or_over zero (suc b) = inl (omega arith)
in_force_or_over (suc a) (suc b) =
    ⊎_elim (λ (l : a < b). inl (omega (arith, l))) (λ (l : b ≤ a). inr (omega (arith, l))) (in_force_or_over a b)

runs_so : (lease : Option Lease) (l : Lease) (reading : ℕ) → lease ≡ Some l → reading < l.until → IsSomeAnd lease (λ x. reading < x.until)
runs_so lease l reading is less = subst (λ (o : Option Lease). IsSomeAnd o (λ x. reading < x.until)) (sym is) less

no_time : (ticks now : ℕ) → ticks < 1001000 * (now - now) → ⊥
no_time ticks now less = omega (arith, less)

has_next : (name : List ℕ) (may : List Record) (entries : List SessionEntry) (kept : Record) → Has may kept → Has (with_next name may entries) kept
has_next name may [] kept has = has
has_next name may (Makes (calls.Keep ticket rec answer) ∷ more) kept has = by (bytes_eq ticket name)
  where
    by : (b : Bool) → Has (if b then rec ∷ may else may) kept
    by true = inr has
    by false = has
has_next name may (IsCut (CutKeep ticket rec) ∷ more) kept has = by (bytes_eq ticket name)
  where
    by : (b : Bool) → Has (if b then rec ∷ may else may) kept
    by true = inr has
    by false = has
has_next name may (what ∷ more) kept has = has

module _ (config : ConfigSays) (sound : IsSound config) (ring : Option Ring) (texts : List (List ℕ)) (says : AuditSays)
    (audited : IsAudited config ring texts says) (w : World) (fits : FitsJournals config ring texts w) (place : ℕ) (ticket : TicketConf)
    (is : slice_get config.tickets place ≡ Some ticket) (automatic : ticket.manual ≡ false) where
  world : IsWorld w
  world = is_world config sound ring texts says audited w fits

  is_automatic : IsAutomatic w ticket
  is_automatic =
      (one_configuration_is_enough w config sound (one_configuration config sound ring texts says audited w fits) place ticket is, automatic)

  is_before : (before after : List WorldEntry) (e : WorldEntry) → w.entries ≡ before ++ e ∷ after → IsBefore e.time after
  is_before before [] e whole = tt
  is_before before (x ∷ after) e whole =
      let next = fits.in_order (before ++ e ∷ []) after x (whole ∙ sym (joins before (e ∷ []) (x ∷ after))) in
      let last = last_join 0 before [] e in
      omega (arith, next, last)

  -- the moment after an entry
  abbrev moment_after : (before after : List WorldEntry) (e : WorldEntry) → w.entries ≡ before ++ e ∷ after → Moment w
  moment_after before after e whole = record {
    before = before ++ e ∷ [];
    after = after;
    time = e.time;
    whole = whole ∙ sym (joins before (e ∷ []) after);
    since = let last = last_join 0 before [] e in omega (arith, last);
    until = is_before before after e whole;
    within = fits.within before after e whole;
  }

  -- a line whose lease runs when its entry was made, by which its member holds
  held_by : (line : Holding) (x : LineAt w ticket line) → line.member < members_of w → clock_at w line.member x.entry.time < x.lease.until
      → HoldsBy w ticket line.member (moment_after x.before x.after x.entry x.whole) x.kept
  held_by line x below runs = (
    below,
    subst (λ (first : Record). Has (with_next ticket.name
        (may_after_all ticket.name (first ∷ []) (entries_of line.member (x.before ++ x.entry ∷ []))) (entries_of line.member x.after)) x.kept)
        (begins_bare config sound ring texts says audited w fits line.member ticket.name)
        (has_next ticket.name _ (entries_of line.member x.after) x.kept x.line_of.may),
    runs_so x.kept.lease x.lease (clock_at w line.member x.entry.time) x.line_of.leased runs,
  )

  own_below : (line : Holding) (x : LineAt w ticket line) → line.member < members_of w
  own_below line x = subst (λ (k : ℕ). k < members_of w) x.line_of.own (fits.of_members x.before x.after x.entry x.whole)

  module _ (one other : Holding) (ne : one.member ≢ other.member) (apart pause : ℕ) (differ : ClocksDifferBy w one.member other.member apart)
      (soon : WritesWithin w one.member pause) (other_soon : WritesWithin w other.member pause) (x : LineAt w ticket one) (y : LineAt w ticket other) where
    -- the second line is of a later entry
    in_order : IsBehind x.before x.entry x.after y.before y.entry y.after → clock_at w one.member x.entry.time < x.lease.until
        → clock_at w other.member y.entry.time < y.lease.until
        → OverlapAtMost (apart + pause) one other ⊎ WasReleased w ticket one
    in_order b runs other_runs =
        by (worlds_are_apart w world ticket is_automatic early late between later one.member other.member ne x.kept
        (held_by one x (own_below one x) runs) (y.kept, held_by other y (own_below other y) other_runs))
      where
        early : Moment w
        early = moment_after x.before x.after x.entry x.whole

        late : Moment w
        late = moment_after y.before y.after y.entry y.whole

        between : List WorldEntry
        between = b.more ++ y.entry ∷ []

        entries_are : y.before ++ y.entry ∷ [] ≡ (x.before ++ x.entry ∷ []) ++ (b.more ++ y.entry ∷ [])
        entries_are =
            ap (λ (es : List WorldEntry). es ++ y.entry ∷ []) b.late_is ∙ joins x.before (x.entry ∷ b.more) (y.entry ∷ [])
            ∙ sym (joins x.before (x.entry ∷ []) (b.more ++ y.entry ∷ []))

        rest_is : x.after ≡ (b.more ++ y.entry ∷ []) ++ y.after
        rest_is = b.rest_is ∙ sym (joins b.more (y.entry ∷ []) y.after)

        not_before : x.entry.time ≤ y.entry.time
        not_before =
            let up = rises w world.form x.before x.entry (b.more ++ y.entry ∷ []) y.after
            (x.whole ∙ ap (λ (es : List WorldEntry). x.before ++ x.entry ∷ es) rest_is) in
            let last = last_join x.entry.time b.more [] y.entry in
            omega (arith, up, last)

        later : IsLater w early late between
        later = record { entries = entries_are; not_before = not_before }

        -- the first lease is over when the second line is made
        is_over : IsApartFrom (cluster_of w ticket) ticket.times.after one.member x.kept x.entry.time y.entry.time
            → x.lease.until ≤ clock_at w one.member y.entry.time
        is_over apart_from = by_now (in_force_or_over (clock_at w one.member y.entry.time) x.lease.until)
          where
            by_now : (clock_at w one.member y.entry.time < x.lease.until) ⊎ (x.lease.until ≤ clock_at w one.member y.entry.time)
                → x.lease.until ≤ clock_at w one.member y.entry.time
            by_now (inl still) =
                absurd (no_time _ y.entry.time
                (apart_from y.entry.time not_before (omega arith)
                (runs_so x.kept.lease x.lease (clock_at w one.member y.entry.time) x.line_of.leased still)))
            by_now (inr over) = over

        by : IsApartFrom (cluster_of w ticket) ticket.times.after one.member x.kept x.entry.time y.entry.time
            ⊎ ReleasedIn w ticket one.member x.kept (x.before ++ x.entry ∷ []) between
            → OverlapAtMost (apart + pause) one other ⊎ WasReleased w ticket one
        by (inl apart_from) =
            inl (over_then one.from one.until other.from other.until apart pause (clock_at w one.member y.entry.time)
            (clock_at w other.member y.entry.time)
            (let over = is_over apart_from in let until = x.line_of.until in omega (arith, over, until))
            (differ y.entry.time (fits.within y.before y.after y.entry y.whole)).0
            (in_use config sound ring texts says audited w fits ticket other pause (own_below other y) other_soon y))
        by (inr released) = inr (record {
          before = x.before;
          entry = x.entry;
          between = between;
          after = y.after;
          whole = x.whole ∙ ap (λ (es : List WorldEntry). x.before ++ x.entry ∷ es) rest_is;
          kept = x.kept;
          lease = x.lease;
          line_of = x.line_of;
          released = released;
        })

    -- a line whose lease was over when its entry was made
    pub over_at_once : x.lease.until ≤ clock_at w one.member x.entry.time → OverlapAtMost (apart + pause) one other
    over_at_once over =
        short one.from one.until other.from other.until apart pause (clock_at w one.member x.entry.time)
        (let until = x.line_of.until in omega (arith, over, until))
        (in_use config sound ring texts says audited w fits ticket one pause (own_below one x) soon x)

    pub first_then : IsBehind x.before x.entry x.after y.before y.entry y.after → clock_at w one.member x.entry.time < x.lease.until
        → clock_at w other.member y.entry.time < y.lease.until
        → OverlapAtMost (apart + pause) one other ⊎ (WasReleased w ticket one ⊎ WasReleased w ticket other)
    first_then b runs other_runs =
        ⊎_elim (λ (h : OverlapAtMost (apart + pause) one other). inl h) (λ (h : WasReleased w ticket one). inr (inl h)) (in_order b runs other_runs)

    pub then_first : IsBehind x.before x.entry x.after y.before y.entry y.after → clock_at w one.member x.entry.time < x.lease.until
        → clock_at w other.member y.entry.time < y.lease.until
        → OverlapAtMost (apart + pause) other one ⊎ (WasReleased w ticket other ⊎ WasReleased w ticket one)
    then_first b runs other_runs =
        ⊎_elim (λ (h : OverlapAtMost (apart + pause) one other). inl (turned other one (apart + pause) h))
        (λ (h : WasReleased w ticket one). inr (inr h)) (in_order b runs other_runs)

pub lines_are_apart : LinesAreApart
lines_are_apart config sound ring texts says audited w fits place ticket is automatic one other has other_has of_it other_of ne apart pause
    differ soon other_soon = by_running (in_force_or_over (clock_at w one.member x.entry.time) x.lease.until)
    (in_force_or_over (clock_at w other.member y.entry.time) y.lease.until)
  where
    x : LineAt w ticket one
    x = line_at config sound ring texts says audited w fits one has place ticket is of_it

    y : LineAt w ticket other
    y = line_at config sound ring texts says audited w fits other other_has place ticket is other_of

    other_differ : ClocksDifferBy w other.member one.member apart
    other_differ time within = let d = differ time within in (d.1, d.0)

    other_ne : other.member ≢ one.member
    other_ne same = ne (sym same)

    Result : Type 0
    Result = OverlapAtMost (apart + pause) one other ⊎ (WasReleased w ticket one ⊎ WasReleased w ticket other)

    by_places : (x.entry ≡ y.entry) ⊎ (IsBehind x.before x.entry x.after y.before y.entry y.after ⊎ IsBehind y.before y.entry y.after x.before x.entry x.after)
        → clock_at w one.member x.entry.time < x.lease.until → clock_at w other.member y.entry.time < y.lease.until → Result
    by_places (inl same) runs other_runs =
        absurd (ne (sym x.line_of.own ∙ ap (λ (e : WorldEntry). e.member) same ∙ y.line_of.own))
    by_places (inr (inl b)) runs other_runs =
        first_then config sound ring texts says audited w fits place ticket is automatic one other ne apart pause differ soon other_soon x y b runs other_runs
    by_places (inr (inr b)) runs other_runs =
        then_first config sound ring texts says audited w fits place ticket is automatic other one other_ne apart pause other_differ other_soon soon y x b
        other_runs runs

    by_running : (clock_at w one.member x.entry.time < x.lease.until) ⊎ (x.lease.until ≤ clock_at w one.member x.entry.time)
        → (clock_at w other.member y.entry.time < y.lease.until) ⊎ (y.lease.until ≤ clock_at w other.member y.entry.time) → Result
    by_running (inr over) other_runs =
        inl (over_at_once config sound ring texts says audited w fits place ticket is automatic one other ne apart pause differ soon other_soon x y over)
    by_running (inl runs) (inr over) =
        inl (turned one other (apart + pause)
        (over_at_once config sound ring texts says audited w fits place ticket is automatic other one other_ne apart pause other_differ other_soon soon y x over))
    by_running (inl runs) (inl other_runs) =
        by_places (two_places x.before y.before x.entry y.entry x.after y.after (sym x.whole ∙ y.whole)) runs other_runs
