-- What the watch over the starts of a member tells.
use Rattle.std.specs.Prelude.{Option, None, Some, length, option_map, slice_get}
use Rattle.std.specs.Option.{option_map_or, option_or}
use Rattle.std.proofs.Common.{◌≡◌, ◌<◌, ◌+◌, ℕ, zero, suc, List, [], ◌∷◌, ◌++◌, append_assoc, refl, sym, ◌∙◌, ap, subst, arith}
use Rattle.std.proofs.lemmas.List.{append-nil}
use Rattle.std.proofs.lemmas.Option.{slice_get-map, slice_get_within}
use Rattle.booth_conf.specs.declared.tickets.TicketConf.{TicketConf}
use Rattle.booth_node.specs.declared.node_config.NodeConfig.{NodeConfig}
use Rattle.booth_node.specs.AttributeRequests.{is_at_site}
use Rattle.booth_node.specs.Records.{may_after_all}
use Rattle.booth_node.specs.Session.{AreSessions, Down, IsCut, Makes, MayDo, SessionEntry, Stand, Starts, after_entries, after_entry}
use Rattle.booth_rec.specs.declared.record.Record.{Record}
use Rattle.booth_rec.specs.Record.{no_record, record_or_none}
use Rattle.booth_audit.specs.Faults.{AllReadKept, ReadsKept, ReadsWrong, answer_line}
use Rattle.booth_audit.specs.Kept.{all_may_noted, first_may, may_noted}
use Rattle.booth_audit.specs.Noted.{MemberSays}
use Rattle.booth_audit.specs.Own.{AllOwn, IsOwn}
use Rattle.booth_audit.specs.Replay.{Event, deeds_of}
use Rattle.booth_audit.specs.Silent.{may_before, unwritten_at, unwritten_by, unwritten_from, unwritten_in, unwritten_read}
use Rattle.booth_audit.specs.Watched.{AreFound, TellsFirst, WatchTellsFirst, WatchTellsUnwritten, Watched, first_watched, first_wrong, unwritten_after, watched, watched_all, wrong_after, wrong_line}
use Rattle.booth_audit.specs.declared.silent.Unwritten.{Unwritten}
use Rattle.booth_audit.proofs.KeptLemmas.{may_is_noted}
use Rattle.booth_audit.proofs.MayLemmas.{first_is_wrong, first_within, none_is_wrong, others_are_right}

-- ---- one more entry behind others

sessions_more : (stand : Stand) (before : List SessionEntry) (what : SessionEntry) → AreSessions stand before
    → MayDo (after_entries stand before) what → AreSessions stand (before ++ what ∷ [])
sessions_more stand [] what are can = (can, tt)
sessions_more stand (one ∷ before) what are can = (are.0, sessions_more (after_entry stand one) before what are.1 can)

stands_more : (stand : Stand) (before : List SessionEntry) (what : SessionEntry)
    → after_entries stand (before ++ what ∷ []) ≡ after_entry (after_entries stand before) what
stands_more stand [] what = refl
stands_more stand (one ∷ before) what = stands_more (after_entry stand one) before what

own_more : (node : NodeConfig) (before : List SessionEntry) (what : SessionEntry) → AllOwn node before → IsOwn node what
    → AllOwn node (before ++ what ∷ [])
own_more node [] what own is = (is, tt)
own_more node (one ∷ before) what own is = (own.0, own_more node before what own.1 is)

noted_more : (tickets : List TicketConf) (all : List (List Record)) (before : List SessionEntry) (what : SessionEntry)
    → all_may_noted tickets all (before ++ what ∷ []) ≡ may_noted tickets (all_may_noted tickets all before) what
noted_more tickets all [] what = refl
noted_more tickets all (one ∷ before) what = noted_more tickets (may_noted tickets all one) before what

-- ---- one entry

ticket_at : (tickets : List TicketConf) (place : ℕ) → place < length tickets
    → (conf : TicketConf) × (slice_get tickets place ≡ Some conf)
ticket_at [] place below = absurd (omega (arith, below))
ticket_at (first ∷ tickets) zero below = (first, refl)
ticket_at (first ∷ tickets) (suc place) below = ticket_at tickets place (omega (arith, below))

-- what the line says that an entry gives the watch, if none was wrong before
abbrev OneTells : List SessionEntry → SessionEntry → ℕ → Option ℕ → Type 0
OneTells before what last None = ReadsKept before what
OneTells before what last (Some line) = ReadsWrong before what last line

-- the watch behind entries that are sessions of the member, each start of which read what it may read
record Watches (member : MemberSays) (before : List SessionEntry) (now : Watched) : Type 0 where
  sessions : AreSessions Down before
  own : AllOwn member.node before
  may : now.may ≡ all_may_noted member.node.config.tickets (first_may member.node.config.tickets) before
  none : now.wrong ≡ None

module _ (member : MemberSays) (finds : AreFound member.node.config.tickets) where
  module _ (before : List SessionEntry) (now : Watched) (watches : Watches member before now) where
    may_there : (place : ℕ) (conf : TicketConf) → slice_get member.node.config.tickets place ≡ Some conf
        → slice_get now.may place ≡ Some (may_after_all conf.name (no_record ∷ []) before)
    may_there place conf at =
        ap (λ (all : List (List Record)). slice_get all place) watches.may
        ∙ may_is_noted member.node place conf at (finds place conf at) before watches.sessions watches.own

    module _ (node : NodeConfig) (reading : ℕ) (records : List (Option Record)) (own : node ≡ member.node)
        (count : length records ≡ length node.config.tickets) where
      may_here : (place : ℕ) (conf : TicketConf) → slice_get node.config.tickets place ≡ Some conf
          → slice_get now.may place ≡ Some (may_after_all conf.name (no_record ∷ []) before)
      may_here place conf at =
          may_there place conf (ap (λ (n : NodeConfig). slice_get n.config.tickets place) (sym own) ∙ at)

      reads_kept : first_wrong (is_at_site node) now.may records ≡ None → ReadsKept before (Starts node reading records)
      reads_kept none = λ place conf at.
          let within = slice_get_within node.config.tickets place conf at in
          none_is_wrong (is_at_site node) now.may records none place (may_after_all conf.name (no_record ∷ []) before)
          (may_here place conf at) (omega (arith, within, count))

      reads_wrong : (place last : ℕ) → first_wrong (is_at_site node) now.may records ≡ Some place
          → ReadsWrong before (Starts node reading records) last (answer_line (length records) place last)
      reads_wrong place last found =
          let within = first_within (is_at_site node) now.may records place found in
          let ticket = ticket_at node.config.tickets place (omega (arith, within, count)) in (
            place,
            record {
              conf = ticket.0;
              is = ticket.1;
              wrong = first_is_wrong (is_at_site node) now.may records place found
                  (may_after_all ticket.0.name (no_record ∷ []) before)
                  (may_here place ticket.0 ticket.1);
              others = λ earlier other less at.
                  others_are_right (is_at_site node) now.may records place found earlier
                  (may_after_all other.name (no_record ∷ []) before) less (may_here earlier other at);
            },
            ap (λ (n : ℕ). answer_line n place last) count,
          )

      start_tells : (last : ℕ)
          → OneTells before (Starts node reading records) last (wrong_line (is_at_site node) now.may records last)
      start_tells last = by_place (first_wrong (is_at_site node) now.may records) refl
        where
          by_place : (place : Option ℕ) → first_wrong (is_at_site node) now.may records ≡ place
              → OneTells before (Starts node reading records) last
              (option_map (λ (p : ℕ). answer_line (length records) p last) place)
          by_place None found = reads_kept found
          by_place (Some place) found = reads_wrong place last found

    one_tells : (what : SessionEntry) (last : ℕ) → MayDo (after_entries Down before) what → IsOwn member.node what
        → OneTells before what last (wrong_after now what last)
    one_tells (Starts node reading records) last can own =
        subst (OneTells before (Starts node reading records) last)
        (sym (ap (λ (o : Option ℕ). option_or o (wrong_line (is_at_site node) now.may records last)) watches.none))
        (start_tells node reading records own can last)
    one_tells (Makes call) last can own = subst (OneTells before (Makes call) last) (sym watches.none) tt
    one_tells (IsCut call) last can own = subst (OneTells before (IsCut call) last) (sym watches.none) tt

    watches_more : (event : Event) → MayDo (after_entries Down before) event.what → IsOwn member.node event.what
        → wrong_after now event.what event.line ≡ None
        → Watches member (before ++ event.what ∷ []) (watched member now event)
    watches_more event can own none = record {
      sessions = sessions_more Down before event.what watches.sessions can;
      own = own_more member.node before event.what watches.own own;
      may = ap (λ (all : List (List Record)). may_noted member.node.config.tickets all event.what) watches.may
          ∙ sym (noted_more member.node.config.tickets (first_may member.node.config.tickets) before event.what);
      none = none;
    }

-- ---- all events

-- the line of the first wrong record of these events, behind entries
record FirstBehind (before : List SessionEntry) (events : List Event) (line : ℕ) : Type 0 where
  kept : List Event
  event : Event
  after : List Event
  whole : events ≡ kept ++ event ∷ after
  earlier : AllReadKept before (deeds_of kept)
  wrong : ReadsWrong (before ++ deeds_of kept) event.what event.line line

abbrev Tells : List SessionEntry → List Event → Option ℕ → Type 0
Tells before events None = AllReadKept before (deeds_of events)
Tells before events (Some line) = FirstBehind before events line

first_here : (before : List SessionEntry) (event : Event) (events : List Event) (line : ℕ)
    → ReadsWrong before event.what event.line line → FirstBehind before (event ∷ events) line
first_here before event events line wrong = record {
  kept = [];
  event = event;
  after = events;
  whole = refl;
  earlier = tt;
  wrong = subst (λ (l : List SessionEntry). ReadsWrong l event.what event.line line) (sym (append-nil before)) wrong;
}

behind_one : (before : List SessionEntry) (event : Event) (events : List Event) (wrong : Option ℕ)
    → ReadsKept before event.what → Tells (before ++ event.what ∷ []) events wrong → Tells before (event ∷ events) wrong
behind_one before event events None kept later = (kept, later)
behind_one before event events (Some line) kept later = record {
  kept = event ∷ later.kept;
  event = later.event;
  after = later.after;
  whole = ap (λ (l : List Event). event ∷ l) later.whole;
  earlier = (kept, later.earlier);
  wrong = subst (λ (l : List SessionEntry). ReadsWrong l later.event.what later.event.line line)
      (append_assoc before (event.what ∷ []) (deeds_of later.kept)) later.wrong;
}

module _ (member : MemberSays) where
  -- the first wrong line stays
  stays_one : (now : Watched) (what : SessionEntry) (last line : ℕ) → now.wrong ≡ Some line
      → wrong_after now what last ≡ Some line
  stays_one now (Starts node reading records) last line is =
      ap (λ (o : Option ℕ). option_or o (wrong_line (is_at_site node) now.may records last)) is
  stays_one now (Makes call) last line is = is
  stays_one now (IsCut call) last line is = is

  stays : (now : Watched) (events : List Event) (line : ℕ) → now.wrong ≡ Some line
      → (watched_all member now events).wrong ≡ Some line
  stays now [] line is = is
  stays now (event ∷ events) line is =
      stays (watched member now event) events line (stays_one now event.what event.line line is)

  module _ (finds : AreFound member.node.config.tickets) where
    tells : (before : List SessionEntry) (now : Watched) → Watches member before now → (events : List Event)
        → AreSessions (after_entries Down before) (deeds_of events) → AllOwn member.node (deeds_of events)
        → Tells before events (watched_all member now events).wrong
    tells before now watches [] are own = subst (Tells before []) (sym watches.none) tt
    tells before now watches (event ∷ events) are own =
        by_wrong (wrong_after now event.what event.line) refl
        (one_tells member finds before now watches event.what event.line are.0 own.0)
        (λ none.
        tells (before ++ event.what ∷ []) (watched member now event)
        (watches_more member finds before now watches event are.0 own.0 none) events
        (subst (λ (s : Stand). AreSessions s (deeds_of events)) (sym (stands_more Down before event.what)) are.1) own.1)
      where
        by_wrong : (wrong : Option ℕ) → wrong_after now event.what event.line ≡ wrong
            → OneTells before event.what event.line wrong
            → (wrong_after now event.what event.line ≡ None
            → Tells (before ++ event.what ∷ []) events (watched_all member (watched member now event) events).wrong)
            → Tells before (event ∷ events) (watched_all member (watched member now event) events).wrong
        by_wrong None is kept later =
            behind_one before event events (watched_all member (watched member now event) events).wrong kept (later is)
        by_wrong (Some line) is wrong later =
            subst (Tells before (event ∷ events)) (sym (stays (watched member now event) events line is))
            (first_here before event events line wrong)

-- ---- both ways

never_both : (before : List SessionEntry) (what : SessionEntry) (last line : ℕ) → ReadsKept before what
    → ReadsWrong before what last line → ⊥
never_both before (Starts node reading records) last line kept wrong =
    wrong.1.wrong (kept wrong.0 wrong.1.conf wrong.1.is)
never_both before (Makes call) last line kept wrong = wrong
never_both before (IsCut call) last line kept wrong = wrong

kept_there : (before : List SessionEntry) (kept : List Event) (event : Event) (after : List Event)
    → AllReadKept before (deeds_of (kept ++ event ∷ after)) → ReadsKept (before ++ deeds_of kept) event.what
kept_there before [] event after all =
    subst (λ (l : List SessionEntry). ReadsKept l event.what) (sym (append-nil before)) all.0
kept_there before (one ∷ kept) event after all =
    subst (λ (l : List SessionEntry). ReadsKept l event.what) (append_assoc before (one.what ∷ []) (deeds_of kept))
    (kept_there (before ++ one.what ∷ []) kept event after all.1)

none_wrong : (events : List Event) (wrong : Option ℕ) → Tells [] events wrong → AllReadKept [] (deeds_of events)
    → wrong ≡ None
none_wrong events None told all = refl
none_wrong events (Some line) told all =
    absurd (never_both (deeds_of told.kept) told.event.what told.event.line line
    (kept_there [] told.kept told.event told.after
    (subst (λ (l : List Event). AllReadKept [] (deeds_of l)) told.whole all)) told.wrong)

tells_first : (events : List Event) (wrong : Option ℕ) → Tells [] events wrong → TellsFirst events wrong
tells_first events wrong told = record {
  none = (λ is. subst (Tells [] events) is told, none_wrong events wrong told);
  first = λ line is.
      let here : FirstBehind [] events line = subst (Tells [] events) is told in
      record {
        before = here.kept;
        event = here.event;
        after = here.after;
        whole = here.whole;
        earlier = here.earlier;
        wrong = here.wrong;
      };
}

pub watch_tells_first : WatchTellsFirst
watch_tells_first member finds events are own =
    tells_first events (watched_all member (first_watched member.node.config.tickets) events).wrong
    (tells member finds [] (first_watched member.node.config.tickets)
    (record { sessions = tt; own = tt; may = refl; none = refl }) events are own)

-- ---- the reads of records that may not have been written

from_same : (all other : List (List Record)) (count last ticket : ℕ) (records : List (Option Record))
    → ((place : ℕ) → place < ticket + length records → slice_get all place ≡ slice_get other place)
    → unwritten_from all count last ticket records ≡ unwritten_from other count last ticket records
from_same all other count last ticket [] same = refl
from_same all other count last ticket (found ∷ records) same =
    ap (λ (o : Option (List Record)).
    option_map_or (λ (may : List Record). unwritten_read ticket (answer_line count ticket last) may (record_or_none found)) o []
    ++ unwritten_from all count last (ticket + 1) records) (same ticket (omega arith))
    ∙ ap (λ (l : List Unwritten). unwritten_at other ticket (answer_line count ticket last) found ++ l)
    (from_same all other count last (ticket + 1) records (λ place below. same place (omega (arith, below))))

-- the watch behind entries that are sessions of the member
record Follows (member : MemberSays) (before : List SessionEntry) (now : Watched) : Type 0 where
  sessions : AreSessions Down before
  own : AllOwn member.node before
  may : now.may ≡ all_may_noted member.node.config.tickets (first_may member.node.config.tickets) before

module _ (member : MemberSays) (finds : AreFound member.node.config.tickets) where
  module _ (before : List SessionEntry) (now : Watched) (follows : Follows member before now) where
    follows_more : (event : Event) → MayDo (after_entries Down before) event.what → IsOwn member.node event.what
        → Follows member (before ++ event.what ∷ []) (watched member now event)
    follows_more event can own = record {
      sessions = sessions_more Down before event.what follows.sessions can;
      own = own_more member.node before event.what follows.own own;
      may = ap (λ (all : List (List Record)). may_noted member.node.config.tickets all event.what) follows.may
          ∙ sym (noted_more member.node.config.tickets (first_may member.node.config.tickets) before event.what);
    }

    -- what may have been kept of a ticket, by the watch and by the entries
    may_same : (node : NodeConfig) → node ≡ member.node → (place : ℕ) → place < length node.config.tickets
        → slice_get now.may place ≡ slice_get (may_before node.config.tickets before) place
    may_same node own place below =
        let ticket = ticket_at node.config.tickets place below in
        let there : slice_get member.node.config.tickets place ≡ Some ticket.0 =
        ap (λ (n : NodeConfig). slice_get n.config.tickets place) (sym own) ∙ ticket.1 in
        ap (λ (all : List (List Record)). slice_get all place) follows.may
        ∙ may_is_noted member.node place ticket.0 there (finds place ticket.0 there) before follows.sessions follows.own
        ∙ sym
        (slice_get-map (λ (conf : TicketConf). may_after_all conf.name (no_record ∷ []) before) node.config.tickets place
        ∙ ap (option_map (λ (conf : TicketConf). may_after_all conf.name (no_record ∷ []) before)) ticket.1)

    one_unwritten : (what : SessionEntry) (last : ℕ) → MayDo (after_entries Down before) what → IsOwn member.node what
        → unwritten_after now what last ≡ now.unwritten ++ unwritten_by before what last
    one_unwritten (Starts node reading records) last can own =
        let count : length records ≡ length node.config.tickets = can in
        ap (λ (l : List Unwritten). now.unwritten ++ l)
        (from_same now.may (may_before node.config.tickets before) (length records) last 0 records
        (λ place below. may_same node own place (omega (arith, below, count))))
    one_unwritten (Makes call) last can own = sym (append-nil now.unwritten)
    one_unwritten (IsCut call) last can own = sym (append-nil now.unwritten)

  all_unwritten : (before : List SessionEntry) (now : Watched) → Follows member before now → (events : List Event)
      → AreSessions (after_entries Down before) (deeds_of events) → AllOwn member.node (deeds_of events)
      → (watched_all member now events).unwritten ≡ now.unwritten ++ unwritten_in before events
  all_unwritten before now follows [] are own = sym (append-nil now.unwritten)
  all_unwritten before now follows (event ∷ events) are own =
      all_unwritten (before ++ event.what ∷ []) (watched member now event) (follows_more before now follows event are.0 own.0)
      events (subst (λ (s : Stand). AreSessions s (deeds_of events)) (sym (stands_more Down before event.what)) are.1) own.1
      ∙ ap (λ (l : List Unwritten). l ++ unwritten_in (before ++ event.what ∷ []) events)
      (one_unwritten before now follows event.what event.line are.0 own.0)
      ∙ append_assoc now.unwritten (unwritten_by before event.what event.line)
      (unwritten_in (before ++ event.what ∷ []) events)

pub watch_tells_unwritten : WatchTellsUnwritten
watch_tells_unwritten member finds events are own =
    all_unwritten member finds [] (first_watched member.node.config.tickets)
    (record { sessions = tt; own = tt; may = refl }) events are own
