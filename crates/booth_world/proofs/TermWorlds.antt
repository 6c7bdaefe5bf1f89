-- In each world, a member that tells a term has gained a lease of it; and in version 2 a term that is told is one
-- member's.
use Rattle.std.proofs.Common.{◌≡◌, ◌≢◌, ◌⊎◌, inl, inr, ℕ, ◌<◌, ◌≤◌, ◌-◌, ◌^◌, Bool, true, false, List, ◌∷◌, ◌++◌, length, refl, sym, ap, ◌∙◌, subst, arith, if◌then◌else◌}
use Rattle.std.specs.Prelude.{min, max, Option, Some, None, Ok, is_ok, not, nat_lt}
use Rattle.std.proofs.lemmas.Bool.{and_parts}
use Rattle.booth_base.specs.Tree.{Deeds, Ends, Does}
use Rattle.booth_base.specs.declared.address.Peer.{Peer}
use Rattle.booth_base.specs.declared.address.TheConstants.{NO_ONE}
use Rattle.booth_conf.specs.declared.tickets.TicketConf.{TicketConf}
use Rattle.booth_rec.specs.declared.record.Lease.{Lease}
use Rattle.booth_rec.specs.declared.record.Record.{Record}
use Rattle.booth_auth.specs.Sealed.{sealed}
use Rattle.booth_auth.proofs.SealLemmas.{sealed_read}
use Rattle.booth_host.specs.declared.entry.Entry.{Entry}
use Rattle.booth_host.specs.declared.entry.Entry.TheVariants as calls
use Rattle.booth_wire.specs.declared.message.Setup.{Setup}
use Rattle.booth_wire.specs.declared.message.TicketPart.{TicketPart}
use Rattle.booth_wire.specs.PlainMessage.{PlainMessage}
use Rattle.booth_wire.specs.Reading.{decoded}
use Rattle.booth_wire.specs.Spelling.{Fits}
use Rattle.booth_raft.specs.declared.view.Shown.{Shown}
use Rattle.booth_raft.specs.declared.view.View.{View}
use Rattle.booth_raft.specs.Members.{is_same}
use Rattle.booth_raft.specs.Messages.{part_of}
use Rattle.booth_raft.specs.Numbers.{seconds_left}
use Rattle.booth_raft.proofs.AnswerLemmas.{same-is_same}
use Rattle.booth_raft.proofs.FactsLemmas.{untrue}
use Rattle.booth_ticket.specs.Requests.{is_shown_elsewhere, lease_part, shown_part, told_lease, told_part}
use Rattle.booth_ticket.specs.Ticket.{Known, Automatic, Manual, TicketState, told_ticket}
use Rattle.booth_node.specs.declared.node_config.NodeConfig.{NodeConfig}
use Rattle.booth_node.specs.State.{State}
use Rattle.booth_node.specs.Held.{Moment}
use Rattle.booth_node.specs.Reaction.{Ask, Send, Keep, Start, used}
use Rattle.booth_node.specs.Records.{Has, may_after}
use Rattle.booth_node.specs.Session.{CutSend, SessionEntry, Starts, Makes, IsCut, Stand, Down, Doing, Hearing, MayMake, MayDo, after_call, after_entry}
use Rattle.booth_node.specs.World.{IsOneTicket, IsSend, ReadsClock, WorldEntry, World, begins_with, clock_at, entries_of, id_at, members_of, stand_after, IsSecondWorld, IsUntimedWorld, RecordsGoOn}
use Rattle.booth_world.specs.Fencing.{HasGainedAt}
use Rattle.booth_world.specs.Tellers.{IsNext, address_at}
use Rattle.booth_world.specs.Told.{MessageTellsTerm, ToldTermsAreGained, TellersOfOneTermIn, LaterTellersHaveLaterTermsIn, WorldsHaveFencingTerms}
use Rattle.booth_world.proofs.Configured.{setting_of}
use Rattle.booth_world.proofs.FencedTellers.{told_is, told_terms}
use Rattle.booth_world.proofs.FencedWorlds.{holders_of_one_term, world_askers, world_terms_of_one}
use Rattle.booth_world.proofs.Lists.{some_same}
use Rattle.booth_world.proofs.TellerClaims.{IsOwn, IsPlaced, found_or_not}
use Rattle.booth_world.proofs.TellerStanding.{names_it}
use Rattle.booth_world.proofs.TellerSteps.{IsHonest}
use Rattle.booth_world.proofs.TellerWorlds.{IsHonestAt, along, found, honest_after, lasts, may_do_at, may_of, same_message, setup_now, some_after}
use Rattle.booth_world.proofs.TermTurns.{AreTrueTerms, FirstTells, IsTrueTerm, other_first, turn_true}
use Rattle.booth_world.proofs.WorldRuns.{begins_free}

-- ---- what is told of a ticket

-- This lease is told at a reading, with its term.
record IsToldLease (s : Setup) (view : View) (now : ℕ) (told : ℕ) : Type 0 where
  pub lease : Lease
  pub is : told_lease s view now ≡ Some lease
  pub term : lease.term ≡ told

abbrev TellsLease : Setup → View → ℕ → TicketPart → Type 0
TellsLease s view now part = part.leader ≡ s.me → 0 < part.valid_for → IsToldLease s view now part.term

-- what names this member with seconds left tells its lease
tells_lease : (s : Setup) (view : View) (now : ℕ) → TellsLease s view now (told_part s view now)
tells_lease s view now = by_lease (told_lease s view now) refl
  where
    nobody : TellsLease s view now (part_of s NO_ONE 0 0)
    nobody leads left = absurd (omega (arith, left))

    by_shown : (o : Option Shown) → TellsLease s view now (shown_part s o now)
    by_shown None = nobody
    by_shown (Some shown) = by_test (is_shown_elsewhere (Some shown) s.me now) refl
      where
        by_test : (b : Bool) → is_shown_elsewhere (Some shown) s.me now ≡ b
            → TellsLease s view now (if b then part_of s shown.owner 0 (seconds_left shown.until now) else part_of s NO_ONE 0 0)
        by_test false is = nobody
        by_test true is = λ leads left.
            let other : not (is_same shown.owner s.me) ≡ true = (and_parts (nat_lt now shown.until) (not (is_same shown.owner s.me)) is).1 in
            absurd (untrue (sym (ap not (same-is_same shown.owner s.me leads)) ∙ other))

    by_lease : (o : Option Lease) → told_lease s view now ≡ o → TellsLease s view now (lease_part s view o now)
    by_lease None e = by_shown view.shown
    by_lease (Some lease) e = λ leads left. record { lease = lease; is = e; term = refl }

-- ---- a world

module _ (w : World) (is_world : IsUntimedWorld w) (ticket : TicketConf) (one : IsOneTicket w ticket) (automatic : ticket.manual ≡ false) (m : ℕ)
    (below : m < members_of w) where
  -- One of these records has a lease of this term, with which the member did not begin.
  record HasTerm (may : List Record) (told : ℕ) : Type 0 where
    pub kept : Record
    pub may_be : Has may kept
    pub lease : Lease
    pub has : kept.lease ≡ Some lease
    pub fresh : (begins_with w m ticket.name).lease ≢ Some lease
    pub term : lease.term ≡ told

  -- a member that stands so is to tell of the ticket a term of a lease that it may have kept then, and gained
  abbrev IsTrueAt : List Record → Stand → Type 0
  IsTrueAt may Down = Unit {0}
  IsTrueAt may (Doing node deeds) = FirstTells (IsTrueTerm ticket.name (id_at w m) (HasTerm may)) deeds
  IsTrueAt may (Hearing node old answer bytes) = Unit {0}

  abbrev IsBorneOut : List Record → Stand → Type 0
  IsBorneOut may stand = IsHonestAt ticket (id_at w m) (address_at w m) (lasts w is_world ticket one automatic m below) may stand

  abbrev setup_of_node : NodeConfig → Setup
  setup_of_node node = setup_now w is_world ticket one automatic m below node

  abbrev place_in : NodeConfig → Option ℕ
  place_in node = found w is_world ticket one automatic m below node

  -- what the clock reads is used, or more
  used_least : (last reading time : ℕ) → time < w.span → reading ≡ clock_at w m time → clock_at w m 0 ≤ used last reading
  used_least last reading time within is =
      let clocks = is_world.rising_clocks in
      let inside : time < length (w.clock m) = subst (λ (n : ℕ). time < n) (sym (clocks.long m below)) within in
      let rise : clock_at w m 0 ≤ clock_at w m time = (clocks.rising m below).rises 0 time (omega arith) inside in
      let small : clock_at w m time < 2 ^ 62 = (clocks.rising m below).small time inside in
      let uses : used last reading ≡ max last (min reading (2 ^ 62 - 1)) = refl in
      omega (arith, rise, small, uses, is)

  abbrev TellsTermOf : ℕ → List Record → TicketState → Type 0
  TellsTermOf now may t =
      (told_ticket t.setup t.known now).leader ≡ id_at w m → 0 < (told_ticket t.setup t.known now).valid_for
      → HasTerm may (told_ticket t.setup t.known now).term

  -- what a turn would tell of its state's ticket is the term of such a lease
  told_true : (node : NodeConfig) (old : State) (now : ℕ) (may : List Record) → node.me ≡ id_at w m → clock_at w m 0 ≤ now
      → IsPlaced (setup_of_node node) (place_in node) may old.tickets
      → AreTrueTerms node now ticket.name (id_at w m) (HasTerm may) old.tickets
  told_true node old now may me_is least at place t is named leads left = by_place (found_or_not (place_in node) place)
    where
      by_known : (known : Known) → IsHonest (setup_of_node node) may known
          → TellsTermOf now may (record { setup = setup_of_node node; known = known })
      by_known (Manual known) honest leads left = absurd honest
      by_known (Automatic view) honest leads left =
          let told = tells_lease (setup_of_node node) view now (leads ∙ sym me_is) left in
          let lease = told_is (setup_of_node node) view now told.lease told.is in
          let free = begins_free w is_world ticket (setting_of w is_world.form ticket one automatic) m in
          record {
            kept = honest.0;
            may_be = honest.1;
            lease = told.lease;
            has = ap (λ (r : Record). r.lease) (sym honest.2.same) ∙ lease.0;
            fresh = λ began. let over = free.over told.lease began in let live = lease.1 in omega (arith, over, live, least);
            term = told.term;
          }

      by_place : (place_in node ≡ Some place) ⊎ (place_in node ≢ Some place) → HasTerm may (told_ticket t.setup t.known now).term
      by_place (inr ne) = absurd (at.others place t is ne (sym (names_it t.setup t.known now) ∙ named))
      by_place (inl same) =
          let own : IsOwn (setup_of_node node) (place_in node) place may old.tickets = at.own place same in
          subst (λ (x : TicketState). TellsTermOf now may x) (some_same (record { setup = setup_of_node node; known = own.known }) t (sym own.own ∙ is))
          (by_known own.known own.honest) leads left

  makes_true : (stand : Stand) (call : Entry) (may : List Record) (time : ℕ) → time < w.span → IsTrueAt may stand → IsBorneOut may stand
      → MayMake stand call → ReadsClock w (record { member = m; time = time; what = Makes call }) (Makes call)
      → IsTrueAt (may_after ticket.name may (Makes call)) (after_call stand call)
  makes_true Down call may time within h honest d reads = absurd d
  makes_true (Doing node (Ends old)) (calls.Next wait answer bytes) may time within h honest d reads = tt
  makes_true (Doing node (Ends old)) call may time within h honest d reads = absurd d
  makes_true (Doing node (Does (Send peer message) go)) (calls.Send to bytes answer) may time within h honest d reads = h.1 (is_ok answer)
  makes_true (Doing node (Does (Send peer message) go)) call may time within h honest d reads = absurd d
  makes_true (Doing node (Does (Keep name tried) go)) (calls.Keep ticket_name rec answer) may time within h honest d reads =
      other_first ticket.name (id_at w m) (HasTerm (may_after ticket.name may (Makes (calls.Keep ticket_name rec answer)))) (go (is_ok answer))
      (h (is_ok answer))
  makes_true (Doing node (Does (Keep name tried) go)) call may time within h honest d reads = absurd d
  makes_true (Doing node (Does (Start job) go)) (calls.Start number named handler local expires answer) may time within h honest d reads = h (is_ok answer)
  makes_true (Doing node (Does (Start job) go)) call may time within h honest d reads = absurd d
  makes_true (Hearing node old answer bytes) (calls.Now reading) may time within h honest d reads =
      turn_true node (used old.last_reading reading) ticket.name (id_at w m) (HasTerm may) old answer bytes
      (told_true node old (used old.last_reading reading) may honest.0.me_is (used_least old.last_reading reading time within reads) honest.1)
  makes_true (Hearing node old answer bytes) call may time within h honest d reads = absurd d

  one_true : (stand : Stand) (what : SessionEntry) (may : List Record) (time : ℕ) → time < w.span → IsTrueAt may stand → IsBorneOut may stand
      → MayDo stand what → ReadsClock w (record { member = m; time = time; what = what }) what
      → IsTrueAt (may_after ticket.name may what) (after_entry stand what)
  one_true stand (Starts node reading records) may time within h honest d reads = tt
  one_true stand (Makes call) may time within h honest d reads = makes_true stand call may time within h honest d reads
  one_true stand (IsCut call) may time within h honest d reads = tt

  true_after : (before after : List WorldEntry) → w.entries ≡ before ++ after
      → IsTrueAt (may_of w is_world ticket one automatic m below before) (stand_after m before)
  true_after before after whole =
      along w is_world ticket one automatic m below (λ (may : List Record) (stand : Stand). IsTrueAt may stand)
      (λ earlier later e is own may_do h.
      one_true (stand_after m earlier) e.what (may_of w is_world ticket one automatic m below earlier) e.time
      (is_world.form.within earlier later e is) h
      (honest_after w is_world ticket one automatic m below earlier (e ∷ later) is) may_do
      (own_reading e.what e own (is_world.rising_clocks.read earlier later e is)))
      before after whole tt
    where
      own_reading : (what : SessionEntry) (e : WorldEntry) → e.member ≡ m → ReadsClock w e what
          → ReadsClock w (record { member = m; time = e.time; what = what }) what
      own_reading (Starts node reading records) e own reads = subst (λ (n : ℕ). reading ≡ clock_at w n e.time) own reads
      own_reading (Makes (calls.Now reading)) e own reads = subst (λ (n : ℕ). reading ≡ clock_at w n e.time) own reads
      own_reading (Makes call) e own reads = tt
      own_reading (IsCut call) e own reads = tt

  -- ---- what an entry tells

  sent_true : (node : NodeConfig) (peer : Peer) (message' : PlainMessage) (go : Bool → Deeds Ask State) (may : List Record) (told : ℕ)
      → IsTrueAt may (Doing node (Does (Send peer message') go)) → IsBorneOut may (Doing node (Does (Send peer message') go))
      → (sent : List ℕ) → sent ≡ sealed node.ring message' → Fits message'
      → (bytes : List ℕ) (message : PlainMessage) → sent ≡ bytes → decoded bytes ≡ Ok message
      → MessageTellsTerm ticket.name (id_at w m) message told → HasTerm may told
  sent_true node peer message' go may told h honest sent sealed_so fits bytes message is read tells =
      let same : message' ≡ message =
      same_message (decoded bytes) message' message
      (ap decoded (sym is ∙ sealed_so) ∙ sealed_read node.ring message' fits honest.1.0.0) read in
      h.0 told (subst (λ (p : PlainMessage). MessageTellsTerm ticket.name (id_at w m) p told) (sym same) tells)

  send_true : (stand : Stand) (what : SessionEntry) (may : List Record) (told : ℕ) → IsTrueAt may stand → IsBorneOut may stand → MayDo stand what
      → (bytes : List ℕ) (message : PlainMessage) → IsSend what bytes → decoded bytes ≡ Ok message
      → MessageTellsTerm ticket.name (id_at w m) message told → HasTerm may told
  send_true (Doing node (Does (Send peer message') go)) (Makes (calls.Send to sent answer)) may told h honest d bytes message is read tells =
      sent_true node peer message' go may told h honest sent d.1 d.2 bytes message is read tells
  send_true (Doing node (Does (Keep name tried) go)) (Makes (calls.Send to sent answer)) may told h honest d bytes message is read tells = absurd d
  send_true (Doing node (Does (Start job) go)) (Makes (calls.Send to sent answer)) may told h honest d bytes message is read tells = absurd d
  send_true (Doing node (Ends old)) (Makes (calls.Send to sent answer)) may told h honest d bytes message is read tells = absurd d
  send_true Down (Makes (calls.Send to sent answer)) may told h honest d bytes message is read tells = absurd d
  send_true (Hearing node old got into) (Makes (calls.Send to sent answer)) may told h honest d bytes message is read tells = absurd d
  send_true (Doing node (Does (Send peer message') go)) (IsCut (CutSend to sent)) may told h honest d bytes message is read tells =
      sent_true node peer message' go may told h honest sent d.1 d.2 bytes message is read tells
  send_true (Doing node (Does (Keep name tried) go)) (IsCut (CutSend to sent)) may told h honest d bytes message is read tells = absurd d
  send_true (Doing node (Does (Start job) go)) (IsCut (CutSend to sent)) may told h honest d bytes message is read tells = absurd d
  send_true (Doing node (Ends old)) (IsCut (CutSend to sent)) may told h honest d bytes message is read tells = absurd d
  send_true Down (IsCut (CutSend to sent)) may told h honest d bytes message is read tells = absurd d
  send_true (Hearing node old got into) (IsCut (CutSend to sent)) may told h honest d bytes message is read tells = absurd d
  send_true stand what may told h honest d bytes message is read tells = absurd is

  told_gained : (moment : Moment w) (entry : WorldEntry) → IsNext moment entry → entry.member ≡ m → (term : ℕ)
      → (bytes : List ℕ) (message : PlainMessage) → IsSend entry.what bytes → decoded bytes ≡ Ok message
      → MessageTellsTerm ticket.name (id_at w m) message term
      → (lease : Lease) × (lease.term ≡ term) × HasGainedAt w ticket m moment lease
  told_gained moment entry next own term bytes message is read tells = (
    found_one.lease,
    found_one.term,
    record {
      below = below;
      kept = found_one.kept;
      may = some_after w is_world ticket one automatic m below found_one.kept may (entries_of m moment.after) found_one.may_be;
      has = found_one.has;
      fresh = found_one.fresh;
    },
  )
    where
      may : List Record
      may = may_of w is_world ticket one automatic m below moment.before

      found_one : HasTerm may term
      found_one =
          send_true (stand_after m moment.before) entry.what may term (true_after moment.before moment.after moment.whole)
          (honest_after w is_world ticket one automatic m below moment.before moment.after moment.whole)
          (may_do_at w is_world ticket one automatic m below moment.before next.0 entry
          (moment.whole ∙ ap (λ (es : List WorldEntry). moment.before ++ es) next.1) own)
          bytes message is read tells

-- ---- the laws

pub told_terms_are_gained : ToldTermsAreGained
told_terms_are_gained w is_world ticket automatic moment entry next term tells =
    told_gained w is_world ticket automatic.0 automatic.1 entry.member
    (is_world.form.members moment.before next.0 entry (moment.whole ∙ ap (λ (es : List WorldEntry). moment.before ++ es) next.1))
    moment entry next refl term tells.0 tells.1 tells.2 tells.3 tells.4

pub tellers_of_one_term : (w : World) → IsUntimedWorld w → IsSecondWorld w → RecordsGoOn w → TellersOfOneTermIn w
tellers_of_one_term w is_world all on ticket automatic early late between later first second at_first at_second term tells tells_too =
    let a = told_terms_are_gained w is_world ticket automatic early first at_first term tells in
    let b = told_terms_are_gained w is_world ticket automatic late second at_second term tells_too in
    world_terms_of_one w is_world all on ticket automatic early late between later first.member second.member a.0 b.0 a.2 b.2 (a.1 ∙ sym b.1)

pub later_tellers_have_later_terms : (w : World) → IsUntimedWorld w → IsSecondWorld w → RecordsGoOn w → LaterTellersHaveLaterTermsIn w
later_tellers_have_later_terms w is_world all on ticket automatic early late between later first second at_first at_second term greater tells tells_too below =
    let a = told_terms_are_gained w is_world ticket automatic early first at_first term tells in
    let b = told_terms_are_gained w is_world ticket automatic late second at_second greater tells_too in
    let of_first = a.1 in
    let of_second = b.1 in
    let less : a.0.term < b.0.term =
    world_askers w is_world all on ticket automatic early late between later first.member second.member a.0 b.0 a.2 b.2
    (λ kept has. subst (λ (n : ℕ). kept.term < n) (sym of_second) (below kept has)) in
    omega (arith, less, of_first, of_second)

pub worlds_have_fencing_terms : WorldsHaveFencingTerms
worlds_have_fencing_terms w is_world all on = record {
  terms = world_terms_of_one w is_world all on;
  holders = holders_of_one_term w is_world all on;
  askers = world_askers w is_world all on;
  told = told_terms w is_world all on;
  gained = told_terms_are_gained w is_world;
  tellers = tellers_of_one_term w is_world all on;
  later_tellers = later_tellers_have_later_terms w is_world all on;
}
