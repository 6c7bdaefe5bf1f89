-- While a service may run its site holds by a lease that no other site has waited out.
use Rattle.std.proofs.Common.{◌≡◌, ◌≢◌, ◌⊎◌, ⊎_elim, ℕ, ◌<◌, ◌≤◌, ◌+◌, ◌-◌, ◌*◌, List, [], ◌∷◌, ◌++◌, decimal, refl, sym, ap, ◌∙◌, subst, inl, inr, arith, get_or}
use Rattle.std.specs.Prelude.{Option, Some, None, IsSomeAnd}
use Rattle.booth_conf.specs.declared.tickets.TicketConf.{TicketConf}
use Rattle.booth_rec.specs.declared.record.Lease.{Lease}
use Rattle.booth_rec.specs.declared.record.Record.{Record}
use Rattle.booth_rec.specs.Record.{IsInForce}
use Rattle.booth_wire.specs.PlainMessage.{PlainMessage}
use Rattle.booth_base.specs.Address.{printed}
use Rattle.booth_node.specs.Records.{Has}
use Rattle.booth_node.specs.World.{WorldEntry, World, members_of, id_at, clock_at, last_time, IsWorld}
use Rattle.booth_node.specs.Held.{Moment, IsAutomatic, HoldsBy, may_at}
use Rattle.booth_world.specs.Clusters.{cluster_of}
use Rattle.booth_world.specs.Held.{AreApart, IsApartFrom}
use Rattle.booth_world.specs.Tellers.{BearsOut, Claim, HasLeft, HasLine, IsListed, ListTells, MessageTells, Tells, address_at}
use Rattle.booth_world.specs.Worlds.{IsLater, ReleasedIn}
use Rattle.booth_world.proofs.TellerWorlds.{who_tells_has_kept}
use Rattle.booth_world.proofs.Untimed.{untimed}
use Rattle.booth_world.proofs.WorldLaws.{worlds_are_apart}
use Rattle.booth_follow_rule.specs.Known.{Row, Started, known_first, rows_of}
use Rattle.booth_follow_rule.specs.declared.news.News.TheVariants as news
use Rattle.booth_follow_rule.specs.declared.news.Shown.TheVariants.{Here}
use Rattle.booth_follow_rule.specs.Laws.{HasArmed, IsEnd, known_from}
use Rattle.booth_follow_rule.proofs.PlainLemmas.{serves}
use Rattle.booth_following.specs.Lists.{lines_of}
use Rattle.booth_following.specs.Turns.{first_seat}
use Rattle.booth_following.proofs.StandingLemmas.{answers_no_later}
use Rattle.booth_services.specs.Services.{ArmsEnd, Follower, GaveBack, GivesEnd, HeldUntil, IsEndOf, IsFollowerAt, IsLeftAt, MayServe, ReliesOn, ServesUnderALease, ServicesAreApart, TimedTurn, WasHeard}
use Rattle.booth_services.proofs.ArmedLemmas.{ArmedEnd, armed_end}
use Rattle.booth_services.proofs.ListLemmas.{IsBehind, Place, last_join, place_of, rises, two_places}
use Rattle.booth_services.proofs.LineLemmas.{line_at, no_earlier, ticket_line}
use Rattle.booth_services.proofs.FollowerLemmas.{HeardBy, IsAnsweredEnd, IsListedEnd, RowsCut, ToldEnd, alike_end, cut_rows, heard_of, moments_of, told_end_of}

some_more : (o : Option Lease) (P Q : Lease → Type 0) → ((l : Lease) → P l → Q l) → IsSomeAnd o P → IsSomeAnd o Q
some_more None P Q gives h = absurd h
some_more (Some l) P Q gives h = gives l h

-- The end that was told last, by this turn, covers the time at which a service may run.
record Covered (w : World) (m : ℕ) (x : Follower) (turns : List TimedTurn) (time : ℕ) : Type 0 where
  pub until : ℕ
  pub turn : TimedTurn
  pub shown : turn.turn.heard ≡ news.List (Here until)
  pub end : IsEndOf w m x turns until turn
  pub told : ToldEnd w m x.following until turn
  pub no_later : turn.time ≤ time
  pub below : clock_at w m time < until

covered : (w : World) (ticket : TicketConf) (m : ℕ) (x : Follower) → IsFollowerAt w ticket m x → (time : ℕ) (serving : MayServe w m x time)
    → Covered w m x (serving.before ++ serving.last ∷ []) time
covered w ticket m x is time serving = by_end told.1
  where
    cut : RowsCut x.following.margins (first_seat x.following x.left).follower.state serving.before serving.last serving.after
    cut = cut_rows x.following.margins (first_seat x.following x.left).follower.state serving.before serving.last serving.after

    told : (until : ℕ) × IsEnd x.left (cut.first ++ cut.row ∷ []) until × (cut.row.at.reading + x.gap < until)
    told =
        serves x.following.margins x.left (moments_of x.turns) x.gap x.quick is.room is.margin is.prompt cut.first cut.rest cut.row
        (ap (λ (turns : List TimedTurn). rows_of x.following.margins x.left (moments_of turns)) serving.whole ∙ cut.whole)
        (subst (λ (rows : List Row). (known_from (known_first x.left) rows).service ≡ Started) cut.up_to serving.started)

    below : clock_at w m time < told.0
    below = let soon = serving.soon in let above = told.2 in let same = cut.reading in omega (arith, soon, above, same)

    -- an earlier follower heard of an end that it left
    was_of : (left : Option ℕ) (until : ℕ) → left ≡ Some until → IsLeftAt w m x.following left x.turns → WasHeard w m x.following until x.turns
    was_of None until same was = absurd cc
    was_of (Some end) until same was =
        let this : end ≡ until = cc in subst (λ (n : ℕ). WasHeard w m x.following n x.turns) this was

    by_left : x.left ≡ Some told.0 → WasHeard w m x.following told.0 x.turns → Covered w m x (serving.before ++ serving.last ∷ []) time
    by_left left was = record {
      until = told.0;
      turn = was.heard.t;
      shown = was.heard.shown;
      end = inr (left, was, refl);
      told = alike_end w m was.following x.following told.0 was.heard.t was.alike
          (told_end_of w m was.following was.left told.0 was.time was.heard);
      no_later =
          let first = was.heard.no_later in let next = was.no_later serving.before serving.after serving.last serving.whole in
          let since = serving.since in omega (arith, first, next, since);
      below = below;
    }

    by_turn : (t : TimedTurn) → ArmsEnd x (serving.before ++ serving.last ∷ []) told.0 t → HeardBy w m x.following x.left t told.0 serving.last.time
        → Covered w m x (serving.before ++ serving.last ∷ []) time
    by_turn t arms h = record {
      until = told.0;
      turn = h.heard.t;
      shown = h.heard.shown;
      end = inl (subst (λ (u : TimedTurn). ArmsEnd x (serving.before ++ serving.last ∷ []) told.0 u) h.same arms);
      told = told_end_of w m x.following x.left told.0 serving.last.time h.heard;
      no_later = let first = h.heard.no_later in let since = serving.since in omega (arith, first, since);
      below = below;
    }

    by_armed : ArmedEnd x (serving.before ++ serving.last ∷ []) told.0 → Covered w m x (serving.before ++ serving.last ∷ []) time
    by_armed a =
        by_turn a.heard.t a.arms
        (heard_of w m x.following x.left x.turns serving.before serving.last serving.after told.0 serving.whole is.told is.at a.heard)

    by_end : IsEnd x.left (cut.first ++ cut.row ∷ []) told.0 → Covered w m x (serving.before ++ serving.last ∷ []) time
    by_end (inl left) = by_left left (was_of x.left told.0 left is.left)
    by_end (inr known) =
        by_armed
        (armed_end x (serving.before ++ serving.last ∷ []) told.0
        (subst (λ (rows : List Row). HasArmed told.0 rows) (sym cut.up_to) known.1))

module _ (w : World) (is_world : IsWorld w) (ticket : TicketConf) (automatic : IsAutomatic w ticket) where
  abbrev moment_at : (before : List WorldEntry) (entry : WorldEntry) (after : List WorldEntry) → w.entries ≡ before ++ entry ∷ after → Moment w
  moment_at before entry after whole = record {
    before = before;
    after = entry ∷ after;
    time = entry.time;
    whole = whole;
    since = is_world.form.in_order before after entry whole;
    until = omega arith;
    within = is_world.form.within before after entry whole;
  }

  -- The message names the member as the holder, with this claim.
  abbrev Says : ℕ → PlainMessage → Claim → Type 0
  Says m message claim = MessageTells ticket.name (id_at w m) message claim ⊎ ListTells ticket.name (address_at w m) message claim

  -- A record that a member may have kept, which bears a message out, of a lease that ends no earlier.
  record KeptUntil (m sender : ℕ) (message : PlainMessage) (moment : Moment w) (until : ℕ) : Type 0 where
    pub claim : Claim
    pub says : Says m message claim
    pub gives : GivesEnd claim until
    pub kept : Record
    pub has : Has (may_at w ticket sender moment) kept
    pub bears : IsSomeAnd kept.lease (λ lease. BearsOut claim lease.until)
    pub no_less : IsSomeAnd kept.lease (λ lease. until ≤ lease.until)

  -- The entry at which a site told of its lease, with the record that bears it out.
  record Held (m : ℕ) (x : Follower) (time : ℕ) : Type 0 where
    pub before : List WorldEntry
    pub entry : WorldEntry
    pub after : List WorldEntry
    pub whole : w.entries ≡ before ++ entry ∷ after
    pub own : entry.member ≡ m
    pub no_later : entry.time ≤ time
    pub within : time < w.span
    pub below : m < members_of w
    pub kept : Record
    pub relies : ReliesOn w ticket m x time (moment_at before entry after whole) kept
    pub held : HoldsBy w ticket m (moment_at before entry after whole) kept
    pub in_force : IsInForce kept (clock_at w m time)

  -- a clock does not fall
  rises_to : (m early late : ℕ) → m < members_of w → early ≤ late → late < w.span → clock_at w m early ≤ clock_at w m late
  rises_to m early late below on within =
      (is_world.true_clocks.clocks m below).rising.rises early late on
      (let long = is_world.true_clocks.long m below in omega (arith, long, within))

  -- a record is in force at a time where it is so later
  in_force_before : (m early late : ℕ) (kept : Record) → m < members_of w → early ≤ late → late < w.span
      → IsInForce kept (clock_at w m late) → IsInForce kept (clock_at w m early)
  in_force_before m early late kept below on within =
      some_more kept.lease (λ l. clock_at w m late < l.until) (λ l. clock_at w m early < l.until)
      (λ l later. let n = rises_to m early late below on within in omega (arith, later, n))

  held_by : (m : ℕ) (x : Follower) → IsFollowerAt w ticket m x → (time : ℕ) → MayServe w m x time → Held m x time
  held_by m x is time serving = record {
    before = at.before;
    entry = entry;
    after = at.after;
    whole = at.whole;
    own = told.sent.own;
    no_later = no_later;
    within = serving.within;
    below = is.below;
    kept = by_how.kept;
    relies = record {
      serving = serving;
      until = c.until;
      ahead = c.below;
      turn = c.turn;
      end = c.end;
      hears = record {
        shown = c.shown;
        message = told.message;
        received = told.received;
        entry = entry;
        next = (at.after, refl);
        at = refl;
        own = told.sent.own;
        no_later = told.sent.no_later;
        bytes = told.sent.bytes;
        sent = told.sent.sent;
        same = told.sent.same;
        claim = by_how.claim;
        tells = by_how.says;
        gives = by_how.gives;
        bears = by_how.bears;
      };
    };
    held = (
      is.below,
      subst (λ (n : ℕ). Has (may_at w ticket n moment) by_how.kept) told.sent.own by_how.has,
      in_force_before m entry.time time by_how.kept is.below no_later serving.within in_force,
    );
    in_force = in_force;
  }
    where
      c : Covered w m x (serving.before ++ serving.last ∷ []) time
      c = covered w ticket m x is time serving

      told : ToldEnd w m x.following c.until c.turn
      told = c.told

      entry : WorldEntry
      entry = told.sent.entry

      no_later : entry.time ≤ time
      no_later = let sent = told.sent.no_later in let heard = c.no_later in omega (arith, sent, heard)

      at : Place w.entries entry
      at = place_of w.entries entry told.sent.one

      moment : Moment w
      moment = moment_at at.before entry at.after at.whole

      tells_of : (claim : Claim) → Says m told.message claim → Tells w ticket entry claim
      tells_of claim says =
          inl (told.sent.bytes, told.message, told.sent.sent, told.sent.same, subst (λ (n : ℕ). Says n told.message claim) (sym told.sent.own) says)

      by_list : IsListedEnd told.message x.following.line c.until → KeptUntil m entry.member told.message moment c.until
      by_list listed = record {
        claim = IsListed digits;
        says = says;
        gives = (listed.line.seconds, refl, listed.line.millis);
        kept = kept.0;
        has = kept.1;
        bears = kept.2;
        no_less = no_less;
      }
        where
          digits : List ℕ
          digits = decimal listed.line.seconds

          spelled : get_or (lines_of listed.text) listed.place [] ≡ ticket.name ++ 32 ∷ (printed (address_at w m) ++ 32 ∷ digits)
          spelled =
              listed.line.spelled ∙ ap (λ (start : List ℕ). start ++ digits) is.line ∙ ticket_line ticket.name (address_at w m) digits

          says : Says m told.message (IsListed digits)
          says =
              inr (listed.text, listed.command, listed.content, subst (λ (l : List ℕ). HasLine listed.text l) spelled (line_at listed.text listed.place listed.there))

          kept : (kept : Record) × Has (may_at w ticket entry.member moment) kept × IsSomeAnd kept.lease (λ lease. BearsOut (IsListed digits) lease.until)
          kept = who_tells_has_kept w (untimed w is_world) ticket automatic moment entry (at.after, refl) (IsListed digits) (tells_of (IsListed digits) says)

          no_less : IsSomeAnd (kept.0).lease (λ lease. c.until ≤ lease.until)
          no_less =
              some_more (kept.0).lease (λ l. BearsOut (IsListed digits) l.until) (λ l. c.until ≤ l.until)
              (λ l bears.
              let millis = listed.line.millis in
              let small = listed.line.small in
              let no_less = no_earlier listed.line.seconds l.until (omega (arith, millis, small)) bears in
              omega (arith, millis, no_less))
              kept.2

      by_answer : IsAnsweredEnd told.message x.following.ticket x.following.me c.until → KeptUntil m entry.member told.message moment c.until
      by_answer answered = record {
        claim = HasLeft told.message.head answered.part.valid_for;
        says = says;
        gives = answered.end;
        kept = kept.0;
        has = kept.1;
        bears = kept.2;
        no_less = no_less;
      }
        where
          says : Says m told.message (HasLeft told.message.head answered.part.valid_for)
          says = inl (
            answered.part,
            answered.content,
            (answered.about ∙ is.ticket_is, refl, answered.leader ∙ is.me_is, refl, answered.some_left),
          )

          kept : (kept : Record) × Has (may_at w ticket entry.member moment) kept
              × IsSomeAnd kept.lease (λ lease. BearsOut (HasLeft told.message.head answered.part.valid_for) lease.until)
          kept =
              who_tells_has_kept w (untimed w is_world) ticket automatic moment entry (at.after, refl) (HasLeft told.message.head answered.part.valid_for)
              (tells_of (HasLeft told.message.head answered.part.valid_for) says)

          no_less : IsSomeAnd (kept.0).lease (λ lease. c.until ≤ lease.until)
          no_less =
              some_more (kept.0).lease (λ l. BearsOut (HasLeft told.message.head answered.part.valid_for) l.until) (λ l. c.until ≤ l.until)
              (λ l bears.
              let same = answered.end in
              let no_less =
              answers_no_later told.message.head answered.part.valid_for bears.0 l.until answered.small bears.1.0 bears.1.1 bears.2 bears.3 in
              omega (arith, same, no_less))
              kept.2

      by_how : KeptUntil m entry.member told.message moment c.until
      by_how = ⊎_elim by_answer by_list told.how

      in_force : IsInForce by_how.kept (clock_at w m time)
      in_force =
          some_more (by_how.kept).lease (λ l. c.until ≤ l.until) (λ l. clock_at w m time < l.until)
          (λ l later. let below = c.below in omega (arith, below, later)) by_how.no_less

  abbrev held_until : (m : ℕ) (x : Follower) (time : ℕ) → Held m x time → HeldUntil w ticket m x time
  held_until m x time h = record {
    moment = moment_at h.before h.entry h.after h.whole;
    no_later = h.no_later;
    kept = h.kept;
    relies = h.relies;
    held = h.held;
    in_force = h.in_force;
  }

  -- where one told of its lease behind the other, that one gave its lease back in between
  first_gave_back : (s t time : ℕ) → s ≢ t → (one other : Follower) (x : Held s one time) (y : Held t other time)
      → IsBehind x.before x.entry x.after y.before y.entry y.after → GaveBack w ticket s one time
  first_gave_back s t time ne one other x y behind =
      ⊎_elim
      (λ (apart : IsApartFrom (cluster_of w ticket) ticket.times.after s x.kept early.time late.time).
      absurd (
      let a : AreApart (cluster_of w ticket) ticket.times.after late.time late.time =
      apart late.time later.not_before (omega arith)
      (in_force_before s late.time time x.kept x.below y.no_later y.within x.in_force) in
      let n : w.ticks * (1000000 * ticket.times.after) < 1001000 * (late.time - late.time) = a in omega (arith, n)))
      (λ (given : ReleasedIn w ticket s x.kept early.before (x.entry ∷ behind.more)). record {
        under = held_until s one time x;
        between = x.entry ∷ behind.more;
        after = y.entry ∷ y.after;
        whole = ap (λ (rest : List WorldEntry). x.entry ∷ rest) behind.rest_is;
        no_later = let l = y.no_later in omega (arith, in_order, l);
        given_back = given;
      })
      (worlds_are_apart w is_world ticket automatic early late (x.entry ∷ behind.more) later s t ne x.kept x.held (y.kept, y.held))
    where
      early : Moment w
      early = moment_at x.before x.entry x.after x.whole

      late : Moment w
      late = moment_at y.before y.entry y.after y.whole

      in_order : last_time x.entry.time behind.more ≤ y.entry.time
      in_order =
          subst (λ (n : ℕ). n ≤ y.entry.time)
          (ap (λ (entries : List WorldEntry). last_time 0 entries) behind.late_is ∙ last_join 0 x.before behind.more x.entry)
          (is_world.form.in_order y.before y.after y.entry y.whole)

      later : IsLater w early late (x.entry ∷ behind.more)
      later = record {
        entries = behind.late_is;
        not_before =
            let up = rises w is_world.form x.before x.entry behind.more (y.entry ∷ y.after)
            (x.whole ∙ ap (λ (rest : List WorldEntry). x.before ++ x.entry ∷ rest) behind.rest_is) in
            omega (arith, up, in_order);
      }

pub serves_under_a_lease : ServesUnderALease
serves_under_a_lease w is_world ticket automatic m x is time serving =
    held_until w is_world ticket automatic m x time (held_by w is_world ticket automatic m x is time serving)

pub services_are_apart : ServicesAreApart
services_are_apart w is_world ticket automatic s t ne x y is_x is_y time serving_x serving_y =
    ⊎_elim
    (λ (same : h.entry ≡ k.entry). absurd (ne (sym h.own ∙ ap (λ (e : WorldEntry). e.member) same ∙ k.own)))
    (λ q.
    ⊎_elim
    (λ (behind : IsBehind h.before h.entry h.after k.before k.entry k.after).
    inl (first_gave_back w is_world ticket automatic s t time ne x y h k behind))
    (λ (behind : IsBehind k.before k.entry k.after h.before h.entry h.after).
    inr (first_gave_back w is_world ticket automatic t s time (λ e. ne (sym e)) y x k h behind))
    q)
    (two_places h.before k.before h.entry k.entry h.after k.after (sym h.whole ∙ k.whole))
  where
    h : Held w is_world ticket automatic s x time
    h = held_by w is_world ticket automatic s x is_x time serving_x

    k : Held w is_world ticket automatic t y time
    k = held_by w is_world ticket automatic t y is_y time serving_y
