-- What a follower whose service may run has heard.
use Rattle.std.proofs.Common.{◌≡◌, ℕ, ◌<◌, ◌≤◌, ◌==◌, ◌⊎◌, Bool, true, false, cond, nat_lt, List, [], ◌∷◌, ◌++◌, length, get_or, map, refl, sym, ap, ◌∙◌, subst, inl, inr, arith}
use Rattle.std.proofs.lemmas.Bool.{eqb-true}
use Rattle.std.proofs.lemmas.Bool.Decides.{nat_tests}
use Rattle.std.specs.Prelude.{Option, Some, None, Result, Ok, Err}
use Rattle.booth_wire.specs.declared.command.Cmd.{Cmd}
use Rattle.booth_wire.specs.declared.command.Cmd.TheVariants.{CLst, CTkt, Peer, CGnt, CRvk, ASet, AGet, ADel, ALst, RLst, RTkt, RPer, RALs, RGnt, RRvk, RAtr, Stat, MIdx, RVot, VtFr, HrtB, Ack, UpdE, Revk, Rjc}
use Rattle.booth_wire.specs.Command.{code_of}
use Rattle.booth_base.specs.declared.address.MemberId.{MemberId}
use Rattle.booth_wire.specs.declared.message.Head.{Head}
use Rattle.booth_wire.specs.declared.message.TicketPart.{TicketPart}
use Rattle.booth_wire.specs.PlainMessage.{PlainMessage, Text, Ticket}
use Rattle.booth_wire.specs.Reading.{decoded}
use Rattle.booth_wire.proofs.ByteLemmas.{and_split}
use Rattle.booth_host.specs.declared.host.Arrival.{Arrival}
use Rattle.booth_host.specs.declared.host.Arrival.TheVariants as arrivals
use Rattle.booth_host.specs.declared.host.Failed.{Failed}
use Rattle.booth_node.specs.World.{World}
use Rattle.booth_follow_rule.specs.declared.margins.Margins.{Margins}
use Rattle.booth_follow_rule.specs.declared.news.News.{News}
use Rattle.booth_follow_rule.specs.declared.news.News.TheVariants as news
use Rattle.booth_follow_rule.specs.declared.news.Shown.{Shown}
use Rattle.booth_follow_rule.specs.declared.news.Shown.TheVariants.{Here, Elsewhere}
use Rattle.booth_follow_rule.specs.declared.state.State.{State}
use Rattle.booth_follow_rule.specs.Known.{Row, rows_from}
use Rattle.booth_follow_rule.specs.Rule.{Moment, follow_step, state_after}
use Rattle.booth_following.specs.declared.following.Following.{Following}
use Rattle.booth_following.specs.Following.{under}
use Rattle.booth_following.specs.Hearing.{IsHeard, IsNews}
use Rattle.booth_following.specs.Laws.{IsStandingTold}
use Rattle.booth_following.specs.Lists.{IsLine, Part, lines_of}
use Rattle.booth_following.specs.Standing.{names_me, standing_in, standing_of, told_end}
use Rattle.booth_following.specs.Turns.{AreTurns, Turn, first_seat, moment_of, seat_from}
use Rattle.booth_following.proofs.LawLemmas.{lists, told_at}
use Rattle.booth_following.proofs.StandingLemmas.{answers}
use Rattle.booth_following.proofs.TermLemmas.{said_here}
use Rattle.booth_services.specs.Services.{AreAlike, HasHeard, HearsItsSite, IsTurnAt, TimedTurn, WasSentBy, asked_after, time_after, turns_of}
use Rattle.booth_services.proofs.ListLemmas.{joins}

-- ---- rows

abbrev pub moments_of : List TimedTurn → List Moment
moments_of turns = map (λ (t : Turn). moment_of t) (turns_of turns)

-- the rows of turns, cut behind one
pub record RowsCut (m : Margins) (s : State) (before : List TimedTurn) (last : TimedTurn) (after : List TimedTurn) : Type 0 where
  pub first : List Row
  pub row : Row
  pub rest : List Row
  pub whole : rows_from m s (moments_of (before ++ last ∷ after)) ≡ first ++ row ∷ rest
  pub up_to : rows_from m s (moments_of (before ++ last ∷ [])) ≡ first ++ row ∷ []
  pub reading : row.at.reading ≡ last.turn.reading

pub cut_rows : (m : Margins) (s : State) (before : List TimedTurn) (last : TimedTurn) (after : List TimedTurn) → RowsCut m s before last after
unfolding rows_from
cut_rows m s [] last after = record {
  first = [];
  row = record { at = moment_of last.turn; deed = (follow_step m s (moment_of last.turn)).deed };
  rest = rows_from m (state_after m s (moment_of last.turn)) (moments_of after);
  whole = refl;
  up_to = refl;
  reading = refl;
}
cut_rows m s (t ∷ before) last after =
    let here : Row = record { at = moment_of t.turn; deed = (follow_step m s (moment_of t.turn)).deed } in
    let q = cut_rows m (state_after m s (moment_of t.turn)) before last after in record {
      first = here ∷ q.first;
      row = q.row;
      rest = q.rest;
      whole = ap (λ (rows : List Row). here ∷ rows) q.whole;
      up_to = ap (λ (rows : List Row). here ∷ rows) q.up_to;
      reading = q.reading;
    }

-- ---- the turn that heard of an end

-- a turn among these that heard of this end
pub record HeardIn (turns : List TimedTurn) (until : ℕ) : Type 0 where
  pub before : List TimedTurn
  pub t : TimedTurn
  pub after : List TimedTurn
  pub whole : turns ≡ before ++ t ∷ after
  pub shown : t.turn.heard ≡ news.List (Here until)

turns_append : (xs ys : List TimedTurn) → turns_of (xs ++ ys) ≡ turns_of xs ++ turns_of ys
turns_append [] ys = refl
turns_append (x ∷ xs) ys = ap (λ (rest : List Turn). x.turn ∷ rest) (turns_append xs ys)

time_push : (time : ℕ) (before : List TimedTurn) (t : TimedTurn) → time_after time (before ++ t ∷ []) ≡ t.time
time_push time [] t = refl
time_push time (b ∷ before) t = time_push b.time before t

-- each turn of a follower is one at its member
abbrev pub AreAt : World → ℕ → Following → Option ℕ → List TimedTurn → Type 0
AreAt w m f left turns = (before after : List TimedTurn) (t : TimedTurn) → turns ≡ before ++ t ∷ after → IsTurnAt w m f left before t

-- the times of turns rise
in_order : (w : World) (m : ℕ) (f : Following) (left : Option ℕ) (turns before : List TimedTurn) (t : TimedTurn) (more after : List TimedTurn) → AreAt w m f left turns
    → turns ≡ before ++ t ∷ (more ++ after) → t.time ≤ time_after t.time more
in_order w m f left turns before t [] after at whole = omega arith
in_order w m f left turns before t (u ∷ more) after at whole =
    let all : turns ≡ (before ++ t ∷ []) ++ u ∷ (more ++ after) = whole ∙ sym (joins before (t ∷ []) (u ∷ (more ++ after))) in
    let next = (at (before ++ t ∷ []) (more ++ after) u all).in_order in
    let here = time_push 0 before t in
    let rest = in_order w m f left turns (before ++ t ∷ []) u more after at all in
    omega (arith, next, here, rest)

last_of : (time : ℕ) (xs : List TimedTurn) (y : TimedTurn) (ys : List TimedTurn) → time_after time (xs ++ y ∷ ys) ≡ time_after y.time ys
last_of time [] y ys = refl
last_of time (x ∷ xs) y ys = last_of x.time xs y ys

-- this turn heard of an end
pub record HeardBy (w : World) (m : ℕ) (f : Following) (left : Option ℕ) (t : TimedTurn) (until time : ℕ) : Type 0 where
  pub heard : HasHeard w m f left until time
  pub same : t ≡ heard.t

pub heard_of : (w : World) (m : ℕ) (f : Following) (left : Option ℕ) (turns before : List TimedTurn) (last : TimedTurn) (after : List TimedTurn) (until : ℕ)
    → turns ≡ before ++ last ∷ after → AreTurns f (first_seat f left) (turns_of turns) → AreAt w m f left turns
    → (q : HeardIn (before ++ last ∷ []) until) → HeardBy w m f left q.t until last.time
heard_of w m f left turns before last after until whole told at q = record {
  heard = record {
    before = q.before;
    t = q.t;
    told = told_at f (first_seat f left) (turns_of q.before) q.t.turn (turns_of (q.after ++ after))
        (subst (λ (ts : List Turn). AreTurns f (first_seat f left) ts)
        (ap (λ (ts : List TimedTurn). turns_of ts) split ∙ turns_append q.before (q.t ∷ (q.after ++ after))) told);
    at = at q.before (q.after ++ after) q.t split;
    shown = q.shown;
    no_later =
        let rest = in_order w m f left turns q.before q.t q.after after at split in
        let ends : last.time ≡ time_after q.t.time q.after =
        sym (time_push 0 before last) ∙ ap (λ (ts : List TimedTurn). time_after 0 ts) q.whole ∙ last_of 0 q.before q.t q.after in
        omega (arith, rest, ends);
  };
  same = refl;
}
  where
    split : turns ≡ q.before ++ q.t ∷ (q.after ++ after)
    split =
        whole ∙ sym (joins before (last ∷ []) after) ∙ ap (λ (ts : List TimedTurn). ts ++ after) q.whole
        ∙ joins q.before (q.t ∷ q.after) after

-- ---- what it heard

-- what shows something is a datagram
is_heard : (f : Following) (asked failed : Option ℕ) (answer : Result Arrival Failed) (bytes : List ℕ) (heard : News) (shown : Shown)
    → IsNews f asked failed answer bytes heard → heard ≡ news.List shown → IsHeard f asked bytes (news.List shown)
is_heard f asked None (Ok arrivals.Stop) bytes heard shown h is = let e : news.Stop ≡ news.List shown = sym h ∙ is in absurd cc
is_heard f asked (Some run) (Ok arrivals.Stop) bytes heard shown h is = let e : news.Stop ≡ news.List shown = sym h ∙ is in absurd cc
is_heard f asked None (Ok (arrivals.Datagram peer)) bytes heard shown h is = subst (λ (n : News). IsHeard f asked bytes n) is h
is_heard f asked (Some run) (Ok (arrivals.Datagram peer)) bytes heard shown h is = absurd (let e = sym h ∙ is in cc)
is_heard f asked None (Ok (arrivals.Handler job status)) bytes heard shown h is = absurd (let e = sym h ∙ is in cc)
is_heard f asked (Some run) (Ok (arrivals.Handler job status)) bytes heard shown h is = absurd (let e = sym h ∙ is in cc)
is_heard f asked None (Ok arrivals.Quiet) bytes heard shown h is = let e : news.Nothing ≡ news.List shown = sym h ∙ is in absurd cc
is_heard f asked (Some run) (Ok arrivals.Quiet) bytes heard shown h is = absurd (let e = sym h ∙ is in cc)
is_heard f asked None (Err failed) bytes heard shown h is = let e : news.Nothing ≡ news.List shown = sym h ∙ is in absurd cc
is_heard f asked (Some run) (Err failed) bytes heard shown h is = absurd (let e = sym h ∙ is in cc)

is_list_command : (cmd : Cmd) → code_of cmd ≡ code_of RLst → cmd ≡ RLst
is_list_command CLst e = absurd (omega (arith, e))
is_list_command CTkt e = absurd (omega (arith, e))
is_list_command Peer e = absurd (omega (arith, e))
is_list_command CGnt e = absurd (omega (arith, e))
is_list_command CRvk e = absurd (omega (arith, e))
is_list_command ASet e = absurd (omega (arith, e))
is_list_command AGet e = absurd (omega (arith, e))
is_list_command ADel e = absurd (omega (arith, e))
is_list_command ALst e = absurd (omega (arith, e))
is_list_command RLst e = refl
is_list_command RTkt e = absurd (omega (arith, e))
is_list_command RPer e = absurd (omega (arith, e))
is_list_command RALs e = absurd (omega (arith, e))
is_list_command RGnt e = absurd (omega (arith, e))
is_list_command RRvk e = absurd (omega (arith, e))
is_list_command RAtr e = absurd (omega (arith, e))
is_list_command Stat e = absurd (omega (arith, e))
is_list_command MIdx e = absurd (omega (arith, e))
is_list_command RVot e = absurd (omega (arith, e))
is_list_command VtFr e = absurd (omega (arith, e))
is_list_command HrtB e = absurd (omega (arith, e))
is_list_command Ack e = absurd (omega (arith, e))
is_list_command UpdE e = absurd (omega (arith, e))
is_list_command Revk e = absurd (omega (arith, e))
is_list_command Rjc e = absurd (omega (arith, e))

-- A line of a list tells this end.
pub record IsListedEnd (message : PlainMessage) (start : List ℕ) (until : ℕ) : Type 0 where
  pub text : List ℕ
  pub place : ℕ
  pub command : message.head.cmd ≡ RLst
  pub content : message.content ≡ Text text
  pub there : place < length (lines_of text)
  pub line : IsLine start (get_or (lines_of text) place []) until

-- An answer about the ticket tells this end.
pub record IsAnsweredEnd (message : PlainMessage) (ticket : List ℕ) (me : MemberId) (until : ℕ) : Type 0 where
  pub part : TicketPart
  pub content : message.content ≡ Ticket part
  pub about : part.ticket ≡ ticket
  pub leader : part.leader ≡ me
  pub some_left : 0 < part.valid_for
  pub small : message.head.secs < 4294967295
  pub end : until ≡ told_end message.head part.valid_for

-- A message of its site, which that site sent and this turn received, tells this end.
pub record ToldEnd (w : World) (m : ℕ) (f : Following) (until : ℕ) (t : TimedTurn) : Type 0 where
  pub message : PlainMessage
  pub received : decoded t.turn.bytes ≡ Ok message
  pub sent : WasSentBy w m t.time message
  pub how : IsAnsweredEnd message f.ticket f.me until ⊎ IsListedEnd message f.line until

same_member : (a b : MemberId) → a.0 ≡ b.0 → a ≡ b
same_member a b e = λ i. record { 0 = e i }

-- what an answer about the ticket shows
shown_if : (f : Following) (head : Head) (part : TicketPart) (test : Bool) → names_me f head part ≡ test
    → (standing_of f head part).shown ≡ cond test (Here (told_end head part.valid_for)) Elsewhere
shown_if f head part true is = rw is refl
shown_if f head part false is = rw is refl

-- the end of an answer about the ticket that shows this site
answered_end : (f : Following) (asked : ℕ) (bytes : List ℕ) (m : PlainMessage) (part : TicketPart) (until : ℕ) (test : Bool)
    → IsStandingTold f asked bytes m part (standing_of f m.head part) → names_me f m.head part ≡ test → Here until ≡ (standing_of f m.head part).shown
    → IsAnsweredEnd m f.ticket f.me until
answered_end f asked bytes m part until false told is shown =
    let e : Here until ≡ Elsewhere = shown ∙ shown_if f m.head part (names_me f m.head part) refl ∙ ap (λ (b : Bool). cond b (Here (told_end m.head part.valid_for)) Elsewhere) is in
    absurd cc
answered_end f asked bytes m part until true told is shown =
    let leads = and_split (part.leader.0 == f.me.0) _ is in
    let left = and_split (nat_lt 0 part.valid_for) _ leads.1 in
    let e : Here until ≡ Here (told_end m.head part.valid_for) =
    shown ∙ shown_if f m.head part (names_me f m.head part) refl ∙ ap (λ (b : Bool). cond b (Here (told_end m.head part.valid_for)) Elsewhere) is in
    record {
      part = part;
      content = told.tells;
      about = told.about;
      leader = same_member part.leader f.me (eqb-true part.leader.0 f.me.0 leads.0);
      some_left = grind (arith, nat_tests, left.0);
      small = grind (arith, nat_tests, left.1);
      end = cc;
    }

pub told_end_of : (w : World) (m : ℕ) (f : Following) (left : Option ℕ) (until time : ℕ) (h : HasHeard w m f left until time)
    → ToldEnd w m f until h.t
told_end_of w m f left until time h =
    by_asked (asked_after f left h.before) h.at.hears
    (is_heard keyed (asked_after f left h.before) (seat_from (first_seat f left) (turns_of h.before)).failed h.t.turn.answer h.t.turn.bytes h.t.turn.said (Here until) h.told.0
    (said_here f (seat_from (first_seat f left) (turns_of h.before)) h.t.turn until h.told h.shown))
  where
    -- by the keys of that turn
    keyed : Following
    keyed = under f h.t.turn.ring

    by_answer : (asked : ℕ) (message : PlainMessage) (part : TicketPart) → HearsItsSite w m f (Some asked) h.t
        → IsStandingTold keyed asked h.t.turn.bytes message part (standing_of keyed message.head part)
        → Here until ≡ (standing_of keyed message.head part).shown → ToldEnd w m f until h.t
    by_answer asked message part hears told shown = record {
      message = message;
      received = told.read;
      sent = hears.0 message part told;
      how = inl (answered_end keyed asked h.t.turn.bytes message part until (names_me keyed message.head part) told refl shown);
    }

    by_list : (asked : ℕ) → HearsItsSite w m f (Some asked) h.t → standing_in keyed asked h.t.turn.bytes ≡ None
        → IsHeard keyed (Some asked) h.t.turn.bytes (news.List (Here until)) → ToldEnd w m f until h.t
    by_list asked hears is heard =
        let shows = lists.shows keyed asked h.t.turn.bytes (Here until) is heard in
        let part : Part = shows.0 in
        let found = lists.only keyed asked h.t.turn.bytes part shows.1 in record {
          message = found.0;
          received = found.1.read;
          sent = hears.1 found.0 part found.1;
          how = inr (record {
            text = part.text;
            place = shows.3.0;
            command = is_list_command found.0.head.cmd found.1.answer;
            content = found.1.tells;
            there = shows.3.1;
            line = shows.3.2;
          });
        }

    by_standing : (asked : ℕ) (o : Option _) → HearsItsSite w m f (Some asked) h.t → standing_in keyed asked h.t.turn.bytes ≡ o
        → IsHeard keyed (Some asked) h.t.turn.bytes (news.List (Here until)) → ToldEnd w m f until h.t
    by_standing asked (Some standing) hears is heard =
        let found = answers.only keyed asked h.t.turn.bytes standing is in
        let shown : news.List (Here until) ≡ news.List standing.shown = answers.shows keyed asked h.t.turn.bytes standing (news.List (Here until)) is heard in
        let same : standing ≡ standing_of keyed (found.0).head found.1 = found.2.stands in
        by_answer asked found.0 found.1 hears
        (subst (λ s. IsStandingTold keyed asked h.t.turn.bytes found.0 found.1 s) same found.2) cc
    by_standing asked None hears is heard = by_list asked hears is heard

    by_asked : (asked : Option ℕ) → HearsItsSite w m f asked h.t → IsHeard keyed asked h.t.turn.bytes (news.List (Here until))
        → ToldEnd w m f until h.t
    by_asked None hears is = let e : news.List (Here until) ≡ news.Nothing = is in absurd cc
    by_asked (Some asked) hears is = by_standing asked (standing_in keyed asked h.t.turn.bytes) hears refl is

-- the same of a following of the same ticket at the same site
pub alike_end : (w : World) (m : ℕ) (f g : Following) (until : ℕ) (t : TimedTurn) → AreAlike f g → ToldEnd w m f until t → ToldEnd w m g until t
alike_end w m f g until t alike told =
    record { message = told.message; received = told.received; sent = told.sent; how = by_how told.how }
  where
    by_how : IsAnsweredEnd told.message f.ticket f.me until ⊎ IsListedEnd told.message f.line until
        → IsAnsweredEnd told.message g.ticket g.me until ⊎ IsListedEnd told.message g.line until
    by_how (inl a) = inl (record {
      part = a.part;
      content = a.content;
      about = a.about ∙ alike.ticket;
      leader = a.leader ∙ alike.me;
      some_left = a.some_left;
      small = a.small;
      end = a.end;
    })
    by_how (inr l) = inr (subst (λ (start : List ℕ). IsListedEnd told.message start until) alike.line l)
