-- A following over a host, turn by turn.
use Rattle.std.specs.Prelude.{◌≢◌, Option, None, Result}
use Rattle.booth_keys.specs.declared.ring.Ring.{Ring}
use Rattle.std.proofs.Common.{◌≡◌, ◌+◌, ◌⊎◌, inl, inr, ℕ, Bool, false, List, [], ◌∷◌, ◌++◌, refl, sym, ap, subst, ◌∙◌, append_assoc, append-nil}
use Rattle.std.proofs.lemmas.List.{length-append}
use Rattle.booth_host.specs.declared.entry.Entry.{Entry}
use Rattle.booth_host.specs.declared.entry.Entry.TheVariants.{Next, Now}
use Rattle.booth_host.specs.declared.host.Arrival.{Arrival}
use Rattle.booth_host.specs.declared.host.Failed.{Failed}
use Rattle.booth_host.specs.Past.{GrewBy, GrewSome}
use Rattle.booth_host.proofs.PastLemmas.{joined, one_more, no_entry, some_joined, some_of}
use Rattle.booth_follow_rule.specs.declared.follower.Follower.{Follower}
use Rattle.booth_follow_rule.specs.declared.news.News.{News}
use Rattle.booth_follow_rule.specs.declared.state.FollowDeed.{FollowDeed}
use Rattle.booth_follow_rule.specs.declared.state.FollowDeed.TheVariants as deeds
use Rattle.booth_follow_rule.specs.declared.state.Word.{Word}
use Rattle.booth_follow_rule.specs.Rule.{state_after}
use Rattle.booth_following.specs.declared.following.Following.{Following}
use Rattle.booth_following.specs.declared.following.Seat.{Seat}
use Rattle.booth_following.specs.declared.turns.Awaited.{Awaited}
use Rattle.booth_following.specs.declared.turns.Ask.{Ask}
use Rattle.booth_following.specs.declared.turns.Made.{Made}
use Rattle.booth_following.specs.declared.turns.Sent.{Sent}
use Rattle.booth_following.specs.declared.standing.Standing.{Standing}
use Rattle.booth_following.specs.Hearing.{IsNews, failed_left}
use Rattle.booth_following.specs.Restarts.{is_outdated, learnt, started_after}
use Rattle.booth_following.specs.Standing.{standing_at}
use Rattle.booth_following.specs.Waits.{running_after, wait_of}
use Rattle.booth_following.specs.Turns.{AreHeard, AreTurns, AreUnder, IsEnded, IsToldIn, IsTurn, IsUnderway, Turn, ask_calls, ask_of, asked_after, asks, awaited_after, awaited_from, calls_from, deed_of, failed_after, is_told, is_unheard, made_by, moment_of, run_calls, seat_after, term_after, term_heard, told_after, seat_from, turn_calls}

-- ---- one turn

abbrev seat_of : Follower → Option ℕ → Bool → ℕ → ℕ → Option ℕ → Bool → ℕ → Seat
seat_of follower asked told term first failed running reading = record {
  follower = follower;
  asked = asked;
  told = told;
  term = term;
  started = first;
  failed = failed;
  running = running;
  reading = reading;
}

same_seat : (f f' : Follower) (a a' : Option ℕ) (t t' : Bool) (n n' s s' : ℕ) (b b' : Option ℕ) (r r' : Bool) (reading : ℕ) → f.margins ≡ f'.margins →
    f.state ≡ f'.state → a ≡ a' → t ≡ t' → n ≡ n' → s ≡ s' → b ≡ b' → r ≡ r' → seat_of f a t n s b r reading ≡ seat_of f' a' t' n' s' b' r' reading
same_seat f f' a a' t t' n n' s s' b b' r r' reading margins state asked told term first failed running = λ i. record {
  follower = record { margins = margins i; state = state i };
  asked = asked i;
  told = told i;
  term = term i;
  started = first i;
  failed = failed i;
  running = running i;
  reading = reading;
}

-- two sends
pub two_sends : (a b : Entry) {p q r : Option (List Entry)} → GrewBy p q (a ∷ []) → GrewBy q r (b ∷ []) → GrewBy p r (a ∷ b ∷ [])
two_sends a b first second = one_more first second

pub one_turn : (f : Following) (old : Seat) (follower : Follower) (deed : FollowDeed) (standing : Option Standing) (said heard : News) (outdated : Bool) (left asked : Option ℕ) (told : Bool) (term first : ℕ)
    (failed : Option ℕ) (running : Bool) (wait : ℕ) (now_told : Bool) (now_term : ℕ) (asking : Ask) (started : Result (Unit {0}) Failed) (sent : Sent)
    {answer : Result Arrival Failed} {bytes : List ℕ} {reading : ℕ} {a b c d e : Option (List Entry)} →
    wait ≡ wait_of f old → GrewBy a b (Next wait answer bytes ∷ []) → GrewBy b c (Now reading ∷ []) → GrewBy c d (run_calls f now_term deed started) →
    GrewBy d e (ask_calls f asking reading sent) → standing ≡ standing_at f old.asked answer bytes → IsNews f old.asked old.failed answer bytes said →
    (let t : Turn = record { ring = f.ring; answer = answer; bytes = bytes; reading = reading; standing = standing; said = said; heard = heard; started = started; sent = sent } in
    deed ≡ deed_of old t → follower.margins ≡ old.follower.margins →
    follower.state ≡ state_after old.follower.margins old.follower.state (moment_of t) →
    left ≡ failed_left old.failed answer → failed ≡ failed_after left deed started →
    now_term ≡ term_heard standing old.term → now_told ≡ is_told standing old.told →
    asking ≡ asks deed old.asked now_told reading → asked ≡ asked_after asking reading old.asked →
    told ≡ told_after asking now_told → term ≡ term_after asking now_term →
    heard ≡ learnt outdated said → outdated ≡ is_outdated f old now_term → first ≡ started_after old.started now_term deed →
    running ≡ running_after old.running old.follower.state.run heard deed →
    GrewSome (IsTurn f old (seat_of follower asked told term first failed running reading) (record { deed = deed; reading = reading; heard = heard })) a e)
one_turn f old follower deed standing said heard outdated left asked told term first failed running wait now_told now_term asking started sent {answer} {bytes} {reading} wait_is next now run ask stands news deed_is margins state left_is failed_is now_term_is now_told_is asking_is asked_is told_is term_is heard_is outdated_is first_is running_is =
    let t : Turn = record { ring = f.ring; answer = answer; bytes = bytes; reading = reading; standing = standing; said = said; heard = heard; started = started; sent = sent } in
    let ask_is : asking ≡ ask_of old t =
    asking_is ∙ ap (λ (d : FollowDeed). asks d old.asked now_told reading) deed_is ∙ ap (λ (b : Bool). asks (deed_of old t) old.asked b reading) now_told_is in
    let new : Seat = seat_after old t in
    some_of (IsTurn f old (seat_of follower asked told term first failed running reading) (record { deed = deed; reading = reading; heard = heard }))
    (one_more next (one_more now (joined run ask))) (record {
      t = t;
      ring = refl;
      told = (
        news,
        stands,
        heard_is ∙ ap (λ (b : Bool). learnt b said) (outdated_is ∙ ap (λ (n : ℕ). is_outdated f old n) now_term_is),
      );
      made_is = ap (λ (d : FollowDeed). record { deed = d; reading = reading; heard = heard }) deed_is;
      stands = same_seat follower new.follower asked new.asked told new.told term new.term first new.started failed new.failed running new.running reading margins state
          (asked_is ∙ ap (λ (k : Ask). asked_after k reading old.asked) ask_is)
          (told_is ∙ ap (λ (k : Ask). told_after k now_told) ask_is ∙ ap (λ (b : Bool). told_after (ask_of old t) b) now_told_is)
          (term_is ∙ ap (λ (k : Ask). term_after k now_term) ask_is ∙ ap (λ (n : ℕ). term_after (ask_of old t) n) now_term_is)
          (first_is ∙ ap (λ (n : ℕ). started_after old.started n deed) now_term_is
          ∙ ap (λ (d : FollowDeed). started_after old.started (term_heard standing old.term) d) deed_is)
          (failed_is ∙ ap (λ (o : Option ℕ). failed_after o deed started) left_is
          ∙ ap (λ (d : FollowDeed). failed_after (failed_left old.failed answer) d started) deed_is)
          (running_is ∙ ap (λ (d : FollowDeed). running_after old.running old.follower.state.run heard d) deed_is);
      whole = ap (λ (n : ℕ). Next n answer bytes ∷ Now reading ∷ (run_calls f now_term deed started ++ ask_calls f asking reading sent)) wait_is
          ∙ ap (λ (d : FollowDeed). Next (wait_of f old) answer bytes ∷ Now reading ∷ (run_calls f now_term d started ++ ask_calls f asking reading sent)) deed_is
          ∙ ap (λ (n : ℕ). Next (wait_of f old) answer bytes ∷ Now reading ∷ (run_calls f n (deed_of old t) started ++ ask_calls f asking reading sent)) now_term_is
          ∙ ap (λ (k : Ask). Next (wait_of f old) answer bytes ∷ Now reading ∷ (run_calls f (term_heard standing old.term) (deed_of old t) started ++ ask_calls f k reading sent)) ask_is;
    })

-- ---- turn after turn

seat_push : (seat : Seat) (ts : List Turn) (t : Turn) → seat_from seat (ts ++ t ∷ []) ≡ seat_after (seat_from seat ts) t
unfolding seat_from
seat_push seat [] t = refl
seat_push seat (q ∷ ts) t = seat_push (seat_after seat q) ts t

calls_push : (f : Following) (seat : Seat) (ts : List Turn) (t : Turn) →
    calls_from f seat (ts ++ t ∷ []) ≡ calls_from f seat ts ++ turn_calls f (seat_from seat ts) t
unfolding calls_from seat_from
calls_push f seat [] t = append-nil (turn_calls f seat t)
calls_push f seat (q ∷ ts) t =
    ap (λ (es : List Entry). turn_calls f seat q ++ es) (calls_push f (seat_after seat q) ts t)
    ∙ sym (append_assoc (turn_calls f seat q) (calls_from f (seat_after seat q) ts) _)

told_push : (f : Following) (seat : Seat) (ts : List Turn) (t : Turn) → AreTurns f seat ts → IsToldIn f (seat_from seat ts) t →
    AreTurns f seat (ts ++ t ∷ [])
unfolding AreTurns seat_from
told_push f seat [] t told last = (last, tt)
told_push f seat (q ∷ ts) t told last = (told.0, told_push f (seat_after seat q) ts t told.1 last)

rings_push : (ring : Option Ring) (ts : List Turn) (t : Turn) → AreUnder ring ts → t.ring ≡ ring → AreUnder ring (ts ++ t ∷ [])
unfolding AreUnder
rings_push ring [] t are last = (last, tt)
rings_push ring (q ∷ ts) t are last = (are.0, rings_push ring ts t are.1 last)

awaited_push : (awaited : Option Awaited) (ts : List Turn) (t : Turn) →
    awaited_from awaited (ts ++ t ∷ []) ≡ awaited_after (awaited_from awaited ts) t.heard t.reading
unfolding awaited_from
awaited_push awaited [] t = refl
awaited_push awaited (q ∷ ts) t = awaited_push (awaited_after awaited q.heard q.reading) ts t

heard_push : (awaited : Option Awaited) (ts : List Turn) (t : Turn) → AreHeard awaited ts →
    is_unheard (awaited_after (awaited_from awaited ts) t.heard t.reading) t.reading ≡ false → AreHeard awaited (ts ++ t ∷ [])
unfolding AreHeard awaited_from
heard_push awaited [] t are last = (last, tt)
heard_push awaited (q ∷ ts) t are last = (are.0, heard_push (awaited_after awaited q.heard q.reading) ts t are.1 last)

pub no_turn : (f : Following) (from : Seat) {a : Option (List Entry)} → GrewSome (IsUnderway f from from None 0) a a
unfolding seat_from calls_from AreTurns AreUnder AreHeard awaited_from
no_turn f from =
    some_of (IsUnderway f from from None 0) no_entry
    (record { turns = []; number = refl; rings = tt; told = tt; heard = tt; awaits = refl; stands = refl; whole = refl })

-- since when a list is awaited after a turn
abbrev pub awaits_then : Option Awaited → Made → Option Awaited
awaits_then awaited made = awaited_after awaited made.heard made.reading

underway_then : (f : Following) (from old new : Seat) (awaited : Option Awaited) (count : ℕ) (made : Made) (xs ys : List Entry) →
    is_unheard (awaits_then awaited made) made.reading ≡ false → IsUnderway f from old awaited count xs → IsTurn f old new made ys →
    IsUnderway f from new (awaits_then awaited made) (count + 1) (xs ++ ys)
underway_then f from old new awaited count made xs ys on so turn =
    let at : Seat = seat_from from so.turns in
    let made_is : made ≡ made_by old turn.t = turn.made_is in
    let last_is : awaited_after (awaited_from None so.turns) turn.t.heard turn.t.reading ≡ awaits_then awaited made =
    ap (λ (o : Option Awaited). awaited_after o turn.t.heard turn.t.reading) so.awaits ∙ ap (λ (m : Made). awaits_then awaited m) (sym made_is) in
    record {
      turns = so.turns ++ turn.t ∷ [];
      number = length-append so.turns (turn.t ∷ []) ∙ ap (λ (n : ℕ). n + 1) so.number;
      rings = rings_push f.ring so.turns turn.t so.rings turn.ring;
      told = told_push f from so.turns turn.t so.told (subst (λ (s : Seat). IsToldIn f s turn.t) (sym so.stands) turn.told);
      heard = heard_push None so.turns turn.t so.heard
          (ap (λ (o : Option Awaited). is_unheard o turn.t.reading) last_is
          ∙ ap (λ (m : Made). is_unheard (awaits_then awaited made) m.reading) (sym made_is) ∙ on);
      awaits = awaited_push None so.turns turn.t ∙ last_is;
      stands = seat_push from so.turns turn.t ∙ ap (λ (s : Seat). seat_after s turn.t) so.stands ∙ sym turn.stands;
      whole = ap (λ (es : List Entry). es ++ ys) so.whole ∙ ap (λ (es : List Entry). calls_from f from so.turns ++ es) turn.whole
          ∙ ap (λ (s : Seat). calls_from f from so.turns ++ turn_calls f s turn.t) (sym so.stands)
          ∙ sym (calls_push f from so.turns turn.t);
    }

pub one_more_turn : (f : Following) (from old new : Seat) (awaited : Option Awaited) (count : ℕ) (made : Made) {a b c : Option (List Entry)} →
    is_unheard (awaits_then awaited made) made.reading ≡ false → GrewSome (IsUnderway f from old awaited count) a b →
    GrewSome (IsTurn f old new made) b c → GrewSome (IsUnderway f from new (awaits_then awaited made) (count + 1)) a c
one_more_turn f from old new awaited count made on first second =
    some_joined (IsUnderway f from old awaited count) (IsTurn f old new made) (IsUnderway f from new (awaits_then awaited made) (count + 1))
    (λ xs ys so turn. underway_then f from old new awaited count made xs ys on so turn) first second

-- turns, and a last one that ends them so
pub ended_by : (f : Following) (from old new : Seat) (awaited : Option Awaited) (count : ℕ) (made : Made) (ends : Option Awaited → Made → Type 0)
    {a b c : Option (List Entry)} → ends awaited made → GrewSome (IsUnderway f from old awaited count) a b →
    GrewSome (IsTurn f old new made) b c → GrewSome (IsEnded f from new ends) a c
ended_by f from old new awaited count made ends so first second =
    some_joined (IsUnderway f from old awaited count) (IsTurn f old new made) (IsEnded f from new ends)
    (λ xs ys underway turn. record {
      count = count;
      seat = old;
      awaited = awaited;
      made = made;
      before = xs;
      last = ys;
      underway = underway;
      turn = turn;
      ends_so = so;
      whole = refl;
    }) first second

-- what does nothing, and what runs something, does not leave
pub stays : (deed : FollowDeed) → (deed ≡ deeds.Nothing) ⊎ ((word : Word) × (number : ℕ) × (until : ℕ) × (deed ≡ deeds.Run word number until)) →
    deed ≢ deeds.Leave
stays deed (inl e) same = let x : deeds.Nothing ≡ deeds.Leave = sym e ∙ same in absurd cc
stays deed (inr r) same = let x : deeds.Run r.0 r.1 r.2 ≡ deeds.Leave = sym r.3 ∙ same in absurd cc
