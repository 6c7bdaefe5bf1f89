-- Rounds of a service, one after the other, and their turns.
use Rattle.std.specs.Prelude.{Option, Some, None, Result, Ok}
use Rattle.std.proofs.Common.{◌≡◌, ◌∙◌, ◌+◌, ℕ, List, [], ◌∷◌, ◌++◌, refl, sym, ap, subst, append_assoc, append-nil}
use Rattle.std.proofs.lemmas.List.{length-append}
use Rattle.booth_keys.specs.declared.ring.Ring.{Ring}
use Rattle.booth_conf.specs.Config.{ConfigSays}
use Rattle.booth_following.specs.declared.following.Following.{Following}
use Rattle.booth_following.specs.declared.following.Seat.{Seat}
use Rattle.booth_following.specs.declared.turns.FollowEnd.{FollowEnd}
use Rattle.booth_following.specs.declared.turns.FollowEnd.TheVariants.{Spent, Unheard}
use Rattle.booth_following.specs.Turns.{AreTurnsTo, IsFollowed, first_seat}
use Rattle.booth_following.proofs.JoinedTurns.{no_turns, silent_turns, turns_then, turns_under}
use Rattle.booth_host.specs.declared.entry.Entry.{Entry}
use Rattle.booth_host.specs.Past.{GrewSome}
use Rattle.booth_host.proofs.PastLemmas.{no_entry, some_joined, some_of, some_weaker}
use Rattle.booth_outcomes.specs.declared.outcome.Ended.{Ended}
use Rattle.booth_outcomes.specs.declared.outcome.Outcome.{Outcome}
use Rattle.booth_outcomes.specs.Configuration.{IsConfigRead}
use Rattle.booth_outcomes.specs.Keys.{IsRingRead}
use Rattle.booth_followers.specs.declared.rounds.TheConstants.{MOST_ROUNDS}
use Rattle.booth_followers.specs.Rounds.{AreKeysRead, AreMade, AreRounds, Configured, EndsAs, Exhausted, Finished, IsReadAgain, IsRound, IsService, Round, RoundsAreTurns, calls_of, following_behind, rekeyed, ring_in, seat_behind, turn_calls_of}

-- ---- the keys

pub configured : (conf : List ℕ) (config : ConfigSays) (answer : Result (Option Ring) Ended) {a b c : Option (List Entry)} →
    GrewSome (IsConfigRead conf (Ok config)) a b → GrewSome (IsRingRead config answer) b c → GrewSome (AreKeysRead conf (ring_in answer)) a c
configured conf config answer read keys =
    some_joined (IsConfigRead conf (Ok config)) (IsRingRead config answer) (AreKeysRead conf (ring_in answer))
    (λ xs ys read keys. Configured (record {
      config = config;
      answer = answer;
      first = xs;
      rest = ys;
      read = read;
      keys = keys;
      found_is = refl;
      whole = refl;
    })) read keys

-- ---- one round more

rounds_push : (conf : List ℕ) (f : Following) (seat : Seat) (rs : List Round) (r : Round) → AreRounds conf f seat rs →
    IsRound conf (following_behind f rs) (seat_behind seat rs) r → AreRounds conf f seat (rs ++ r ∷ [])
unfolding AreRounds following_behind seat_behind
rounds_push conf f seat [] r are last = (last, tt)
rounds_push conf f seat (q ∷ rs) r are last = (are.0, rounds_push conf q.following q.seat rs r are.1 last)

following_push : (f : Following) (rs : List Round) (r : Round) → following_behind f (rs ++ r ∷ []) ≡ r.following
unfolding following_behind
following_push f [] r = refl
following_push f (q ∷ rs) r = following_push q.following rs r

seat_push : (seat : Seat) (rs : List Round) (r : Round) → seat_behind seat (rs ++ r ∷ []) ≡ r.seat
unfolding seat_behind
seat_push seat [] r = refl
seat_push seat (q ∷ rs) r = seat_push q.seat rs r

calls_push : (rs : List Round) (r : Round) → calls_of (rs ++ r ∷ []) ≡ calls_of rs ++ (r.turns ++ r.reads)
unfolding calls_of
calls_push [] r = append-nil (r.turns ++ r.reads)
calls_push (q ∷ rs) r =
    ap (λ (es : List Entry). (q.turns ++ q.reads) ++ es) (calls_push rs r)
    ∙ sym (append_assoc (q.turns ++ q.reads) (calls_of rs) (r.turns ++ r.reads))

pub no_round : (conf : List ℕ) (f : Following) (seat : Seat) {a : Option (List Entry)} → GrewSome (AreMade conf f f seat seat 0) a a
unfolding AreRounds following_behind seat_behind calls_of
no_round conf f seat =
    some_of (AreMade conf f f seat seat 0) no_entry
    (record { rounds = []; number = refl; are = tt; keyed = refl; stands = refl; whole = refl })

made_then : (conf : List ℕ) (f g h : Following) (from at to : Seat) (count : ℕ) (xs ys zs : List Entry) → AreMade conf f g from at count xs →
    IsFollowed g at to Unheard ys → IsReadAgain conf g h zs → AreMade conf f h from to (count + 1) (xs ++ (ys ++ zs))
made_then conf f g h from at to count xs ys zs made followed read =
    let r : Round = record { turns = ys; reads = zs; following = h; seat = to } in
    let is : IsRound conf g at r = record { followed = followed; read = read } in
    record {
      rounds = made.rounds ++ r ∷ [];
      number = length-append made.rounds (r ∷ []) ∙ ap (λ (n : ℕ). n + 1) made.number;
      are = rounds_push conf f from made.rounds r made.are
          (subst (λ (s : Seat). IsRound conf (following_behind f made.rounds) s r) (sym made.stands)
          (subst (λ (x : Following). IsRound conf x at r) (sym made.keyed) is));
      keyed = following_push f made.rounds r;
      stands = seat_push from made.rounds r;
      whole = ap (λ (es : List Entry). es ++ (ys ++ zs)) made.whole ∙ sym (calls_push made.rounds r);
    }

pub one_more_round : (conf : List ℕ) (f g h : Following) (from at to : Seat) (count : ℕ) {a b c d : Option (List Entry)} →
    GrewSome (AreMade conf f g from at count) a b → GrewSome (IsFollowed g at to Unheard) b c → GrewSome (IsReadAgain conf g h) c d →
    GrewSome (AreMade conf f h from to (count + 1)) a d
one_more_round conf f g h from at to count made followed read =
    let R : List Entry → Type 0 =
    λ es. (ys : List Entry) × (zs : List Entry) × IsFollowed g at to Unheard ys × IsReadAgain conf g h zs × (es ≡ ys ++ zs) in
    some_joined (AreMade conf f g from at count) R (AreMade conf f h from to (count + 1))
    (λ xs es made two.
    subst (λ (ws : List Entry). AreMade conf f h from to (count + 1) (xs ++ ws)) (sym two.4)
    (made_then conf f g h from at to count xs two.0 two.1 made two.2 two.3))
    made
    (some_joined (IsFollowed g at to Unheard) (IsReadAgain conf g h) R (λ ys zs followed read. (ys, zs, followed, read, refl)) followed read)

-- ---- the end

pub finished : (left : Option ℕ) (conf : List ℕ) (f g : Following) (at to : Seat) (count : ℕ) (end : FollowEnd) (outcome : Outcome) (said : List ℕ)
    {a b c : Option (List Entry)} → EndsAs end outcome said → GrewSome (AreMade conf f g (first_seat f left) at count) a b →
    GrewSome (IsFollowed g at to end) b c → GrewSome (IsService left conf f outcome said) a c
finished left conf f g at to count end outcome said ends made followed =
    some_joined (AreMade conf f g (first_seat f left) at count) (IsFollowed g at to end) (IsService left conf f outcome said)
    (λ xs ys made followed. Finished (record {
      g = g;
      seat = at;
      count = count;
      before = xs;
      last = ys;
      made = made;
      here = record { end = end; to = to; followed = followed; ends = ends };
      whole = refl;
    })) made followed

pub exhausted : (left : Option ℕ) (conf : List ℕ) (f g : Following) (at : Seat) (count : ℕ) (outcome : Outcome) (said : List ℕ)
    {a b : Option (List Entry)} → EndsAs Spent outcome said → count ≡ MOST_ROUNDS → GrewSome (AreMade conf f g (first_seat f left) at count) a b →
    GrewSome (IsService left conf f outcome said) a b
exhausted left conf f g at count outcome said ends all made =
    some_weaker (AreMade conf f g (first_seat f left) at count) (IsService left conf f outcome said)
    (λ es made. Exhausted (record {
      g = g;
      seat = at;
      made = subst (λ (n : ℕ). AreMade conf f g (first_seat f left) at n es) all made;
      ends = ends;
    })) made

-- ---- the turns of all rounds

same_turns : (f g : Following) (found : Option Ring) (from to : Seat) (entries : List Entry) → g ≡ rekeyed f found →
    AreTurnsTo g from to entries → AreTurnsTo f from to entries
same_turns f g None from to entries same are = subst (λ (x : Following). AreTurnsTo x from to entries) same are
same_turns f g (Some ring) from to entries same are =
    turns_under f (Some ring) from to entries (subst (λ (x : Following). AreTurnsTo x from to entries) same are)

pub rounds_are_turns : RoundsAreTurns
unfolding AreRounds seat_behind turn_calls_of
rounds_are_turns conf f seat [] are = no_turns f seat
rounds_are_turns conf f seat (r ∷ rs) are =
    turns_then f seat r.seat (seat_behind r.seat rs) r.turns (turn_calls_of rs)
    (silent_turns f seat r.seat r.turns are.0.followed)
    (same_turns f r.following are.0.read.found r.seat (seat_behind r.seat rs) (turn_calls_of rs) are.0.read.same
    (rounds_are_turns conf r.following r.seat rs are.1))
