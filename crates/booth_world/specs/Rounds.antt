-- The kinds of step by which a round is opened, promised and answered, with the condition and the effect of each. The
-- clock is the member's last reading.
use Rattle.std.specs.Prelude.{◌≡◌, ◌≢◌, ◌⊎◌, ℕ, ◌+◌, ◌<◌, ◌≤◌, ◌&&◌, true, if◌then◌else◌, ◌==◌, nat_eq, Option, Some, None, ◌∷◌}
use Rattle.std.specs.Option.{ForSome}
use Rattle.booth_world.specs.Facts.{Has, Round, Answer, Release, Facts}
use Rattle.booth_world.specs.States.{Pledge, KeptRecord, Promise, MemberState, Cluster, promise_time}

-- The round that a member opens now.
abbrev pub new_round : ℕ → MemberState → ℕ → Round
new_round m x number =
    record { site = m; term = x.term; number = number; opened = x.reading; at = x.at; phase = x.phase }

-- ---- an election is opened
-- A site opens the first round of its term under three conditions: every record that it may have written is of that
-- term; it has voted for no other member in the term; and it has neither opened a round of the term nor released the
-- term. It votes for itself.

pub record MayElect (c : Cluster) (f : Facts) (m : ℕ) (x : MemberState) : Type 0 where
  pub up : x.up ≡ true
  pub site : c.is_site m ≡ true
  pub kept : (k : KeptRecord) → Has x.may k → k.term ≡ x.term
  pub unbound : ForSome x.bound (λ bound. bound ≡ m)
  pub no_round : (r : Round) → Has f.rounds r → r.site ≡ m → r.term ≢ x.term
  pub no_release : (r : Release) → Has f.releases r → r.site ≡ m → r.term ≢ x.term

abbrev pub electing : ℕ → MemberState → MemberState
electing m x = record x { bound = Some m; round = Some (new_round m x 0) }

-- ---- a renewal is opened
-- A site opens the next round of its term if its round of that term is open and it has voted for itself.

pub record MayRenew (m : ℕ) (x : MemberState) (before : Round) : Type 0 where
  pub up : x.up ≡ true
  pub open_round : x.round ≡ Some before
  pub own_term : before.term ≡ x.term
  pub bound : x.bound ≡ Some m

abbrev pub renewing : ℕ → MemberState → Round → MemberState
renewing m x before = record x { round = Some (new_round m x (before.number + 1)) }

-- The facts with the new round, whether it was opened for an election or a renewal.
abbrev pub with_round : Facts → Round → Facts
with_round f round = record f { rounds = round ∷ f.rounds }

-- ---- a promise A member makes a promise to a site for a term if it may answer a round of that site in that term,
-- whatever lease it may have. It may answer if it does not abstain and no promise to another site is live. In addition,
-- the term is new to it, or it is its own term and it has voted for no other site in it. From then on the member is in
-- that term and has voted for that site, and the promise lasts for the time of a whole promise. If the member has
-- opened a round, it stays open only if the promise is to the member itself, for the term that it is in.

pub record MayPromise (c : Cluster) (x : MemberState) (site term : ℕ) : Type 0 where
  pub up : x.up ≡ true
  pub to_site : c.is_site site ≡ true
  pub below : site < c.members
  pub rested : x.abstain ≤ x.reading
  pub unpromised : ForSome x.promise (λ promise. promise.to ≢ site → promise.until ≤ x.reading)
  pub unbound : (x.term < term) ⊎ ((x.term ≡ term) × ForSome x.bound (λ bound. bound ≡ site))

abbrev pub new_promise : Cluster → MemberState → ℕ → ℕ → Promise
new_promise c x site term = record { to = site; term = term; until = x.reading + promise_time c x.phase }

abbrev pub round_left : ℕ → MemberState → ℕ → ℕ → Option Round
round_left m x site term = if site == m && nat_eq x.term term then x.round else None

abbrev pub promising : Cluster → ℕ → MemberState → ℕ → ℕ → MemberState
promising c m x site term = record x {
  term = term;
  bound = Some site;
  promise = Some (new_promise c x site term);
  round = round_left m x site term;
}

-- ---- an answer
-- A member answers a round of the facts under these conditions. It is in the round's term, has voted for the round's
-- site, and has promised that site for the time of a whole promise from now on. It read its clock no earlier than the
-- site opened the round. In version 2 all this must be written first: each record that the member may have written is
-- of version 2, and has the vote and the promise. So
-- whichever of them the next start reads, the vote and the promise are kept. The answer is added to the facts.

-- A record of version 2 and of the round's term, with a vote for the round's site. It promises that site for the time
-- of a whole promise of the phase from a reading.
pub record KeepsAnswer (c : Cluster) (phase reading : ℕ) (round : Round) (k : KeptRecord) : Type 0 where
  pub pledge : Pledge
  pub second : k.pledge ≡ Some pledge
  pub own_term : k.term ≡ round.term
  pub bound : pledge.bound ≡ Some round.site
  pub given : Promise
  pub stands : pledge.promise ≡ Some given
  pub to : given.to ≡ round.site
  pub for_term : given.term ≡ round.term
  pub long : reading + promise_time c phase ≤ given.until

pub record MayAddAnswer (c : Cluster) (f : Facts) (x : MemberState) (round : Round) (given : Promise)
    : Type 0 where
  pub up : x.up ≡ true
  pub fact : Has f.rounds round
  pub own_term : x.term ≡ round.term
  pub bound : x.bound ≡ Some round.site
  pub stands : x.promise ≡ Some given
  pub to : given.to ≡ round.site
  pub for_term : given.term ≡ round.term
  pub long : x.reading + promise_time c x.phase ≤ given.until
  pub later : round.at ≤ x.at
  pub kept : x.second ≡ true → (k : KeptRecord) → Has x.may k → KeepsAnswer c x.phase x.reading round k

abbrev pub new_answer : ℕ → MemberState → Round → Answer
new_answer m x round = record { member = m; round = round; reading = x.reading; at = x.at }

abbrev pub with_answer : Facts → Answer → Facts
with_answer f answer = record f { answers = answer ∷ f.answers }
