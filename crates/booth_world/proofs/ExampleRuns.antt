-- The example runs are runs, and the ticket is held in them.
use Rattle.std.proofs.Common.{true, false, ◌≡◌, ◌≢◌, ℕ, zero, suc, ◌+◌, ◌<◌, ◌≤◌, List, [], ◌∷◌, ◌++◌, refl, sym, ap, subst, inl, inr, ⊎_elim, length, arith}
use Rattle.std.specs.Prelude.{Some, None, slice_index}
use Rattle.std.specs.Option.{ForSome}
use native.Mathlib.Decide.{ℕ_discrete}
use Rattle.booth_base.specs.declared.address.MemberId.{MemberId}
use Rattle.booth_base.specs.declared.name.Name.{Name}
use Rattle.booth_world.specs.Calls.{IsMember}
use Rattle.booth_node.specs.Clock.{IsClock}
use Rattle.booth_world.specs.Facts.{Has, Round, Answer, Release}
use Rattle.booth_world.specs.OnePhase.{all_seats}
use Rattle.booth_world.specs.States.{KeptRecord, Promise, WorldState, opening, Cluster, HasClocks, IsTimed, HasPhases}
use Rattle.booth_world.specs.Steps.{WorldStep, IsRun, happens, after_steps, world_of}
use Rattle.booth_world.specs.Held.{Held}
use Rattle.booth_world.specs.Examples.{ahead, behind, exact, clock_of, example_times, three, unleased, won_by, first_round, second_round, third_round, first_release, granted, renewed, released, granted_elsewhere, crashed_and_started, start, id_of_place, first_caller}
use Rattle.booth_world.proofs.Lists.{new_or_old, none_is, some_same}
use Rattle.booth_world.proofs.OnePhaseLemmas.{one_phase_is_enough}
use Rattle.booth_world.proofs.WorldGood.{bare_well}

-- ---- clocks

-- readings that are at most one above the true time, and never below it, are a clock's
near_clock : (readings : List ℕ) → length readings ≡ 8
    → ((t : ℕ) → t < 8 → (t ≤ slice_index readings t) × (slice_index readings t ≤ t + 1)) → IsClock 1 readings
near_clock readings long near = record {
  not_slow = λ a b ab h. let x = near a (omega (arith, long)) in let y = near b (omega (arith, long)) in omega (arith, x.0, x.1, y.0, y.1);
  not_fast = λ a b ab h. let x = near a (omega (arith, long)) in let y = near b (omega (arith, long)) in omega (arith, x.0, x.1, y.0, y.1);
  rising = record {
    rises = λ a b ab h. by_order a b ab h (ℕ_discrete a b);
    small = λ t h. let x = near t (omega (arith, long)) in omega (arith, x.0, x.1, long);
  };
}
  where
    by_order : (a b : ℕ) → a ≤ b → b < length readings → Dec (a ≡ b) → slice_index readings a ≤ slice_index readings b
    by_order a b ab h (yes e) = let s = ap (λ (t : ℕ). slice_index readings t) e in omega (arith, s)
    by_order a b ab h (no other) =
        let x = near a (omega (arith, long)) in
        let y = near b (omega (arith, long)) in
        let less : suc a ≤ b = omega (arith, other) in
        omega (arith, x.0, x.1, y.0, y.1, less)

-- what holds of each number below 8
pub below_eight : (Q : ℕ → Type 0) → Q 0 → Q 1 → Q 2 → Q 3 → Q 4 → Q 5 → Q 6 → Q 7 → (t : ℕ) → t < 8 → Q t
below_eight Q a b c d e f g h zero l = a
below_eight Q a b c d e f g h (suc zero) l = b
below_eight Q a b c d e f g h (suc (suc zero)) l = c
below_eight Q a b c d e f g h (suc (suc (suc zero))) l = d
below_eight Q a b c d e f g h (suc (suc (suc (suc zero)))) l = e
below_eight Q a b c d e f g h (suc (suc (suc (suc (suc zero))))) l = f
below_eight Q a b c d e f g h (suc (suc (suc (suc (suc (suc zero)))))) l = g
below_eight Q a b c d e f g h (suc (suc (suc (suc (suc (suc (suc zero))))))) l = h
below_eight Q a b c d e f g h (suc (suc (suc (suc (suc (suc (suc (suc t)))))))) l = absurd (omega arith)

near_all : (readings : List ℕ) → Type 0
near_all readings = (t : ℕ) → t < 8 → (t ≤ slice_index readings t) × (slice_index readings t ≤ t + 1)

ahead_near : near_all ahead
unfolding near_all
ahead_near =
    below_eight (λ (t : ℕ). (t ≤ slice_index ahead t) × (slice_index ahead t ≤ t + 1))
    (omega arith, omega arith) (omega arith, omega arith) (omega arith, omega arith) (omega arith, omega arith)
    (omega arith, omega arith) (omega arith, omega arith) (omega arith, omega arith) (omega arith, omega arith)

behind_near : near_all behind
unfolding near_all
behind_near =
    below_eight (λ (t : ℕ). (t ≤ slice_index behind t) × (slice_index behind t ≤ t + 1))
    (omega arith, omega arith) (omega arith, omega arith) (omega arith, omega arith) (omega arith, omega arith)
    (omega arith, omega arith) (omega arith, omega arith) (omega arith, omega arith) (omega arith, omega arith)

exact_near : near_all exact
unfolding near_all
exact_near =
    below_eight (λ (t : ℕ). (t ≤ slice_index exact t) × (slice_index exact t ≤ t + 1))
    (omega arith, omega arith) (omega arith, omega arith) (omega arith, omega arith) (omega arith, omega arith)
    (omega arith, omega arith) (omega arith, omega arith) (omega arith, omega arith) (omega arith, omega arith)

each_long : (m : ℕ) → length (clock_of m) ≡ 8
each_long zero = refl
each_long (suc zero) = refl
each_long (suc (suc m)) = refl

pub each_clock : (m : ℕ) → IsClock 1 (clock_of m)
unfolding near_all
each_clock zero = near_clock ahead refl ahead_near
each_clock (suc zero) = near_clock behind refl behind_near
each_clock (suc (suc m)) = near_clock exact refl exact_near

pub three_timed : IsTimed three
three_timed = record { ticking = omega arith; clocks = λ m h. each_clock m }

pub three_phases : HasPhases three
three_phases = (one_phase_is_enough three (all_seats 3) example_times refl (λ place below. (below, refl))).phases

pub three_clocks : HasClocks three
three_clocks = record { some = omega arith; long = λ m h. each_long m; rising = λ m h. (each_clock m).rising; begins = λ m. bare_well 3 _ }

-- ---- parts of conditions

pub runs_append : (c : Cluster) (w : WorldState) (early late : List WorldStep) → IsRun c w early → IsRun c (after_steps c w early) late
    → IsRun c w (early ++ late)
runs_append c w [] late a b = b
runs_append c w (step ∷ early) late a b = (a.0, runs_append c (happens c w step) early late a.1 b)

pub only : {A : Type 0} (Q : A → Type 0) (x : A) → Q x → (y : A) → Has (x ∷ []) y → Q y
only Q x h y i = ⊎_elim (λ (e : x ≡ y). subst Q e h) (λ (n : ⊥). absurd n) i

-- whom a member is bound or promised to is the one
pub just : (s : ℕ) → ForSome (Some s) (λ b. b ≡ s)
just s b e = sym (some_same s b e)

pub nobody : (s : ℕ) → ForSome None (λ b. b ≡ s)
nobody s b e = absurd (none_is b e)

pub no_promise : (s reading : ℕ) → ForSome None (λ (p : Promise). p.to ≢ s → p.until ≤ reading)
no_promise s reading p e = absurd (none_is p e)

same_promise : (q : Promise) (s reading : ℕ) → q.to ≡ s → ForSome (Some q) (λ p. p.to ≢ s → p.until ≤ reading)
same_promise q s reading to p e other = absurd (other (subst (λ (y : Promise). y.to ≡ s) (some_same q p e) to))

-- two members answered, last of all
pub both : (f : List Answer) (r : Round) (s : ℕ) (a b : Answer) → a.member ≡ s → b.member ≡ 2 → a.round ≡ r → b.round ≡ r
    → (m : ℕ) → Has (s ∷ 2 ∷ []) m → (x : Answer) × (Has (b ∷ a ∷ f) x) × (x.member ≡ m) × (x.round ≡ r)
both f r s a b ea eb ra rb =
    new_or_old (λ (m : ℕ). (x : Answer) × (Has (b ∷ a ∷ f) x) × (x.member ≡ m) × (x.round ≡ r)) s (2 ∷ []) (a, inr (inl refl), ea, ra)
    (only (λ (m : ℕ). (x : Answer) × (Has (b ∷ a ∷ f) x) × (x.member ≡ m) × (x.round ≡ r)) 2 (b, inl refl, eb, rb))

abbrev pub answer_of : ℕ → Round → ℕ → ℕ → Answer
answer_of m r reading at = record { member = m; round = r; reading = reading; at = at }

abbrev first_answers : List Answer
first_answers = answer_of 2 first_round 6 6 ∷ answer_of 0 first_round 7 6 ∷ []

abbrev second_answers : List Answer
second_answers = answer_of 2 second_round 7 7 ∷ answer_of 0 second_round 8 7 ∷ first_answers

pub not_one : zero ≡ suc zero → ⊥
not_one e = cc

pub inactive : false ≡ true → ⊥
inactive e = cc

-- ---- a ticket moves

granted_runs : IsRun three (opening three) granted
granted_runs = (
  (omega arith, record { down = refl; read = inl (inl refl); on = λ e. inl (inl refl); stays = λ e. e }, (omega arith, omega arith, (omega arith, refl))),
  (
    (omega arith, record { down = refl; read = inl (inl refl); on = λ e. inl (inl refl); stays = λ e. e }, (omega arith, omega arith, (omega arith, refl))),
    (
      (omega arith, record { down = refl; read = inl (inl refl); on = λ e. inl (inl refl); stays = λ e. e }, (omega arith, omega arith, (omega arith, refl))),
      (
        record { later = omega arith; within = omega arith },
        (
          (omega arith, tt, tt),
          (
            (omega arith, tt, tt),
            (
              (omega arith, tt, tt),
              (
                (omega arith, record { up = refl; above = omega arith }, λ up. omega arith),
                (
                  (omega arith, record { up = refl; keeper = inl refl; own_term = refl; pledge = refl; lease = tt }, λ up. omega arith),
                  (
                    (omega arith, record { up = refl; keeper = inl refl; own_term = refl; pledge = refl; lease = tt }, λ up. omega arith),
                    (
                      (omega arith, record { up = refl; site = refl; kept = only (λ (k : KeptRecord). k.term ≡ 1) (unleased 1) refl; unbound = nobody 0; no_round = λ r n. absurd n; no_release = λ r n. absurd n }, λ up. omega arith),
                      (
                        (omega arith, record { up = refl; to_site = refl; below = omega arith; rested = omega arith; unpromised = no_promise 0 7; unbound = inr (refl, just 0) }, λ up. omega arith),
                        (
                          (omega arith, record { up = refl; fact = inl refl; own_term = refl; bound = refl; stands = refl; to = refl; for_term = refl; long = omega arith; later = omega arith; kept = λ second. absurd (inactive second) }, λ up. omega arith),
                          (
                            (omega arith, record { up = refl; to_site = refl; below = omega arith; rested = omega arith; unpromised = no_promise 0 6; unbound = inl (omega arith) }, λ up. omega arith),
                            (
                              (omega arith, record { up = refl; fact = inl refl; own_term = refl; bound = refl; stands = refl; to = refl; for_term = refl; long = omega arith; later = omega arith; kept = λ second. absurd (inactive second) }, λ up. omega arith),
                              (
                                (omega arith, record { up = refl; open_round = refl; majority = omega arith; answered = both [] first_round 0 (answer_of 0 first_round 7 6) (answer_of 2 first_round 6 6) refl refl refl refl; soon = omega arith }, λ up. omega arith),
                                (
                                  (omega arith, record { up = refl; keeper = inl refl; own_term = refl; pledge = refl; lease = inr (record { gained = record { round = first_round; at = 6; answers = 0 ∷ 2 ∷ [] }; fact = inl refl; open_round = refl; same = refl }) }, λ up. omega arith),
                                  (
                                    (omega arith, record { up = refl; keeper = inl refl; own_term = refl; pledge = refl; lease = inl (won_by first_round, inl refl, refl) }, λ up. omega arith),
                                    tt,
                                  ),
                                ),
                              ),
                            ),
                          ),
                        ),
                      ),
                    ),
                  ),
                ),
              ),
            ),
          ),
        ),
      ),
    ),
  ),
)

renewed_runs : IsRun three (world_of three granted) renewed
renewed_runs = (
  record { later = omega arith; within = omega arith },
  (
    (omega arith, tt, tt),
    (
      (omega arith, tt, tt),
      (
        (omega arith, tt, tt),
        (
          (omega arith, record { up = refl; open_round = refl; own_term = refl; bound = refl }, λ up. omega arith),
          (
            (omega arith, record { up = refl; to_site = refl; below = omega arith; rested = omega arith; unpromised = same_promise (record { to = 0; term = 1; until = 12 }) 0 8 refl; unbound = inr (refl, just 0) }, λ up. omega arith),
            (
              (omega arith, record { up = refl; fact = inl refl; own_term = refl; bound = refl; stands = refl; to = refl; for_term = refl; long = omega arith; later = omega arith; kept = λ second. absurd (inactive second) }, λ up. omega arith),
              (
                (omega arith, record { up = refl; to_site = refl; below = omega arith; rested = omega arith; unpromised = same_promise (record { to = 0; term = 1; until = 11 }) 0 7 refl; unbound = inr (refl, just 0) }, λ up. omega arith),
                (
                  (omega arith, record { up = refl; fact = inl refl; own_term = refl; bound = refl; stands = refl; to = refl; for_term = refl; long = omega arith; later = omega arith; kept = λ second. absurd (inactive second) }, λ up. omega arith),
                  (
                    (omega arith, record { up = refl; open_round = refl; majority = omega arith; answered = both first_answers second_round 0 (answer_of 0 second_round 8 7) (answer_of 2 second_round 7 7) refl refl refl refl; soon = omega arith }, λ up. omega arith),
                    (
                      (omega arith, record { up = refl; keeper = inl refl; own_term = refl; pledge = refl; lease = inr (record { gained = record { round = second_round; at = 7; answers = 0 ∷ 2 ∷ [] }; fact = inl refl; open_round = refl; same = refl }) }, λ up. omega arith),
                      (
                        (omega arith, record { up = refl; keeper = inl refl; own_term = refl; pledge = refl; lease = inl (won_by second_round, inl refl, refl) }, λ up. omega arith),
                        tt,
                      ),
                    ),
                  ),
                ),
              ),
            ),
          ),
        ),
      ),
    ),
  ),
)

released_runs : IsRun three (world_of three (granted ++ renewed)) released
released_runs = (
  (omega arith, record { up = refl; keeper = inl refl; own_term = refl; pledge = refl; lease = tt }, λ up. omega arith),
  (
    (omega arith, record { up = refl; keeper = inl refl; own_term = refl; pledge = refl; lease = tt }, λ up. omega arith),
    (
      (omega arith, record { up = refl; site = refl; own_term = only (λ (k : KeptRecord). k.term ≡ 1) (unleased 1) refl; no_lease = only (λ (k : KeptRecord). k.lease ≡ None) (unleased 1) refl }, λ up. omega arith),
      (
        (omega arith, record { up = refl; fact = inl refl }, λ up. omega arith),
        tt,
      ),
    ),
  ),
)

elsewhere_runs : IsRun three (world_of three (granted ++ renewed ++ released)) granted_elsewhere
elsewhere_runs = (
  (omega arith, record { up = refl; above = omega arith }, λ up. omega arith),
  (
    (omega arith, record { up = refl; keeper = inl refl; own_term = refl; pledge = refl; lease = tt }, λ up. omega arith),
    (
      (omega arith, record { up = refl; keeper = inl refl; own_term = refl; pledge = refl; lease = tt }, λ up. omega arith),
      (
        (omega arith, record { up = refl; site = refl; kept = only (λ (k : KeptRecord). k.term ≡ 2) (unleased 2) refl; unbound = nobody 1; no_round = new_or_old (λ (r : Round). r.site ≡ 1 → r.term ≢ 2) second_round (first_round ∷ []) (λ e. absurd (not_one e)) (only (λ (r : Round). r.site ≡ 1 → r.term ≢ 2) first_round (λ e. absurd (not_one e))); no_release = only (λ (r : Release). r.site ≡ 1 → r.term ≢ 2) first_release (λ e. absurd (not_one e)) }, λ up. omega arith),
        (
          (omega arith, record { up = refl; to_site = refl; below = omega arith; rested = omega arith; unpromised = no_promise 1 7; unbound = inr (refl, just 1) }, λ up. omega arith),
          (
            (omega arith, record { up = refl; fact = inl refl; own_term = refl; bound = refl; stands = refl; to = refl; for_term = refl; long = omega arith; later = omega arith; kept = λ second. absurd (inactive second) }, λ up. omega arith),
            (
              (omega arith, record { up = refl; to_site = refl; below = omega arith; rested = omega arith; unpromised = no_promise 1 7; unbound = inl (omega arith) }, λ up. omega arith),
              (
                (omega arith, record { up = refl; fact = inl refl; own_term = refl; bound = refl; stands = refl; to = refl; for_term = refl; long = omega arith; later = omega arith; kept = λ second. absurd (inactive second) }, λ up. omega arith),
                (
                  (omega arith, record { up = refl; open_round = refl; majority = omega arith; answered = both second_answers third_round 1 (answer_of 1 third_round 7 7) (answer_of 2 third_round 7 7) refl refl refl refl; soon = omega arith }, λ up. omega arith),
                  (
                    (omega arith, record { up = refl; keeper = inl refl; own_term = refl; pledge = refl; lease = inr (record { gained = record { round = third_round; at = 7; answers = 1 ∷ 2 ∷ [] }; fact = inl refl; open_round = refl; same = refl }) }, λ up. omega arith),
                    (
                      (omega arith, record { up = refl; keeper = inl refl; own_term = refl; pledge = refl; lease = inl (won_by third_round, inl refl, refl) }, λ up. omega arith),
                      tt,
                    ),
                  ),
                ),
              ),
            ),
          ),
        ),
      ),
    ),
  ),
)

pub moves : IsRun three (opening three) (granted ++ renewed ++ released ++ granted_elsewhere)
moves =
    runs_append three (opening three) granted (renewed ++ released ++ granted_elsewhere) granted_runs
    (runs_append three (world_of three granted) renewed (released ++ granted_elsewhere) renewed_runs
    (runs_append three (world_of three (granted ++ renewed)) released granted_elsewhere released_runs elsewhere_runs))

pub granted_held : Held three (world_of three granted) 0
granted_held = (won_by first_round, record { below = omega arith; may = inl refl; in_force = omega arith })

pub renewed_held : Held three (world_of three (granted ++ renewed)) 0
renewed_held = (won_by second_round, record { below = omega arith; may = inl refl; in_force = omega arith })

pub elsewhere_held : Held three (world_of three (granted ++ renewed ++ released ++ granted_elsewhere)) 1
elsewhere_held = (won_by third_round, record { below = omega arith; may = inl refl; in_force = omega arith })

-- ---- a holder restarts

restart_runs : IsRun three (world_of three granted) crashed_and_started
restart_runs = (
  (omega arith, refl, tt),
  (
    (omega arith, refl, tt),
    (
      (omega arith, record { down = refl; read = inl (inl refl); on = λ e. inl (inl refl); stays = λ e. e }, (omega arith, omega arith, (omega arith, refl))),
      (
        (omega arith, record { down = refl; read = inl (inl refl); on = λ e. inl (inl refl); stays = λ e. e }, (omega arith, omega arith, (omega arith, refl))),
        tt,
      ),
    ),
  ),
)

pub restarts : IsRun three (opening three) (granted ++ crashed_and_started)
restarts = runs_append three (opening three) granted crashed_and_started granted_runs restart_runs

pub restart_held : Held three (world_of three (granted ++ crashed_and_started)) 0
restart_held = (won_by first_round, record { below = omega arith; may = inl refl; in_force = omega arith })

-- ---- a view that agrees

pub same_place : (members s t : ℕ) → s < members → t < members → id_of_place s ≡ id_of_place t → s ≡ t
same_place members s t sl tl e = ap (λ (i : MemberId). i.0) e

pub started_agrees : (ticket : Name) → IsMember three (world_of three start) (first_caller ticket)
started_agrees ticket = record {
  ids = same_place 3;
  below = omega arith;
  seated = refl;
  timely = omega arith;
  sound = record {
    place = omega arith;
    members = omega arith;
    rank = omega arith;
    expire = omega arith;
    after = omega arith;
    timeout = omega arith;
    renewal = omega arith;
    retries = omega arith;
  };
  view_facts = record {
    round_fits = record {
      active = λ r e. absurd (none_is r e);
      own_term = λ r e. absurd (none_is r e);
      at_reading = λ r e. absurd (none_is r e);
    };
    tried = λ w e. absurd (none_is w e);
  };
  agrees = record {
    up = refl;
    term = refl;
    bound = refl;
    promise = refl;
    abstain = refl;
    within = record { bound_below = λ s e. absurd (none_is s e); promise_below = λ p e. absurd (none_is p e) };
    kept = inl refl;
    round = λ r e. absurd (none_is r e);
    tried = λ w e. absurd (none_is w e);
    asked = λ w e. absurd (none_is w e);
    active = λ h. absurd (inactive h);
    repeated = λ h. absurd (omega (arith, h));
  };
}
