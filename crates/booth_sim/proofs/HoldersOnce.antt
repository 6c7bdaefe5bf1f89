-- After no event of a simulation do two sites hold a ticket.
use Rattle.std.proofs.Common.{◌≡◌, ℕ, zero, suc, ◌+◌, ◌<◌, ◌≤◌, Bool, true, false, ◌&&◌, List, [], ◌∷◌, ◌++◌, length, refl, sym, ap, ◌∙◌, subst, inr, arith, if◌then◌else◌}
use Rattle.std.specs.Prelude.{Option, Some, None, IsSomeAnd, count_by, slice_get, bytes_eq}
use Rattle.std.specs.List.{range_with_len}
use Rattle.std.proofs.Math.Nat.{max-le}
use Rattle.std.proofs.lemmas.Bool.Decides.{nat_tests}
use Rattle.std.proofs.lemmas.List.{append_assoc}
use Rattle.std.proofs.lemmas.List.Sums.{sum_by-cons}
use Rattle.booth_conf.specs.Config.{ConfigSays}
use Rattle.booth_conf.specs.Sound.{IsSound}
use Rattle.booth_conf.specs.declared.tickets.TicketConf.{TicketConf}
use Rattle.booth_rec.specs.declared.record.Lease.{Lease}
use Rattle.booth_rec.specs.declared.record.Record.{Record}
use Rattle.booth_rec.specs.Record.{IsInForce, record_or_none}
use Rattle.booth_host.specs.declared.entry.Entry.TheVariants as calls
use Rattle.booth_node.specs.Held.{Moment, IsBefore, Holds}
use Rattle.booth_node.specs.Opening.{is_site_at}
use Rattle.booth_node.specs.Records.{Has, with_next}
use Rattle.booth_node.specs.Session.{SessionEntry, Makes, IsCut, CutKeep}
use Rattle.booth_node.specs.World.{WorldEntry, IsOneTicket, IsWorld, last_time, entries_of}
use Rattle.booth_sim.proofs.AlongWorlds.{Along}
use Rattle.booth_world.proofs.Configured.{found_at, one_configuration_is_enough}
use Rattle.booth_world.specs.Worlds.{WorldsHoldOne}
use Rattle.booth_sim.specs.Counts.{begins, holders, is_holder, is_in_force, most_between, most_of}
use Rattle.booth_sim.specs.Happenings.{reading_at}
use Rattle.booth_sim.specs.Kept.{kept_by}
use Rattle.booth_sim.specs.Laws.{AtMostOneHolds, SimulationsAreWorlds}
use Rattle.booth_sim.specs.declared.summary.TheConstants.{MOST_EVENTS}
use Rattle.booth_sim.specs.Simulation.{IsSimulation, world_of}
use Rattle.booth_sim.proofs.Entries.{along_left}
use Rattle.booth_sim.proofs.Follows.{Follows}
use Rattle.booth_sim.proofs.KeptRecords.{may_keep}
use Rattle.booth_sim.proofs.Worlds.{all_follow, before_within, clock_value, one_configuration}

-- ---- counting

count_yes : (p : ℕ → Bool) (x : ℕ) (xs : List ℕ) → p x ≡ true → count_by p (x ∷ xs) ≡ 1 + count_by p xs
count_yes p x xs e =
    sum_by-cons (λ (k : ℕ). if p k then 1 else 0) x xs ∙ ap (λ (b : Bool). (if b then 1 else 0) + count_by p xs) e

count_no : (p : ℕ → Bool) (x : ℕ) (xs : List ℕ) → p x ≡ false → count_by p (x ∷ xs) ≡ 0 + count_by p xs
count_no p x xs e =
    sum_by-cons (λ (k : ℕ). if p k then 1 else 0) x xs ∙ ap (λ (b : Bool). (if b then 1 else 0) + count_by p xs) e

pub count_none : (p : ℕ → Bool) (n first : ℕ) → ((k : ℕ) → first ≤ k → k < first + n → p k ≡ true → ⊥) → count_by p (range_with_len first n) ≡ 0
count_none p zero first none = refl
count_none p (suc n) first none =
    by_test (p first) refl (count_none p n (first + 1) (λ k from below. none k (omega (arith, from)) (omega (arith, below))))
  where
    by_test : (b : Bool) → p first ≡ b → count_by p (range_with_len (first + 1) n) ≡ 0 → count_by p (first ∷ range_with_len (first + 1) n) ≡ 0
    by_test true e rest = absurd (none first (omega arith) (omega arith) e)
    by_test false e rest = let c = count_no p first (range_with_len (first + 1) n) e in omega (arith, c, rest)

count_once : (p : ℕ → Bool) (n first : ℕ)
    → ((k j : ℕ) → k < first + n → j < first + n → p k ≡ true → p j ≡ true → k ≡ j) → count_by p (range_with_len first n) ≤ 1
count_once p zero first one = omega arith
count_once p (suc n) first one =
    by_test (p first) refl
    (count_once p n (first + 1) (λ k j below below' a b. one k j (omega (arith, below)) (omega (arith, below')) a b))
  where
    by_test : (b : Bool) → p first ≡ b → count_by p (range_with_len (first + 1) n) ≤ 1 → count_by p (first ∷ range_with_len (first + 1) n) ≤ 1
    by_test true e rest =
        let none = count_none p n (first + 1) (λ k from below holds.
        let same = one first k (omega arith) (omega (arith, below)) e holds in absurd (omega (arith, same, from))) in
        let c = count_yes p first (range_with_len (first + 1) n) e in omega (arith, c, none)
    by_test false e rest = let c = count_no p first (range_with_len (first + 1) n) e in omega (arith, c, rest)

-- ---- one moment

both_parts : (a b : Bool) → a && b ≡ true → (a ≡ true) × (b ≡ true)
both_parts true b e = (refl, e)
both_parts false b e = absurd cc

in_force : (kept : Record) (reading : ℕ) → is_in_force kept.lease reading ≡ true → IsInForce kept reading
in_force kept reading e = by_lease kept.lease e
  where
    by_lease : (lease : Option Lease) → is_in_force lease reading ≡ true → IsSomeAnd lease (λ lease. reading < lease.until)
    by_lease None e = absurd cc
    by_lease (Some lease) e = let l : reading < lease.until = grind (arith, nat_tests) in l

-- what may be kept may be kept while the next entry is at work
still_kept : (own : List ℕ) (may : List Record) (entries : List SessionEntry) (kept : Record) → Has may kept → Has (with_next own may entries) kept
still_kept own may [] kept h = h
still_kept own may (Makes (calls.Keep name rec answer) ∷ entries) kept h = by_test (bytes_eq name own)
  where
    by_test : (b : Bool) → Has (if b then rec ∷ may else may) kept
    by_test true = inr h
    by_test false = h
still_kept own may (IsCut (CutKeep name rec) ∷ entries) kept h = by_test (bytes_eq name own)
  where
    by_test : (b : Bool) → Has (if b then rec ∷ may else may) kept
    by_test true = inr h
    by_test false = h
still_kept own may (entry ∷ entries) kept h = h

module _ (holds_one : WorldsHoldOne) (config : ConfigSays) (sound : IsSound config) (number events : ℕ) (few : events ≤ MOST_EVENTS)
    (entries : List WorldEntry) (is : IsSimulation config number events entries) (world : IsWorld (world_of config entries)) where
  module _ (before after : List WorldEntry) (whole : entries ≡ before ++ after) where
    next_is_later : (es : List WorldEntry) → after ≡ es → IsBefore (last_time 0 before) es
    next_is_later [] e = tt
    next_is_later (entry ∷ es) e =
        world.form.in_order before es entry (whole ∙ ap (λ (xs : List WorldEntry). before ++ xs) e)

    is_within : last_time 0 before < (world_of config entries).span
    is_within = before_within config number events entries before after whole (all_follow config sound number events entries is)

    abbrev moment : Moment (world_of config entries)
    moment = record {
      before = before;
      after = after;
      time = last_time 0 before;
      whole = whole;
      since = omega arith;
      until = next_is_later after refl;
      within = is_within;
    }

    holds : (k : ℕ) (ticket : TicketConf) (m : ℕ) → slice_get config.tickets k ≡ Some ticket → m < length config.members
        → is_holder config before ticket m ≡ true → Holds (world_of config entries) ticket m moment
    holds k ticket m there below e = (
      record_or_none (kept_by m ticket.name before),
      (
        below,
        still_kept ticket.name _ (entries_of m after) _
            (may_keep config m k ticket there (found_at config sound k ticket there ticket.name refl) before
            (along_left (Follows config) [] before after (subst (λ (es : List WorldEntry). Along (Follows config) [] es) whole
            (all_follow config sound number events entries is)))),
        subst (λ (r : ℕ). IsInForce (record_or_none (kept_by m ticket.name before)) r)
            (sym (clock_value config sound number events few entries is m (last_time 0 before) is_within))
            (in_force (record_or_none (kept_by m ticket.name before)) (reading_at m (last_time 0 before)) (both_parts (is_site_at config.members m) _ e).1),
      ),
    )

    one : (k : ℕ) (ticket : TicketConf) → slice_get config.tickets k ≡ Some ticket → IsOneTicket (world_of config entries) ticket
    one k ticket there =
        one_configuration_is_enough (world_of config entries) config sound (one_configuration config sound number events few entries is) k ticket there

    ticket_once : (k : ℕ) (ticket : TicketConf) → slice_get config.tickets k ≡ Some ticket → holders config before ticket ≤ 1
    ticket_once k ticket there = by_kind ticket.manual refl
      where
        by_kind : (b : Bool) → ticket.manual ≡ b
            → (if b then 0 else count_by (is_holder config before ticket) (range_with_len 0 (length config.members))) ≤ 1
        by_kind true e = omega arith
        by_kind false e =
            count_once (is_holder config before ticket) (length config.members) 0
            (λ s t below below' a b. holds_one (world_of config entries) world ticket (one k ticket there, e) moment s t
            (holds k ticket s there (omega (arith, below)) a) (holds k ticket t there (omega (arith, below')) b))

    tickets_once : (tickets : List TicketConf) → ((k : ℕ) (ticket : TicketConf) → slice_get tickets k ≡ Some ticket → holders config before ticket ≤ 1)
        → most_of config before tickets ≤ 1
    tickets_once [] each = omega arith
    tickets_once (ticket ∷ tickets) each =
        max-le (each 0 ticket refl) (tickets_once tickets (λ k t there. each (suc k) t there))

    once : most_of config before config.tickets ≤ 1
    once = tickets_once config.tickets ticket_once

  -- between all events
  between : (before after : List WorldEntry) → entries ≡ before ++ after → most_between config before after ≤ 1
  between before [] whole = once before [] whole
  between before (entry ∷ after) whole =
      max-le (by_test (begins entry.what))
      (between (before ++ entry ∷ []) after (whole ∙ sym (append_assoc before (entry ∷ []) after)))
    where
      by_test : (b : Bool) → (if b then most_of config before config.tickets else 0) ≤ 1
      by_test true = once before (entry ∷ after) whole
      by_test false = omega arith

pub at_most_one : WorldsHoldOne → SimulationsAreWorlds → AtMostOneHolds
at_most_one holds_one are_worlds config sound number events few entries is =
    between holds_one config sound number events few entries is (are_worlds config sound number events few entries is) [] entries refl
