-- What members of a world begin with, as the cluster of a ticket has it.
use Rattle.std.proofs.Common.{◌≡◌, ⊎_elim, ℕ, ◌<◌, ◌≤◌, Bool, true, false, refl, sym, ap, ◌∙◌, subst, arith, if◌then◌else◌}
use Rattle.std.specs.Prelude.{Option, Some, None, unwrap_or}
use Rattle.std.specs.Option.{ForSome}
use Rattle.std.proofs.lemmas.Bool.Decides.{nat_tests}
use Rattle.booth_base.specs.declared.address.MemberId.{MemberId}
use Rattle.booth_conf.specs.declared.tickets.TicketConf.{TicketConf}
use Rattle.booth_rec.specs.declared.record.Promise.{Promise as IdPromise}
use Rattle.booth_rec.specs.declared.record.Record.{Record}
use Rattle.booth_rec.specs.Record.{first_plain, is_second}
use Rattle.booth_node.specs.World.{World, members_of, id_at, IsMemberId, HoldsNothing}
use Rattle.booth_world.specs.Agreement.{bound_in, promise_in, record_in}
use Rattle.booth_world.specs.Clusters.{place_of, bound_at, promise_at, kept_at}
use Rattle.booth_world.specs.States.{Promise, IsWithin, Pledge, KeptRecord, BeginsWell}
use Rattle.booth_world.proofs.Lists.{none_is, some_same}
use Rattle.booth_world.proofs.Stays.{not_up}
use Rattle.booth_world.proofs.WorldSteps.{Setting}

module _ (w : World) (ticket : TicketConf) (setting : Setting w ticket) where
  -- a member's id has its place
  place_is : (id : MemberId) → IsMemberId w id → (place_of w id < members_of w) × (id_at w (place_of w id) ≡ id)
  place_is id x =
      let same : place_of w (id_at w x.0) ≡ x.0 = ap (λ (o : Option ℕ). unwrap_or o 0) (setting.ids x.0 x.1) in
      subst (λ (i : MemberId). (place_of w i < members_of w) × (id_at w (place_of w i) ≡ i)) x.2
      (subst (λ (n : ℕ). n < members_of w) (sym same) x.1, ap (λ (n : ℕ). id_at w n) same)

  -- ---- whom a record names

  bound_back : (o : Option MemberId) → ForSome o (λ id. IsMemberId w id) → bound_in (id_at w) (bound_at w o) ≡ o
  bound_back None named = refl
  bound_back (Some id) named = ap (λ (i : MemberId). Some i) (place_is id (named id refl)).1

  bound_within : (o : Option MemberId) → ForSome o (λ id. IsMemberId w id) → ForSome (bound_at w o) (λ s. s < members_of w)
  bound_within None named = λ s e. absurd (none_is s e)
  bound_within (Some id) named = λ s e.
      subst (λ (n : ℕ). n < members_of w) (some_same (place_of w id) s e) (place_is id (named id refl)).0

  abbrev IsToMember : Record → ℕ → IdPromise → Type 0
  IsToMember kept reading promise = IsMemberId w promise.to × (promise.term ≤ kept.term) × (kept.abstain ≤ reading)

  promise_back : (kept : Record) (reading : ℕ) (o : Option IdPromise) → ForSome o (λ promise. IsToMember kept reading promise)
      → promise_in (id_at w) (promise_at w o) ≡ o
  promise_back kept reading None good = refl
  promise_back kept reading (Some p) good =
      ap (λ (i : MemberId). let q : IdPromise = record { to = i; term = p.term; until = p.until } in Some q) (place_is p.to (good p refl).0).1

  promise_within : (kept : Record) (reading : ℕ) (o : Option IdPromise) → ForSome o (λ promise. IsToMember kept reading promise)
      → ForSome (promise_at w o) (λ promise. (promise.to < members_of w) × (promise.term ≤ kept.term) × (kept.abstain ≤ reading))
  promise_within kept reading None good = λ p e. absurd (none_is p e)
  promise_within kept reading (Some p) good = λ q e.
      let x = good p refl in
      subst (λ (y : Promise). (y.to < members_of w) × (y.term ≤ kept.term) × (kept.abstain ≤ reading))
      (some_same (record { to = place_of w p.to; term = p.term; until = p.until }) q e)
      ((place_is p.to x.0).0, x.1, x.2)

  -- ---- the record

  abbrev pledge_at : Record → Pledge
  pledge_at kept = record { bound = bound_at w kept.bound; promise = promise_at w kept.promise; abstain = kept.abstain }

  abbrev pledge_if : Bool → Record → Option Pledge
  pledge_if b kept = if b then Some (pledge_at kept) else None

  second_back : (m reading : ℕ) (kept : Record) → HoldsNothing w m reading kept → is_second kept ≡ true → record_in (id_at w) (kept_at w kept) ≡ kept
  second_back m reading kept x second =
      ap (λ (b : Bool). let k : KeptRecord = record { term = kept.term; lease = kept.lease; pledge = pledge_if b kept } in record_in (id_at w) k) second
      ∙ joined (grind (arith, nat_tests)) (bound_back kept.bound x.bound) (promise_back kept reading kept.promise x.promise)
    where
      joined : 2 ≡ kept.version → bound_in (id_at w) (bound_at w kept.bound) ≡ kept.bound
          → promise_in (id_at w) (promise_at w kept.promise) ≡ kept.promise
          → record_in (id_at w) (record { term = kept.term; lease = kept.lease; pledge = Some (pledge_at kept) }) ≡ kept
      joined version bound promise = λ i. record {
        version = version i;
        term = kept.term;
        lease = kept.lease;
        bound = bound i;
        promise = promise i;
        abstain = kept.abstain;
      }

  -- by places and back to ids a record is the same
  pub kept_back : (m reading : ℕ) (kept : Record) → HoldsNothing w m reading kept → record_in (id_at w) (kept_at w kept) ≡ kept
  kept_back m reading kept x = ⊎_elim
      (λ (first : kept ≡ first_plain kept.term kept.lease).
      subst (λ (k : Record). record_in (id_at w) (kept_at w k) ≡ k) (sym first) refl)
      (λ (second : (is_second kept ≡ true) × ((w.begins m).second ≡ true)). second_back m reading kept x second.0)
      x.version

  pub begins_well : (m reading : ℕ) (kept : Record) → HoldsNothing w m reading kept
      → BeginsWell (members_of w) reading (record { second = (w.begins m).second; kept = kept_at w kept })
  begins_well m reading kept x = record {
    over = x.over;
    first = λ first. ⊎_elim
        (λ (plain : kept ≡ first_plain kept.term kept.lease). ap (λ (k : Record). (kept_at w k).pledge) plain)
        (λ (second : (is_second kept ≡ true) × ((w.begins m).second ≡ true)). absurd (not_up (sym first ∙ second.1)))
        x.version;
    named = λ pledge e. by_named (is_second kept) pledge e;
    rested = λ pledge e. by_rested (is_second kept) pledge e;
  }
    where
      within : IsWithin (members_of w) (bound_at w kept.bound) (promise_at w kept.promise)
      within = record {
        bound_below = bound_within kept.bound x.bound;
        promise_below = λ p e. (promise_within kept reading kept.promise x.promise p e).0;
      }

      by_named : (b : Bool) (pledge : Pledge) → pledge_if b kept ≡ Some pledge → IsWithin (members_of w) pledge.bound pledge.promise
      by_named true pledge e =
          subst (λ (y : Pledge). IsWithin (members_of w) y.bound y.promise) (some_same (pledge_at kept) pledge e) within
      by_named false pledge e = absurd (none_is pledge e)

      by_rested : (b : Bool) (pledge : Pledge) → pledge_if b kept ≡ Some pledge
          → ForSome pledge.promise (λ promise. (promise.term ≤ kept.term) × (pledge.abstain ≤ reading))
      by_rested true pledge e =
          subst (λ (y : Pledge). ForSome y.promise (λ promise. (promise.term ≤ kept.term) × (y.abstain ≤ reading)))
          (some_same (pledge_at kept) pledge e)
          (λ p has. let q = promise_within kept reading kept.promise x.promise p has in (q.1, q.2))
      by_rested false pledge e = absurd (none_is pledge e)
