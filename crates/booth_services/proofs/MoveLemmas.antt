-- Services that are stopped before each release are apart.
use Rattle.std.proofs.Common.{◌≡◌, ℕ, ◌≤◌, List, [], ◌∷◌, ◌++◌, refl, sym, ap, ◌∙◌, subst, inl, inr, arith, ⊎_elim}
use Rattle.booth_conf.specs.declared.tickets.TicketConf.{TicketConf}
use Rattle.booth_rec.specs.declared.record.Record.{Record}
use Rattle.booth_node.specs.World.{WorldEntry, World, last_time, stand_after, IsWorld}
use Rattle.booth_node.specs.Held.{Moment}
use Rattle.booth_world.specs.Revocations.{AtSome}
use Rattle.booth_world.specs.Worlds.{GivesBack}
use Rattle.booth_services.specs.Services.{Follower, GaveBack, IsAfter, MovesAreSafe, StopsBeforeReleases}
use Rattle.booth_services.proofs.ListLemmas.{joins, last_join, no_longer, rises, with_none}
use Rattle.booth_services.proofs.ServiceLemmas.{services_are_apart}

-- the entry among these for which this holds
record SomeAt (before entries : List WorldEntry) (P : List WorldEntry → WorldEntry → Type 0) : Type 0 where
  pub first : List WorldEntry
  pub entry : WorldEntry
  pub rest : List WorldEntry
  pub whole : entries ≡ first ++ entry ∷ rest
  pub holds : P (before ++ first) entry

some_at : (before entries : List WorldEntry) (P : List WorldEntry → WorldEntry → Type 0) → AtSome before entries P → SomeAt before entries P
some_at before [] P h = absurd h
some_at before (e ∷ entries) P (inl h) = record {
  first = [];
  entry = e;
  rest = entries;
  whole = refl;
  holds = subst (λ (xs : List WorldEntry). P xs e) (sym (with_none before)) h;
}
some_at before (e ∷ entries) P (inr h) =
    let q = some_at (before ++ e ∷ []) entries P h in record {
      first = e ∷ q.first;
      entry = q.entry;
      rest = q.rest;
      whole = ap (λ (xs : List WorldEntry). e ∷ xs) q.whole;
      holds = subst (λ (xs : List WorldEntry). P xs q.entry) (joins before (e ∷ []) q.first) q.holds;
    }

-- the entry releases the lease of this record
abbrev Gives : World → TicketConf → ℕ → Record → List WorldEntry → WorldEntry → Type 0
Gives w ticket m kept earlier entry =
    (entry.member ≡ m) × GivesBack w ticket.name m kept (stand_after m (earlier ++ entry ∷ [])) entry.what

-- a service that is stopped before each release relies on no lease that was released
pub none_given_back : (w : World) → IsWorld w → (ticket : TicketConf) (m : ℕ) (x : Follower) → StopsBeforeReleases w ticket m x
    → (time : ℕ) → GaveBack w ticket m x time → ⊥
none_given_back w is_world ticket m x stops time g = no_longer early.before q.first q.entry behind.0 behind.1
  where
    early : Moment w
    early = g.under.moment

    q : SomeAt early.before g.between (Gives w ticket m g.under.kept)
    q = some_at early.before g.between (Gives w ticket m g.under.kept) g.given_back

    rest_is : early.after ≡ q.first ++ q.entry ∷ (q.rest ++ g.after)
    rest_is = g.whole ∙ ap (λ (xs : List WorldEntry). xs ++ g.after) q.whole ∙ joins q.first (q.entry ∷ q.rest) g.after

    all : w.entries ≡ (early.before ++ q.first) ++ q.entry ∷ (q.rest ++ g.after)
    all =
        early.whole ∙ ap (λ (xs : List WorldEntry). early.before ++ xs) rest_is
        ∙ sym (joins early.before q.first (q.entry ∷ (q.rest ++ g.after)))

    soon : q.entry.time ≤ time
    soon =
        let up = rises w is_world.form (early.before ++ q.first) q.entry q.rest g.after all in
        let last : last_time early.time g.between ≡ last_time q.entry.time q.rest =
        ap (λ (xs : List WorldEntry). last_time early.time xs) q.whole ∙ last_join early.time q.first q.rest q.entry in
        let no_later = g.no_later in
        omega (arith, up, last, no_later)

    behind : IsAfter early (early.before ++ q.first) q.entry
    behind =
        stops (early.before ++ q.first) (q.rest ++ g.after) q.entry all q.holds.0 time soon g.under q.holds.1

pub moves_are_safe : MovesAreSafe
moves_are_safe w is_world ticket automatic s t ne x y is_x is_y stops_x stops_y time serving_x serving_y =
    ⊎_elim
    (none_given_back w is_world ticket s x stops_x time)
    (none_given_back w is_world ticket t y stops_y time)
    (services_are_apart w is_world ticket automatic s t ne x y is_x is_y time serving_x serving_y)
