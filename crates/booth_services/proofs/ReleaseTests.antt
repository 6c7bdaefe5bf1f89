-- A test of releases, which the prover computes: a member releases nothing before a time.
use Rattle.std.proofs.Common.{◌≡◌, ℕ, ◌≤◌, ◌==◌, Bool, true, false, not, ◌||◌, List, [], ◌∷◌, ◌++◌, refl, ap, subst}
use Rattle.std.specs.Prelude.{Ok, Err, nat_le}
use Rattle.std.proofs.lemmas.Bool.{eq-eqb, leb-true}
use Rattle.booth_base.specs.Tree.{Deeds, Ends, Does}
use Rattle.booth_rec.specs.declared.record.Record.{Record}
use Rattle.booth_wire.specs.declared.command.Cmd.{Cmd}
use Rattle.booth_wire.specs.declared.command.Cmd.TheVariants.{Revk}
use Rattle.booth_wire.specs.Command.{code_of}
use Rattle.booth_host.specs.declared.entry.Entry.TheVariants as calls
use Rattle.booth_node.specs.Reaction.{Ask, Send, Keep, Start}
use Rattle.booth_node.specs.Session.{SessionEntry, Starts, Makes, IsCut, Stand, Down, Doing, Hearing}
use Rattle.booth_node.specs.State.{State}
use Rattle.booth_node.specs.World.{WorldEntry, World, AtEach, stand_after}
use Rattle.booth_world.specs.Revocations.{GoesOnToRevoke, IsRevocation, SendsEach, others_of}
use Rattle.booth_world.specs.Worlds.{GivesBack}
use Rattle.booth_examples.proofs.WorldLemmas.{at_each}
use Rattle.booth_examples.specs.Checks.{along}
use Rattle.booth_services.proofs.TurnTests.{implied}

-- the next action is a release message
abbrev deeds_revoke : Deeds Ask State → Bool
deeds_revoke (Does (Send peer message) go) = code_of message.head.cmd == code_of Revk
deeds_revoke deeds = false

abbrev revokes_next : Stand → Bool
revokes_next (Doing node deeds) = deeds_revoke deeds
revokes_next stand = false

abbrev is_keep : SessionEntry → Bool
is_keep (Makes (calls.Keep ticket rec answer)) = true
is_keep what = false

-- if the member writes by this entry, and a release message is next, the entry is no earlier than this
abbrev pub releases_from : ℕ → ℕ → List WorldEntry → WorldEntry → Bool
releases_from m first before entry =
    not (entry.member == m) || (not (is_keep entry.what)
    || (not (revokes_next (stand_after m (before ++ entry ∷ []))) || nat_le first entry.time))

-- ---- what releases

module _ (w : World) (name : List ℕ) (m : ℕ) (place : ℕ) (places : List ℕ) (others : others_of w m ≡ place ∷ places) where
  next_is : (stand : Stand) (term : ℕ) → GoesOnToRevoke w name term m stand → revokes_next stand ≡ true
  next_is Down term goes = absurd goes
  next_is (Hearing node old answer bytes) term goes = absurd goes
  next_is (Doing node deeds) term goes =
      by_deeds deeds (subst (λ (to : List ℕ). SendsEach node.config to (IsRevocation name term) deeds) others goes)
    where
      by_deeds : (deeds : Deeds Ask State) → SendsEach node.config (place ∷ places) (IsRevocation name term) deeds → deeds_revoke deeds ≡ true
      by_deeds (Ends state) sends = absurd sends
      by_deeds (Does (Send peer message) go) sends =
          eq-eqb (code_of message.head.cmd) (code_of Revk) (ap (λ (cmd : Cmd). code_of cmd) sends.1.revokes)
      by_deeds (Does (Keep ticket tried) go) sends = absurd sends
      by_deeds (Does (Start job) go) sends = absurd sends

  gives : (kept : Record) (after : Stand) (what : SessionEntry) → GivesBack w name m kept after what → (is_keep what ≡ true) × (revokes_next after ≡ true)
  gives kept after (Makes (calls.Keep ticket rec (Ok done))) h = (refl, next_is after rec.term h.3)
  gives kept after (Makes (calls.Keep ticket rec (Err failed))) h = absurd h
  gives kept after (Makes (calls.Open local port records conf answer)) h = absurd h
  gives kept after (Makes (calls.Next wait answer bytes)) h = absurd h
  gives kept after (Makes (calls.Now reading)) h = absurd h
  gives kept after (Makes (calls.Send to bytes answer)) h = absurd h
  gives kept after (Makes (calls.ReadFile path answer)) h = absurd h
  gives kept after (Makes (calls.Lock path answer)) h = absurd h
  gives kept after (Makes (calls.Kept ticket answer)) h = absurd h
  gives kept after (Makes (calls.Start number ticket handler local expires answer)) h = absurd h
  gives kept after (Makes (calls.Out bytes answer)) h = absurd h
  gives kept after (Makes (calls.Err bytes answer)) h = absurd h
  gives kept after (Starts node reading records) h = absurd h
  gives kept after (IsCut call) h = absurd h

  -- the entry is no earlier than this if it releases a lease of the member
  abbrev pub ReleasesFrom : ℕ → List WorldEntry → WorldEntry → Type 0
  ReleasesFrom first before entry =
      entry.member ≡ m → (kept : Record) → GivesBack w name m kept (stand_after m (before ++ entry ∷ [])) entry.what → first ≤ entry.time

  release_is : (first : ℕ) (before : List WorldEntry) (entry : WorldEntry) → releases_from m first before entry ≡ true → ReleasesFrom first before entry
  release_is first before entry e own kept back =
      let q = gives kept (stand_after m (before ++ entry ∷ [])) entry.what back in
      leb-true first entry.time
      (implied (revokes_next (stand_after m (before ++ entry ∷ []))) _
      (implied (is_keep entry.what) _ (implied (entry.member == m) _ e (eq-eqb entry.member m own)) q.0) q.1)

  pub releases_are : (first : ℕ) → along (releases_from m first) [] w.entries ≡ true → AtEach w (ReleasesFrom first)
  releases_are first e = at_each w (releases_from m first) (ReleasesFrom first) (release_is first) e
