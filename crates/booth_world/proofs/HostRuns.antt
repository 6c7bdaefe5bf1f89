-- Entries of a host that a tree's words make, and what one member's entries leave as it was.
use Rattle.std.proofs.Common.{◌≡◌, ◌≢◌, ◌⊎◌, ⊎_elim, inl, inr, ℕ, ◌<◌, Bool, true, List, [], ◌∷◌, ◌++◌, refl, sym, ap, ◌∙◌, subst}
use Rattle.std.specs.Prelude.{Option, Some, IsSomeAnd}
use Rattle.booth_base.specs.Tree.{Ends, Does}
use Rattle.booth_world.specs.States.{Cluster}
use Rattle.booth_world.specs.Facts.{Has, Release}
use Rattle.booth_world.specs.Cores.{Session, Cast}
use Rattle.booth_world.specs.Turns.{TicketAsk, Keeps, Sends, AsksElse, TurnTree}
use Rattle.booth_world.specs.Rules.{MemberMessage}
use Rattle.booth_world.specs.Hosts.{HostEntry, DoesAsk, HostPlace, Hosts, IsNextAsk, IsOpenAt, MayHost, went_on, hosted, AreHosted, hosts_after}
use Rattle.booth_world.specs.HostLaws.{IsHostReleaseIn}
use Rattle.booth_world.proofs.CallSteps.{put_same}
use Rattle.booth_world.proofs.CoreReads.{ReadsIn, StartsIn}
use Rattle.booth_world.proofs.TreePlaces.{put_other}
use Rattle.booth_world.proofs.Mirrors.{skip, sent_by, SentMore}

-- ---- what a member says, under its number in the cluster

-- what a host's tree says before the next keep or start, sent by this member
abbrev pub sent_under : ℕ → TurnTree → List MemberMessage → List MemberMessage
sent_under m (Ends view) sent = sent
sent_under m (Does (Keeps kept) go) sent = sent
sent_under m (Does (Sends message) go) sent = sent_under m (go true) (record message { sender = m } ∷ sent)
sent_under m (Does AsksElse go) sent = sent

-- each of the messages was sent, by this member
abbrev pub SentAs : ℕ → List MemberMessage → List MemberMessage → Type 0
SentAs m said sent = (l : MemberMessage) → Has said l → Has sent (record l { sender = m })

pub grows_under : (m : ℕ) (tree : TurnTree) (sent : List MemberMessage) → SentMore sent (sent_under m tree sent)
grows_under m (Ends view) sent l h = h
grows_under m (Does (Keeps kept) go) sent l h = h
grows_under m (Does (Sends message) go) sent l h = grows_under m (go true) (record message { sender = m } ∷ sent) l (inr h)
grows_under m (Does AsksElse go) sent l h = h

pub sent_as : (m : ℕ) (tree : TurnTree) (said sent : List MemberMessage) → SentAs m said sent → SentAs m (sent_by tree said) (sent_under m tree sent)
sent_as m (Ends view) said sent were l h = were l h
sent_as m (Does (Keeps kept) go) said sent were l h = were l h
sent_as m (Does (Sends message) go) said sent were l h = sent_as m (go true) (message ∷ said) (record message { sender = m } ∷ sent) longer l h
  where
    longer : SentAs m (message ∷ said) (record message { sender = m } ∷ sent)
    longer k (inl e) = inl (ap (λ (y : MemberMessage). record y { sender = m }) e)
    longer k (inr h) = inr (were k h)
sent_as m (Does AsksElse go) said sent were l h = were l h

module _ (c : Cluster) (cast : Cast) where
  pub hosted_join : (hosts : Hosts) (a b : List HostEntry) → AreHosted c cast hosts a → AreHosted c cast (hosts_after c cast hosts a) b
      → AreHosted c cast hosts (a ++ b)
  hosted_join hosts [] b x y = y
  hosted_join hosts (e ∷ a) b x y = (x.0, hosted_join (hosted c cast hosts e) a b x.1 y)

  pub after_join : (hosts : Hosts) (a b : List HostEntry) → hosts_after c cast hosts (a ++ b) ≡ hosts_after c cast (hosts_after c cast hosts a) b
  after_join hosts [] b = refl
  after_join hosts (e ∷ a) b = after_join (hosted c cast hosts e) a b

  pub released_join : (hosts : Hosts) (a b : List HostEntry) (z : Release) → IsHostReleaseIn c cast hosts (a ++ b) z
      → IsHostReleaseIn c cast hosts a z ⊎ IsHostReleaseIn c cast (hosts_after c cast hosts a) b z
  released_join hosts [] b z r = inr r
  released_join hosts (e ∷ a) b z (inl here) = inl (inl here)
  released_join hosts (e ∷ a) b z (inr later) =
      ⊎_elim (λ (x : IsHostReleaseIn c cast (hosted c cast hosts e) a z). inl (inr x))
      (λ (y : IsHostReleaseIn c cast (hosts_after c cast (hosted c cast hosts e) a) b z). inr y)
      (released_join (hosted c cast hosts e) a b z later)

  -- Entries of one member: the time and the others are as they were, and what was sent is still sent.
  pub record IsOf (m : ℕ) (hosts hosts' : Hosts) : Type 0 where
    pub same_now : hosts'.now ≡ hosts.now
    pub others : (k : ℕ) → k ≢ m → hosts'.place k ≡ hosts.place k
    pub still_sent : SentMore hosts.sent hosts'.sent

  pub of_none : (m : ℕ) (hosts : Hosts) → IsOf m hosts hosts
  of_none m hosts = record { same_now = refl; others = λ k ne. refl; still_sent = λ l h. h }

  pub of_both : (m : ℕ) (a b d : Hosts) → IsOf m a b → IsOf m b d → IsOf m a d
  of_both m a b d x y = record {
    same_now = y.same_now ∙ x.same_now;
    others = λ k ne. y.others k ne ∙ x.others k ne;
    still_sent = λ l h. y.still_sent l (x.still_sent l h);
  }

  module _ (m : ℕ) (below : m < c.members) where
    -- the asks of a tree before its next keep or start, all answered
    abbrev pub says : TurnTree → List HostEntry
    says (Ends view) = []
    says (Does (Keeps kept) go) = []
    says (Does (Sends message) go) = DoesAsk m (Sends message) true ∷ says (go true)
    says (Does AsksElse go) = []

    -- they lead to the next keep or start, or the end, with all said
    pub record AreSaid (hosts : Hosts) (tree : TurnTree) : Type 0 where
      pub hosted_all : AreHosted c cast hosts (says tree)
      pub own : IsOf m hosts (hosts_after c cast hosts (says tree))
      pub tree_now : ((hosts_after c cast hosts (says tree)).place m).tree ≡ Some (skip tree)
      pub same_reading : ((hosts_after c cast hosts (says tree)).place m).reading ≡ (hosts.place m).reading
      pub same_may : ((hosts_after c cast hosts (says tree)).place m).may ≡ (hosts.place m).may
      pub same_session : ((hosts_after c cast hosts (says tree)).place m).session ≡ (hosts.place m).session
      pub all_sent : (hosts_after c cast hosts (says tree)).sent ≡ sent_under m tree hosts.sent
      pub unreleased : (z : Release) → IsHostReleaseIn c cast hosts (says tree) z → ⊥
      pub unread : (k time : ℕ) → ReadsIn (says tree) k time → ⊥
      pub unstarted : (second : Bool) → StartsIn (says tree) second → ⊥

    -- the phase of each session is open
    abbrev pub IsOpen : ℕ → Type 0
    IsOpen now = (session : Session) → IsOpenAt c session now

    pub at_ask : (hosts : Hosts) (ask : TicketAsk) (ok : Bool) (go : Bool → TurnTree) → IsOpen hosts.now → (hosts.place m).tree ≡ Some (Does ask go)
        → MayHost c cast hosts (DoesAsk m ask ok)
    at_ask hosts ask ok go is_open is =
        (below, subst (λ (o : Option TurnTree). IsSomeAnd o (IsNextAsk ask)) (sym is) refl, is_open (hosts.place m).session)

    pub all_said : (hosts : Hosts) (tree : TurnTree) → IsOpen hosts.now → (hosts.place m).tree ≡ Some tree → AreSaid hosts tree
    all_said hosts (Ends view) is_open is =
        record { hosted_all = tt; own = of_none m hosts; tree_now = is; same_reading = refl; same_may = refl; same_session = refl; all_sent = refl; unreleased = λ z r. r; unread = λ k t r. r; unstarted = λ b r. r }
    all_said hosts (Does (Keeps kept) go) is_open is =
        record { hosted_all = tt; own = of_none m hosts; tree_now = is; same_reading = refl; same_may = refl; same_session = refl; all_sent = refl; unreleased = λ z r. r; unread = λ k t r. r; unstarted = λ b r. r }
    all_said hosts (Does (Sends message) go) is_open is =
        let next_hosts : Hosts = hosted c cast hosts (DoesAsk m (Sends message) true) in
        let there : (next_hosts.place m).tree ≡ Some (go true) =
        ap (λ (p : HostPlace). p.tree) (put_same hosts.place m _) ∙ ap (λ (o : Option TurnTree). went_on true o) is in
        let rest : AreSaid next_hosts (go true) = all_said next_hosts (go true) is_open there in
        record {
          hosted_all = (at_ask hosts (Sends message) true go is_open is, rest.hosted_all);
          own = of_both m hosts next_hosts (hosts_after c cast next_hosts (says (go true)))
              (record { same_now = refl; others = λ k ne. put_other hosts.place m k _ ne; still_sent = λ l h. inr h }) rest.own;
          tree_now = rest.tree_now;
          same_reading = rest.same_reading ∙ ap (λ (p : HostPlace). p.reading) (put_same hosts.place m _);
          same_may = rest.same_may ∙ ap (λ (p : HostPlace). p.may) (put_same hosts.place m _);
          same_session = rest.same_session ∙ ap (λ (p : HostPlace). p.session) (put_same hosts.place m _);
          all_sent = rest.all_sent;
          unreleased = λ z r. ⊎_elim (λ (x : ⊥). x) (rest.unreleased z) r;
          unread = λ k t r. ⊎_elim (λ (x : ⊥). x) (rest.unread k t) r;
          unstarted = λ b r. ⊎_elim (λ (x : ⊥). x) (rest.unstarted b) r;
        }
    all_said hosts (Does AsksElse go) is_open is =
        record { hosted_all = tt; own = of_none m hosts; tree_now = is; same_reading = refl; same_may = refl; same_session = refl; all_sent = refl; unreleased = λ z r. r; unread = λ k t r. r; unstarted = λ b r. r }
