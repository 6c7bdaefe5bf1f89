-- Renewals, deadlines, notes, starts, and what is heard by command, as steps of the member.
use Rattle.std.proofs.Common.{◌≡◌, ℕ, ◌+◌, ◌<◌, [], ◌∷◌, Bool, true, false, cond, ◌&&◌, ◌||◌, refl, sym, ap, ◌∙◌, inl, inr, arith}
use Rattle.std.specs.Prelude.{Option, Some, None, not, ◌==◌, nat_lt, nat_le, IsTrue, is_some}
use Rattle.std.proofs.lemmas.Bool.Decides.{nat_tests}
use Rattle.booth_base.specs.declared.address.MemberId.{MemberId}
use Rattle.booth_wire.specs.declared.message.Setup.{Setup}
use Rattle.booth_wire.specs.declared.message.Say.{Say}
use Rattle.booth_wire.specs.declared.message.Say.TheVariants as says
use Rattle.booth_wire.specs.declared.codes.reasons.TheConstants.{LOCF}
use Rattle.booth_raft.specs.declared.view.Role.{Role}
use Rattle.booth_raft.specs.declared.view.Role.TheVariants.{Follower, Working, Candidate, Leader}
use Rattle.booth_raft.specs.declared.view.Round.{Round as ViewRound}
use Rattle.booth_raft.specs.declared.view.Rule.TheVariants as rules
use Rattle.booth_raft.specs.declared.view.View.{View}
use Rattle.booth_raft.specs.Members.{is_candidate, is_leader, is_promised_elsewhere}
use Rattle.booth_raft.specs.Outcome.{Outcome, quiet}
use Rattle.booth_world.specs.Facts.{Facts}
use Rattle.booth_world.specs.States.{Pledge, KeptRecord, MemberState, Cluster, HasClocks, promise_time, expire_in}
use Rattle.booth_world.specs.Steps.{Starts}
use Rattle.booth_world.specs.Agreement.{seat, version_in, bound_kept, promise_kept, abstain_kept, bound_in, promise_in, record_in, Agrees}
use Rattle.booth_world.specs.Lives.{pledge_at_start, MayRead, GoesOn}
use Rattle.booth_world.proofs.LifeLaws.{named_read, within_at_start}
use Rattle.booth_world.specs.Messages.{IsSaid}
use Rattle.booth_world.specs.Gives.{LeadsTo, mark_of}
use Rattle.booth_world.proofs.Timely.{Works}
use Rattle.booth_world.proofs.Lists.{none_is}
use Rattle.booth_world.proofs.Invariant.{MemberGood, FactsGood}
use Rattle.booth_world.proofs.Views.{on_cond, on_test, SameParts, agrees_same, rests, IsPlaced, adds_none, unkept}
use Rattle.booth_wire.specs.declared.codes.reasons.TheConstants.{RACQ}
use Rattle.booth_raft.specs.declared.deed.Note.{Note}
use Rattle.booth_raft.specs.declared.deed.Note.TheVariants as notes
use Rattle.booth_raft.specs.AskAndRenew.{renew, renew_by_term, are_terms_spent, needs_term}
use Rattle.booth_raft.specs.Deadlines.{is_tried, candidate_due, resends_or_renews, leader_works, leader_due, follower_due, due_now, greeted, hello, is_sent_again, is_silent}
use Rattle.booth_raft.specs.GainReleaseLost.{own_end, round_ends, without_round}
use Rattle.booth_raft.specs.Members.{is_some_member}
use Rattle.booth_raft.specs.Messages.{asks_again, kind_of, round_head, round_part, shown_end}
use Rattle.booth_raft.specs.Notes.{noted}
use Rattle.booth_raft.specs.StartAndLearn.{holds_at_start, started}
use Rattle.booth_raft.proofs.FactsLemmas.{on_option}
use Rattle.booth_world.proofs.HearSteps.{LeadsToOutcome, untrue, unchanged}
use Rattle.booth_world.proofs.GainSteps.{first_of}
use Rattle.booth_world.proofs.OpenSteps.{round_said}
use Rattle.booth_world.proofs.HearSteps.{tries_record}
use Rattle.booth_world.proofs.AskSteps.{asks_term, bound_to_me}
use Rattle.booth_world.proofs.KeptSteps.{renews_in_term}

bound_true : (b d : Bool) → not b || d ≡ false → b ≡ true
bound_true true d e = refl
bound_true false d e = absurd (untrue (sym e))

-- what is due, by a role
abbrev due_by : Setup → View → ℕ → Role → Outcome
due_by setup view now role = elim role [
  | Follower ↦ follower_due setup view now
  | Working ↦ quiet view
  | Candidate ↦ candidate_due setup view now
  | Leader ↦ leader_due setup view now
]

-- the view of a start has the pledge of the record
record StartsAs (id_of : ℕ → MemberId) (promise_time reading : ℕ) (o : Option Pledge) (p : Pledge) : Type 0 where
  bound : cond (version_in o == 2) (bound_in id_of (bound_kept o)) None ≡ bound_in id_of p.bound
  promise : cond (version_in o == 2) (promise_in id_of (promise_kept o)) None ≡ promise_in id_of p.promise
  abstain : cond (version_in o == 2) (abstain_kept o) (reading + promise_time) ≡ p.abstain

starts_as : (id_of : ℕ → MemberId) (c : Cluster) (phase reading : ℕ) (o : Option Pledge) → StartsAs id_of (promise_time c phase) reading o (pledge_at_start c phase reading o)
starts_as id_of c phase reading None = record { bound = refl; promise = refl; abstain = refl }
starts_as id_of c phase reading (Some p) = record { bound = refl; promise = refl; abstain = refl }

module _ (c : Cluster) (id_of : ℕ → MemberId) (now m : ℕ) (ids : IsPlaced c id_of m) (setup : Setup) where
  -- a view that differs in parts that the world does not see
  pub stays : (f : Facts) (x : MemberState) (old new : View) (say : Say) → SameParts old new → Agrees c id_of f m old x → IsSaid id_of f m say
      → LeadsTo c id_of (mark_of now m x) f x (unkept id_of new say f x)
  stays f x old new say same a said = rests c id_of now m f x new say (agrees_same c id_of f m old new x same a) said

  -- ---- renew

  renews_by_term : (f : Facts) (x : MemberState) (view : View) → MemberGood c now f m x → view.waiting ≡ None → Agrees c id_of f m view x → c.is_site m ≡ true
      → LeadsToOutcome c id_of now m f x (renew_by_term (seat c id_of m x.second x.phase setup) view x.reading)
  renews_by_term f x view good none a site =
      on_cond (λ (q : Outcome). LeadsToOutcome c id_of now m f x q) (are_terms_spent view) _ _
      (stays f x view _ _ (record { term = refl; bound = refl; promise = refl; abstain = refl; kept = refl; round = inl refl; role = λ h. h; repeated = λ h. (h, refl); waiting = none }) a tt)
      (asks_term c id_of now m ids setup f x view RACQ good none a site)

  pub renews : HasClocks c → (f : Facts) (x : MemberState) → Works c now m x.phase → (view : View) → MemberGood c now f m x → FactsGood c now f → view.waiting ≡ None
      → Agrees c id_of f m view x → c.is_site m ≡ true → 0 < expire_in c x.phase
      → LeadsToOutcome c id_of now m f x (renew (seat c id_of m x.second x.phase setup) view x.reading)
  renews clocks f x works view good facts none a site lasts =
      on_option (λ (q : Outcome). LeadsToOutcome c id_of now m f x q) view.round _ _
      (λ e. renews_by_term f x view good none a site)
      (λ round open_so. on_test (λ (q : Outcome). LeadsToOutcome c id_of now m f x q) (needs_term (seat c id_of m x.second x.phase setup) view round) _ _
      (λ test. renews_by_term f x view good none a site)
      (λ test. on_cond (λ (q : Outcome). LeadsToOutcome c id_of now m f x q) (round.number == 4294967295) _ _
      (stays f x view _ _ (record { term = refl; bound = refl; promise = refl; abstain = refl; kept = refl; round = inl refl; role = λ h. h; repeated = λ h. (h, refl); waiting = none }) a tt)
      (renews_in_term c id_of now m ids setup clocks f x works view round good facts none a site open_so
      (bound_to_me c.members id_of ids.apart x.bound m a.within.bound_below ids.below (sym (ap (λ (b : Option MemberId). is_some_member b (id_of m)) a.bound) ∙ bound_true (is_some_member view.bound (id_of m)) (nat_lt view.term view.seen || (setup.steady && not round.won)) test)) lasts)))

  -- ---- deadlines

  -- an open round is said again
  said_again : (f : Facts) (x : MemberState) (view : View) (round : ViewRound) → MemberGood c now f m x → Agrees c id_of f m view x → view.round ≡ Some round
      → IsSaid id_of f m (asks_again (seat c id_of m x.second x.phase setup) view round x.reading)
  said_again f x view round good a open_so =
      let o = a.round round open_so in
      let r = good.round o.own o.open_at in
      round_said id_of f m (round_head (seat c id_of m x.second x.phase setup) view round.number) (round_part (seat c id_of m x.second x.phase setup) view x.reading) (kind_of round.number) (o.own, r.fact, o.site, r.same ∙ sym a.term, o.number)

  ends_round : (f : Facts) (x : MemberState) (view : View) → view.waiting ≡ None → Agrees c id_of f m view x → c.is_site m ≡ true
      → LeadsToOutcome c id_of now m f x (round_ends (seat c id_of m x.second x.phase setup) view x.reading)
  ends_round f x view none a site =
      tries_record c id_of now m setup f x (without_round view) rules.EndRound None
      (agrees_same c id_of f m view (without_round view) x
      (record { term = refl; bound = refl; promise = refl; abstain = refl; kept = refl; round = inr refl; role = λ h. absurd (untrue h); repeated = λ h. (h, refl); waiting = none }) a)
      tt site

  candidate : (f : Facts) (x : MemberState) (view : View) → MemberGood c now f m x → view.waiting ≡ None → Agrees c id_of f m view x → c.is_site m ≡ true
      → LeadsToOutcome c id_of now m f x (candidate_due (seat c id_of m x.second x.phase setup) view x.reading)
  candidate f x view good none a site =
      on_option (λ (q : Outcome). LeadsToOutcome c id_of now m f x q) view.round _ _
      (λ e. ends_round f x view none a site)
      (λ round open_so. on_cond (λ (q : Outcome). LeadsToOutcome c id_of now m f x q) (is_tried (seat c id_of m x.second x.phase setup) round x.reading) _ _
      (stays f x view _ _ (record { term = refl; bound = refl; promise = refl; abstain = refl; kept = refl; round = inl refl; role = λ h. h; repeated = λ h. (h, refl); waiting = none }) a
      (said_again f x view round good a open_so))
      (ends_round f x view none a site))

  resends : (f : Facts) (x : MemberState) (view : View) → MemberGood c now f m x → view.waiting ≡ None → Agrees c id_of f m view x
      → LeadsToOutcome c id_of now m f x (resends_or_renews (seat c id_of m x.second x.phase setup) view x.reading)
  resends f x view good none a =
      on_option (λ (q : Outcome). LeadsToOutcome c id_of now m f x q) view.round _ _
      (λ e. stays f x view _ _ (unchanged view none) a tt)
      (λ round open_so. on_cond (λ (q : Outcome). LeadsToOutcome c id_of now m f x q) (is_sent_again (seat c id_of m x.second x.phase setup) view round x.reading) _ _
      (stays f x view _ _ (record { term = refl; bound = refl; promise = refl; abstain = refl; kept = refl; round = inl refl; role = λ h. h; repeated = λ h. (h, refl); waiting = none }) a
      (said_again f x view round good a open_so))
      (stays f x view _ _ (unchanged view none) a tt))

  works : (f : Facts) (x : MemberState) (view : View) → MemberGood c now f m x → view.waiting ≡ None → Agrees c id_of f m view x → c.is_site m ≡ true
      → LeadsToOutcome c id_of now m f x (leader_works (seat c id_of m x.second x.phase setup) view x.reading)
  works f x view good none a site =
      on_cond (λ (q : Outcome). LeadsToOutcome c id_of now m f x q) (is_some view.job) _ _
      (tries_record c id_of now m setup f x (record view { job = None }) (rules.Release LOCF) None
      (agrees_same c id_of f m view _ x
      (record { term = refl; bound = refl; promise = refl; abstain = refl; kept = refl; round = inl refl; role = λ h. h; repeated = λ h. (h, refl); waiting = none }) a)
      tt site)
      (resends f x view good none a)

  leader : (f : Facts) (x : MemberState) (view : View) → MemberGood c now f m x → view.waiting ≡ None → Agrees c id_of f m view x → c.is_site m ≡ true
      → LeadsToOutcome c id_of now m f x (leader_due (seat c id_of m x.second x.phase setup) view x.reading)
  leader f x view good none a site =
      on_cond (λ (q : Outcome). LeadsToOutcome c id_of now m f x q) (nat_le (own_end view) x.reading) _ _
      (stays f x view _ _ (record { term = refl; bound = refl; promise = refl; abstain = refl; kept = refl; round = inr refl; role = λ h. absurd (untrue h); repeated = λ h. (h, refl); waiting = none }) a tt)
      (works f x view good none a site)

  follower : (f : Facts) (x : MemberState) (view : View) → view.waiting ≡ None → Agrees c id_of f m view x
      → LeadsToOutcome c id_of now m f x (follower_due (seat c id_of m x.second x.phase setup) view x.reading)
  follower f x view none a =
      on_test (λ (q : Outcome). LeadsToOutcome c id_of now m f x q) (nat_lt 0 view.repeat) _ _
      (λ test.
      let again : 0 < view.repeat = grind (arith, nat_tests) in
      stays f x view _ _ (record { term = refl; bound = refl; promise = refl; abstain = refl; kept = refl; round = inl refl; role = λ h. h; repeated = λ h. (again, refl); waiting = none }) a (a.repeated again))
      (λ test. on_cond (λ (q : Outcome). LeadsToOutcome c id_of now m f x q) (c.is_site m && view.managed) _ _
      (on_cond (λ (q : Outcome). LeadsToOutcome c id_of now m f x q) (nat_lt x.reading (shown_end view.shown)) _ _
      (stays f x view _ _ (record { term = refl; bound = refl; promise = refl; abstain = refl; kept = refl; round = inl refl; role = λ h. h; repeated = λ h. (h, refl); waiting = none }) a tt)
      (on_cond (λ (q : Outcome). LeadsToOutcome c id_of now m f x q) (is_silent (seat c id_of m x.second x.phase setup) view x.reading) _ _
      (stays f x view _ _ (record { term = refl; bound = refl; promise = refl; abstain = refl; kept = refl; round = inl refl; role = λ h. h; repeated = λ h. (h, refl); waiting = none }) a tt)
      (on_cond (λ (q : Outcome). LeadsToOutcome c id_of now m f x q) (is_promised_elsewhere view.promise (id_of m) x.reading) _ _
      (stays f x view _ _ (record { term = refl; bound = refl; promise = refl; abstain = refl; kept = refl; round = inl refl; role = λ h. h; repeated = λ h. (h, refl); waiting = none }) a tt)
      (stays f x view _ _ (record { term = refl; bound = refl; promise = refl; abstain = refl; kept = refl; round = inl refl; role = λ h. h; repeated = λ h. (h, refl); waiting = none }) a tt))))
      (stays f x view _ _ (record { term = refl; bound = refl; promise = refl; abstain = refl; kept = refl; round = inl refl; role = λ h. h; repeated = λ h. (h, refl); waiting = none }) a tt))

  pub ticks : (f : Facts) (x : MemberState) (view : View) → MemberGood c now f m x → view.waiting ≡ None → Agrees c id_of f m view x
      → LeadsToOutcome c id_of now m f x (due_now (seat c id_of m x.second x.phase setup) view x.reading)
  ticks f x view good none a = by_role view.role refl
    where
      by_role : (role : Role) → view.role ≡ role → LeadsToOutcome c id_of now m f x (due_by (seat c id_of m x.second x.phase setup) view x.reading role)
      by_role Follower e = follower f x view none a
      by_role Working e = stays f x view _ _ (unchanged view none) a tt
      by_role Candidate e = candidate f x view good none a (a.active (ap (λ (r : Role). is_candidate r || is_leader r) e))
      by_role Leader e = leader f x view good none a (a.active (ap (λ (r : Role). is_candidate r || is_leader r) e))

  -- ---- notes

  pub notes_it : (f : Facts) (x : MemberState) (view : View) (note : Note) → view.waiting ≡ None → Agrees c id_of f m view x
      → LeadsTo c id_of (mark_of now m x) f x (unkept id_of (noted (seat c id_of m x.second x.phase setup) view x.reading note) says.Nothing f x)
  notes_it f x view notes.Asked none a = stays f x view _ _ (record { term = refl; bound = refl; promise = refl; abstain = refl; kept = refl; round = inl refl; role = λ h. h; repeated = λ h. absurd (omega (arith, h)); waiting = none }) a tt
  notes_it f x view (notes.JobStarted job reason) none a =
      on_cond (λ (w : View). LeadsTo c id_of (mark_of now m x) f x (unkept id_of w says.Nothing f x)) (is_leader view.role) _ _
      (stays f x view _ _ (record { term = refl; bound = refl; promise = refl; abstain = refl; kept = refl; round = inl refl; role = λ h. h; repeated = λ h. (h, refl); waiting = none }) a tt)
      (stays f x view _ _ (record { term = refl; bound = refl; promise = refl; abstain = refl; kept = refl; round = inl refl; role = λ h. absurd (untrue h); repeated = λ h. (h, refl); waiting = none }) a tt)
  notes_it f x view notes.JobOver none a = stays f x view _ _ (record { term = refl; bound = refl; promise = refl; abstain = refl; kept = refl; round = inl refl; role = λ h. h; repeated = λ h. (h, refl); waiting = none }) a tt
  notes_it f x view notes.AskFailed none a = stays f x view _ _ (record { term = refl; bound = refl; promise = refl; abstain = refl; kept = refl; round = inl refl; role = λ h. absurd (untrue h); repeated = λ h. (h, refl); waiting = none }) a tt
  notes_it f x view notes.HandlerFailed none a = stays f x view _ _ (record { term = refl; bound = refl; promise = refl; abstain = refl; kept = refl; round = inl refl; role = λ h. absurd (untrue h); repeated = λ h. (h, refl); waiting = none }) a tt
  notes_it f x view notes.Unready none a = stays f x view _ _ (record { term = refl; bound = refl; promise = refl; abstain = refl; kept = refl; round = inl refl; role = λ h. h; repeated = λ h. (h, refl); waiting = none }) a tt

  -- ---- hello

  pub greets : (f : Facts) (x : MemberState) (view : View) → view.waiting ≡ None → Agrees c id_of f m view x
      → LeadsTo c id_of (mark_of now m x) f x (unkept id_of (greeted (seat c id_of m x.second x.phase setup) view) (hello (seat c id_of m x.second x.phase setup) view x.reading) f x)
  greets f x view none a =
      stays f x view _ _ (record { term = refl; bound = refl; promise = refl; abstain = refl; kept = refl; round = inl refl; role = λ h. h; repeated = λ h. (h, refl); waiting = none }) a
      (on_cond (λ (s : Say). IsSaid id_of f m s) view.hello _ _ tt tt)

  -- ---- start

  pub starts_with : (f : Facts) (x : MemberState) (kept : KeptRecord) (second : Bool) (phase : ℕ) → MemberGood c now f m x → x.up ≡ false → MayRead (c.is_site m) x.may kept
      → (c.goes_on ≡ true → GoesOn x.may kept) → (x.second ≡ true → second ≡ true)
      → LeadsTo c id_of (record (mark_of now m x) { second = second; phase = phase }) f x
      (record { view = started (seat c id_of m second phase setup) (record_in id_of kept) x.reading; say = says.Nothing; may = record_in id_of kept ∷ []; releases = f.releases })
  starts_with f x kept second phase good down read on stays = record {
    steps = Starts kept second phase ∷ [];
    starts_so = ((refl, refl), tt);
    run = (record { down = down; read = read; on = on; stays = stays }, tt);
    reached = record {
      agrees = record {
        up = refl;
        term = refl;
        bound = pledged.bound;
        promise = pledged.promise;
        abstain = pledged.abstain;
        within = within_at_start c phase x.reading kept.pledge (named_read c m x kept read good.pledges);
        kept = inl refl;
        round = λ r e. absurd (none_is r e);
        tried = λ w e. absurd (none_is w e);
        asked = λ w e. absurd (none_is w e);
        active = by_test (holds_at_start (seat c id_of m second phase setup) (record_in id_of kept) x.reading) (first_of (c.is_site m) _);
        repeated = λ h. absurd (omega (arith, h));
      };
      said = tt;
      may_now = refl;
      same_second = refl;
      same_phase = refl;
      same_reading = refl;
      same_at = refl;
    };
    adds = adds_none (record (mark_of now m x) { second = second; phase = phase }) f;
  }
    where
      pledged : StartsAs id_of (promise_time c phase) x.reading kept.pledge (pledge_at_start c phase x.reading kept.pledge)
      pledged = starts_as id_of c phase x.reading kept.pledge

      by_test : (b : Bool) → (b ≡ true → c.is_site m ≡ true) → IsTrue (is_candidate (cond b Leader Follower) || is_leader (cond b Leader Follower)) → c.is_site m ≡ true
      by_test true site h = site refl
      by_test false site h = absurd (untrue h)
