-- What the lease rules show and say of their own member as the ticket's leader is what its record's lease says.
use Rattle.std.proofs.Common.{◌≡◌, ◌⊎◌, inl, inr, ℕ, ◌+◌, ◌*◌, ◌<◌, Bool, true, false, refl, sym, ap, ◌∙◌, subst, arith, ◌&&◌}
use Rattle.std.specs.Prelude.{Option, Some, None, not, nat_le, nat_lt, ◌==◌, is_some, min, if◌then◌else◌}
use Rattle.std.specs.Option.{ForSome}
use Rattle.std.proofs.lemmas.Bool.Decides.{nat_tests}
use Rattle.booth_base.specs.declared.address.MemberId.{MemberId}
use Rattle.booth_base.specs.declared.address.TheConstants.{NO_ONE}
use Rattle.booth_rec.specs.declared.record.Record.{Record}
use Rattle.booth_rec.specs.Record.{lease_end}
use Rattle.booth_wire.specs.declared.codes.reasons.TheConstants.{LOCF, SPLT}
use Rattle.booth_wire.specs.declared.command.Cmd.{Cmd}
use Rattle.booth_wire.specs.declared.command.Cmd.TheVariants as cmds
use Rattle.booth_wire.specs.declared.message.Head.{Head}
use Rattle.booth_wire.specs.declared.message.TicketPart.{TicketPart}
use Rattle.booth_wire.specs.declared.message.Say.{Say}
use Rattle.booth_wire.specs.declared.message.Say.TheVariants as words
use Rattle.booth_wire.specs.declared.message.Setup.{Setup}
use Rattle.booth_raft.specs.declared.deed.Note.{Note}
use Rattle.booth_raft.specs.declared.deed.Note.TheVariants as notes
use Rattle.booth_raft.specs.declared.deed.Told.{Told}
use Rattle.booth_raft.specs.declared.deed.Told.TheVariants as tells
use Rattle.booth_raft.specs.declared.deed.Want.TheVariants as wants
use Rattle.booth_raft.specs.declared.view.Role.{Role}
use Rattle.booth_raft.specs.declared.view.Role.TheVariants.{Follower}
use Rattle.booth_raft.specs.declared.view.Round.{Round}
use Rattle.booth_raft.specs.declared.view.RoundKind.{RoundKind}
use Rattle.booth_raft.specs.declared.view.RoundKind.TheVariants.{Election, Renewal}
use Rattle.booth_raft.specs.declared.view.Rule.{Rule}
use Rattle.booth_raft.specs.declared.view.Rule.TheVariants as rules
use Rattle.booth_raft.specs.declared.view.Shown.{Shown}
use Rattle.booth_raft.specs.declared.view.TheConstants.{LAST_NUMBER}
use Rattle.booth_raft.specs.declared.view.View.{View}
use Rattle.booth_raft.specs.declared.view.Waiting.{Waiting}
use Rattle.booth_raft.specs.AskAndRenew.{answers_itself, are_terms_spent, ask, asked_all, asking, begin_round, bound_itself, in_next_term, needs_term, new_round, own_answer, promised_itself, renew, renew_by_term, with_own_promise, with_round}
use Rattle.booth_raft.specs.Deadlines.{candidate_due, due_now, follower_due, is_tried, leader_due, resends_or_renews, waits_or_acquires, is_sent_again, is_silent}
use Rattle.booth_raft.specs.GainReleaseLost.{gain, lease_record, lost, own_end, release, round_ends}
use Rattle.booth_raft.specs.Members.{is_candidate, is_follower, is_leader, is_majority, is_promised_elsewhere, is_same}
use Rattle.booth_raft.specs.Messages.{owner_now, part_of, round_part, shown_end, state_part}
use Rattle.booth_raft.specs.Notes.{noted}
use Rattle.booth_raft.specs.Numbers.{seconds_left}
use Rattle.booth_raft.specs.OtherMessages.{freed, hear, is_bound_elsewhere, is_freed_by, is_owner, refused, revoked, unasking}
use Rattle.booth_raft.specs.Outcome.{Outcome, keeping, quiet}
use Rattle.booth_raft.specs.RoundsAndAnswers.{answered_round, hear_answer, hear_round, is_answer_to, may_answer, promised, shows_site, stood_down, told_by_answer, wins, with_answer, with_site}
use Rattle.booth_raft.specs.StartAndLearn.{awaits_failover, learned, shows_leader, with_seen, with_shown}
use Rattle.booth_raft.proofs.AnswerLemmas.{same-is_same}
use Rattle.booth_raft.proofs.FactsLemmas.{on_active, on_cond, on_option, on_role, on_test}
use Rattle.booth_world.proofs.Lists.{none_is, some_same}

-- ---- what is to be shown

-- where what is shown is this member, its end is that of the record's lease
abbrev pub OwnShown : MemberId → Record → Option Shown → Type 0
OwnShown me kept shown = ForSome shown (λ x. x.owner ≡ me → x.until ≡ lease_end kept.lease)

-- where a part names this member as the leader, with seconds left, these are the seconds to the end of its lease
abbrev pub IsBorne : MemberId → ℕ → ℕ → TicketPart → Type 0
IsBorne me end now part =
    part.leader ≡ me → 0 < part.valid_for → (now < end) × (part.valid_for ≡ seconds_left end now)

abbrev pub AreBorne : MemberId → ℕ → ℕ → Say → Type 0
AreBorne me end now words.Nothing = Unit {0}
AreBorne me end now (words.Reply head part) = IsBorne me end now part
AreBorne me end now (words.All head part) = IsBorne me end now part
AreBorne me end now (words.Unanswered head part bits) = IsBorne me end now part

-- clients are told that the lease was gained, and kept
abbrev pub IsGained : Told → Type 0
IsGained (tells.Gained true) = Unit {0}
IsGained told = ⊥

-- what is known of a rule that waits for a keep
abbrev pub MayGoOn : ℕ → Record → Rule → Record → Type 0
MayGoOn now kept rules.Gain tried = (kept ≡ tried) × (now < lease_end kept.lease)
MayGoOn now kept (rules.Ask reason) tried = lease_end tried.lease ≡ lease_end kept.lease
MayGoOn now kept (rules.Release reason) tried = Unit {0}
MayGoOn now kept rules.EndRound tried = Unit {0}
MayGoOn now kept (rules.Answer kind to number request told) tried =
    (lease_end tried.lease ≡ lease_end kept.lease) × (IsGained told → ⊥)
MayGoOn now kept (rules.Renew number) tried = lease_end tried.lease ≡ lease_end kept.lease

abbrev pub IsReady : ℕ → Record → Option Record → Option Waiting → Type 0
IsReady now kept None waiting = waiting ≡ None
IsReady now kept (Some tried) None = ⊥
IsReady now kept (Some tried) (Some w) = (w.tried ≡ tried) × MayGoOn now kept w.rule w.tried

-- the view's record is one that was kept, or is the one that is to be kept
abbrev pub Tracks : Record → Option Record → Record → Type 0
Tracks base None kept = kept ≡ base
Tracks base (Some tried) kept = (kept ≡ base) ⊎ (kept ≡ tried)

-- what an outcome shows and says is borne out by the record that was kept
pub record Shows (s : Setup) (now : ℕ) (base : Record) (Q : Type 0) (o : Outcome) : Type 0 where
  pub own : OwnShown s.me o.view.kept o.view.shown
  pub track : Tracks base o.deed.keep o.view.kept
  pub said : AreBorne s.me (lease_end base.lease) now o.deed.say
  pub told : IsGained o.deed.told → (now < lease_end base.lease) × Q
  pub waits : IsReady now o.view.kept o.deed.keep o.view.waiting
  pub wants : (o.deed.keep ≡ None) ⊎ (o.deed.want ≡ wants.Nothing)
  pub trusted : o.deed.keep ≡ None → o.view.sure ≡ true → Q

-- a view at rest
pub record IsCalm (s : Setup) (base : Record) (Q : Type 0) (view : View) : Type 0 where
  pub own : OwnShown s.me view.kept view.shown
  pub same : view.kept ≡ base
  pub rests : view.waiting ≡ None
  pub trusted : view.sure ≡ true → Q

pub for_this : {A : Type 0} (P : A → Type 0) (y : A) → P y → ForSome (Some y) P
for_this P y p x e = subst P (some_same y x e) p

pub for_none : {A : Type 0} (P : A → Type 0) → ForSome None P
for_none P x e = absurd (none_is x e)

none_left : (now end : ℕ) → end < now + 1 → 0 < seconds_left end now → ⊥
none_left now end over some = omega (arith, over, some)

pub some_left : (now end : ℕ) → 0 < seconds_left end now → now < end
some_left now end some = omega (arith, some)

module _ (s : Setup) (now : ℕ) (base : Record) (Q : Type 0) where
  abbrev pub end_of : ℕ
  end_of = lease_end base.lease

  pub state_borne : (view : View) → IsCalm s base Q view → IsBorne s.me end_of now (state_part s view now)
  state_borne view calm leads some = by_shown view.shown calm.own leads some
    where
      by_shown : (o : Option Shown) → OwnShown s.me view.kept o → owner_now o now ≡ s.me → 0 < seconds_left (shown_end o) now
          → (now < end_of) × (seconds_left (shown_end o) now ≡ seconds_left end_of now)
      by_shown None own e left = absurd (none_left now 0 (omega arith) left)
      by_shown (Some x) own e left = by_time (nat_lt now x.until) refl e
        where
          by_time : (b : Bool) → nat_lt now x.until ≡ b → (if b then x.owner else NO_ONE) ≡ s.me
              → (now < end_of) × (seconds_left x.until now ≡ seconds_left end_of now)
          by_time true live is =
              let until : x.until ≡ end_of = own x refl is ∙ ap (λ (r : Record). lease_end r.lease) calm.same in
              (subst (λ (n : ℕ). now < n) until (some_left now x.until left), ap (λ (n : ℕ). seconds_left n now) until)
          by_time false over is = absurd (none_left now x.until (grind (arith, nat_tests)) left)

  round_borne : (view : View) → view.kept ≡ base → IsBorne s.me end_of now (round_part s view now)
  round_borne view same leads some =
      let until : lease_end view.kept.lease ≡ end_of = ap (λ (r : Record). lease_end r.lease) same in
      (subst (λ (n : ℕ). now < n) until (some_left now (lease_end view.kept.lease) some), ap (λ (n : ℕ). seconds_left n now) until)

  pub nothing_left : (part : TicketPart) → part.valid_for ≡ 0 → IsBorne s.me end_of now part
  nothing_left part none leads some = absurd (omega (arith, none, some))

  -- ---- outcomes

  -- nothing is kept
  pub calmly : (o : Outcome) → IsCalm s base Q o.view → o.deed.keep ≡ None → AreBorne s.me end_of now o.deed.say
      → (IsGained o.deed.told → (now < end_of) × Q) → Shows s now base Q o
  calmly o calm none said told = record {
    own = calm.own;
    track = subst (λ (k : Option Record). Tracks base k o.view.kept) (sym none) calm.same;
    said = said;
    told = told;
    waits = subst (λ (k : Option Record). IsReady now o.view.kept k o.view.waiting) (sym none) calm.rests;
    wants = inl none;
    trusted = λ e. calm.trusted;
  }

  pub quietly : (view : View) → IsCalm s base Q view → Shows s now base Q (quiet view)
  quietly view calm = calmly (quiet view) calm refl tt (λ e. absurd e)

  -- a record is to be kept, and the view has its own still
  tries : (view : View) (rule : Rule) (tried : Record) → IsCalm s base Q view → MayGoOn now view.kept rule tried
      → Shows s now base Q (keeping view rule tried now)
  tries view rule tried calm may = record {
    own = calm.own;
    track = inl calm.same;
    said = tt;
    told = λ e. absurd e;
    waits = (refl, may);
    wants = inr refl;
    trusted = λ e sure. absurd (none_is tried (sym e));
  }

  gains : (view : View) (round : Round) → now < round.opened + s.times.expire → Shows s now base Q (gain s view round now)
  gains view round early = record {
    own = for_this (λ (x : Shown). x.owner ≡ s.me → x.until ≡ round.opened + s.times.expire)
        (record { owner = s.me; until = round.opened + s.times.expire }) (λ own. refl);
    track = inr refl;
    said = tt;
    told = λ e. absurd e;
    waits = (refl, (refl, early));
    wants = inr refl;
    trusted = λ e sure. absurd (none_is (lease_record s view round) (sym e));
  }

  -- ---- what is heard

  pub calm_if : (b : Bool) (x y : View) → IsCalm s base Q x → IsCalm s base Q y → IsCalm s base Q (if b then x else y)
  calm_if b x y p q = on_cond (IsCalm s base Q) b x y p q

  module _ (view : View) (calm : IsCalm s base Q view) where
    shows_other : (owner : MemberId) (until : ℕ) → (owner ≡ s.me → ⊥) → IsCalm s base Q (with_shown view owner until)
    shows_other owner until other = record {
      own = for_this (λ (x : Shown). x.owner ≡ s.me → x.until ≡ lease_end view.kept.lease) (record { owner = owner; until = until })
          (λ own. absurd (other own));
      same = calm.same;
      rests = calm.rests;
      trusted = calm.trusted;
    }

    pub in_parts : (other : View) → other.shown ≡ view.shown → other.kept ≡ view.kept → other.waiting ≡ view.waiting → other.sure ≡ view.sure → IsCalm s base Q other
    in_parts other shown kept waiting sure = record {
      own = subst (λ (o : Option Shown). OwnShown s.me other.kept o) (sym shown)
          (subst (λ (r : Record). OwnShown s.me r view.shown) (sym kept) calm.own);
      same = kept ∙ calm.same;
      rests = waiting ∙ calm.rests;
      trusted = λ e. calm.trusted (sym sure ∙ e);
    }

    pub nobody_shown : (other : View) → other.shown ≡ None → other.kept ≡ view.kept → other.waiting ≡ view.waiting → other.sure ≡ view.sure → IsCalm s base Q other
    nobody_shown other shown kept waiting sure = record {
      own = subst (λ (o : Option Shown). OwnShown s.me other.kept o) (sym shown)
          (for_none (λ (x : Shown). x.owner ≡ s.me → x.until ≡ lease_end other.kept.lease));
      same = kept ∙ calm.same;
      rests = waiting ∙ calm.rests;
      trusted = λ e. calm.trusted (sym sure ∙ e);
    }

  answered_calm : (view : View) (site : MemberId) (kind : RoundKind) (part : TicketPart) → (site ≡ s.me → ⊥) → IsCalm s base Q view
      → IsCalm s base Q (answered_round s view site kind part now)
  answered_calm view site kind part other calm =
      let bound : View = promised s view site part.term now in
      let first : IsCalm s base Q bound = in_parts view calm bound refl refl refl refl in
      let still : View = stood_down bound in
      let second : IsCalm s base Q still =
      on_active (IsCalm s base Q) bound.role (record bound { role = Follower; round = None }) (record bound { round = None }) bound
      (in_parts view calm _ refl refl refl refl) (in_parts view calm _ refl refl refl refl) (λ rests. first) in
      let third : IsCalm s base Q (with_site still site kind part now) =
      calm_if (shows_site kind part) (with_shown still site (now + 1000 * part.valid_for)) still
      (shows_other still second site (now + 1000 * part.valid_for) other) second in
      calm_if (awaits_failover s (with_site still site kind part now) && (with_site still site kind part now).managed) _
      (with_site still site kind part now) (in_parts (with_site still site kind part now) third _ refl refl refl refl) third

  never_gained : (role : Role) → IsGained (told_by_answer role) → ⊥
  never_gained role = on_cond (λ (t : Told). IsGained t → ⊥) (is_candidate role) tells.RoundFailed tells.Nothing (λ e. e) (λ e. e)

  hears_round : (view : View) (kind : RoundKind) (head : Head) (part : TicketPart) → (head.from ≡ s.me → ⊥) → IsCalm s base Q view
      → Shows s now base Q (hear_round s view kind head part now)
  hears_round view kind head part other calm =
      let after : View = answered_round s view head.from kind part now in
      let so : IsCalm s base Q after = answered_calm view head.from kind part other calm in
      on_cond (Shows s now base Q) (may_answer view head.from part.term now) _ _
      (on_cond (Shows s now base Q) s.second _ _
      (tries after (rules.Answer kind head.from head.options head.request (told_by_answer view.role)) _ so (refl, never_gained view.role))
      (calmly _ so refl (nothing_left (part_of s head.from part.term 0) refl) (λ e. absurd (never_gained view.role e))))
      (calmly _ calm refl (state_borne view calm) (λ e. absurd e))

  wins_early : (round : Round) → wins s round now ≡ true → now < round.opened + s.times.expire
  wins_early round e = by_tests (is_majority s round.answers) (not round.won) (nat_lt now (round.opened + s.times.expire)) refl e
    where
      by_tests : (a b d : Bool) → nat_lt now (round.opened + s.times.expire) ≡ d → a && b && d ≡ true → now < round.opened + s.times.expire
      by_tests true true true is h = grind (arith, nat_tests)
      by_tests true true false is h = absurd (cc)
      by_tests true false d is h = absurd (cc)
      by_tests false b d is h = absurd (cc)

  hears_answer : (view : View) (place : ℕ) (head : Head) (part : TicketPart) → IsCalm s base Q view
      → Shows s now base Q (hear_answer s view place head part now)
  hears_answer view place head part calm =
      on_option (Shows s now base Q) view.round _ _ (λ none. quietly view calm)
      (λ round is.
      on_cond (Shows s now base Q) (is_answer_to s round head part) _ _
      (on_test (Shows s now base Q) (wins s (with_answer round place) now) _ _
      (λ e. gains (record view { round = Some (with_answer round place) }) (with_answer round place) (wins_early (with_answer round place) e))
      (λ e. quietly _ (in_parts view calm _ refl refl refl refl)))
      (quietly view calm))

  leads_other : (view : View) (part : TicketPart) → shows_leader s view part now ≡ true → part.leader ≡ s.me → ⊥
  leads_other view part shows same =
      by_test (is_same part.leader NO_ONE) (is_same part.leader s.me) (nat_lt 0 part.valid_for) (nat_le view.term part.term)
      (nat_le view.force now) (same-is_same part.leader s.me same) shows
    where
      by_test : (a b c d e : Bool) → b ≡ true → not a && not b && c && d && e ≡ true → ⊥
      by_test true b c d e is h = cc
      by_test false true c d e is h = cc
      by_test false false c d e is h = cc

  learned_calm : (view : View) (part : TicketPart) → IsCalm s base Q view → IsCalm s base Q (learned s view part now)
  learned_calm view part calm =
      let seen : View = with_seen view part.term in
      let seen_so : IsCalm s base Q seen = in_parts view calm seen refl refl refl refl in
      on_test (IsCalm s base Q) (shows_leader s view part now) _ seen
      (λ e.
      let shown : View = with_shown seen part.leader (now + 1000 * part.valid_for) in
      let so : IsCalm s base Q shown = shows_other seen seen_so part.leader (now + 1000 * part.valid_for) (leads_other view part e) in
      calm_if (awaits_failover s shown) _ shown (in_parts shown so _ refl refl refl refl) so)
      (λ e. seen_so)

  revoked_calm : (view : View) (site : MemberId) (term reason : ℕ) → IsCalm s base Q view → IsCalm s base Q (revoked s view site term reason now)
  revoked_calm view site term reason calm =
      let free : View = freed view site term in
      let so : IsCalm s base Q free =
      calm_if (is_freed_by view.promise site term) (record view { promise = None }) view (in_parts view calm _ refl refl refl refl) calm in
      let hidden : View = record free { shown = None } in
      let hides : IsCalm s base Q hidden = nobody_shown free so hidden refl refl refl refl in
      calm_if (nat_le view.term term && is_owner view.shown site && not (reason == SPLT)) _ free
      (calm_if (reason == LOCF) _ _
      (calm_if (is_follower hidden.role && s.site) _ hidden (in_parts hidden hides _ refl refl refl refl) hides)
      (calm_if (is_follower hidden.role && hidden.repeat == 0) _ _ (in_parts hidden hides _ refl refl refl refl) (in_parts hidden hides _ refl refl refl refl)))
      so

  pub heard_shows : (view : View) (place : ℕ) (head : Head) (part : TicketPart) (cmd : Cmd) → (head.from ≡ s.me → ⊥) → IsCalm s base Q view
      → Shows s now base Q (hear s view place head part now cmd)
  heard_shows view place head part cmd other calm = by_cmd cmd
    where
      seen : IsCalm s base Q (with_seen view part.term)
      seen = in_parts view calm _ refl refl refl refl

      learns : IsCalm s base Q (learned s view part now)
      learns = learned_calm view part calm

      refuses : IsCalm s base Q (refused s view head part)
      refuses =
          calm_if (s.steady && is_bound_elsewhere view.round head part) (with_seen view (min (view.term + 1) 4294967295)) view
          (in_parts view calm _ refl refl refl refl) calm

      unasks : IsCalm s base Q (unasking s (with_seen view part.term) head.reason)
      unasks =
          calm_if (s.steady && not (head.reason == SPLT)) (record (with_seen view part.term) { hello = false }) (with_seen view part.term)
          (in_parts view calm _ refl refl refl refl) seen

      by_cmd : (cmd : Cmd) → Shows s now base Q (hear s view place head part now cmd)
      by_cmd cmds.RVot =
          on_cond (Shows s now base Q) (head.options == 0) _ _ (hears_round (with_seen view part.term) Election head part other seen) (quietly _ seen)
      by_cmd cmds.HrtB =
          on_cond (Shows s now base Q) (head.options == 0) _ _ (quietly _ seen) (hears_round (with_seen view part.term) Renewal head part other seen)
      by_cmd cmds.VtFr =
          on_cond (Shows s now base Q) (head.options == 0) _ _ (hears_answer (with_seen view part.term) place head part seen) (quietly _ seen)
      by_cmd cmds.Ack =
          on_cond (Shows s now base Q) (head.options == 0) _ _ (quietly _ seen) (hears_answer (with_seen view part.term) place head part seen)
      by_cmd cmds.Stat = calmly _ learns refl (state_borne (learned s view part now) learns) (λ e. absurd e)
      by_cmd cmds.MIdx = quietly _ learns
      by_cmd cmds.Rjc = quietly _ (learned_calm (refused s view head part) part refuses)
      by_cmd cmds.UpdE = quietly _ learns
      by_cmd cmds.Revk = quietly _ (revoked_calm (unasking s (with_seen view part.term) head.reason) head.from part.term head.reason unasks)
      by_cmd cmds.CLst = quietly view calm
      by_cmd cmds.CTkt = quietly view calm
      by_cmd cmds.Peer = quietly view calm
      by_cmd cmds.CGnt = quietly view calm
      by_cmd cmds.CRvk = quietly view calm
      by_cmd cmds.ASet = quietly view calm
      by_cmd cmds.AGet = quietly view calm
      by_cmd cmds.ADel = quietly view calm
      by_cmd cmds.ALst = quietly view calm
      by_cmd cmds.RLst = quietly view calm
      by_cmd cmds.RTkt = quietly view calm
      by_cmd cmds.RPer = quietly view calm
      by_cmd cmds.RALs = quietly view calm
      by_cmd cmds.RGnt = quietly view calm
      by_cmd cmds.RRvk = quietly view calm
      by_cmd cmds.RAtr = quietly view calm

  -- ---- rounds are opened

  module _ (lasts : 0 < s.times.expire) where
    promised_calm : (view : View) → IsCalm s base Q view → IsCalm s base Q (promised_itself s view now)
    promised_calm view calm =
        calm_if (answers_itself s view now) (with_own_promise s view now) view (in_parts view calm _ refl refl refl refl) calm

    pub begins : (view : View) (number : ℕ) → IsCalm s base Q view → Shows s now base Q (begin_round s view number now)
    begins view number calm =
        let promises : IsCalm s base Q (promised_itself s view now) = promised_calm view calm in
        let open_view : View = with_round s view number now in
        let opens : IsCalm s base Q open_view = in_parts (promised_itself s view now) promises open_view refl refl refl refl in
        let asked : IsCalm s base Q (asked_all s open_view now) =
        calm_if (is_leader open_view.role) _ _ (in_parts open_view opens _ refl refl refl refl) (in_parts open_view opens _ refl refl refl refl) in
        on_cond (Shows s now base Q) (is_majority s (own_answer s view now)) _ _
        (gains open_view (new_round s view number now) (omega (arith, lasts)))
        (calmly _ asked refl (round_borne open_view opens.same) (λ e. absurd e))

    asking_calm : (view : View) (reason : ℕ) → IsCalm s base Q view → IsCalm s base Q (asking s view reason now)
    asking_calm view reason calm =
        let next : View = in_next_term view reason in
        let so : IsCalm s base Q next = in_parts view calm next refl refl refl refl in
        calm_if s.second (bound_itself s next now) next
        (calm_if (answers_itself s next now) _ next (in_parts next so _ refl refl refl refl) so) so

    pub asked_shows : (view : View) (reason : ℕ) → IsCalm s base Q view → Shows s now base Q (ask s view reason now)
    asked_shows view reason calm =
        let so : IsCalm s base Q (asking s view reason now) = asking_calm view reason calm in
        tries (asking s view reason now) (rules.Ask reason) _ so
        (ap (λ (r : Record). lease_end r.lease) (calm.same ∙ sym so.same))

    renews_by_term : (view : View) → IsCalm s base Q view → Shows s now base Q (renew_by_term s view now)
    renews_by_term view calm =
        on_cond (Shows s now base Q) (are_terms_spent view) _ _ (quietly _ (in_parts view calm _ refl refl refl refl)) (asked_shows view _ calm)

    pub renewed_shows : (view : View) → IsCalm s base Q view → Shows s now base Q (renew s view now)
    renewed_shows view calm =
        on_option (Shows s now base Q) view.round _ _ (λ none. renews_by_term view calm)
        (λ round is.
        on_cond (Shows s now base Q) (needs_term s view round) _ _ (renews_by_term view calm)
        (on_cond (Shows s now base Q) (round.number == LAST_NUMBER) _ _ (quietly _ (in_parts view calm _ refl refl refl refl))
        (on_cond (Shows s now base Q) (s.second && answers_itself s view now) _ _
        (tries (with_own_promise s view now) (rules.Renew (round.number + 1)) _ (in_parts view calm _ refl refl refl refl) refl)
        (begins view (round.number + 1) calm))))

    pub released_shows : (view : View) (reason : ℕ) → IsCalm s base Q view → Shows s now base Q (release s view reason now)
    released_shows view reason calm = tries view (rules.Release reason) _ calm tt

    pub lost_calm : (view : View) → IsCalm s base Q view → IsCalm s base Q (lost s view now)
    lost_calm view calm = nobody_shown view calm _ refl refl refl refl

    pub noted_calm : (view : View) (note : Note) → IsCalm s base Q view → IsCalm s base Q (noted s view now note)
    noted_calm view notes.Asked calm = in_parts view calm _ refl refl refl refl
    noted_calm view (notes.JobStarted job reason) calm =
        calm_if (is_leader view.role) _ _ (in_parts view calm _ refl refl refl refl) (in_parts view calm _ refl refl refl refl)
    noted_calm view notes.JobOver calm = in_parts view calm _ refl refl refl refl
    noted_calm view notes.AskFailed calm = in_parts view calm _ refl refl refl refl
    noted_calm view notes.HandlerFailed calm = in_parts view calm _ refl refl refl refl
    noted_calm view notes.Unready calm = in_parts view calm _ refl refl refl refl

    -- ---- deadlines

    ends_round : (view : View) → IsCalm s base Q view → Shows s now base Q (round_ends s view now)
    ends_round view calm = tries _ rules.EndRound _ (in_parts view calm _ refl refl refl refl) tt

    candidates : (view : View) → IsCalm s base Q view → Shows s now base Q (candidate_due s view now)
    candidates view calm =
        on_option (Shows s now base Q) view.round _ _ (λ none. ends_round view calm)
        (λ round is. on_cond (Shows s now base Q) (is_tried s round now) _ _
        (calmly _ (in_parts view calm _ refl refl refl refl) refl (round_borne view calm.same) (λ e. absurd e)) (ends_round view calm))

    resends : (view : View) → IsCalm s base Q view → Shows s now base Q (resends_or_renews s view now)
    resends view calm =
        on_option (Shows s now base Q) view.round _ _ (λ none. calmly _ calm refl tt (λ e. absurd e))
        (λ round is. on_cond (Shows s now base Q) (is_sent_again s view round now) _ _
        (calmly _ (in_parts view calm _ refl refl refl refl) refl (round_borne view calm.same) (λ e. absurd e))
        (calmly _ calm refl tt (λ e. absurd e)))

    leaders : (view : View) → IsCalm s base Q view → Shows s now base Q (leader_due s view now)
    leaders view calm =
        on_cond (Shows s now base Q) (nat_le (own_end view) now) _ _ (calmly _ (lost_calm view calm) refl tt (λ e. absurd e))
        (on_cond (Shows s now base Q) (is_some view.job) _ _
        (released_shows (record view { job = None }) LOCF (in_parts view calm _ refl refl refl refl)) (resends view calm))

    acquires : (view : View) → IsCalm s base Q view → Shows s now base Q (waits_or_acquires s view now)
    acquires view calm =
        on_cond (Shows s now base Q) (nat_lt now (shown_end view.shown)) _ _ (quietly _ (in_parts view calm _ refl refl refl refl))
        (on_cond (Shows s now base Q) (is_silent s view now) _ _ (quietly _ (in_parts view calm _ refl refl refl refl))
        (on_cond (Shows s now base Q) (is_promised_elsewhere view.promise s.me now) _ _ (quietly _ (in_parts view calm _ refl refl refl refl))
        (calmly _ (nobody_shown view calm _ refl refl refl refl) refl tt (λ e. absurd e))))

    followers : (view : View) → IsCalm s base Q view → Shows s now base Q (follower_due s view now)
    followers view calm =
        on_cond (Shows s now base Q) (nat_lt 0 view.repeat) _ _
        (calmly _ (in_parts view calm _ refl refl refl refl) refl (nothing_left (part_of s NO_ONE view.repeat_term 0) refl) (λ e. absurd e))
        (on_cond (Shows s now base Q) (s.site && view.managed) _ _ (acquires view calm) (quietly _ (in_parts view calm _ refl refl refl refl)))

    pub due_shows : (view : View) → IsCalm s base Q view → Shows s now base Q (due_now s view now)
    due_shows view calm =
        on_role (Shows s now base Q) view.role _ _ _ _ (followers view calm) (quietly view calm) (candidates view calm) (leaders view calm)
