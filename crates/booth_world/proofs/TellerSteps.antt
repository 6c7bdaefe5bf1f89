-- What an automatic ticket's steps say of its own member, and tell those that wait, is what its record's lease says.
use Rattle.std.proofs.Common.{◌≡◌, ◌⊎◌, inl, inr, ⊎_elim, ℕ, ◌<◌, ◌/◌, Bool, true, false, List, [], ◌∷◌, refl, sym, ap, ◌∙◌, subst, arith}
use Rattle.std.specs.Prelude.{Option, Some, None, if◌then◌else◌}
use Rattle.booth_base.specs.Tree.{Deeds, Ends, Does, ◌>>=◌, each}
use Rattle.booth_rec.specs.declared.record.Record.{Record}
use Rattle.booth_rec.specs.Record.{lease_end}
use Rattle.booth_wire.specs.declared.codes.results.TheConstants.{FAIL, PEND, SUCCESS, XPRG}
use Rattle.booth_wire.specs.declared.command.Cmd.{Cmd}
use Rattle.booth_wire.specs.declared.command.Cmd.TheVariants.{RGnt}
use Rattle.booth_wire.specs.declared.command.Direction.TheVariants.{BetweenMembers}
use Rattle.booth_wire.specs.declared.message.Head.{Head}
use Rattle.booth_wire.specs.declared.message.TicketPart.{TicketPart}
use Rattle.booth_wire.specs.declared.message.Say.{Say as Words}
use Rattle.booth_wire.specs.declared.message.Say.TheVariants as words
use Rattle.booth_wire.specs.declared.message.Setup.{Setup}
use Rattle.booth_wire.specs.Command.{direction_of}
use Rattle.booth_raft.specs.declared.deed.Told.{Told}
use Rattle.booth_raft.specs.declared.deed.Told.TheVariants as tells
use Rattle.booth_raft.specs.declared.view.View.{View}
use Rattle.booth_raft.specs.declared.view.Waiting.{Waiting}
use Rattle.booth_raft.specs.AskAndRenew.{finish}
use Rattle.booth_raft.specs.Messages.{head_of, state_part}
use Rattle.booth_raft.specs.Numbers.{seconds_left}
use Rattle.booth_raft.specs.Outcome.{Outcome}
use Rattle.booth_raft.specs.Speech.{IsOwn, IsSpeech, Speaks}
use Rattle.booth_raft.specs.State.{State, Step, step}
use Rattle.booth_raft.proofs.SpeechLemmas.{rules_speak}
use Rattle.booth_ticket.specs.declared.waiters.Waiter.{Waiter}
use Rattle.booth_ticket.specs.Acts.{Ask, Keep, Say, Start}
use Rattle.booth_ticket.specs.Keeping.{carry_out, keep_of, keep_once}
use Rattle.booth_ticket.specs.Requests.{reply}
use Rattle.booth_ticket.specs.Saying.{others, places_in, say, say_each, say_to}
use Rattle.booth_ticket.specs.Ticket.{Automatic, Known, Manual, TicketLeft}
use Rattle.booth_ticket.specs.Waiting.{Left, result_for, tell, tell_each, tell_one, tell_result}
use Rattle.booth_node.specs.Records.{Has}
use Rattle.booth_world.proofs.Lists.{none_is, some_same}
use Rattle.booth_world.proofs.TellerRules.{AreBorne, IsBorne, IsCalm, IsGained, IsReady, Shows, Tracks, state_borne}
use Rattle.booth_world.proofs.TellerKeeps.{answered_failed, answered_kept}
use Rattle.booth_world.proofs.TurnKeeps.{IsGainAtMost, second_gains, third_keeps_nothing}

-- ---- what deeds tell

-- one record alone may be kept, so it is kept; and it has a lease that ends after now
abbrev pub HasLease : ℕ → List Record → Type 0
HasLease now may = (k : Record) × (may ≡ k ∷ []) × (now < lease_end k.lease)

-- what is said of this member as the leader is borne out by one of these records, and so is a grant that was done
abbrev pub IsTrueOf : Setup → ℕ → List Record → Head → TicketPart → Type 0
IsTrueOf s now may head part =
    (part.leader ≡ s.me → 0 < part.valid_for
    → (k : Record) × Has may k × (now < lease_end k.lease) × (part.valid_for ≡ seconds_left (lease_end k.lease) now))
    × (head.cmd ≡ RGnt → head.result ≡ SUCCESS → HasLease now may)

-- a handler is told the end of one of these records' leases
abbrev pub IsTrueJob : List Record → ℕ → Type 0
IsTrueJob may expires = 0 < expires → (k : Record) × Has may k × (lease_end k.lease / 1000 ≡ expires)

-- All that these deeds tell is borne out by the records that may be kept then; and of these and of what is left P
-- holds.
abbrev pub Honest : {V : Type 0} → Setup → ℕ → (List Record → V → Type 0) → List Record → Deeds Ask V → Type 0
Honest s now P may (Ends left) = P may left
Honest s now P may (Does (Say to head part) go) = IsTrueOf s now may head part × Honest s now P may (go true)
Honest s now P may (Does (Keep tried) go) = Honest s now P (tried ∷ []) (go true) × Honest s now P (tried ∷ may) (go false)
Honest s now P may (Does (Start job expires) go) = IsTrueJob may expires × ((ok : Bool) → Honest s now P may (go ok))

pub honest_then : {V W : Type 0} (s : Setup) (now : ℕ) (P : List Record → V → Type 0) (Q : List Record → W → Type 0) (may : List Record)
    (deeds : Deeds Ask V) (f : V → Deeds Ask W) → Honest s now P may deeds
    → ((later : List Record) (left : V) → P later left → Honest s now Q later (f left)) → Honest s now Q may (deeds >>= f)
honest_then s now P Q may (Ends left) f h on = on may left h
honest_then s now P Q may (Does (Say to head part) go) f h on = (h.0, honest_then s now P Q may (go true) f h.1 on)
honest_then s now P Q may (Does (Keep tried) go) f h on =
    (honest_then s now P Q (tried ∷ []) (go true) f h.0 on, honest_then s now P Q (tried ∷ may) (go false) f h.1 on)
honest_then s now P Q may (Does (Start job expires) go) f h on = (h.0, λ ok. honest_then s now P Q may (go ok) f (h.1 ok) on)

-- the records that may be kept are the same after it
abbrev pub Stays : {V : Type 0} → List Record → List Record → V → Type 0
Stays may later left = later ≡ may

-- an automatic ticket at rest, whose record may be kept
abbrev pub IsHonest : Setup → List Record → Known → Type 0
IsHonest s may (Automatic view) = (base : Record) × Has may base × IsCalm s base (may ≡ base ∷ []) view
IsHonest s may (Manual known) = ⊥

abbrev pub IsHonestLeft : Setup → List Record → TicketLeft → Type 0
IsHonestLeft s may left = (left.ticket.setup ≡ s) × IsHonest s may left.ticket.known

module _ (s : Setup) (now : ℕ) (lasts : 0 < s.times.expire) where
  abbrev pub at : View → State
  at view = record { setup = s; view = view }

  -- ---- what is said

  -- a member's command is no reply
  no_reply : (cmd : Cmd) → direction_of cmd ≡ BetweenMembers → cmd ≡ RGnt → ⊥
  no_reply cmd between is = never (sym (ap direction_of is) ∙ between)
    where
      never : direction_of RGnt ≡ BetweenMembers → ⊥
      never e = cc

  true_of : (may : List Record) (base : Record) (head : Head) (part : TicketPart) → Has may base → IsBorne s.me (lease_end base.lease) now part
      → IsOwn s head part → IsTrueOf s now may head part
  true_of may base head part has borne own = (
    λ leads some. let b = borne leads some in (base, has, b.0, b.1),
    λ is done. absurd (no_reply head.cmd own.between is),
  )

  each_true : (may : List Record) (places : List ℕ) (head : Head) (part : TicketPart) → IsTrueOf s now may head part
      → Honest s now (Stays may) may (say_each places head part)
  unfolding say_each say_to
  each_true may [] head part so = refl
  each_true may (place ∷ places) head part so = (so, each_true may places head part so)

  pub said_true : (may : List Record) (base : Record) (from : Option ℕ) (rule_words : Words) → Has may base
      → AreBorne s.me (lease_end base.lease) now rule_words → IsSpeech s rule_words
      → Honest s now (Stays may) may (say s from rule_words)
  unfolding say_to
  said_true may base from words.Nothing has borne speaks = refl
  said_true may base None (words.Reply head part) has borne speaks = refl
  said_true may base (Some place) (words.Reply head part) has borne speaks = (true_of may base head part has borne speaks, refl)
  said_true may base from (words.All head part) has borne speaks =
      each_true may (others s) head part (true_of may base head part has borne speaks)
  said_true may base from (words.Unanswered head part bits) has borne speaks =
      each_true may (places_in bits) head part (true_of may base head part has borne speaks)

  -- ---- steps

  -- a core of this ticket at rest, whose record may be kept
  pub record IsCoreOf (may : List Record) (core : State) : Type 0 where
    pub same : core.setup ≡ s
    pub base : Record
    pub based : Has may base
    pub calm : IsCalm s base (may ≡ base ∷ []) core.view

  pub record IsStep (may : List Record) (x : Step) : Type 0 where
    pub same : x.core.setup ≡ s
    pub base : Record
    pub based : Has may base
    pub shows : Shows s now base (may ≡ base ∷ []) (record { view = x.core.view; deed = x.deed })
    pub speaks : IsSpeech s x.deed.say

  pub step_of : (may : List Record) (base : Record) (view : View) (outcome : Outcome) → Has may base → Shows s now base (may ≡ base ∷ []) outcome → Speaks s outcome
      → IsStep may (step (at view) outcome)
  step_of may base view outcome has shows speaks =
      record { same = refl; base = base; based = has; shows = shows; speaks = speaks }

  abbrev IsFirst : List Record → Step → Type 0
  IsFirst may x = IsStep may x × ((x.deed.keep ≡ None) ⊎ IsGainAtMost x.core.view.waiting)

  abbrev IsSecond : List Record → Step → Type 0
  IsSecond may x = IsStep may x × (x.deed.keep ≡ None)

  -- the answer of a keep
  after_keep : (may : List Record) (x : Step) (tried : Record) → IsStep may x → x.deed.keep ≡ Some tried
      → IsStep (tried ∷ []) (step x.core (finish x.core.setup x.core.view now true))
      × IsStep (tried ∷ may) (step x.core (finish x.core.setup x.core.view now false))
  after_keep may x tried h is =
      by_waiting x.core.view.waiting refl (subst (λ (k : Option Record). IsReady now x.core.view.kept k x.core.view.waiting) is h.shows.waits)
    where
      has_kept : Has (tried ∷ may) x.core.view.kept
      has_kept =
          ⊎_elim (λ (e : x.core.view.kept ≡ h.base). inr (subst (λ (r : Record). Has may r) (sym e) h.based))
          (λ (e : x.core.view.kept ≡ tried). inl (sym e))
          (subst (λ (k : Option Record). Tracks h.base k x.core.view.kept) is h.shows.track)

      by_waiting : (o : Option Waiting) → x.core.view.waiting ≡ o → IsReady now x.core.view.kept (Some tried) o
          → IsStep (tried ∷ []) (step x.core (finish x.core.setup x.core.view now true))
          × IsStep (tried ∷ may) (step x.core (finish x.core.setup x.core.view now false))
      by_waiting None e ready = absurd ready
      by_waiting (Some w) e ready = (
        record {
          same = h.same;
          base = w.tried;
          based = inl (sym ready.0);
          shows = subst (λ (t : Setup). Shows s now w.tried (tried ∷ [] ≡ w.tried ∷ []) (finish t x.core.view now true)) (sym h.same)
              (answered_kept s now lasts (tried ∷ [] ≡ w.tried ∷ []) (ap (λ (r : Record). r ∷ []) (sym ready.0)) x.core.view w e h.shows.own ready.1);
          speaks = subst (λ (t : Setup). IsSpeech s (finish t x.core.view now true).deed.say) (sym h.same)
              (rules_speak.answered s x.core.view now true);
        },
        record {
          same = h.same;
          base = x.core.view.kept;
          based = has_kept;
          shows = subst (λ (t : Setup). Shows s now x.core.view.kept (tried ∷ may ≡ x.core.view.kept ∷ []) (finish t x.core.view now false)) (sym h.same)
              (answered_failed s now lasts (tried ∷ may ≡ x.core.view.kept ∷ []) x.core.view w e h.shows.own ready.1);
          speaks = subst (λ (t : Setup). IsSpeech s (finish t x.core.view now false).deed.say) (sym h.same)
              (rules_speak.answered s x.core.view now false);
        },
      )

  first_keep : (may : List Record) (x : Step) → IsStep may x → Honest s now IsFirst may (keep_of now x.deed.keep x)
  first_keep may x h = by_keep x.deed.keep refl
    where
      by_keep : (o : Option Record) → x.deed.keep ≡ o → Honest s now IsFirst may (keep_of now o x)
      by_keep None e = (h, inl e)
      by_keep (Some tried) e =
          let both = after_keep may x tried h e in (
            (both.0, inr (second_gains x.core.setup x.core.view now true)),
            (both.1, inr (second_gains x.core.setup x.core.view now false)),
          )

  second_keep : (may : List Record) (x : Step) → IsFirst may x → Honest s now IsSecond may (keep_of now x.deed.keep x)
  second_keep may x h = by_keep x.deed.keep refl
    where
      by_keep : (o : Option Record) → x.deed.keep ≡ o → Honest s now IsSecond may (keep_of now o x)
      by_keep None e = (h.0, e)
      by_keep (Some tried) e =
          let gain : IsGainAtMost x.core.view.waiting =
          ⊎_elim (λ (n : x.deed.keep ≡ None). absurd (none_is tried (sym n ∙ e))) (λ (g : IsGainAtMost x.core.view.waiting). g) h.1 in
          let both = after_keep may x tried h.0 e in (
            (both.0, third_keeps_nothing x.core.setup x.core.view now true gain),
            (both.1, third_keeps_nothing x.core.setup x.core.view now false gain),
          )

  -- a step that is done: its core is at rest, and a lease that clients are told of is there
  pub record IsLast (may : List Record) (x : Step) : Type 0 where
    pub rest : IsCoreOf may x.core
    pub told : IsGained x.deed.told → HasLease now may

  last_of : (may : List Record) (x : Step) → IsSecond may x → IsLast may x
  last_of may x h = record {
    rest = record {
      same = h.0.same;
      base = h.0.base;
      based = h.0.based;
      calm = record {
        own = h.0.shows.own;
        same = subst (λ (k : Option Record). Tracks h.0.base k x.core.view.kept) h.1 h.0.shows.track;
        rests = subst (λ (k : Option Record). IsReady now x.core.view.kept k x.core.view.waiting) h.1 h.0.shows.waits;
        trusted = h.0.shows.trusted h.1;
      };
    };
    told = λ e. let told = h.0.shows.told e in (h.0.base, told.1, told.0);
  }

  pub carried : (may : List Record) (from : Option ℕ) (x : Step) → IsStep may x → Honest s now IsLast may (carry_out from now x)
  unfolding carry_out keep_once
  carried may from x h =
      honest_then s now IsFirst IsLast may (keep_of now x.deed.keep x) _ (first_keep may x h)
      (λ may1 first is_first. honest_then s now IsSecond IsLast may1 (keep_of now first.deed.keep first) _ (second_keep may1 first is_first)
      (λ may2 last is_last.
      honest_then s now (Stays may2) IsLast may2 (say last.core.setup from last.deed.say) _
      (subst (λ (t : Setup). Honest s now (Stays may2) may2 (say t from last.deed.say)) (sym is_last.0.same)
      (said_true may2 is_last.0.base from last.deed.say is_last.0.based is_last.0.shows.said is_last.0.speaks))
      (λ later done same. subst (λ (rs : List Record). IsLast rs last) (sym same) (last_of may2 last is_last))))

  -- ---- those that wait are told

  result_gained : (told : Told) (waiter : Waiter) (result : ℕ) → result_for told waiter ≡ Some result → result ≡ SUCCESS → IsGained told
  result_gained tells.Nothing waiter result e is = absurd (none_is result e)
  result_gained (tells.Gained true) waiter result e is = tt
  result_gained (tells.Gained false) waiter result e is = by_commit waiter.commit e
    where
      by_commit : (b : Bool) → (if b then None else Some PEND) ≡ Some result → ⊥
      by_commit true h = none_is result h
      by_commit false h = let same : PEND ≡ SUCCESS = some_same PEND result h ∙ is in absurd (omega (arith, same))
  result_gained tells.ReleaseFailed waiter result e is = absurd (none_is result e)
  result_gained tells.HandlerFailed waiter result e is =
      let same : XPRG ≡ SUCCESS = some_same XPRG result e ∙ is in absurd (omega (arith, same))
  result_gained tells.AskFailed waiter result e is =
      let same : FAIL ≡ SUCCESS = some_same FAIL result e ∙ is in absurd (omega (arith, same))
  result_gained tells.RoundFailed waiter result e is =
      let same : FAIL ≡ SUCCESS = some_same FAIL result e ∙ is in absurd (omega (arith, same))
  result_gained tells.Released waiter result e is =
      let same : FAIL ≡ SUCCESS = some_same FAIL result e ∙ is in absurd (omega (arith, same))
  result_gained tells.Lost waiter result e is =
      let same : FAIL ≡ SUCCESS = some_same FAIL result e ∙ is in absurd (omega (arith, same))

  -- the state of the ticket, to a client
  pub state_true : (may : List Record) (core : State) → IsCoreOf may core → (head : Head)
      → (head.cmd ≡ RGnt → head.result ≡ SUCCESS → HasLease now may)
      → IsTrueOf s now may head (state_part core.setup core.view now)
  state_true may core rest head granted = (
    λ leads some.
        let b = subst (λ (t : Setup). IsBorne s.me (lease_end rest.base.lease) now (state_part t core.view now)) (sym rest.same)
        (state_borne s now rest.base (may ≡ rest.base ∷ []) core.view rest.calm) leads some in
        (rest.base, rest.based, b.0, b.1),
    granted,
  )

  each_told : (may : List Record) (last : Step) → IsLast may last → (waiters : List Waiter)
      → Honest s now (Stays may) may
      (each (tell_one last.core.setup (state_part last.core.setup last.core.view now) last.deed.told) waiters)
  unfolding tell_one say_to
  each_told may last done [] = refl
  each_told may last done (w ∷ ws) =
      honest_then s now (Stays may) (Stays may) may
      (tell_result last.core.setup (state_part last.core.setup last.core.view now) w (result_for last.deed.told w)) _
      (by_result (result_for last.deed.told w) refl)
      (λ later any same. subst (λ (rs : List Record). Honest s now (Stays may) rs
      (each (tell_one last.core.setup (state_part last.core.setup last.core.view now) last.deed.told) ws)) (sym same)
      (each_told may last done ws))
    where
      by_result : (r : Option ℕ) → result_for last.deed.told w ≡ r
          → Honest s now (Stays may) may (tell_result last.core.setup (state_part last.core.setup last.core.view now) w r)
      by_result None e = refl
      by_result (Some result) e =
          (state_true may last.core done.rest (head_of last.core.setup RGnt w.number 0 0 result) (λ reply success. done.told (result_gained last.deed.told w result e success)), refl)

  -- what a call leaves
  abbrev pub IsLeft : List Record → Left → Type 0
  IsLeft may left = IsCoreOf may left.core

  abbrev pub IsLeftSame : List Record → List Record → Left → Type 0
  IsLeftSame may later left = (later ≡ may) × IsCoreOf may left.core

  pub told_same : (may : List Record) (last : Step) → IsLast may last → (waiters : List Waiter)
      → Honest s now (IsLeftSame may) may (tell now waiters last)
  unfolding tell tell_each
  told_same may last done waiters =
      honest_then s now (Stays may) (IsLeftSame may) may
      (tell_each last.core.setup (state_part last.core.setup last.core.view now) last.deed.told waiters) _
      (honest_then s now (Stays may) (Stays may) may
      (each (tell_one last.core.setup (state_part last.core.setup last.core.view now) last.deed.told) waiters) _
      (each_told may last done waiters) (λ later any same. same))
      (λ later stay same. (same, done.rest))

  pub told_left : (may : List Record) (last : Step) → IsLast may last → (waiters : List Waiter) → Honest s now IsLeft may (tell now waiters last)
  told_left may last done waiters =
      by_same (tell now waiters last) (told_same may last done waiters)
    where
      by_same : (deeds : Deeds Ask Left) → Honest s now (IsLeftSame may) may deeds → Honest s now IsLeft may deeds
      by_same deeds h = weaken deeds may h
        where
          weaken : (deeds : Deeds Ask Left) (rs : List Record) → Honest s now (IsLeftSame may) rs deeds → Honest s now IsLeft rs deeds
          weaken (Ends left) rs h = subst (λ (q : List Record). IsCoreOf q left.core) (sym h.0) h.1
          weaken (Does (Say to head part) go) rs h = (h.0, weaken (go true) rs h.1)
          weaken (Does (Keep tried) go) rs h = (weaken (go true) (tried ∷ []) h.0, weaken (go false) (tried ∷ rs) h.1)
          weaken (Does (Start job expires) go) rs h = (h.0, λ ok. weaken (go ok) rs (h.1 ok))
