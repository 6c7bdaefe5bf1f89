-- Whoever waits for an automatic ticket has a deadline that is coming.
use Rattle.std.proofs.Common.{◌≡◌, ◌≢◌, ◌⊎◌, inl, inr, ℕ, ◌≤◌, Bool, true, false, ◌&&◌, ◌||◌, not, List, [], ◌∷◌, ◌++◌, arith, refl, sym, ap, ◌∙◌, subst, if◌then◌else◌}
use Rattle.std.specs.Prelude.{Option, Some, None, IsSomeAnd, ◌==◌, nat_lt}
use Rattle.booth_base.specs.Tree.{Deeds, Ends, Does, Always, each}
use Rattle.booth_base.proofs.TreeLemmas.{always_then}
use Rattle.booth_rec.specs.declared.record.Record.{Record}
use Rattle.booth_wire.specs.declared.codes.options.TheConstants.{WAIT}
use Rattle.booth_wire.specs.declared.codes.reasons.TheConstants.{ADMN, SPLT}
use Rattle.booth_wire.specs.declared.codes.results.TheConstants.{APRQ, ASYN, BUSY, FAIL, IARG, OVER, REDR, TIDL}
use Rattle.booth_wire.specs.declared.message.Head.{Head}
use Rattle.booth_wire.specs.declared.message.Setup.{Setup}
use Rattle.booth_wire.specs.declared.message.TicketPart.{TicketPart}
use Rattle.booth_raft.specs.declared.deed.Note.TheVariants.{Asked as WasAsked}
use Rattle.booth_raft.specs.declared.deed.Told.{Told}
use Rattle.booth_raft.specs.declared.deed.Told.TheVariants as tells
use Rattle.booth_raft.specs.declared.view.Role.{Role}
use Rattle.booth_raft.specs.declared.view.Role.TheVariants.{Follower, Working, Candidate, Leader}
use Rattle.booth_raft.specs.declared.view.View.{View}
use Rattle.booth_raft.specs.AskAndRenew.{are_terms_spent}
use Rattle.booth_raft.specs.GainReleaseLost.{own_end, release}
use Rattle.booth_raft.specs.Members.{is_follower, is_leader, is_promised_elsewhere}
use Rattle.booth_raft.specs.Messages.{state_part}
use Rattle.booth_raft.specs.Notes.{noted}
use Rattle.booth_raft.specs.Deadlines.{is_silent}
use Rattle.booth_raft.specs.StartAndLearn.{holds_at_start, started}
use Rattle.booth_raft.specs.State.{State, Step, step}
use Rattle.booth_raft.proofs.FactsLemmas.{on_cond, on_test, untrue}
use Rattle.booth_ticket.specs.declared.handling.Service.{Service}
use Rattle.booth_ticket.specs.declared.request.Request.{Request}
use Rattle.booth_ticket.specs.declared.request.Wish.{Wish}
use Rattle.booth_ticket.specs.declared.request.Wish.TheVariants.{Grant, Revoke}
use Rattle.booth_ticket.specs.declared.waiters.Waiter.{Waiter}
use Rattle.booth_ticket.specs.Acts.{Ask}
use Rattle.booth_ticket.specs.Automatic.{come_due, end_job, hear, hear_job, hear_message, tick}
use Rattle.booth_ticket.specs.Handling.{acquires}
use Rattle.booth_ticket.specs.Keeping.{carry_out}
use Rattle.booth_ticket.specs.Requests.{Answered, acquire_for, do_for, follow_request, grant, grant_result, is_busy, is_holder, is_shown_elsewhere, refuse, refused_grant, refused_revoke, release_for, reply, revoke, revoke_result}
use Rattle.booth_ticket.specs.Waiting.{Left, joined, joins, staying, tell, tell_each, tell_one, waiter_of, waits}
use Rattle.booth_ticket.proofs.CaseLemmas.{is_other}
use Rattle.booth_ticket.proofs.WalkLemmas.{Any}
use Rattle.booth_world.specs.Kept.{AnyAsk}
use Rattle.booth_world.specs.Waits.{LeavesDeadlines, WaitForDeadline, WaitersHaveDeadlines, core_of, latest}
use Rattle.booth_world.proofs.DeadlineRules.{By, IsFine, IsShort, TellsEach, release_well}
use Rattle.booth_world.proofs.DeadlineTrees.{IsDone, IsWell, acquired, carried, heard_done, job_done, ticked}
use Rattle.booth_world.proofs.WaitingLaws.{all_any, not_joined}

-- ---- by role

by_on : (role : Role) (due : Option ℕ) (limit : ℕ) (F G : Type 0) → (F → G) → By role due limit F → By role due limit G
by_on Follower due limit F G on h = on h
by_on Working due limit F G on h = h
by_on Candidate due limit F G on h = h
by_on Leader due limit F G on h = h

by_later : (role : Role) (due : Option ℕ) (limit later : ℕ) (F : Type 0) → limit ≤ later → By role due limit F → By role due later F
by_later Follower due limit later F above h = h
by_later Working (Some at) limit later F above h = omega (arith, above, h)
by_later Candidate (Some at) limit later F above h = omega (arith, above, h)
by_later Leader (Some at) limit later F above h = omega (arith, above, h)
by_later role None limit later F above h = absurd h

coming_of : (role : Role) (due : Option ℕ) (limit : ℕ) (F : Type 0) → By role due limit F → is_follower role ≡ false
    → IsSomeAnd due (λ at. at ≤ limit)
coming_of Follower due limit F h e = absurd (untrue (sym e))
coming_of Working due limit F h e = h
coming_of Candidate due limit F h e = h
coming_of Leader due limit F h e = h

idle_of : (role : Role) (due : Option ℕ) (limit : ℕ) (F : Type 0) → By role due limit F → is_follower role ≡ true → F
idle_of Follower due limit F h e = h
idle_of Working due limit F h e = absurd (untrue e)
idle_of Candidate due limit F h e = absurd (untrue e)
idle_of Leader due limit F h e = absurd (untrue e)

by_of : (role : Role) (due : Option ℕ) (limit : ℕ) (F : Type 0) → (is_follower role ≡ false → IsSomeAnd due (λ at. at ≤ limit))
    → (is_follower role ≡ true → F) → By role due limit F
by_of Follower due limit F coming idle = idle refl
by_of Working due limit F coming idle = coming refl
by_of Candidate due limit F coming idle = coming refl
by_of Leader due limit F coming idle = coming refl

waits_of : (s : Setup) (now : ℕ) (view : View) (waiters : List Waiter) → By view.role view.due (latest s view now) (waiters ≡ [])
    → WaitForDeadline s now view waiters
waits_of s now view waiters h = record {
  coming = coming_of view.role view.due (latest s view now) (waiters ≡ []) h;
  idle = idle_of view.role view.due (latest s view now) (waiters ≡ []) h;
}

pub by_wait : (s : Setup) (now : ℕ) (view : View) (waiters : List Waiter) → WaitForDeadline s now view waiters
    → By view.role view.due (latest s view now) (waiters ≡ [])
by_wait s now view waiters wait = by_of view.role view.due (latest s view now) (waiters ≡ []) wait.coming wait.idle

-- ---- who is told

-- where each is told, nobody waits on
none_stays : (told : Told) (waiters : List Waiter) → TellsEach told → staying told waiters ≡ []
none_stays told [] each_is = refl
none_stays told (waiter ∷ waiters) each_is =
    ap (λ (b : Bool). if b then waiter ∷ staying told waiters else staying told waiters) (each_is waiter) ∙ none_stays told waiters each_is

stays_none : (told : Told) (waiters : List Waiter) → waiters ≡ [] → staying told waiters ≡ []
stays_none told waiters none = ap (λ (ws : List Waiter). staying told ws) none

-- a grant that left a follower was not begun
decided_by : (options : ℕ) (told : Told) (waiter : Waiter) → TellsEach told → grant_result options told ≢ ASYN
decided_by options (tells.Gained true) waiter each_is e = absurd (omega (arith, e))
decided_by options (tells.Gained false) waiter each_is e = absurd (untrue (sym (each_is (record waiter { commit = true }))))
decided_by options tells.Nothing waiter each_is e = absurd (untrue (sym (each_is waiter)))
decided_by options tells.HandlerFailed waiter each_is e = absurd (omega (arith, e))
decided_by options tells.RoundFailed waiter each_is e = absurd (omega (arith, e))
decided_by options tells.AskFailed waiter each_is e = absurd (omega (arith, e))
decided_by options tells.Released waiter each_is e = absurd (omega (arith, e))
decided_by options tells.ReleaseFailed waiter each_is e = absurd (omega (arith, e))
decided_by options tells.Lost waiter each_is e = absurd (omega (arith, e))

revoke_decided : (told : Told) → revoke_result told ≢ ASYN
revoke_decided tells.Released e = absurd (omega (arith, e))
revoke_decided tells.Nothing e = absurd (omega (arith, e))
revoke_decided (tells.Gained sure) e = absurd (omega (arith, e))
revoke_decided tells.HandlerFailed e = absurd (omega (arith, e))
revoke_decided tells.RoundFailed e = absurd (omega (arith, e))
revoke_decided tells.AskFailed e = absurd (omega (arith, e))
revoke_decided tells.ReleaseFailed e = absurd (omega (arith, e))
revoke_decided tells.Lost e = absurd (omega (arith, e))

-- ---- what is refused

-- what a follower answers at once was not begun
abbrev IsDecided : Option ℕ → Type 0
IsDecided o = (result : ℕ) → o ≡ Some result → result ≢ ASYN

abbrev IsRefused : Option ℕ → Type 0
IsRefused o = o ≡ None → ⊥

some_is : (a b : ℕ) → Some a ≡ Some b → a ≡ b
some_is a b e = cc

decided : (n : ℕ) → n ≢ ASYN → IsDecided (Some n)
decided n ne result e same = ne (some_is n result e ∙ same)

undecided : IsDecided None
undecided result e same = cc

is_refused : (n : ℕ) → IsRefused (Some n)
is_refused n e = cc

none_leads : (site below : Bool) → site && false && below ≡ true → ⊥
none_leads true below e = untrue e
none_leads false below e = untrue e

module _ (s : Setup) (view : View) (spare : ℕ) (ready : Bool) (options now : ℕ) where
  follower_decides : IsDecided (refused_grant s (record view { role = Follower }) spare ready options now)
  follower_decides =
      on_cond IsDecided (not s.site || not (options == 0 || waits options)) _ _ (decided IARG (λ e. absurd (omega (arith, e))))
      (on_test IsDecided (is_holder s (record view { role = Follower }) now) _ _ (λ e. absurd (none_leads s.site _ e))
      (λ not_held. on_cond IsDecided (is_shown_elsewhere view.shown s.me now) _ _ (decided OVER (λ e. absurd (omega (arith, e))))
      (on_cond IsDecided (is_busy s (record view { role = Follower }) now) _ _ (decided BUSY (λ e. absurd (omega (arith, e))))
      (on_cond IsDecided (not ready) _ _ (decided APRQ (λ e. absurd (omega (arith, e))))
      (on_cond IsDecided (are_terms_spent view) _ _ (decided FAIL (λ e. absurd (omega (arith, e))))
      (on_cond IsDecided (waits options && spare == 0) _ _ (decided BUSY (λ e. absurd (omega (arith, e)))) undecided))))))

  -- another role refuses a grant
  other_refuses : (role : Role) → is_follower role ≡ false
      → IsRefused (refused_grant s (record view { role = role }) spare ready options now)
  other_refuses role other =
      on_cond IsRefused (not s.site || not (options == 0 || waits options)) _ _ (is_refused IARG)
      (on_cond IsRefused (is_holder s (record view { role = role }) now) _ _ (is_refused _)
      (on_cond IsRefused (is_shown_elsewhere view.shown s.me now) _ _ (is_refused OVER)
      (subst (λ (b : Bool). IsRefused (if not b || (is_promised_elsewhere view.promise s.me now || is_silent s view now) then Some BUSY else
      if not ready then Some APRQ else if are_terms_spent view then Some FAIL else
      if waits options && spare == 0 then Some BUSY else None)) (sym other) (is_refused BUSY))))

  -- what a member that leads no lease is refused of a revoke is decided, and it is always refused
  abbrev IsFirm : Option ℕ → Type 0
  IsFirm o = IsDecided o × IsRefused o

  firm : (n : ℕ) → n ≢ ASYN → IsFirm (Some n)
  firm n ne = (decided n ne, is_refused n)

  revoke_firm : (role : Role) → is_leader role ≡ false → IsFirm (refused_revoke s (record view { role = role }) options now)
  revoke_firm role other =
      on_cond IsFirm (not (options == 0 || options == WAIT)) _ _ (firm IARG (λ e. absurd (omega (arith, e))))
      (on_test IsFirm (is_holder s (record view { role = role }) now) _ _
      (λ e. absurd (none_leads s.site _ (subst (λ (b : Bool). s.site && b && nat_lt now (own_end view) ≡ true) other e)))
      (λ not_held. on_cond IsFirm (not (is_follower role)) _ _ (firm BUSY (λ e. absurd (omega (arith, e))))
      (on_cond IsFirm (is_shown_elsewhere view.shown s.me now) _ _ (firm REDR (λ e. absurd (omega (arith, e))))
      (firm TIDL (λ e. absurd (omega (arith, e)))))))

-- ---- the calls

module _ (s : Setup) (sound : IsShort s) (now : ℕ) (waiters : List Waiter) where
  -- who follows has told all that wait
  abbrev AreTold : Told → Type 0
  AreTold told = staying told waiters ≡ []

  told_of : (told : Told) → TellsEach told → AreTold told
  told_of told each_is = none_stays told waiters each_is

  abbrev Done : Step → Type 0
  Done x = IsDone s sound now AreTold told_of x

  abbrev LeavesSo : Left → Type 0
  LeavesSo left =
      (left.core.setup ≡ s) × By left.core.view.role left.core.view.due (latest s left.core.view now) (left.waiters ≡ [])

  abbrev HasDeadline : Left → Type 0
  HasDeadline left = (left.core.setup ≡ s) × WaitForDeadline s now left.core.view left.waiters

  leaves : (left : Left) → LeavesSo left → HasDeadline left
  leaves left h = (h.0, waits_of s now left.core.view left.waiters h.1)

  abbrev TellsSo : Step → Left → Type 0
  TellsSo last left = (left.core ≡ last.core) × (left.waiters ≡ staying last.deed.told waiters)

  tells_so : (last : Step) → Always AnyAsk (TellsSo last) (tell now waiters last)
  unfolding tell tell_each
  tells_so last =
      always_then AnyAsk (λ (stay : List Waiter). stay ≡ staying last.deed.told waiters) (TellsSo last)
      (tell_each last.core.setup (state_part last.core.setup last.core.view now) last.deed.told waiters) _
      (always_then AnyAsk Any (λ (stay : List Waiter). stay ≡ staying last.deed.told waiters)
      (each (tell_one last.core.setup (state_part last.core.setup last.core.view now) last.deed.told) waiters) _
      (all_any _) (λ done any. refl))
      (λ stay same. (refl, same))

  -- those that wait are told of the last step
  told_last : (last : Step) → Done last → Always AnyAsk HasDeadline (tell now waiters last)
  told_last last h = told_then (tell now waiters last) (tells_so last)
    where
      so : (left : Left) → TellsSo last left → HasDeadline left
      so left same =
          leaves left (
            subst (λ (c : State). c.setup ≡ s) (sym same.0) h.0,
            subst (λ (c : State). By c.view.role c.view.due (latest s c.view now) (left.waiters ≡ [])) (sym same.0)
                (by_on last.core.view.role last.core.view.due (latest s last.core.view now) (AreTold last.deed.told) (left.waiters ≡ [])
                (λ none. same.1 ∙ none) h.1),
          )

      told_then : (deeds : Deeds Ask Left) → Always AnyAsk (TellsSo last) deeds
          → Always AnyAsk HasDeadline deeds
      told_then (Ends left) a = so left a
      told_then (Does ask go) a = (tt, λ ok. told_then (go ok) (a.1 ok))

  -- what was done for a client: where a follower is left, nobody waits on, and the client does not
  abbrev IsAnswered : Answered → Type 0
  IsAnswered done =
      (done.last.core.setup ≡ s)
      × By done.last.core.view.role done.last.core.view.due (latest s done.last.core.view now)
      (AreTold done.last.deed.told × (done.answer ≢ ASYN))

  abbrev Old : Role → View → Type 0
  Old role view = By role view.due (latest s view now) (waiters ≡ [])

  refuses : (view : View) (role : Role) (result : ℕ) → Old role view → (is_follower role ≡ true → result ≢ ASYN)
      → IsAnswered (refuse (core_of s (record view { role = role })) result)
  refuses view Follower result old other = (refl, (stays_none tells.Nothing waiters old, other refl))
  refuses view Working result old other = (refl, old)
  refuses view Candidate result old other = (refl, old)
  refuses view Leader result old other = (refl, old)

  same_told : (told : Told) → TellsEach told → TellsEach told
  same_told told each_is = each_is

  acquires_for : (view : View) (options : ℕ) (job : Option ℕ) (waiter : Waiter)
      → Always AnyAsk IsAnswered (acquire_for (core_of s (record view { role = Follower })) options job now)
  unfolding acquire_for
  acquires_for view options job waiter =
      always_then AnyAsk (IsWell s sound now TellsEach same_told) IsAnswered
      (acquires (core_of s (noted s (record view { role = Follower }) now WasAsked)) job ADMN now) _
      (acquired s sound now TellsEach same_told (record view { repeat = 0 }) job ADMN)
      (λ begun b. always_then AnyAsk (IsDone s sound now TellsEach same_told) IsAnswered (carry_out None now begun) _
      (carried s sound now TellsEach same_told None begun b)
      (λ last l. (
        l.0,
        by_on last.core.view.role last.core.view.due (latest s last.core.view now) (TellsEach last.deed.told)
            (AreTold last.deed.told × (grant_result options last.deed.told ≢ ASYN))
            (λ each_is. (told_of last.deed.told each_is, decided_by options last.deed.told waiter each_is)) l.1,
      )))

  releases_for : (view : View) → Always AnyAsk IsAnswered (release_for (core_of s (record view { role = Leader })) now)
  unfolding release_for
  releases_for view =
      let leads : View = record view { role = Leader } in
      always_then AnyAsk Done IsAnswered (carry_out None now (step (core_of s leads) (release s leads ADMN now))) _
      (carried s sound now AreTold told_of None (step (core_of s leads) (release s leads ADMN now))
      (refl, release_well s sound now AreTold told_of view ADMN (is_other ADMN SPLT (λ e. absurd (omega (arith, e))))))
      (λ last l. (
        l.0,
        by_on last.core.view.role last.core.view.due (latest s last.core.view now) (AreTold last.deed.told)
            (AreTold last.deed.told × (revoke_result last.deed.told ≢ ASYN))
            (λ told. (told, revoke_decided last.deed.told)) l.1,
      ))

  grants : (view : View) (role : Role) (spare : ℕ) (ready : Bool) (options : ℕ) (job : Option ℕ) (waiter : Waiter) → Old role view
      → (o : Option ℕ) → refused_grant s (record view { role = role }) spare ready options now ≡ o
      → Always AnyAsk IsAnswered (grant (core_of s (record view { role = role })) options o job now)
  grants view role spare ready options job waiter old (Some result) is = refuses view role result old (by_role role is)
    where
      by_role : (role : Role) → refused_grant s (record view { role = role }) spare ready options now ≡ Some result
          → is_follower role ≡ true → result ≢ ASYN
      by_role Follower is e = follower_decides s view spare ready options now result is
      by_role Working is e = absurd (untrue e)
      by_role Candidate is e = absurd (untrue e)
      by_role Leader is e = absurd (untrue e)
  grants view Follower spare ready options job waiter old None is = acquires_for view options job waiter
  grants view Working spare ready options job waiter old None is = absurd (other_refuses s view spare ready options now Working refl is)
  grants view Candidate spare ready options job waiter old None is = absurd (other_refuses s view spare ready options now Candidate refl is)
  grants view Leader spare ready options job waiter old None is = absurd (other_refuses s view spare ready options now Leader refl is)

  revokes : (view : View) (role : Role) (options : ℕ) → Old role view
      → (o : Option ℕ) → refused_revoke s (record view { role = role }) options now ≡ o
      → Always AnyAsk IsAnswered (revoke (core_of s (record view { role = role })) o now)
  revokes view Follower options old (Some result) is =
      refuses view Follower result old (λ e. (revoke_firm s view 0 true options now Follower refl).0 result is)
  revokes view Working options old (Some result) is = refuses view Working result old (λ e. absurd (untrue e))
  revokes view Candidate options old (Some result) is = refuses view Candidate result old (λ e. absurd (untrue e))
  revokes view Leader options old (Some result) is = refuses view Leader result old (λ e. absurd (untrue e))
  revokes view Follower options old None is = absurd ((revoke_firm s view 0 true options now Follower refl).1 is)
  revokes view Working options old None is = absurd ((revoke_firm s view 0 true options now Working refl).1 is)
  revokes view Candidate options old None is = absurd ((revoke_firm s view 0 true options now Candidate refl).1 is)
  revokes view Leader options old None is = releases_for view

  does : (view : View) (spare : ℕ) (ready : Bool) (job : Option ℕ) (options : ℕ) (wish : Wish) (waiter : Waiter) → Old view.role view
      → Always AnyAsk IsAnswered (do_for (core_of s view) spare (record { now = now; ready = ready; job = job }) options wish)
  does view spare ready job options Grant waiter old =
      grants view view.role spare ready options job waiter old (refused_grant s view spare ready options now) refl
  does view spare ready job options Revoke waiter old =
      revokes view view.role options old (refused_revoke s view options now) refl

  joins_so : (request : Request) (done : Answered) (left : Left) → IsAnswered done → TellsSo done.last left
      → LeavesSo (record { core = left.core; waiters = joined request done.answer left.waiters })
  joins_so request done left h same = (
    subst (λ (c : State). c.setup ≡ s) (sym same.0) h.0,
    subst (λ (c : State). By c.view.role c.view.due (latest s c.view now) (joined request done.answer left.waiters ≡ [])) (sym same.0)
        (by_on done.last.core.view.role done.last.core.view.due (latest s done.last.core.view now)
        (AreTold done.last.deed.told × (done.answer ≢ ASYN)) (joined request done.answer left.waiters ≡ [])
        (λ none. skipped (joins request done.answer) (not_joined request done.answer none.1) ∙ same.1 ∙ none.0) h.1),
  )
    where
      skipped : (b : Bool) → b ≡ false → (if b then left.waiters ++ waiter_of request ∷ [] else left.waiters) ≡ left.waiters
      skipped true e = absurd (untrue (sym e))
      skipped false e = refl

  pub asks_so : (view : View) (spare : ℕ) (ready : Bool) (job : Option ℕ) (request : Request) (wish : Wish) → Old view.role view
      → LeavesDeadlines s now (follow_request (core_of s view) waiters spare (record { now = now; ready = ready; job = job }) request wish)
  unfolding follow_request
  asks_so view spare ready job request wish old =
      always_then AnyAsk IsAnswered HasDeadline (do_for (core_of s view) spare (record { now = now; ready = ready; job = job }) request.options wish) _
      (does view spare ready job request.options wish (waiter_of request) old)
      (λ done d. always_then AnyAsk (TellsSo done.last) HasDeadline (tell now waiters done.last) _ (tells_so done.last)
      (λ left l. always_then AnyAsk Any HasDeadline (reply left.core request wish done.answer now) _ (all_any _)
      (λ said any. leaves (record { core = left.core; waiters = joined request done.answer left.waiters }) (joins_so request done left d l))))

  -- as the rules know that nobody waits
  still : (view : View) → Old view.role view → IsFine s sound now AreTold told_of view.role view
  still view old = by_on view.role view.due (latest s view now) (waiters ≡ []) (AreTold tells.Nothing) (stays_none tells.Nothing waiters) old

  pub hears_so : (view : View) (from : ℕ) (head : Head) (part : TicketPart) → Old view.role view
      → LeavesDeadlines s now (hear (core_of s view) waiters from head part now)
  unfolding hear
  hears_so view from head part old =
      always_then AnyAsk Done _ (hear_message (core_of s view) from head part now) _
      (heard_done s sound now AreTold told_of view from head part (still view old)) told_last

  pub due_so : (view : View) (ready : Bool) (job : Option ℕ) → Old view.role view
      → LeavesDeadlines s now (come_due (core_of s view) waiters (record { now = now; ready = ready; job = job }))
  unfolding come_due
  due_so view ready job old =
      always_then AnyAsk Done _ (tick (core_of s view) (record { now = now; ready = ready; job = job })) _
      (ticked s sound now AreTold told_of view ready job (still view old)) told_last

  pub ends_so : (view : View) (job : ℕ) (service : Service) → Old view.role view
      → LeavesDeadlines s now (end_job (core_of s view) waiters job service now)
  unfolding end_job
  ends_so view job service old =
      always_then AnyAsk Done _ (hear_job (core_of s view) job service now) _
      (job_done s sound now AreTold told_of view job service (still view old)) told_last

pub waiters_have_deadlines : WaitersHaveDeadlines
waiters_have_deadlines = record {
  starts = λ s rec now. waits_of s now (started s rec now) [] (begins s rec now (holds_at_start s rec now));
  passes = λ s view waiters now later above wait. waits_of s later view waiters
      (by_later view.role view.due (latest s view now) (latest s view later) (waiters ≡ []) (omega (arith, above)) (by_wait s now view waiters wait));
  heard = λ s view waiters from head part now sound wait. hears_so s sound.renewal now waiters view from head part (by_wait s now view waiters wait);
  due = λ s view waiters given sound wait. due_so s sound.renewal given.now waiters view given.ready given.job (by_wait s given.now view waiters wait);
  over = λ s view waiters job service now sound wait. ends_so s sound.renewal now waiters view job service (by_wait s now view waiters wait);
  asked = λ s view waiters spare given request sound wait.
      asks_so s sound.renewal given.now waiters view spare given.ready given.job request request.wish (by_wait s given.now view waiters wait);
  coming = λ s view waiters now wait. comes (is_follower view.role) wait.coming wait.idle;
}
  where
    nobody : List Waiter
    nobody = []

    begins : (s : Setup) (rec : Record) (now : ℕ) (holds : Bool)
        → By (if holds then Leader else Follower) (Some now) (latest s (started s rec now) now) (nobody ≡ [])
    begins s rec now true = omega arith
    begins s rec now false = refl

    comes : {A B : Type 0} (follows : Bool) → (follows ≡ false → B) → (follows ≡ true → A) → A ⊎ B
    comes true coming idle = inl (idle refl)
    comes false coming idle = inr (coming refl)
