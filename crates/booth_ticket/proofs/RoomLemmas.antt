-- A client waits only where there is room for it.
use Rattle.std.proofs.Common.{◌≡◌, ◌⊎◌, inl, inr, ℕ, ◌<◌, Bool, true, false, cond, if◌then◌else◌, ◌&&◌, ◌||◌, arith, refl, sym, ◌∙◌, subst}
use Rattle.std.proofs.lemmas.Bool.Decides.{nat_tests}
use Rattle.std.specs.Prelude.{Option, Some, None, not, ◌==◌}
use Rattle.booth_wire.specs.declared.message.Setup.{Setup}
use Rattle.booth_wire.specs.declared.codes.results.TheConstants.{SUCCESS, ASYN, FAIL, IARG, PEND, APRQ, TIDL, OVER, BUSY, REDR}
use Rattle.booth_wire.specs.declared.codes.options.TheConstants.{WAIT}
use Rattle.booth_raft.specs.declared.view.View.{View}
use Rattle.booth_raft.specs.AskAndRenew.{are_terms_spent}
use Rattle.booth_raft.specs.Members.{is_follower, is_promised_elsewhere}
use Rattle.booth_raft.proofs.FactsLemmas.{on_cond, on_test}
use Rattle.booth_manual.specs.declared.view.ManualView.{ManualView}
use Rattle.booth_manual.specs.GrantAndRevoke.{are_terms_spent as are_spent}
use Rattle.booth_ticket.specs.declared.request.Request.{Request}
use Rattle.booth_ticket.specs.declared.request.Wish.{Wish}
use Rattle.booth_ticket.specs.declared.request.Wish.TheVariants.{Grant, Revoke}
use Rattle.booth_ticket.specs.ManualRequests.{as_waiting, forces, is_another_shown, is_strange, refused_by_hand, unforced, wants_handler}
use Rattle.booth_ticket.specs.Requests.{holder_result, is_busy, is_holder, is_shown_elsewhere, refused_grant}
use Rattle.booth_ticket.specs.Waiting.{commits, joins, waits}

both_right : (a b : Bool) → a && b ≡ true → b ≡ true
both_right true b e = e
both_right false b e = absurd (cc)

both_left : (a b : Bool) → a && b ≡ true → a ≡ true
both_left true b e = refl
both_left false b e = e

never : false ≡ true → ⊥
never e = cc

module _ (spare : ℕ) where
  -- where this says that a request was begun, there is room
  abbrev Fits : ℕ → Type 0
  Fits answer = answer == ASYN ≡ true → 0 < spare

  abbrev Fine : Option ℕ → Type 0
  Fine refused = (answer : ℕ) → refused ≡ Some answer → Fits answer

  fine : (n : ℕ) → Fits n → Fine (Some n)
  fine n fits answer is = subst Fits (same n answer is) fits
    where
      same : (m k : ℕ) → Some m ≡ Some k → m ≡ k
      same m k e = cc

  other : (n : ℕ) → n == ASYN ≡ false → Fits n
  other n is e = absurd (never (sym is ∙ e))

  held : (sure : Bool) (options : ℕ) → Fits (holder_result sure spare options)
  held sure options =
      on_cond Fits sure _ _ (other SUCCESS refl)
      (on_cond Fits (commits options) _ _
      (on_test Fits (spare == 0) BUSY ASYN (λ e. other BUSY refl) (λ e begun. some spare e))
      (other PEND refl))
    where
      some : (n : ℕ) → n == 0 ≡ false → 0 < n
      some n e = grind (arith, nat_tests)

  fine_none : Fine None
  fine_none answer is = absurd (no answer is)
    where
      no : (n : ℕ) → None ≡ Some n → ⊥
      no n e = cc

  pub room_refused : (setup : Setup) (view : View) (ready : Bool) (options now answer : ℕ)
      → refused_grant setup view spare ready options now ≡ Some answer
      → waits options && answer == ASYN ≡ true → 0 < spare
  room_refused setup view ready options now answer is begun =
      every answer is (both_right (waits options) (answer == ASYN) begun)
    where
      every : Fine (refused_grant setup view spare ready options now)
      every =
          on_cond Fine (not setup.site || not (options == 0 || waits options)) _ _
          (fine IARG (other IARG refl))
          (on_cond Fine (is_holder setup view now) _ _
          (fine (holder_result view.sure spare options) (held view.sure options))
          (on_cond Fine (is_shown_elsewhere view.shown setup.me now) _ _ (fine OVER (other OVER refl))
          (on_cond Fine (is_busy setup view now) _ _
          (fine BUSY (other BUSY refl))
          (on_cond Fine (not ready) _ _ (fine APRQ (other APRQ refl))
          (on_cond Fine (are_terms_spent view) _ _ (fine FAIL (other FAIL refl))
          (on_cond Fine (waits options && spare == 0) _ _ (fine BUSY (other BUSY refl)) fine_none))))))

  passed : (b : Bool) (answer : ℕ) (rest : Option ℕ) → cond b (Some answer) rest ≡ None
      → (b ≡ false) × (rest ≡ None)
  passed true answer rest e = absurd (cc)
  passed false answer rest e = (refl, e)

  room_left : (a b : Bool) (n : ℕ) → a && n == 0 ≡ false → a && b ≡ true → 0 < n
  room_left true b n full begun = grind (arith, nat_tests)
  room_left false b n full begun = absurd (cc)

  -- where nothing is refused, there is room for one that waits
  pub room_unrefused : (setup : Setup) (view : View) (ready : Bool) (options now answer : ℕ)
      → refused_grant setup view spare ready options now ≡ None
      → waits options && answer == ASYN ≡ true → 0 < spare
  room_unrefused setup view ready options now answer none begun =
      let one = passed (not setup.site || not (options == 0 || waits options)) IARG _ none in
      let two = passed (is_holder setup view now) _ _ one.1 in
      let three = passed (is_shown_elsewhere view.shown setup.me now) OVER _ two.1 in
      let four = passed (is_busy setup view now) BUSY _ three.1 in
      let five = passed (not ready) APRQ _ four.1 in
      let six = passed (are_terms_spent view) FAIL _ five.1 in
      let seven = passed (waits options && spare == 0) BUSY None six.1 in
      room_left (waits options) (answer == ASYN) spare seven.0 begun

  -- ---- manual tickets

  -- a grant or a revoke by hand that is refused was not begun
  pub refused_by_hand_ends : (setup : Setup) (view : ManualView) (runs ready : Bool) (options answer : ℕ) (wish : Wish)
      → refused_by_hand setup view runs spare ready options wish ≡ Some answer
      → answer == ASYN ≡ true → 0 < spare
  refused_by_hand_ends setup view runs ready options answer wish is begun = every wish answer is begun
    where
      every : (wish : Wish) → Fine (refused_by_hand setup view runs spare ready options wish)
      every Grant =
          on_cond Fine (not setup.site || is_strange options) _ _ (fine IARG (other IARG refl))
          (on_cond Fine view.owner _ _ (on_cond Fine view.sure _ _ (fine SUCCESS (other SUCCESS refl)) fine_none)
          (on_cond Fine runs _ _ (fine BUSY (other BUSY refl))
          (on_cond Fine (is_another_shown view.shown setup.me && not (forces options)) _ _ (fine OVER (other OVER refl))
          (on_cond Fine (not ready) _ _ (fine APRQ (other APRQ refl))
          (on_cond Fine (are_spent view) _ _ (fine FAIL (other FAIL refl))
          (on_cond Fine (waits (unforced options) && spare == 0) _ _ (fine BUSY (other BUSY refl)) fine_none))))))
      every Revoke =
          on_cond Fine view.owner _ _ fine_none
          (on_cond Fine runs _ _ (fine BUSY (other BUSY refl))
          (on_cond Fine (is_another_shown view.shown setup.me) _ _ (fine REDR (other REDR refl))
          (fine TIDL (other TIDL refl))))

  not_owner : (b : Bool) (then_so rest : Option ℕ) → not b ≡ true → cond b then_so rest ≡ None → rest ≡ None
  not_owner true then_so rest is e = absurd (never is)
  not_owner false then_so rest is e = e

  -- one that waits for its handler has room
  pub begun_by_hand_fits : (setup : Setup) (view : ManualView) (runs ready : Bool) (options : ℕ) (wish : Wish)
      → refused_by_hand setup view runs spare ready options wish ≡ None → wants_handler view wish ≡ true
      → waits (unforced options) ≡ true → 0 < spare
  begun_by_hand_fits setup view runs ready options Revoke none wants waiting = absurd (never wants)
  begun_by_hand_fits setup view runs ready options Grant none wants waiting =
      let one = passed (not setup.site || is_strange options) IARG _ none in
      let two = not_owner view.owner _ _ wants one.1 in
      let three = passed runs BUSY _ two in
      let four = passed (is_another_shown view.shown setup.me && not (forces options)) OVER _ three.1 in
      let five = passed (not ready) APRQ _ four.1 in
      let six = passed (are_spent view) FAIL _ five.1 in
      let seven = passed (waits (unforced options) && spare == 0) BUSY None six.1 in
      room_left (waits (unforced options)) true spare seven.0 (sym_and waiting)
    where
      sym_and : waits (unforced options) ≡ true → waits (unforced options) && true ≡ true
      sym_and is = rw is refl

  -- who waits wanted to
  waits_so : (b : Bool) → waits (if b then WAIT else 0) ≡ true → b ≡ true
  waits_so true is = refl
  waits_so false is = absurd (never is)

  begins : (n : ℕ) → n == ASYN ≡ true → n ≡ ASYN
  begins n is = grind (arith, nat_tests)

  -- the answer of a request that was begun, or refused
  pub room_by_hand : (setup : Setup) (view : ManualView) (runs ready : Bool) (request : Request) (answer : ℕ)
      → (refused_by_hand setup view runs spare ready request.options request.wish ≡ Some answer)
      ⊎ ((refused_by_hand setup view runs spare ready request.options request.wish ≡ None)
      × (answer ≡ ASYN → wants_handler view request.wish ≡ true))
      → joins (as_waiting request) answer ≡ true → 0 < spare
  room_by_hand setup view runs ready request answer (inl refused) joined =
      refused_by_hand_ends setup view runs ready request.options answer request.wish refused
      (both_right (waits (as_waiting request).options) (answer == ASYN) joined)
  room_by_hand setup view runs ready request answer (inr begun) joined =
      begun_by_hand_fits setup view runs ready request.options request.wish begun.0
      (begun.1 (begins answer (both_right (waits (as_waiting request).options) (answer == ASYN) joined)))
      (waits_so (waits (unforced request.options))
      (both_left (waits (as_waiting request).options) (answer == ASYN) joined))
