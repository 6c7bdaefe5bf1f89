-- Which replies let the grant go, and which end a move.
use Rattle.std.proofs.Common.{◌≡◌, ◌≤◌, ◌+◌, ℕ, Bool, true, false, List, [], ◌∷◌, Option, Some, None, refl, sym, ap, subst, ◌∙◌, inl, inr, arith}
use Rattle.std.specs.Prelude.{IfSome}
use Rattle.booth_wire.specs.declared.codes.results.TheConstants.{SUCCESS}
use Rattle.booth_wire.specs.PlainMessage.{PlainMessage}
use Rattle.booth_talk.specs.Asking.{number_of}
use Rattle.booth_move.specs.declared.deeds.MoveDeed.{MoveDeed}
use Rattle.booth_move.specs.declared.deeds.MoveDeed.TheVariants as deeds
use Rattle.booth_move.specs.declared.deeds.MoveEnd.{MoveEnd}
use Rattle.booth_move.specs.declared.deeds.MoveEnd.TheVariants.{Moved, Asked, Refused, Stranded, NoReply}
use Rattle.booth_move.specs.declared.stage.Request.{Request}
use Rattle.booth_move.specs.declared.stage.Stage.{Stage}
use Rattle.booth_move.specs.declared.stage.Stage.TheVariants.{Opening, Revoking, Granting, Pausing, Ended}
use Rattle.booth_move.specs.Deeds.{deeds_from, move_step}
use Rattle.booth_move.specs.Move.{IsSoundStage, MoveSetup, Pair, is_answer}
use Rattle.booth_move.proofs.RowLemmas.{step_row}
use Rattle.booth_move.proofs.SoundLemmas.{step_sound}
use Rattle.booth_move.specs.Laws.{AreAnswers, EndsAreTold, EndsByReply, GrantsAfterReply, GrantsAreLet, IsEndedBy, IsRevoked}
use Rattle.booth_move.specs.Rows.{Brings, EndsGrant, EndsPause, EndsRevoke, Follows, GoesOn}

-- ---- the reply that lets the grant go

-- the reply is one to the last request
abbrev IsAnswer : MoveSetup → Stage → PlainMessage → Type 0
IsAnswer setup stage m = is_answer setup stage m ≡ true

-- from a stage in which none was sent
abbrev LetFrom : MoveSetup → Stage → List Pair → List MoveDeed → Type 0
LetFrom setup (Opening start) ps ds = GrantsAfterReply setup (number_of start) ps ds
LetFrom setup (Revoking last sent_on) ps ds = GrantsAfterReply setup last.number ps ds
LetFrom setup Ended ps ds = (revoke : ℕ) → GrantsAfterReply setup revoke ps ds
LetFrom setup stage ps ds = Unit {0}

-- the numbers are the same
let_with : (setup : MoveSetup) (a b : ℕ) (ps : List Pair) (ds : List MoveDeed) → a ≡ b → GrantsAfterReply setup a ps ds → GrantsAfterReply setup b ps ds
let_with setup a b ps ds e is = subst (λ (n : ℕ). GrantsAfterReply setup n ps ds) e is

same_number : (wait : Bool) (last : Request) (p : Pair) (next : Request) → GoesOn wait last p next → next.number ≡ last.number
same_number wait last p next (inl more) = ap (λ (r : Request). r.number) more.2
same_number wait last p next (inr begun) = ap (λ (r : Request). r.number) begun.2

revoked_at : (setup : MoveSetup) (last : Request) (sent_on : Bool) (p : Pair) → Brings SUCCESS p →
    IfSome p.reply (IsAnswer setup (Revoking last sent_on)) → IsRevoked setup last.number p
revoked_at setup last sent_on p brings answer = record {
  m = brings.m;
  is = brings.is;
  to = subst (λ (reply : Option PlainMessage). IfSome reply (IsAnswer setup (Revoking last sent_on))) brings.is answer;
  done = brings.with;
}

let_row : (setup : MoveSetup) (stage : Stage) (p : Pair) (d : MoveDeed) (next : Stage) (ps : List Pair) (ds : List MoveDeed) →
    IfSome p.reply (IsAnswer setup stage) → Follows setup stage p d next → LetFrom setup next ps ds → LetFrom setup stage (p ∷ ps) (d ∷ ds)
let_row setup (Opening start) p (deeds.Revoke None number) (Revoking next on) ps ds answer h let_go =
    let_with setup next.number number ps ds (ap (λ (r : Request). r.number) h.1) let_go
let_row setup (Revoking last sent_on) p deeds.Nothing (Revoking next on) ps ds answer h let_go =
    let_with setup next.number last.number ps ds (same_number setup.wait last p next h.0) let_go
let_row setup (Revoking last sent_on) p (deeds.Revoke (Some place) number) (Revoking next on) ps ds answer h let_go =
    let_with setup next.number number ps ds (ap (λ (r : Request). r.number) h.2.is) let_go
let_row setup (Revoking last sent_on) p (deeds.Grant number) (Granting next again) ps ds answer h let_go = revoked_at setup last sent_on p h.0 answer
let_row setup (Revoking last sent_on) p (deeds.End end) Ended ps ds answer h let_go = let_go last.number
let_row setup (Granting last repeats) p deeds.Nothing (Granting next again) ps ds answer h let_go = tt
let_row setup (Granting last repeats) p deeds.Nothing (Pausing next again) ps ds answer h let_go = tt
let_row setup (Granting last repeats) p (deeds.Grant number) (Granting next again) ps ds answer h let_go = tt
let_row setup (Granting last repeats) p (deeds.End end) Ended ps ds answer h let_go = tt
let_row setup (Pausing last repeats) p deeds.Nothing (Pausing next again) ps ds answer h let_go = tt
let_row setup (Pausing last repeats) p (deeds.Grant number) (Granting next again) ps ds answer h let_go = tt
let_row setup (Pausing last repeats) p (deeds.End end) Ended ps ds answer h let_go = tt
let_row setup Ended p deeds.Nothing Ended ps ds answer h let_go = λ revoke. let_go revoke
let_row setup stage p d next ps ds answer h let_go = absurd h

let_end : (setup : MoveSetup) (stage : Stage) (ds : List MoveDeed) → LetFrom setup stage [] ds
let_end setup (Opening start) ds = tt
let_end setup (Revoking last sent_on) ds = tt
let_end setup (Granting last repeats) ds = tt
let_end setup (Pausing last repeats) ds = tt
let_end setup Ended ds = λ revoke. tt

let_from : (setup : MoveSetup) (ps : List Pair) (stage : Stage) → IsSoundStage stage → AreAnswers setup stage ps →
    LetFrom setup stage ps (deeds_from setup stage ps)
unfolding deeds_from
let_from setup [] stage sound answers = let_end setup stage []
let_from setup (p ∷ ps) stage sound answers =
    let next : Stage = (move_step setup stage p).stage in
    let_row setup stage p (move_step setup stage p).deed next ps (deeds_from setup next ps) answers.0 (step_row setup stage p sound)
    (let_from setup ps next (step_sound setup stage p sound) answers.1)

pub let_go : GrantsAreLet
let_go setup start pairs answers = let_from setup pairs (Opening start) tt answers

-- ---- how it ends

-- the counts at a stage: grants that were sent, and how often the revoke was sent on
abbrev TellsFrom : MoveSetup → Stage → List Pair → List MoveDeed → Type 0
TellsFrom setup (Opening start) ps ds = EndsByReply setup 0 0 ps ds
TellsFrom setup (Revoking last true) ps ds = EndsByReply setup 0 1 ps ds
TellsFrom setup (Revoking last false) ps ds = EndsByReply setup 0 0 ps ds
TellsFrom setup (Granting last repeats) ps ds = (on : ℕ) → EndsByReply setup (repeats + 1) on ps ds
TellsFrom setup (Pausing last repeats) ps ds = (on : ℕ) → EndsByReply setup (repeats + 1) on ps ds
TellsFrom setup Ended ps ds = Unit {0}

-- what is told of a revoke that was sent on so
abbrev on_of : Bool → ℕ
on_of true = 1
on_of false = 0

of_on : (setup : MoveSetup) (last : Request) (on : Bool) (ps : List Pair) (ds : List MoveDeed) →
    EndsByReply setup 0 (on_of on) ps ds → TellsFrom setup (Revoking last on) ps ds
of_on setup last true ps ds tells = tells
of_on setup last false ps ds tells = tells

to_on : (setup : MoveSetup) (last : Request) (on : Bool) (ps : List Pair) (ds : List MoveDeed) →
    TellsFrom setup (Revoking last on) ps ds → EndsByReply setup 0 (on_of on) ps ds
to_on setup last true ps ds tells = tells
to_on setup last false ps ds tells = tells

as_many : (setup : MoveSetup) (again repeats on : ℕ) (ps : List Pair) (ds : List MoveDeed) → again ≡ repeats →
    EndsByReply setup (again + 1) on ps ds → EndsByReply setup (repeats + 1) on ps ds
as_many setup again repeats on ps ds e tells = subst (λ (n : ℕ). EndsByReply setup (n + 1) on ps ds) e tells

revoke_ended : (setup : MoveSetup) (last : Request) (sent_on : Bool) (p : Pair) (end : MoveEnd) → EndsRevoke setup last sent_on p end →
    IsEndedBy setup 0 (on_of sent_on) p end
revoke_ended setup last sent_on p (Refused result) h = record {
  m = h.m;
  is = h.is;
  with = h.with;
  not_done = h.not_done;
  not_begun = h.not_begun;
  not_followed = λ redr. elim (h.not_followed redr) [ inl on ↦ inl (before sent_on on) | inr none ↦ inr none ];
  no_grant = refl;
}
  where
    before : (on : Bool) → on ≡ true → 1 ≤ on_of on
    before true e = omega arith
    before false e = absurd cc
revoke_ended setup last sent_on p NoReply h = tt
revoke_ended setup last sent_on p end h = absurd h

grant_ended : (setup : MoveSetup) (last : Request) (repeats on : ℕ) (p : Pair) (end : MoveEnd) → EndsGrant setup last repeats p end →
    IsEndedBy setup (repeats + 1) on p end
grant_ended setup last repeats on p Moved h = (h, omega arith)
grant_ended setup last repeats on p Asked h = (h.0, h.1, omega arith)
grant_ended setup last repeats on p (Stranded result) h = record {
  brings = h.brings;
  not_done = h.not_done;
  not_begun = h.not_begun;
  granted = omega arith;
  often = λ busy. ap (λ (n : ℕ). n + 1) (h.not_repeated busy) ∙ omega arith;
}
grant_ended setup last repeats on p NoReply h = tt
grant_ended setup last repeats on p end h = absurd h

pause_ended : (setup : MoveSetup) (last : Request) (grants on : ℕ) (p : Pair) (end : MoveEnd) → EndsPause last p end → IsEndedBy setup grants on p end
pause_ended setup last grants on p NoReply h = tt
pause_ended setup last grants on p end h = absurd h

tells_row : (setup : MoveSetup) (stage : Stage) (p : Pair) (d : MoveDeed) (next : Stage) (ps : List Pair) (ds : List MoveDeed) →
    Follows setup stage p d next → TellsFrom setup next ps ds → TellsFrom setup stage (p ∷ ps) (d ∷ ds)
tells_row setup (Opening start) p (deeds.Revoke None number) (Revoking next on) ps ds h tells =
    subst (λ (b : Bool). EndsByReply setup 0 (on_of b) ps ds) h.2 (to_on setup next on ps ds tells)
tells_row setup (Revoking last sent_on) p deeds.Nothing (Revoking next on) ps ds h tells =
    of_on setup last sent_on (p ∷ ps) (deeds.Nothing ∷ ds)
    (subst (λ (b : Bool). EndsByReply setup 0 (on_of b) ps ds) h.1 (to_on setup next on ps ds tells))
tells_row setup (Revoking last sent_on) p (deeds.Revoke (Some place) number) (Revoking next on) ps ds h tells =
    subst (λ (b : Bool). TellsFrom setup (Revoking last b) (p ∷ ps) (deeds.Revoke (Some place) number ∷ ds)) (sym h.1)
    (subst (λ (b : Bool). EndsByReply setup 0 (on_of b) ps ds) h.3 (to_on setup next on ps ds tells))
tells_row setup (Revoking last sent_on) p (deeds.Grant number) (Granting next again) ps ds h tells =
    of_on setup last sent_on (p ∷ ps) (deeds.Grant number ∷ ds)
    (subst (λ (n : ℕ). EndsByReply setup (n + 1) (on_of sent_on) ps ds) h.2 (tells (on_of sent_on)))
tells_row setup (Revoking last sent_on) p (deeds.End end) Ended ps ds h tells =
    of_on setup last sent_on (p ∷ ps) (deeds.End end ∷ ds) (revoke_ended setup last sent_on p end h)
tells_row setup (Granting last repeats) p deeds.Nothing (Granting next again) ps ds h tells =
    λ on. as_many setup again repeats on ps ds h.1 (tells on)
tells_row setup (Granting last repeats) p deeds.Nothing (Pausing next again) ps ds h tells =
    λ on. as_many setup again repeats on ps ds h.4 (tells on)
tells_row setup (Granting last repeats) p (deeds.Grant number) (Granting next again) ps ds h tells =
    λ on. subst (λ (n : ℕ). EndsByReply setup (n + 1) on ps ds) h.1.one_more (tells on)
tells_row setup (Granting last repeats) p (deeds.End end) Ended ps ds h tells = λ on. grant_ended setup last repeats on p end h
tells_row setup (Pausing last repeats) p deeds.Nothing (Pausing next again) ps ds h tells =
    λ on. as_many setup again repeats on ps ds h.3 (tells on)
tells_row setup (Pausing last repeats) p (deeds.Grant number) (Granting next again) ps ds h tells =
    λ on. subst (λ (n : ℕ). EndsByReply setup (n + 1) on ps ds) h.one_more (tells on)
tells_row setup (Pausing last repeats) p (deeds.End end) Ended ps ds h tells = λ on. pause_ended setup last (repeats + 1) on p end h
tells_row setup Ended p deeds.Nothing Ended ps ds h tells = tt
tells_row setup stage p d next ps ds h tells = absurd h

tells_end : (setup : MoveSetup) (stage : Stage) → TellsFrom setup stage [] []
tells_end setup (Opening start) = tt
tells_end setup (Revoking last true) = tt
tells_end setup (Revoking last false) = tt
tells_end setup (Granting last repeats) = λ on. tt
tells_end setup (Pausing last repeats) = λ on. tt
tells_end setup Ended = tt

tells_from : (setup : MoveSetup) (ps : List Pair) (stage : Stage) → IsSoundStage stage → TellsFrom setup stage ps (deeds_from setup stage ps)
unfolding deeds_from
tells_from setup [] stage sound = tells_end setup stage
tells_from setup (p ∷ ps) stage sound =
    let next : Stage = (move_step setup stage p).stage in
    tells_row setup stage p (move_step setup stage p).deed next ps (deeds_from setup next ps) (step_row setup stage p sound)
    (tells_from setup ps next (step_sound setup stage p sound))

pub told : EndsAreTold
told setup start pairs = tells_from setup pairs (Opening start) tt
