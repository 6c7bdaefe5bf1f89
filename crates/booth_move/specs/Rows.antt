-- The action and the stage after a pair: a table of all cases, by the content of the pair.
use Rattle.std.specs.Prelude.{◌≡◌, ◌≢◌, ◌<◌, ◌≤◌, ◌+◌, ◌⊎◌, ℕ, Bool, true, false, Some, None}
use Rattle.booth_wire.specs.declared.codes.results.TheConstants.{SUCCESS, ASYN, BUSY, REDR}
use Rattle.booth_wire.specs.PlainMessage.{PlainMessage}
use Rattle.booth_talk.specs.Asking.{number_of}
use Rattle.booth_talk.specs.Replies.{leader_in}
use Rattle.booth_talk.specs.declared.wait.TheConstants.{MOST_PAIRS, PATIENCE}
use Rattle.booth_move.specs.declared.deeds.MoveDeed.{MoveDeed}
use Rattle.booth_move.specs.declared.deeds.MoveDeed.TheVariants as deeds
use Rattle.booth_move.specs.declared.deeds.MoveEnd.{MoveEnd}
use Rattle.booth_move.specs.declared.deeds.MoveEnd.TheVariants.{Moved, Asked, Refused, Stranded, NoReply}
use Rattle.booth_move.specs.declared.stage.Request.{Request}
use Rattle.booth_move.specs.declared.stage.Stage.{Stage}
use Rattle.booth_move.specs.declared.stage.Stage.TheVariants.{Opening, Revoking, Granting, Pausing, Ended}
use Rattle.booth_move.specs.Deeds.{next_number}
use Rattle.booth_move.specs.Move.{MoveSetup, Pair, place_of}
use Rattle.booth_move.specs.Waiting.{sent}
use Rattle.booth_move.specs.declared.steps.TheConstants.{REPEATS}
use Rattle.booth_move.specs.declared.waiting.TheConstants.{PAUSE}

-- ---- the content of a pair

-- The pair has a reply with this result.
pub record Brings (result : ℕ) (p : Pair) : Type 0 where
  pub m : PlainMessage
  pub is : p.reply ≡ Some m
  pub with : m.head.result ≡ result

-- The pair has a reply that names the member at this place as the owner.
pub record Names (setup : MoveSetup) (place : ℕ) (p : Pair) : Type 0 where
  pub m : PlainMessage
  pub is : p.reply ≡ Some m
  pub with : m.head.result ≡ REDR
  pub there : place_of (leader_in m.content) setup.ids ≡ Some place

-- The pair has no reply, and its reading is not too late.
pub record IsSilent (last : Request) (p : Pair) : Type 0 where
  pub none : p.reply ≡ None
  pub early : last.begun ≡ false → p.reading ≤ last.start + PATIENCE

-- The pair has no reply, and its reading is too late for a first answer.
pub record IsLate (last : Request) (p : Pair) : Type 0 where
  pub none : p.reply ≡ None
  pub first : last.begun ≡ false
  pub late : last.start + PATIENCE < p.reading

-- The pair has the reply that the request was begun, for a move that waits for the outcome.
pub record IsBegun (wait : Bool) (p : Pair) : Type 0 where
  pub brings : Brings ASYN p
  pub waits : wait ≡ true

-- ---- waits

-- The pair has no answer: it has no reply, or it repeats the reply that the request was begun.
abbrev pub HasNoAnswer : Bool → Request → Pair → Type 0
HasNoAnswer wait last p = IsSilent last p ⊎ ((last.begun ≡ true) × IsBegun wait p)

-- The wait continues: by one more pair, or, after the first reply that the request was begun, by further pairs.
abbrev pub GoesOn : Bool → Request → Pair → Request → Type 0
GoesOn wait last p next =
    (HasNoAnswer wait last p × (last.pairs + 1 < MOST_PAIRS) × (next ≡ record last { pairs = last.pairs + 1 }))
    ⊎ (IsBegun wait p × (last.begun ≡ false) × (next ≡ record last { pairs = 0; begun = true }))

-- The wait ends without an answer.
abbrev pub Expires : Bool → Request → Pair → Type 0
Expires wait last p = IsLate last p ⊎ (HasNoAnswer wait last p × (last.pairs + 1 ≡ MOST_PAIRS))

-- ---- requests

-- A new request that starts at the pair's reading. Its number is the number for this reading.
pub record IsNew (p : Pair) (number : ℕ) (next : Request) : Type 0 where
  pub number_is : number ≡ number_of p.reading
  pub is : next ≡ sent number p.reading

-- The grant is repeated: with the next number, at a reading that is late enough.
pub record IsRepeat (p : Pair) (last : Request) (repeats number : ℕ) (next : Request) (again : ℕ) : Type 0 where
  pub rested : last.start + PAUSE ≤ p.reading
  pub fewer : repeats < REPEATS
  pub number_is : number ≡ next_number last.number
  pub is : next ≡ sent number p.reading
  pub one_more : again ≡ repeats + 1

-- ---- ends

-- The last reply to the revoke has this result, and no other action follows it. The move does not follow a named
-- owner if the revoke was redirected before, or if the owner is no member.
pub record IsRefused (setup : MoveSetup) (sent_on : Bool) (p : Pair) (result : ℕ) : Type 0 where
  pub m : PlainMessage
  pub is : p.reply ≡ Some m
  pub with : m.head.result ≡ result
  pub not_done : result ≢ SUCCESS
  pub not_begun : result ≡ ASYN → setup.wait ≡ false
  pub not_followed : result ≡ REDR → (sent_on ≡ true) ⊎ (place_of (leader_in m.content) setup.ids ≡ None)

-- The last reply to the grant has this result, and no other action follows it.
pub record IsStranded (repeats : ℕ) (p : Pair) (result : ℕ) : Type 0 where
  pub brings : Brings result p
  pub not_done : result ≢ SUCCESS
  pub not_begun : result ≢ ASYN
  pub not_repeated : result ≡ BUSY → repeats ≡ REPEATS

abbrev pub EndsRevoke : MoveSetup → Request → Bool → Pair → MoveEnd → Type 0
EndsRevoke setup last sent_on p (Refused result) = IsRefused setup sent_on p result
EndsRevoke setup last sent_on p NoReply = Expires setup.wait last p
EndsRevoke setup last sent_on p end = ⊥

abbrev pub EndsGrant : MoveSetup → Request → ℕ → Pair → MoveEnd → Type 0
EndsGrant setup last repeats p Moved = Brings SUCCESS p
EndsGrant setup last repeats p Asked = Brings ASYN p × (setup.wait ≡ false)
EndsGrant setup last repeats p (Stranded result) = IsStranded repeats p result
EndsGrant setup last repeats p NoReply = Expires setup.wait last p
EndsGrant setup last repeats p end = ⊥

abbrev pub EndsPause : Request → Pair → MoveEnd → Type 0
EndsPause last p NoReply = (p.reading < last.start + PAUSE) × (last.pairs + 1 ≡ MOST_PAIRS)
EndsPause last p end = ⊥

-- ---- the table

-- The action and the stage after a pair at a stage. There are no other cases.
abbrev pub Follows : MoveSetup → Stage → Pair → MoveDeed → Stage → Type 0
Follows setup (Opening start) p (deeds.Revoke None number) (Revoking next on) =
    (number ≡ number_of start) × (next ≡ sent number start) × (on ≡ false)
Follows setup (Revoking last sent_on) p deeds.Nothing (Revoking next on) =
    GoesOn setup.wait last p next × (on ≡ sent_on)
Follows setup (Revoking last sent_on) p (deeds.Revoke (Some place) number) (Revoking next on) =
    Names setup place p × (sent_on ≡ false) × IsNew p number next × (on ≡ true)
Follows setup (Revoking last sent_on) p (deeds.Grant number) (Granting next again) =
    Brings SUCCESS p × IsNew p number next × (again ≡ 0)
Follows setup (Revoking last sent_on) p (deeds.End end) Ended = EndsRevoke setup last sent_on p end
Follows setup (Granting last repeats) p deeds.Nothing (Granting next again) =
    GoesOn setup.wait last p next × (again ≡ repeats)
Follows setup (Granting last repeats) p deeds.Nothing (Pausing next again) =
    Brings BUSY p × (p.reading < last.start + PAUSE) × (repeats < REPEATS)
    × (next ≡ record last { pairs = 0 }) × (again ≡ repeats)
Follows setup (Granting last repeats) p (deeds.Grant number) (Granting next again) =
    Brings BUSY p × IsRepeat p last repeats number next again
Follows setup (Granting last repeats) p (deeds.End end) Ended = EndsGrant setup last repeats p end
Follows setup (Pausing last repeats) p deeds.Nothing (Pausing next again) =
    (p.reading < last.start + PAUSE) × (last.pairs + 1 < MOST_PAIRS)
    × (next ≡ record last { pairs = last.pairs + 1 }) × (again ≡ repeats)
Follows setup (Pausing last repeats) p (deeds.Grant number) (Granting next again) =
    IsRepeat p last repeats number next again
Follows setup (Pausing last repeats) p (deeds.End end) Ended = EndsPause last p end
Follows setup Ended p deeds.Nothing Ended = Unit {0}
Follows setup stage p deed next = ⊥
