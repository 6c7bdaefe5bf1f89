-- Laws of the actions of every move.
use Rattle.std.specs.Prelude.{◌≡◌, ◌≢◌, ◌≤◌, ◌+◌, ◌*◌, ◌++◌, ◌⊎◌, ℕ, true, false, List, [], ◌∷◌, length, map, position, Some, None, IfSome}
use Rattle.std.specs.Prelude.{Bool, T}
use Rattle.booth_base.specs.declared.address.MemberId.{MemberId}
use Rattle.booth_conf.specs.Config.{has_id}
use Rattle.booth_conf.specs.declared.members.Member.{Member}
use Rattle.booth_wire.specs.declared.codes.results.TheConstants.{SUCCESS, ASYN, BUSY, REDR}
use Rattle.booth_wire.specs.declared.command.Cmd.TheVariants.{CRvk}
use Rattle.booth_wire.specs.PlainMessage.{PlainMessage}
use Rattle.booth_talk.specs.Asking.{number_of}
use Rattle.booth_talk.specs.Replies.{leader_in}
use Rattle.booth_talk.specs.declared.wait.TheConstants.{MOST_PAIRS}
use Rattle.booth_move.specs.declared.deeds.MoveDeed.{MoveDeed}
use Rattle.booth_move.specs.declared.deeds.MoveDeed.TheVariants as deeds
use Rattle.booth_move.specs.declared.deeds.MoveEnd.{MoveEnd}
use Rattle.booth_move.specs.declared.deeds.MoveEnd.TheVariants.{Moved, Asked, Refused, Stranded, NoReply}
use Rattle.booth_move.specs.declared.stage.Stage.{Stage}
use Rattle.booth_move.specs.declared.stage.Stage.TheVariants.{Opening}
use Rattle.booth_move.specs.Deeds.{move_deeds, move_step, next_number, stage_after}
use Rattle.booth_move.specs.Move.{IsSoundStage, MoveSetup, Pair, id_number, is_answer, is_reply_to, place_of}
use Rattle.booth_move.specs.Rows.{Brings, Follows}

-- ---- the number of requests

-- The places to which the revoke is redirected, in order.
abbrev pub redirections : List MoveDeed → List ℕ
redirections [] = []
redirections (deeds.Revoke (Some place) number ∷ ds) = place ∷ redirections ds
redirections (d ∷ ds) = redirections ds

-- The numbers of the grants, in order.
abbrev pub grants_of : List MoveDeed → List ℕ
grants_of [] = []
grants_of (deeds.Grant number ∷ ds) = number ∷ grants_of ds
grants_of (d ∷ ds) = grants_of ds

-- The revoke is redirected at most once, and the grant is sent at most eleven times.
pub record AsksSeldom : Type 0 where
  pub once : (setup : MoveSetup) (start : ℕ) (pairs : List Pair) →
      length (redirections (move_deeds setup start pairs)) ≤ 1
  pub eleven : (setup : MoveSetup) (start : ℕ) (pairs : List Pair) →
      length (grants_of (move_deeds setup start pairs)) ≤ 11

-- ---- numbers

-- Each number is the next after the number before it.
abbrev pub IsRisingFrom : ℕ → List ℕ → Type 0
IsRisingFrom number [] = Unit {0}
IsRisingFrom number (next ∷ rest) = (next ≡ next_number number) × IsRisingFrom next rest

abbrev pub IsRising : List ℕ → Type 0
IsRising [] = Unit {0}
IsRising (first ∷ rest) = IsRisingFrom first rest

-- The number of each repeated grant is the next after the number of the grant before it.
abbrev pub NumbersRise : Type 0
NumbersRise = (setup : MoveSetup) (start : ℕ) (pairs : List Pair) → IsRising (grants_of (move_deeds setup start pairs))

-- ---- the end

abbrev pub are_nothing : List MoveDeed → Bool
are_nothing [] = true
are_nothing (deeds.Nothing ∷ ds) = are_nothing ds
are_nothing (d ∷ ds) = false

abbrev pub AreNothing : List MoveDeed → Type 0
AreNothing ds = T (are_nothing ds)

-- No action comes after an end.
abbrev pub EndsOnce : List MoveDeed → Type 0
EndsOnce [] = Unit {0}
EndsOnce (deeds.End end ∷ ds) = AreNothing ds
EndsOnce (d ∷ ds) = EndsOnce ds

abbrev pub NothingAfterTheEnd : Type 0
NothingAfterTheEnd = (setup : MoveSetup) (start : ℕ) (pairs : List Pair) → EndsOnce (move_deeds setup start pairs)

abbrev pub has_end : List MoveDeed → Bool
has_end [] = false
has_end (deeds.End end ∷ ds) = true
has_end (d ∷ ds) = has_end ds

abbrev pub HasEnd : List MoveDeed → Type 0
HasEnd ds = T (has_end ds)

-- The greatest number of pairs before the end. The first is the pair of the start. There are at most two revokes,
-- eleven grants and ten pauses. A request has two waits, because the move may wait for its outcome after it was
-- begun.
abbrev pub most_pairs : ℕ
most_pairs = 1 + (2 * 2 + 11 * 2 + 10) * MOST_PAIRS

-- After this many pairs every move has ended.
abbrev pub EveryMoveEnds : Type 0
EveryMoveEnds = (setup : MoveSetup) (start : ℕ) (pairs : List Pair) →
    most_pairs ≤ length pairs → HasEnd (move_deeds setup start pairs)

-- ---- the reply after which the grant is allowed

-- Each reply that the move receives answers its last request.
abbrev pub AreAnswers : MoveSetup → Stage → List Pair → Type 0
AreAnswers setup stage [] = Unit {0}
AreAnswers setup stage (p ∷ ps) =
    IfSome p.reply (λ m. is_answer setup stage m ≡ true) × AreAnswers setup (move_step setup stage p).stage ps

-- The pair has a reply to the revoke with this number, with result 0.
pub record IsRevoked (setup : MoveSetup) (number : ℕ) (p : Pair) : Type 0 where
  pub m : PlainMessage
  pub is : p.reply ≡ Some m
  pub to : is_reply_to setup.ids CRvk number m ≡ true
  pub done : m.head.result ≡ SUCCESS

-- The first grant follows the pair with the reply that the last revoke before it was done. Each further grant follows
-- later.
abbrev pub GrantsAfterReply : MoveSetup → ℕ → List Pair → List MoveDeed → Type 0
GrantsAfterReply setup revoke [] ds = Unit {0}
GrantsAfterReply setup revoke (p ∷ ps) [] = Unit {0}
GrantsAfterReply setup revoke (p ∷ ps) (deeds.Revoke to number ∷ ds) = GrantsAfterReply setup number ps ds
GrantsAfterReply setup revoke (p ∷ ps) (deeds.Grant number ∷ ds) = IsRevoked setup revoke p
GrantsAfterReply setup revoke (p ∷ ps) (d ∷ ds) = GrantsAfterReply setup revoke ps ds

-- A grant is sent only after the reply that the ticket was released, and never without that reply.
abbrev pub GrantsAreLet : Type 0
GrantsAreLet = (setup : MoveSetup) (start : ℕ) (pairs : List Pair) → AreAnswers setup (Opening start) pairs →
    GrantsAfterReply setup (number_of start) pairs (move_deeds setup start pairs)

-- ---- the end of a move, by its reply

-- The last reply to the revoke has this result, which is not 0. The move does not have to wait after the reply, and the
-- reply is not a first one that names another member as the owner.
pub record RefusedBy (setup : MoveSetup) (grants sent_on : ℕ) (p : Pair) (result : ℕ) : Type 0 where
  pub m : PlainMessage
  pub is : p.reply ≡ Some m
  pub with : m.head.result ≡ result
  pub not_done : result ≢ SUCCESS
  pub not_begun : result ≡ ASYN → setup.wait ≡ false
  pub not_followed : result ≡ REDR → (1 ≤ sent_on) ⊎ (place_of (leader_in m.content) setup.ids ≡ None)
  pub no_grant : grants ≡ 0

-- The last reply to the grant has this result. The result is not 0, and not that the grant was begun; nor is the
-- target busy while the grant may still be repeated.
pub record StrandedBy (grants : ℕ) (p : Pair) (result : ℕ) : Type 0 where
  pub brings : Brings result p
  pub not_done : result ≢ SUCCESS
  pub not_begun : result ≢ ASYN
  pub granted : 1 ≤ grants
  pub often : result ≡ BUSY → grants ≡ 11

-- The reply that ends the move, after this many grants and this many redirections of the revoke. The table defines
-- when a wait is over.
abbrev pub IsEndedBy : MoveSetup → ℕ → ℕ → Pair → MoveEnd → Type 0
IsEndedBy setup grants sent_on p Moved = Brings SUCCESS p × (1 ≤ grants)
IsEndedBy setup grants sent_on p Asked = Brings ASYN p × (setup.wait ≡ false) × (1 ≤ grants)
IsEndedBy setup grants sent_on p (Refused result) = RefusedBy setup grants sent_on p result
IsEndedBy setup grants sent_on p (Stranded result) = StrandedBy grants p result
IsEndedBy setup grants sent_on p NoReply = Unit {0}

-- The reply that ended the move, for each end among these actions.
abbrev pub EndsByReply : MoveSetup → ℕ → ℕ → List Pair → List MoveDeed → Type 0
EndsByReply setup grants sent_on [] ds = Unit {0}
EndsByReply setup grants sent_on (p ∷ ps) [] = Unit {0}
EndsByReply setup grants sent_on (p ∷ ps) (deeds.End end ∷ ds) = IsEndedBy setup grants sent_on p end
EndsByReply setup grants sent_on (p ∷ ps) (deeds.Grant number ∷ ds) = EndsByReply setup (grants + 1) sent_on ps ds
EndsByReply setup grants sent_on (p ∷ ps) (deeds.Revoke (Some place) number ∷ ds) =
    EndsByReply setup grants (sent_on + 1) ps ds
EndsByReply setup grants sent_on (p ∷ ps) (d ∷ ds) = EndsByReply setup grants sent_on ps ds

-- Each end of a move reports the reply that arrived with it.
abbrev pub EndsAreTold : Type 0
EndsAreTold = (setup : MoveSetup) (start : ℕ) (pairs : List Pair) →
    EndsByReply setup 0 0 pairs (move_deeds setup start pairs)

-- ---- each step

-- Each step is a row of the table, and leads to a sound stage again.
pub record StepsAreRows : Type 0 where
  pub row : (setup : MoveSetup) (stage : Stage) (p : Pair) → IsSoundStage stage →
      Follows setup stage p (move_step setup stage p).deed (move_step setup stage p).stage
  pub sound : (setup : MoveSetup) (stage : Stage) (p : Pair) → IsSoundStage stage →
      IsSoundStage (move_step setup stage p).stage

-- Steps one after the other give the actions of a move, one for each pair. The first step sends the revoke.
pub record StepsMakeDeeds : Type 0 where
  pub first : (setup : MoveSetup) (start : ℕ) (p : Pair) →
      move_deeds setup start (p ∷ []) ≡ deeds.Revoke None (number_of start) ∷ []
  pub one_more : (setup : MoveSetup) (start : ℕ) (pairs : List Pair) (p : Pair) →
      move_deeds setup start (pairs ++ p ∷ [])
      ≡ move_deeds setup start pairs ++ (move_step setup (stage_after setup (Opening start) pairs) p).deed ∷ []
  pub then : (setup : MoveSetup) (start : ℕ) (pairs : List Pair) (p : Pair) →
      stage_after setup (Opening start) (pairs ++ p ∷ [])
      ≡ (move_step setup (stage_after setup (Opening start) pairs) p).stage
  pub as_many : (setup : MoveSetup) (start : ℕ) (pairs : List Pair) →
      length (move_deeds setup start pairs) ≡ length pairs

-- ---- places

-- A place among the members' ids is the place of the member with this id in the configuration.
abbrev pub PlacesAreMembers : Type 0
PlacesAreMembers = (members : List Member) (id : MemberId) →
    place_of id (map id_number members) ≡ position (has_id id) members
