-- What holds for all calls of a following.
use Rattle.std.specs.Prelude.{◌≡◌, ◌<◌, ◌≤◌, ◌+◌, ◌-◌, ◌*◌, ◌/◌, ◌%◌, ◌^◌, ◌++◌, ◌⊎◌, ℕ, min, true, false, List, map, decimal, Option, Some, None, Ok}
use Rattle.booth_wire.specs.declared.codes.results.TheConstants.{IARG, MORE, SUCCESS}
use Rattle.booth_wire.specs.declared.command.Cmd.TheVariants.{RLst, RTkt}
use Rattle.booth_wire.specs.declared.message.Head.{Head}
use Rattle.booth_wire.specs.declared.message.TicketPart.{TicketPart}
use Rattle.booth_wire.specs.Command.{code_of}
use Rattle.booth_wire.specs.PlainMessage.{PlainMessage, Text, Ticket}
use Rattle.booth_wire.specs.Reading.{decoded}
use Rattle.booth_auth.specs.Verdict.{is_signed}
use Rattle.booth_follow_rule.specs.declared.news.News.{News}
use Rattle.booth_follow_rule.specs.declared.news.News.TheVariants as news
use Rattle.booth_follow_rule.specs.declared.news.Shown.{Shown}
use Rattle.booth_follow_rule.specs.declared.news.Shown.TheVariants.{Here}
use Rattle.booth_follow_rule.specs.declared.state.FollowDeed.{FollowDeed}
use Rattle.booth_follow_rule.specs.declared.state.FollowDeed.TheVariants as deeds
use Rattle.booth_follow_rule.specs.declared.state.Stage.TheVariants.{Up}
use Rattle.booth_follow_rule.specs.declared.state.Word.TheVariants.{Start, Stop, Kill}
use Rattle.booth_follow_rule.specs.Known.{AllRows, Row, known_first, rows_of}
use Rattle.booth_follow_rule.specs.Laws.{IsCovered, IsPrompt, IsRowLet}
use Rattle.booth_following.specs.declared.following.Following.{Following}
use Rattle.booth_following.specs.Asking.{number_of}
use Rattle.booth_following.specs.Hearing.{IsHeard, is_whole, part_in}
use Rattle.booth_following.specs.Lists.{IsLine, IsShownIn, Part, TellsOf}
use Rattle.booth_following.specs.declared.following.Seat.{Seat}
use Rattle.booth_following.specs.declared.standing.Standing.{Standing}
use Rattle.booth_following.specs.Standing.{standing_in, standing_of, told_end}
use Rattle.booth_following.specs.declared.turns.FollowEnd.TheVariants.{Unheard}
use Rattle.booth_following.specs.Following.{under}
use Rattle.booth_following.specs.Restarts.{is_another}
use Rattle.booth_following.specs.Turns.{AreTurnsTo, IsFollowed, IsToldIn, Turn, deed_of, deeds_of, first_seat, moment_of, seat_after, term_heard}
use Rattle.booth_keys.specs.declared.ring.Ring.{Ring}
use Rattle.booth_host.specs.declared.entry.Entry.{Entry}

-- ---- the rule

-- the moments of turns with the rule's actions
abbrev pub rows_in : Following → Option ℕ → List Turn → List Row
rows_in f left turns = rows_of f.margins left (map (λ t. moment_of t) turns)

-- The actions of turns are the rule's for their moments, and so what is known allows them. Between a start and the
-- end of its stop or kill the clock is below an armed end, if the environment is prompt.
pub record TurnsFollowTheRule : Type 0 where
  pub deeds : (f : Following) (left : Option ℕ) (turns : List Turn)
      → deeds_of (first_seat f left) turns ≡ map (λ row. row.deed) (rows_in f left turns)
  pub moments : (f : Following) (left : Option ℕ) (turns : List Turn)
      → map (λ t. moment_of t) turns ≡ map (λ row. row.at) (rows_in f left turns)
  pub allowed : (f : Following) (left : Option ℕ) (turns : List Turn)
      → AllRows (IsRowLet f.margins) (known_first left) (rows_in f left turns)
  pub in_time : (f : Following) (left : Option ℕ) (turns : List Turn) (gap quick : ℕ) →
      2 * gap + quick ≤ f.margins.kill → f.margins.kill ≤ f.margins.margin →
      AllRows (IsPrompt gap quick) (known_first left) (rows_in f left turns)
      → AllRows (IsCovered gap) (known_first left) (rows_in f left turns)

-- The turns up to silence are turns of the following. So are the turns that it makes with other keys, and turns after
-- other turns.
pub record TurnsGoOn : Type 0 where
  pub silent : (f : Following) (from to : Seat) (entries : List Entry) →
      IsFollowed f from to Unheard entries → AreTurnsTo f from to entries
  pub rekeyed : (f : Following) (ring : Option Ring) (from to : Seat) (entries : List Entry) →
      AreTurnsTo (under f ring) from to entries → AreTurnsTo f from to entries
  pub joined : (f : Following) (from at to : Seat) (first second : List Entry) →
      AreTurnsTo f from at first → AreTurnsTo f at to second → AreTurnsTo f from to (first ++ second)

-- ---- lists

-- The bytes are a message, it has the MAC if there is a key, it answers the request for a list that was sent at this
-- reading, this site sent it, its result is that of a part, and this is its text. It is the whole list if it has the
-- number of the first part and the result of the last.
pub record IsAuthentic (f : Following) (asked : ℕ) (bytes : List ℕ) (m : PlainMessage) (part : Part) : Type 0 where
  pub read : decoded bytes ≡ Ok m
  pub signed : is_signed f.ring m.head bytes ≡ true
  pub answer : code_of m.head.cmd ≡ code_of RLst
  pub number : m.head.request ≡ number_of asked
  pub from : m.head.from.0 ≡ f.me.0
  pub of_list : (m.head.result ≡ SUCCESS) ⊎ (m.head.result ≡ MORE)
  pub tells : m.content ≡ Text part.text
  pub whole : part.whole ≡ is_whole m

-- Exactly the bytes of authentic parts are parts. If a datagram that is no answer about the ticket shows this site or
-- another, then it is such a part, and it is the whole list or has the ticket's line. A part that says nothing about
-- the ticket is ignored.
pub record ListsAreAuthentic : Type 0 where
  pub only : (f : Following) (asked : ℕ) (bytes : List ℕ) (part : Part) → part_in f asked bytes ≡ Some part →
      (m : PlainMessage) × IsAuthentic f asked bytes m part
  pub all : (f : Following) (asked : ℕ) (bytes : List ℕ) (part : Part) (m : PlainMessage) →
      IsAuthentic f asked bytes m part → part_in f asked bytes ≡ Some part
  pub shows : (f : Following) (asked : ℕ) (bytes : List ℕ) (shown : Shown) → standing_in f asked bytes ≡ None →
      IsHeard f (Some asked) bytes (news.List shown) →
      (part : Part) × (part_in f asked bytes ≡ Some part) × TellsOf f.ticket part × IsShownIn f.line part.text shown
  pub silent : (f : Following) (asked : ℕ) (bytes : List ℕ) (part : Part) (heard : News) →
      standing_in f asked bytes ≡ None →
      IsHeard f (Some asked) bytes heard → part_in f asked bytes ≡ Some part → (TellsOf f.ticket part → ⊥) →
      heard ≡ news.Nothing

-- ---- answers about the ticket

-- The bytes are a message, it has the MAC if there is a key, it answers the request for the ticket that was sent at
-- this reading, this site sent it, its result is 0 or IArg, and this is its part, which is about the ticket. So the
-- ticket's state is the one in the answer.
pub record IsStandingTold (f : Following) (asked : ℕ) (bytes : List ℕ) (m : PlainMessage) (part : TicketPart)
    (standing : Standing) : Type 0 where
  pub read : decoded bytes ≡ Ok m
  pub signed : is_signed f.ring m.head bytes ≡ true
  pub answer : code_of m.head.cmd ≡ code_of RTkt
  pub number : m.head.request ≡ number_of asked
  pub from : m.head.from.0 ≡ f.me.0
  pub is_done : (m.head.result ≡ SUCCESS) ⊎ (m.head.result ≡ IARG)
  pub tells : m.content ≡ Ticket part
  pub about : part.ticket ≡ f.ticket
  pub stands : standing ≡ standing_of f m.head part

-- Exactly the bytes of such answers report the ticket's state, and the rule receives what they show.
pub record AnswersAreAuthentic : Type 0 where
  pub only : (f : Following) (asked : ℕ) (bytes : List ℕ) (standing : Standing) →
      standing_in f asked bytes ≡ Some standing →
      (m : PlainMessage) × (part : TicketPart) × IsStandingTold f asked bytes m part standing
  pub all : (f : Following) (asked : ℕ) (bytes : List ℕ) (m : PlainMessage) (part : TicketPart)
      (standing : Standing) → IsStandingTold f asked bytes m part standing → standing_in f asked bytes ≡ Some standing
  pub shows : (f : Following) (asked : ℕ) (bytes : List ℕ) (standing : Standing) (heard : News) →
      standing_in f asked bytes ≡ Some standing → IsHeard f (Some asked) bytes heard →
      heard ≡ news.List standing.shown

-- ---- terms

-- the run of an action ends the service
abbrev pub EndsService : FollowDeed → Type 0
EndsService (deeds.Run Stop number until) = Unit {0}
EndsService (deeds.Run Kill number until) = Unit {0}
EndsService deed = ⊥

-- The term of a service is the term that was known at its last start. If the service is restarted for a term, a turn
-- that gets an answer while the service runs with another term ends it. What the rule learns of this site is always
-- what was said, and otherwise too if the service is not restarted for a term.
pub record ServicesHaveTheirTerms : Type 0 where
  pub starts : (f : Following) (seat : Seat) (t : Turn) (number until : ℕ) →
      deed_of seat t ≡ deeds.Run Start number until → (seat_after seat t).started ≡ term_heard t.standing seat.term
  pub ends : (f : Following) (seat : Seat) (t : Turn) (shown : Shown) → f.restarts ≡ true → IsToldIn f seat t →
      t.said ≡ news.List shown → seat.follower.state.stage ≡ Up →
      is_another seat.started (term_heard t.standing seat.term) ≡ true → EndsService (deed_of seat t)
  pub here : (f : Following) (seat : Seat) (t : Turn) (until : ℕ) → IsToldIn f seat t →
      t.heard ≡ news.List (Here until) → t.said ≡ news.List (Here until)
  pub same : (f : Following) (seat : Seat) (t : Turn) → f.restarts ≡ false → IsToldIn f seat t → t.heard ≡ t.said

-- ---- ends

-- A daemon reports the end of its lease in whole seconds. So the end in its line is no later than the lease's end.
abbrev pub EndsAreNoLater : Type 0
EndsAreNoLater = (start line : List ℕ) (end until : ℕ) → end < 2 ^ 64 → line ≡ start ++ decimal (end / 1000) →
    IsLine start line until → until ≤ end

-- The seconds that are left are rounded up, and a message's head has the reading at which it was sent. So the end by
-- an answer about the ticket is no later than the lease's end.
abbrev pub AnswersEndNoLater : Type 0
AnswersEndNoLater = (head : Head) (seconds reading until : ℕ) → head.secs < 4294967295 →
    head.secs ≡ min (reading / 1000) 4294967295 → head.usecs ≡ reading % 1000 * 1000 → reading < until →
    seconds ≡ min ((until - reading + 999) / 1000) 4294967295 → told_end head seconds ≤ until
