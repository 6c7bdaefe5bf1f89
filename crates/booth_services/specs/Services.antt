-- Services that follow a ticket at the sites of a world.
use Rattle.std.specs.Prelude.{◌≡◌, ◌≢◌, ◌⊎◌, ◌++◌, ℕ, ◌+◌, ◌*◌, ◌<◌, ◌≤◌, List, [], ◌∷◌, decimal, map, Option, Some, None, Ok, IsSomeAnd}
use Rattle.booth_conf.specs.declared.tickets.TicketConf.{TicketConf}
use Rattle.booth_rec.specs.declared.record.Record.{Record}
use Rattle.booth_rec.specs.Record.{IsInForce}
use Rattle.booth_wire.specs.declared.message.TicketPart.{TicketPart}
use Rattle.booth_wire.specs.PlainMessage.{PlainMessage}
use Rattle.booth_wire.specs.Reading.{decoded}
use Rattle.booth_node.specs.Records.{Has}
use Rattle.booth_node.specs.World.{WorldEntry, World, members_of, id_at, clock_at, last_time, stand_after, IsSend, IsWorld}
use Rattle.booth_node.specs.Held.{Moment, IsAutomatic, HoldsBy}
use Rattle.booth_world.specs.Tellers.{Claim, HasLeft, IsListed, BearsOut, IsNext, ListTells, MessageTells, address_at}
use Rattle.booth_world.specs.Worlds.{GivesBack, ReleasedIn}
use Rattle.booth_follow_rule.specs.declared.news.News.TheVariants as news
use Rattle.booth_follow_rule.specs.declared.news.RunEnd.TheVariants.{Done}
use Rattle.booth_follow_rule.specs.declared.news.Shown.{Shown}
use Rattle.booth_follow_rule.specs.declared.news.Shown.TheVariants.{Here}
use Rattle.booth_follow_rule.specs.declared.state.FollowDeed.TheVariants as deeds
use Rattle.booth_follow_rule.specs.declared.state.Word.TheVariants.{Renew}
use Rattle.booth_follow_rule.specs.Known.{AllRows, Row, Started, known_first}
use Rattle.booth_follow_rule.specs.Laws.{IsPrompt, known_from}
use Rattle.booth_following.specs.declared.following.Following.{Following}
use Rattle.booth_following.specs.Following.{under}
use Rattle.booth_following.specs.Laws.{IsAuthentic, IsStandingTold, rows_in}
use Rattle.booth_following.specs.Lists.{Part, line_start}
use Rattle.booth_following.specs.Standing.{standing_of, told_end}
use Rattle.booth_following.specs.Turns.{AreTurns, IsToldIn, Turn, first_seat, seat_from}

-- ---- followers

-- A turn of a follower, with the true time of its reading.
pub record TimedTurn : Type 0 where
  pub time : ℕ
  pub turn : Turn

abbrev pub turns_of : List TimedTurn → List Turn
turns_of turns = map (λ t. t.turn) turns

-- A follower: its following, the end until which an earlier follower left the service running, and its turns. `gap`
-- is the most time in ms that the environment takes between two readings while the service runs, and `quick` the most
-- time that it takes for a kill.
pub record Follower : Type 0 where
  pub following : Following
  pub left : Option ℕ
  pub turns : List TimedTurn
  pub gap : ℕ
  pub quick : ℕ

-- The member sent this message, no later than at this time.
pub record WasSentBy (w : World) (m time : ℕ) (message : PlainMessage) : Type 0 where
  pub entry : WorldEntry
  pub one : Has w.entries entry
  pub own : entry.member ≡ m
  pub no_later : entry.time ≤ time
  pub bytes : List ℕ
  pub sent : IsSend entry.what bytes
  pub same : decoded bytes ≡ Ok message

-- If a turn accepts a message as an answer about the ticket, or as a part of a list, the follower's site has sent the
-- message. The turn accepts it by its keys, as an answer to the requests that were sent at this reading.
abbrev pub HearsItsSite : World → ℕ → Following → Option ℕ → TimedTurn → Type 0
HearsItsSite w m f None t = Unit {0}
HearsItsSite w m f (Some asked) t =
    ((message : PlainMessage) (part : TicketPart)
    → IsStandingTold (under f t.turn.ring) asked t.turn.bytes message part
    (standing_of (under f t.turn.ring) message.head part) → WasSentBy w m t.time message)
    × ((message : PlainMessage) (part : Part) → IsAuthentic (under f t.turn.ring) asked t.turn.bytes message part
    → WasSentBy w m t.time message)

abbrev pub time_after : ℕ → List TimedTurn → ℕ
time_after time [] = time
time_after time (t ∷ turns) = time_after t.time turns

-- The reading at which the follower last asked about the ticket, after these turns.
abbrev pub asked_after : Following → Option ℕ → List TimedTurn → Option ℕ
asked_after f left before = (seat_from (first_seat f left) (turns_of before)).asked

-- A turn of a follower at a member, after others. Its clock is the member's clock, and its answers come from the
-- member.
pub record IsTurnAt (w : World) (m : ℕ) (f : Following) (left : Option ℕ) (before : List TimedTurn) (t : TimedTurn)
    : Type 0 where
  pub in_order : time_after 0 before ≤ t.time
  pub within : t.time < w.span
  pub reads : t.turn.reading ≡ clock_at w m t.time
  pub hears : HearsItsSite w m f (asked_after f left before) t

-- A turn of a follower at a member received this end, no later than at this time.
pub record HasHeard (w : World) (m : ℕ) (f : Following) (left : Option ℕ) (until time : ℕ) : Type 0 where
  pub before : List TimedTurn
  pub t : TimedTurn
  pub told : IsToldIn f (seat_from (first_seat f left) (turns_of before)) t.turn
  pub at : IsTurnAt w m f left before t
  pub shown : t.turn.heard ≡ news.List (Here until)
  pub no_later : t.time ≤ time

-- Two followings are about the same ticket at the same site.
pub record AreAlike (f g : Following) : Type 0 where
  pub line : f.line ≡ g.line
  pub ticket : f.ticket ≡ g.ticket
  pub me : f.me ≡ g.me

-- An earlier follower of the ticket at the member received this end, no later than these turns.
pub record WasHeard (w : World) (m : ℕ) (f : Following) (until : ℕ) (turns : List TimedTurn) : Type 0 where
  pub following : Following
  pub left : Option ℕ
  pub alike : AreAlike following f
  pub time : ℕ
  pub heard : HasHeard w m following left until time
  pub no_later : (before after : List TimedTurn) (t : TimedTurn) → turns ≡ before ++ t ∷ after → time ≤ t.time

abbrev pub IsLeftAt : World → ℕ → Following → Option ℕ → List TimedTurn → Type 0
IsLeftAt w m f (Some until) turns = WasHeard w m f until turns
IsLeftAt w m f None turns = Unit {0}

-- A follower of the ticket at a member of the world, whose turns are the turns of a following. If an earlier follower
-- left an end, that follower had received this end. The environment is prompt, and the margins have room for its
-- delays.
pub record IsFollowerAt (w : World) (ticket : TicketConf) (m : ℕ) (x : Follower) : Type 0 where
  pub below : m < members_of w
  pub line : x.following.line ≡ line_start ticket.name (address_at w m)
  pub ticket_is : x.following.ticket ≡ ticket.name
  pub me_is : x.following.me ≡ id_at w m
  pub left : IsLeftAt w m x.following x.left x.turns
  pub told : AreTurns x.following (first_seat x.following x.left) (turns_of x.turns)
  pub at : (before after : List TimedTurn) (t : TimedTurn) → x.turns ≡ before ++ t ∷ after
      → IsTurnAt w m x.following x.left before t
  pub room : 2 * x.gap + x.quick ≤ x.following.margins.kill
  pub margin : x.following.margins.kill ≤ x.following.margins.margin
  pub prompt :
      AllRows (IsPrompt x.gap x.quick) (known_first x.left) (rows_in x.following x.left (turns_of x.turns))

-- ---- the service of a follower

-- The service may run at a true time. After some turn it had been started or taken over, and no stop or kill is known
-- to be done. No more time than the gap has passed since that turn's reading.
pub record MayServe (w : World) (m : ℕ) (x : Follower) (time : ℕ) : Type 0 where
  pub before : List TimedTurn
  pub last : TimedTurn
  pub after : List TimedTurn
  pub whole : x.turns ≡ before ++ last ∷ after
  pub started :
      (known_from (known_first x.left) (rows_in x.following x.left (turns_of (before ++ last ∷ [])))).service
      ≡ Started
  pub since : last.time ≤ time
  pub within : time < w.span
  pub soon : clock_at w m time ≤ last.turn.reading + x.gap

-- ---- the answer that a service relies on

-- The end that a follower takes from a claim. Of seconds that are left it counts one less, since the daemon rounds
-- them up. The daemon rounds the second in a list down.
abbrev pub GivesEnd : Claim → ℕ → Type 0
GivesEnd (HasLeft head seconds) until = until ≡ told_end head seconds
GivesEnd (IsListed digits) until = (seconds : ℕ) × (digits ≡ decimal seconds) × (until ≡ seconds * 1000)
GivesEnd claim until = ⊥

-- The turn received an answer with this end, and the record bears the answer out. The answer names the member as the
-- ticket's holder, and the member sent it next after this moment.
pub record HearsOf (w : World) (ticket : TicketConf) (m : ℕ) (t : TimedTurn) (until : ℕ) (moment : Moment w)
    (kept : Record) : Type 0 where
  pub shown : t.turn.heard ≡ news.List (Here until)
  pub message : PlainMessage
  pub received : decoded t.turn.bytes ≡ Ok message
  pub entry : WorldEntry
  pub next : IsNext moment entry
  pub at : entry.time ≡ moment.time
  pub own : entry.member ≡ m
  pub no_later : entry.time ≤ t.time
  pub bytes : List ℕ
  pub sent : IsSend entry.what bytes
  pub same : decoded bytes ≡ Ok message
  pub claim : Claim
  pub tells :
      MessageTells ticket.name (id_at w m) message claim ⊎ ListTells ticket.name (address_at w m) message claim
  pub gives : GivesEnd claim until
  pub bears : IsSomeAnd kept.lease (λ lease. BearsOut claim lease.until)

-- None of these turns received an answer.
abbrev pub HaveNoAnswer : List TimedTurn → Type 0
HaveNoAnswer [] = Unit {0}
HaveNoAnswer (t ∷ turns) = ((shown : Shown) → t.turn.heard ≢ news.List shown) × HaveNoAnswer turns

-- Among these turns of the follower, this turn received the last answer up to a turn that ran a renewal for this end.
-- The renewal ended with 0 in a later turn.
pub record ArmsEnd (x : Follower) (turns : List TimedTurn) (until : ℕ) (t : TimedTurn) : Type 0 where
  pub before : List TimedTurn
  pub silent : List TimedTurn
  pub after : List TimedTurn
  pub whole : turns ≡ before ++ t ∷ (silent ++ after)
  pub no_answer : HaveNoAnswer silent
  pub rows : List Row
  pub row : Row
  pub last : rows_in x.following x.left (turns_of (before ++ t ∷ silent)) ≡ rows ++ row ∷ []
  pub number : ℕ
  pub run : row.deed ≡ deeds.Run Renew number until
  pub ended : TimedTurn
  pub later : Has after ended
  pub done : ended.turn.heard ≡ news.End number Done

-- After these turns of the follower its service may run until this end. Either a renewal armed the end, for the answer
-- that this turn received. Or an earlier follower left the end, which that follower received in this turn.
abbrev pub IsEndOf : World → ℕ → Follower → List TimedTurn → ℕ → TimedTurn → Type 0
IsEndOf w m x turns until t =
    ArmsEnd x turns until t
    ⊎ ((x.left ≡ Some until)
    × (earlier : WasHeard w m x.following until x.turns) × (earlier.heard.t ≡ t))

-- The service may run at this time, until an end that is still to come. The follower has this end from an answer that
-- the member sent next after this moment, and the record bears the answer out.
pub record ReliesOn (w : World) (ticket : TicketConf) (m : ℕ) (x : Follower) (time : ℕ) (moment : Moment w)
    (kept : Record) : Type 0 where
  pub serving : MayServe w m x time
  pub until : ℕ
  pub ahead : clock_at w m time < until
  pub turn : TimedTurn
  pub end : IsEndOf w m x (serving.before ++ serving.last ∷ []) until turn
  pub hears : HearsOf w ticket m turn until moment kept

-- ---- the laws

-- The service relies on an answer that the member sent no later than at this time. When the member sent it, the member
-- held the ticket by the record that bears the answer out. That record is in force at this time.
pub record HeldUntil (w : World) (ticket : TicketConf) (m : ℕ) (x : Follower) (time : ℕ) : Type 0 where
  pub moment : Moment w
  pub no_later : moment.time ≤ time
  pub kept : Record
  pub relies : ReliesOn w ticket m x time moment kept
  pub held : HoldsBy w ticket m moment kept
  pub in_force : IsInForce kept (clock_at w m time)

abbrev pub ServesUnderALease : Type 0
ServesUnderALease =
    (w : World) → IsWorld w → (ticket : TicketConf) → IsAutomatic w ticket
    → (m : ℕ) (x : Follower) → IsFollowerAt w ticket m x
    → (time : ℕ) → MayServe w m x time → HeldUntil w ticket m x time

-- After the member sent the answer on which the service relies, and no later than at this time, the member released
-- the lease of the record that bears the answer out. Without the release the lease would be in force at this time.
pub record GaveBack (w : World) (ticket : TicketConf) (m : ℕ) (x : Follower) (time : ℕ) : Type 0 where
  pub under : HeldUntil w ticket m x time
  pub between : List WorldEntry
  pub after : List WorldEntry
  pub whole : under.moment.after ≡ between ++ after
  pub no_later : last_time under.moment.time between ≤ time
  pub given_back : ReleasedIn w ticket m under.kept under.moment.before between

-- If services at two sites may run at the same time, one of the sites had released the lease on which its own service
-- relies, and the end of that lease is still to come.
abbrev pub ServicesAreApart : Type 0
ServicesAreApart =
    (w : World) → IsWorld w → (ticket : TicketConf) → IsAutomatic w ticket
    → (s t : ℕ) → s ≢ t → (x y : Follower) → IsFollowerAt w ticket s x → IsFollowerAt w ticket t y
    → (time : ℕ) → MayServe w s x time → MayServe w t y time
    → GaveBack w ticket s x time ⊎ GaveBack w ticket t y time

-- ---- moves

-- The entry comes before this moment.
abbrev pub IsAfter : {w : World} → Moment w → List WorldEntry → WorldEntry → Type 0
IsAfter moment before entry = (more : List WorldEntry) × (moment.before ≡ before ++ entry ∷ more)

-- The service is stopped before each release of its lease. If a service may run at a release or later, under the
-- released lease, then the member sent the answer on which the service relies after the release.
abbrev pub StopsBeforeReleases : World → TicketConf → ℕ → Follower → Type 0
StopsBeforeReleases w ticket m x =
    (before after : List WorldEntry) (entry : WorldEntry) → w.entries ≡ before ++ entry ∷ after → entry.member ≡ m
    → (time : ℕ) → entry.time ≤ time → (under : HeldUntil w ticket m x time)
    → GivesBack w ticket.name m under.kept (stand_after m (before ++ entry ∷ [])) entry.what
    → IsAfter under.moment before entry

-- If the service at each of two sites is stopped before each release, the two services never run at the same time.
abbrev pub MovesAreSafe : Type 0
MovesAreSafe =
    (w : World) → IsWorld w → (ticket : TicketConf) → IsAutomatic w ticket
    → (s t : ℕ) → s ≢ t → (x y : Follower) → IsFollowerAt w ticket s x → IsFollowerAt w ticket t y
    → StopsBeforeReleases w ticket s x → StopsBeforeReleases w ticket t y
    → (time : ℕ) → MayServe w s x time → MayServe w t y time → ⊥
