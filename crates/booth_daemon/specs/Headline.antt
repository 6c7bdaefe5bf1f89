-- The worlds that have a run of boothd as a part. In them no automatic ticket is held at two sites, and no written
-- term falls. If all sessions of a world are of version 2, a later holder has a later term. Then the terms of leases
-- distinguish them, even if clocks step forward.
use Rattle.std.specs.Prelude.{◌≡◌, ◌++◌, ℕ, List, ◌∷◌, Bool, true, false, T}
use Rattle.booth_host.specs.declared.entry.Entry.{Entry}
use Rattle.booth_node.specs.Session.{SessionEntry, Starts, Down, AreSessions}
use Rattle.booth_node.specs.World.{World, IsNodeOf, IsWorld, IsSecondWorld, IsUntimedWorld, RecordsGoOn, entries_of}
use Rattle.booth_world.specs.Tellers.{TellersAreApartIn, TellersHoldIn}
use Rattle.booth_world.specs.Told.{HasFencingTerms}
use Rattle.booth_world.specs.Worlds.{HoldsOneIn, LaterTermsIn, TermsNeverFallIn, made}
use Rattle.booth_outcomes.specs.declared.outcome.Outcome.{Outcome}
use Rattle.booth_outcomes.specs.declared.outcome.Outcome.TheVariants.{Done, TurnsSpent}
use Rattle.booth_outcomes.specs.Texts.{IsText}
use Rattle.booth_cli.specs.declared.program.Program.TheVariants.{Boothd}
use Rattle.booth_cli.specs.declared.asking.DaemonWords.{DaemonWords}
use Rattle.booth_cli.specs.Asking.{AsksDaemon}
use Rattle.booth_daemon.specs.Opening.{member_config}
use Rattle.booth_daemon.specs.Serving.{IsTurning}
use Rattle.booth_daemon.specs.Run.{IsRun, AskForDaemon}

-- ---- the session of a run

-- A run of a daemon that made its whole opening, and then turns. Its last line reports how it ended.
pub record IsTurningRun (words : List (List ℕ)) (outcome : Outcome) (entries : List Entry) : Type 0 where
  pub asked : DaemonWords
  pub asks : AsksDaemon words asked
  pub said : List ℕ
  pub body : List Entry
  pub last : List Entry
  pub whole : entries ≡ body ++ last
  pub turning : IsTurning asked outcome said body
  pub told : IsText Boothd said last

-- The calls of the daemon after its opening, from its start on, as a session. The start has the reading and the
-- records that the opening read, and the calls are the calls of its turns.
abbrev pub session_of :
    {asked : DaemonWords} {outcome : Outcome} {said : List ℕ} {body : List Entry} → IsTurning asked outcome said body
    → List SessionEntry
session_of {asked} turning =
    Starts (member_config asked.site turning.config turning.ring) turning.reading turning.records ∷ made turning.turns

-- The daemon of this run is a member of the world, and this run is a session of that member, of version 2. The
-- earlier and later actions of the member are arbitrary, and so are the actions of the other members.
pub record IsSessionIn (w : World) (words : List (List ℕ)) (outcome : Outcome) (entries : List Entry) : Type 0 where
  pub run : IsTurningRun words outcome entries
  pub member : ℕ
  pub found : IsNodeOf w member (member_config run.asked.site run.turning.config run.turning.ring)
  pub before : List SessionEntry
  pub after : List SessionEntry
  pub session : entries_of member w.entries ≡ before ++ (session_of run.turning ++ after)

-- The outcomes of a daemon that made turns.
abbrev pub is_turning_end : Outcome → Bool
is_turning_end Done = true
is_turning_end TurnsSpent = true
is_turning_end outcome = false

abbrev pub IsTurningEnd : Outcome → Type 0
IsTurningEnd outcome = T (is_turning_end outcome)

-- The promises for a run of the daemon. If `IsTurningEnd` holds for its outcome, the daemon made its whole opening
-- and then turns, and these are a session of a member. In every world that has this run as a session, no automatic
-- ticket is held at two members at the same moment. No site's written term falls. If a member names itself as the
-- holder in a message, it is the holder until the end in that message, and no other member is. If all sessions of
-- that world are of version 2 and go on from their records, a member that holds later than another has a lease with a
-- later term. Even if the clocks of a world only rise, and nothing else is known about them, no site's written term
-- falls. If in addition all its sessions are of version 2 and go on, the terms of leases distinguish them. A term that
-- a member reports is then the term of a lease that it gained.
pub record IsSafe (words : List (List ℕ)) (outcome : Outcome) (entries : List Entry) : Type 0 where
  pub turned : AskForDaemon words → IsTurningEnd outcome → IsTurningRun words outcome entries
  pub is_session : (run : IsTurningRun words outcome entries) → AreSessions Down (session_of run.turning)
  pub in_worlds : (w : World) → IsWorld w → IsSessionIn w words outcome entries → HoldsOneIn w × TermsNeverFallIn w
  pub tellers : (w : World) → IsWorld w → IsSessionIn w words outcome entries → TellersHoldIn w × TellersAreApartIn w
  pub in_second_worlds : (w : World) → IsWorld w → IsSecondWorld w → RecordsGoOn w → IsSessionIn w words outcome entries
      → LaterTermsIn w
  pub in_untimed_worlds : (w : World) → IsUntimedWorld w → IsSessionIn w words outcome entries → TermsNeverFallIn w
  pub in_untimed_second_worlds : (w : World) → IsUntimedWorld w → IsSecondWorld w → RecordsGoOn w
      → IsSessionIn w words outcome entries → HasFencingTerms w

-- ---- the laws for all runs

-- Each run of a daemon for whose outcome `IsTurningEnd` holds made its whole opening, and then turns.
abbrev pub DaemonsTurn : Type 0
DaemonsTurn =
    (words : List (List ℕ)) (outcome : Outcome) (entries : List Entry) → IsRun words outcome entries
    → AskForDaemon words → IsTurningEnd outcome → IsTurningRun words outcome entries

-- The calls of a run of the daemon after its opening, from its start on, are a session of a member.
abbrev pub RunsAreSessions : Type 0
RunsAreSessions =
    (asked : DaemonWords) (outcome : Outcome) (said : List ℕ) (body : List Entry)
    (t : IsTurning asked outcome said body)
    → AreSessions Down (session_of t)

-- If a run of the daemon ends after any call, its calls after the opening are still a session of a member.
abbrev pub CutRunsAreSessions : Type 0
CutRunsAreSessions =
    (asked : DaemonWords) (outcome : Outcome) (said : List ℕ) (body : List Entry)
    (t : IsTurning asked outcome said body)
    (early late : List SessionEntry) → session_of t ≡ early ++ late → AreSessions Down early
