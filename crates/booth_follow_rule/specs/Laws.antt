-- What holds for the actions of every follower.
use Rattle.std.specs.Prelude.{◌≡◌, ◌≢◌, ◌<◌, ◌≤◌, ◌+◌, ◌*◌, ◌++◌, ◌⊎◌, min, ℕ, Bool, true, false, List, [], ◌∷◌, map, Option, Some, None}
use Rattle.booth_follow_rule.specs.declared.margins.Margins.{Margins}
use Rattle.booth_follow_rule.specs.declared.margins.TheConstants.{RETRY, RISE}
use Rattle.booth_follow_rule.specs.declared.news.News.{News}
use Rattle.booth_follow_rule.specs.declared.news.News.TheVariants as news
use Rattle.booth_follow_rule.specs.declared.news.RunEnd.{RunEnd}
use Rattle.booth_follow_rule.specs.declared.news.RunEnd.TheVariants.{Done, Failed}
use Rattle.booth_follow_rule.specs.declared.news.Shown.{Shown}
use Rattle.booth_follow_rule.specs.declared.news.Shown.TheVariants.{Here}
use Rattle.booth_follow_rule.specs.declared.state.FollowDeed.{FollowDeed}
use Rattle.booth_follow_rule.specs.declared.state.FollowDeed.TheVariants as deeds
use Rattle.booth_follow_rule.specs.declared.state.Renewal.{Renewal}
use Rattle.booth_follow_rule.specs.declared.state.Word.{Word}
use Rattle.booth_follow_rule.specs.declared.state.Word.TheVariants.{Check, Renew, Start, Stop, Kill}
use Rattle.booth_follow_rule.specs.Known.{AllRows, Known, Row, Service, Unknown, Started, Over, known_after, known_at, known_first, rows_of}
use Rattle.booth_follow_rule.specs.Rule.{Moment, end_of, follow_deeds, next_number, wait_of}

-- ---- allowed actions

-- the last list shows this site, until more than the margin after the reading
pub record IsHeld (m : Margins) (reading : ℕ) (now : Known) : Type 0 where
  pub here : now.here ≡ true
  pub in_time : reading + m.margin < now.end

-- and the armed end is more than the margin away too
pub record IsKept (m : Margins) (reading : ℕ) (now : Known) : Type 0 where
  pub held : IsHeld m reading now
  pub armed : reading + m.margin < now.armed

-- why a service must end: the follower was asked to end, a run showed that the service does not run, or `IsKept` does
-- not hold
abbrev pub IsDue : Margins → ℕ → Option RunEnd → Known → Type 0
IsDue m reading how now = (now.asked ≡ true) ⊎ ((how ≡ Some Failed) ⊎ (IsKept m reading now → ⊥))

-- a service that was started or taken over may continue
pub record GoesOn (m : Margins) (reading : ℕ) (how : Option RunEnd) (now : Known) : Type 0 where
  pub not_asked : now.asked ≡ false
  pub not_failed : how ≢ Some Failed
  pub kept : IsKept m reading now

-- no renewal is running or has failed, or enough time has passed since the renewal was run: a pause if it is still
-- running, the time of a retry if it failed
abbrev pub IsRenewalRested : Margins → ℕ → Option Renewal → Type 0
IsRenewalRested m reading None = Unit {0}
IsRenewalRested m reading (Some r) = r.since + wait_of m r ≤ reading

-- the last list shows this site until an end that is more than a quarter of a second after the armed one, and a renewal
-- may be run
pub record IsRenewable (m : Margins) (reading : ℕ) (now : Known) : Type 0 where
  pub here : now.here ≡ true
  pub later : now.armed + RISE < now.end
  pub rested : IsRenewalRested m reading now.renewal

-- a service that has ended must start: the follower was not asked to end, the service ended a pause ago, and the
-- ticket is held
pub record IsAwaited (m : Margins) (reading : ℕ) (now : Known) : Type 0 where
  pub not_asked : now.asked ≡ false
  pub rested : now.over_at + m.pause ≤ reading
  pub held : IsHeld m reading now

-- A check: the first action of all, if the end that was left is more than the margin away.
pub record IsCheckLet (m : Margins) (reading : ℕ) (now : Known) : Type 0 where
  pub first : now.last ≡ None
  pub not_asked : now.asked ≡ false
  pub kept : IsKept m reading now

-- A start: the service had ended before and must start, and the armed end is more than the margin away.
pub record IsStartLet (m : Margins) (reading : ℕ) (was : Service) (now : Known) : Type 0 where
  pub over : was ≡ Over
  pub awaited : IsAwaited m reading now
  pub armed : reading + m.margin < now.armed

-- The service during a renewal: it goes on; or it is being stopped, in time; or it must start, and no end is armed
-- for it.
abbrev pub IsRenewedBeside : Margins → ℕ → Option RunEnd → Known → Service → Option Word → Type 0
IsRenewedBeside m reading how now Over last = IsAwaited m reading now × (now.armed ≤ reading + m.margin)
IsRenewedBeside m reading how now service (Some Check) = GoesOn m reading how now
IsRenewedBeside m reading how now service (Some Start) = GoesOn m reading how now
IsRenewedBeside m reading how now service (Some Stop) = service ≡ Started → reading + m.kill < now.armed
IsRenewedBeside m reading how now service last = ⊥

-- A stop: the first action of all, if no end was left; or a stop of the service, if there is time before the kill.
abbrev pub IsStopLet : Margins → ℕ → Option RunEnd → Known → Option Word → Type 0
IsStopLet m reading how now None = (now.armed ≡ 0) ⊎ (IsDue m reading how now × (reading + m.kill < now.armed))
IsStopLet m reading how now (Some Check) = IsDue m reading how now × (reading + m.kill < now.armed)
IsStopLet m reading how now (Some Start) = IsDue m reading how now × (reading + m.kill < now.armed)
IsStopLet m reading how now last = ⊥

-- A kill: there is no time to stop; or the stop failed, or its time is over; or it is a repeated kill. A service that
-- an earlier follower left without an end has no known time.
abbrev pub IsKillLet : Margins → ℕ → Option RunEnd → Known → Option Word → Type 0
IsKillLet m reading how now None = (now.armed ≢ 0) × (IsDue m reading how now × (now.armed ≤ reading + m.kill))
IsKillLet m reading how now (Some Check) = IsDue m reading how now × (now.armed ≤ reading + m.kill)
IsKillLet m reading how now (Some Start) = IsDue m reading how now × (now.armed ≤ reading + m.kill)
IsKillLet m reading how now (Some Stop) =
    (how ≡ Some Failed) ⊎ ((now.service ≡ Unknown) ⊎ (now.armed ≤ reading + m.kill))
IsKillLet m reading how now (Some Kill) = Unit {0}
IsKillLet m reading how now (Some Renew) = ⊥

-- The end for a run: a renewal has that of the last list that names this site, and any other run the armed one.
abbrev pub end_for : Known → Word → ℕ
end_for now Renew = now.end
end_for now word = now.armed

abbrev pub IsRunLet : Margins → ℕ → Option RunEnd → Service → Known → Word → Type 0
IsRunLet m reading how was now Check = IsCheckLet m reading now
IsRunLet m reading how was now Renew =
    IsRenewable m reading now × IsRenewedBeside m reading how now now.service now.last
IsRunLet m reading how was now Start = IsStartLet m reading was now
IsRunLet m reading how was now Stop = (now.service ≢ Over) × IsStopLet m reading how now now.last
IsRunLet m reading how was now Kill = (now.service ≢ Over) × IsKillLet m reading how now now.last

-- No action, in four cases. The follower has left. Or the service is over: it ended at this very reading, or the
-- follower was not asked to end and neither a start nor a renewal is allowed. Or no renewal is allowed, and the service
-- goes on or has time left for its stop. Or the service is being killed.
abbrev pub IsQuietLet : Margins → ℕ → Option RunEnd → Service → Known → Bool → Service → Option Word → Type 0
IsQuietLet m reading how was now true service last = Unit {0}
IsQuietLet m reading how was now false Over last =
    was ≡ Over → (now.asked ≡ false) × (IsAwaited m reading now →
    (now.armed ≤ reading + m.margin) × (IsRenewable m reading now → ⊥))
IsQuietLet m reading how was now false service (Some Check) =
    GoesOn m reading how now × (IsRenewable m reading now → ⊥)
IsQuietLet m reading how was now false service (Some Start) =
    GoesOn m reading how now × (IsRenewable m reading now → ⊥)
IsQuietLet m reading how was now false service (Some Stop) =
    (service ≡ Started → reading + m.kill < now.armed) × (IsRenewable m reading now → ⊥)
IsQuietLet m reading how was now false service (Some Kill) = Unit {0}
IsQuietLet m reading how was now false service last = ⊥

-- The actions that are allowed at a reading: by how the last run ended, if it did, the service before, and what is
-- known now.
abbrev pub IsLet : Margins → ℕ → Option RunEnd → Service → Known → FollowDeed → Type 0
IsLet m reading how was now (deeds.Run word number until) =
    (now.left ≡ false) × (number ≡ next_number now.number) × (until ≡ end_for now word)
    × IsRunLet m reading how was now word
IsLet m reading how was now deeds.Leave = (now.left ≡ false) × (was ≡ Over) × (now.asked ≡ true)
IsLet m reading how was now deeds.Nothing = IsQuietLet m reading how was now now.left now.service now.last

abbrev pub IsRowLet : Margins → Known → Row → Type 0
IsRowLet m k row = IsLet m row.at.reading (end_of k.run row.at.heard) k.service (known_at k row) row.deed

-- Each action of a follower is allowed by what is known, and an action that is due is not left out. So a start is
-- made only if the last list since the service ended shows this site, for longer than the margin, if a renewal since
-- then armed such an end, and if a stop or a kill succeeded and no start was made since.
pub record DeedsAreLet : Type 0 where
  pub rows : (m : Margins) (left : Option ℕ) (moments : List Moment) →
      AllRows (IsRowLet m) (known_first left) (rows_of m left moments)
  pub deeds : (m : Margins) (left : Option ℕ) (moments : List Moment) →
      map (λ row. row.deed) (rows_of m left moments) ≡ follow_deeds m left moments
  pub moments : (m : Margins) (left : Option ℕ) (moments : List Moment) →
      map (λ row. row.at) (rows_of m left moments) ≡ moments

-- ---- in time

-- The environment is prompt: while the service is started, readings are no further apart than this gap, and kills
-- succeed within this time.
pub record IsPrompt (gap quick : ℕ) (k : Known) (row : Row) : Type 0 where
  pub soon : k.service ≡ Started → row.at.reading ≤ k.seen + gap
  pub killed : (known_after k row).service ≡ Started → (known_after k row).last ≡ Some Kill →
      row.at.reading ≤ (known_after k row).killed_at + quick

-- While the service is started, and up to the next reading, the clock is below the latest armed end.
abbrev pub IsCovered : ℕ → Known → Row → Type 0
IsCovered gap k row = (known_after k row).service ≡ Started → row.at.reading + gap < (known_after k row).latest

-- From a start, or from the check of a service that was taken over, to the end of its stop or kill, the clock is below
-- an armed end, as far as the environment is prompt: a kill begins at the first reading after its time, and succeeds
-- before that end.
abbrev pub ServesInTime : Type 0
ServesInTime = (m : Margins) (left : Option ℕ) (moments : List Moment) (gap quick : ℕ) →
    2 * gap + quick ≤ m.kill → m.kill ≤ m.margin →
    AllRows (IsPrompt gap quick) (known_first left) (rows_of m left moments) →
    AllRows (IsCovered gap) (known_first left) (rows_of m left moments)

-- ---- what is known follows from the news

-- what is known after these rows
unfoldable pub known_from : Known → List Row → Known
known_from k [] = k
known_from k (row ∷ rows) = known_from (known_after k row) rows

-- what the last list shows
abbrev pub shown_after : Option Shown → News → Option Shown
shown_after last (news.List shown) = Some shown
shown_after last heard = last

unfoldable pub last_shown : Option Shown → List Row → Option Shown
last_shown last [] = last
last_shown last (row ∷ rows) = last_shown (shown_after last row.at.heard) rows

-- P holds for one of the rows
abbrev pub HasRow : (Row → Type 0) → List Row → Type 0
HasRow P [] = ⊥
HasRow P (row ∷ rows) = P row ⊎ HasRow P rows

-- a list in one of the rows shows this site until this end
abbrev pub HasTold : ℕ → List Row → Type 0
HasTold until rows = HasRow (λ row. row.at.heard ≡ news.List (Here until)) rows

-- the run with this number ended with status 0 in one of the rows
abbrev pub HasDone : ℕ → List Row → Type 0
HasDone number rows = HasRow (λ row. row.at.heard ≡ news.End number Done) rows

-- a renewal with this number was run for this end in one of the rows
abbrev pub HasRun : ℕ → ℕ → List Row → Type 0
HasRun number end rows = HasRow (λ row. row.deed ≡ deeds.Run Renew number end) rows

-- a renewal for this end was run in one of the rows, and ended with status 0 in a later one
abbrev pub HasArmed : ℕ → List Row → Type 0
HasArmed end [] = ⊥
HasArmed end (row ∷ rows) =
    ((number : ℕ) × (row.deed ≡ deeds.Run Renew number end) × HasDone number rows) ⊎ HasArmed end rows

-- what counts as shown before any list: the end that an earlier follower left
abbrev pub shown_first : Option ℕ → Option Shown
shown_first None = None
shown_first (Some end) = Some (Here end)

-- This site is known as the holder if the last list shows it, until the end in that list.
abbrev pub KnowsWhatIsHeard : Type 0
KnowsWhatIsHeard = (left : Option ℕ) (rows : List Row) → (known_from (known_first left) rows).here ≡ true →
    last_shown (shown_first left) rows ≡ Some (Here (known_from (known_first left) rows).end)

-- ---- in plain words

-- At each start the last list shows this site, until an end that is more than the margin away; and the end for the
-- program is one for which a renewal succeeded before, and it is more than the margin away too.
pub record IsStartHeld (m : Margins) (before : List Row) (row : Row) (until : ℕ) : Type 0 where
  pub end : ℕ
  pub shown : last_shown None (before ++ row ∷ []) ≡ Some (Here end)
  pub held : row.at.reading + m.margin < end
  pub armed : HasArmed until (before ++ row ∷ [])
  pub in_time : row.at.reading + m.margin < until

abbrev pub StartsAreHeld : Type 0
StartsAreHeld = (m : Margins) (left : Option ℕ) (moments : List Moment) (before after : List Row) (row : Row)
    (number until : ℕ) → rows_of m left moments ≡ before ++ row ∷ after → row.deed ≡ deeds.Run Start number until →
    IsStartHeld m before row until

-- At each renewal the last list shows this site, until the end for the program.
abbrev pub RenewalsAreTold : Type 0
RenewalsAreTold = (m : Margins) (left : Option ℕ) (moments : List Moment) (before after : List Row) (row : Row)
    (number until : ℕ) → rows_of m left moments ≡ before ++ row ∷ after → row.deed ≡ deeds.Run Renew number until →
    last_shown None (before ++ row ∷ []) ≡ Some (Here until)

-- Of two renewals without another between them the second comes the time of a retry after the first, or a pause if
-- that is less; or a run succeeded between them.
abbrev pub RenewalsAreApart : Type 0
RenewalsAreApart = (m : Margins) (left : Option ℕ) (moments : List Moment) (before between after : List Row)
    (one other : Row) (first second end until : ℕ) →
    rows_of m left moments ≡ before ++ one ∷ (between ++ other ∷ after) → one.deed ≡ deeds.Run Renew first end →
    other.deed ≡ deeds.Run Renew second until → ((number told : ℕ) → HasRun number told between → ⊥) →
    (one.at.reading + min RETRY m.pause ≤ other.at.reading) ⊎ ((number : ℕ) × HasDone number (between ++ other ∷ []))

-- an end in a list that a renewal armed, or that an earlier follower left
abbrev pub IsEnd : Option ℕ → List Row → ℕ → Type 0
IsEnd left rows end = (left ≡ Some end) ⊎ (HasTold end rows × HasArmed end rows)

-- At each moment at which the service is started or taken over, and for a gap longer, the clock is below an end in a
-- list that a renewal armed, or that an earlier follower left.
abbrev pub ServesBelowAnEnd : Type 0
ServesBelowAnEnd = (m : Margins) (left : Option ℕ) (moments : List Moment) (gap quick : ℕ) →
    2 * gap + quick ≤ m.kill → m.kill ≤ m.margin →
    AllRows (IsPrompt gap quick) (known_first left) (rows_of m left moments) → (before after : List Row) (row : Row) →
    rows_of m left moments ≡ before ++ row ∷ after →
    (known_from (known_first left) (before ++ row ∷ [])).service ≡ Started →
    (until : ℕ) × IsEnd left (before ++ row ∷ []) until × (row.at.reading + gap < until)
