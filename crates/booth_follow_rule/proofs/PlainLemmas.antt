-- The laws in plain words, from those of rows.
use Rattle.std.proofs.Common.{◌≡◌, ◌≢◌, ◌<◌, ◌≤◌, ◌+◌, ◌⊎◌, ◌++◌, ◌==◌, ℕ, Bool, true, false, cond, min, List, [], ◌∷◌, Option, Some, None, inl, inr, refl, sym, ap, subst, ◌∙◌, arith, append_assoc}
use Rattle.booth_follow_rule.specs.declared.margins.Margins.{Margins}
use Rattle.booth_follow_rule.specs.declared.margins.TheConstants.{RETRY}
use Rattle.booth_follow_rule.specs.declared.news.News.{News}
use Rattle.booth_follow_rule.specs.declared.news.News.TheVariants as news
use Rattle.booth_follow_rule.specs.declared.news.RunEnd.TheVariants.{Done, Failed}
use Rattle.booth_follow_rule.specs.declared.news.Shown.{Shown}
use Rattle.booth_follow_rule.specs.declared.news.Shown.TheVariants.{Here, Elsewhere}
use Rattle.booth_follow_rule.specs.declared.state.FollowDeed.{FollowDeed}
use Rattle.booth_follow_rule.specs.declared.state.FollowDeed.TheVariants as deeds
use Rattle.booth_follow_rule.specs.declared.state.Renewal.{Renewal}
use Rattle.booth_follow_rule.specs.declared.state.Word.TheVariants.{Check, Kill, Renew, Start, Stop}
use Rattle.booth_follow_rule.specs.Known.{AllRows, Known, Row, Over, done_at, known_after, known_at, known_first, rows_of, told, told_failed}
use Rattle.booth_follow_rule.specs.Laws.{HasArmed, HasDone, HasRun, IsCovered, IsEnd, IsLet, IsRenewalRested, IsRowLet, RenewalsAreApart, RenewalsAreTold, ServesBelowAnEnd, StartsAreHeld, known_from}
use Rattle.booth_follow_rule.specs.Rule.{Moment, end_of}
use Rattle.booth_follow_rule.proofs.EndLemmas.{Holds, holds, is_shown, news_holds, over_stays, row_holds, start_armed, start_shown}
use Rattle.booth_follow_rule.proofs.KnownLemmas.{deeds_let}
use Rattle.booth_follow_rule.proofs.RowLemmas.{done_last, done_more}
use Rattle.booth_follow_rule.proofs.TimeLemmas.{in_time}

-- what holds of all rows holds of one behind these, and of those before it
at_row : (P : Known → Row → Type 0) (k : Known) (before after : List Row) (row : Row) → AllRows P k (before ++ row ∷ after) → P (known_from k before) row
unfolding known_from
at_row P k [] after row h = h.0
at_row P k (r ∷ before) after row h = at_row P (known_after k r) before after row h.1

before_row : (P : Known → Row → Type 0) (k : Known) (before after : List Row) → AllRows P k (before ++ after) → AllRows P k before
before_row P k [] after h = tt
before_row P k (r ∷ before) after h = (h.0, before_row P (known_after k r) before after h.1)

known_push : (k : Known) (before : List Row) (row : Row) → known_from k (before ++ row ∷ []) ≡ known_after (known_from k before) row
unfolding known_from
known_push k [] row = refl
known_push k (r ∷ before) row = known_push (known_after k r) before row

-- one row of a follower: its deed is let, and what is known before it
record IsAt (m : Margins) (left : Option ℕ) (before : List Row) (row : Row) (k : Known) : Type 0 where
  allowed : IsRowLet m k row
  before_it : Holds left before k

at_row_of : (m : Margins) (left : Option ℕ) (moments : List Moment) (before after : List Row) (row : Row) → rows_of m left moments ≡ before ++ row ∷ after →
    IsAt m left before row (known_from (known_first left) before)
at_row_of m left moments before after row is =
    let all = subst (λ (rows : List Row). AllRows (IsRowLet m) (known_first left) rows) is (deeds_let.rows m left moments) in record {
      allowed = at_row (IsRowLet m) (known_first left) before after row all;
      before_it = holds m left before (before_row (IsRowLet m) (known_first left) before (row ∷ after) all);
    }

-- the deed of a row, where it is known
let_of : (m : Margins) (k : Known) (row : Row) (deed : FollowDeed) → IsRowLet m k row → row.deed ≡ deed →
    IsLet m row.at.reading (end_of k.run row.at.heard) k.service (known_at k row) deed
let_of m k row deed h is = subst (λ (d : FollowDeed). IsLet m row.at.reading (end_of k.run row.at.heard) k.service (known_at k row) d) is h

positive : (a b : ℕ) → a < b → b ≢ 0
positive a b lt is = omega (arith, is)

pub starts : StartsAreHeld
starts m left moments before after row number until is deed =
    let k : Known = known_from (known_first left) before in
    let now : Known = known_at k row in
    let whole : List Row = before ++ row ∷ [] in
    let at = at_row_of m left moments before after row is in
    let allowed = let_of m k row (deeds.Run Start number until) at.allowed deed in
    let h : Holds left whole now = news_holds left before row k at.before_it in
    let over : now.service ≡ Over = over_stays k row.at.reading allowed.3.over row.at.heard in
    let told : until ≡ now.armed = allowed.2 in
    let late : row.at.reading + m.margin < now.armed = allowed.3.armed in record {
      end = now.end;
      shown = start_shown left whole now h allowed.3.awaited.held.here over;
      held = allowed.3.awaited.held.in_time;
      armed = subst (λ (n : ℕ). HasArmed n whole) (sym told) (start_armed left whole now h (positive (row.at.reading + m.margin) now.armed late) over);
      in_time = omega arith;
    }

pub renewals : RenewalsAreTold
renewals m left moments before after row number until is deed =
    let k : Known = known_from (known_first left) before in
    let now : Known = known_at k row in
    let at = at_row_of m left moments before after row is in
    let allowed = let_of m k row (deeds.Run Renew number until) at.allowed deed in
    let later : now.armed < now.end = omega (arith, allowed.3.0.later) in
    is_shown left (before ++ row ∷ []) now (news_holds left before row k at.before_it) allowed.3.0.here later
    ∙ ap (λ (n : ℕ). let s : Option Shown = Some (Here n) in s) (sym allowed.2)

pub serves : ServesBelowAnEnd
serves m left moments gap quick quicker short prompt before after row is service =
    let k : Known = known_from (known_first left) before in
    let whole : List Row = before ++ row ∷ [] in
    let at = at_row_of m left moments before after row is in
    let then : known_from (known_first left) whole ≡ known_after k row = known_push (known_first left) before row in
    let covered = subst (λ (rows : List Row). AllRows (IsCovered gap) (known_first left) rows) is (in_time m left moments gap quick quicker short prompt) in
    let below : row.at.reading + gap < (known_after k row).latest =
    at_row (IsCovered gap) (known_first left) before after row covered (sym (ap (λ (j : Known). j.service) then) ∙ service) in
    by_latest (known_after k row).latest below (row_holds m left before row k at.before_it at.allowed).latest_so
  where
    by_latest : (latest : ℕ) → row.at.reading + gap < latest → (latest ≡ 0) ⊎ IsEnd left (before ++ row ∷ []) latest →
        (until : ℕ) × IsEnd left (before ++ row ∷ []) until × (row.at.reading + gap < until)
    by_latest latest below (inl none) = absurd (positive (row.at.reading + gap) latest below none)
    by_latest latest below (inr end) = (latest, end, below)

-- ---- renewals are apart

-- a renewal that was run at this reading is not done
abbrev IsSince : ℕ → Option Renewal → Type 0
IsSince at None = ⊥
IsSince at (Some r) = r.since ≡ at

failed_since : (k : Known) (at run : ℕ) → IsSince at k.renewal → (r : Option Renewal) → IsSince at r →
    IsSince at (told_failed k run r).renewal
failed_since k at run h None is = h
failed_since k at run h (Some r) is = by_test (run == r.run)
  where
    by_test : (test : Bool) →
        IsSince at (let now : Known = cond test (record k { renewal = Some (record r { failed = true }) }) k in now).renewal
    by_test true = is
    by_test false = h

-- it stays so, unless a run is done
told_since : (k : Known) (at reading : ℕ) → IsSince at k.renewal → (heard : News) →
    ((number : ℕ) × (heard ≡ news.End number Done)) ⊎ IsSince at (told k reading heard).renewal
told_since k at reading h news.Nothing = inr h
told_since k at reading h news.Stop = inr h
told_since k at reading h (news.List Elsewhere) = inr h
told_since k at reading h (news.List (Here until)) = inr h
told_since k at reading h (news.End run Failed) = inr (failed_since k at run h k.renewal h)
told_since k at reading h (news.End run Done) = inl (run, refl)

deed_since : (now : Known) (at reading : ℕ) → IsSince at now.renewal → (deed : FollowDeed) →
    ((number until : ℕ) → deed ≡ deeds.Run Renew number until → ⊥) → IsSince at (done_at now reading deed).renewal
deed_since now at reading h deeds.Nothing other = h
deed_since now at reading h deeds.Leave other = h
deed_since now at reading h (deeds.Run Check number until) other = h
deed_since now at reading h (deeds.Run Start number until) other = h
deed_since now at reading h (deeds.Run Stop number until) other = h
deed_since now at reading h (deeds.Run Kill number until) other = h
deed_since now at reading h (deeds.Run Renew number until) other = absurd (other number until refl)

rows_since : (k : Known) (at : ℕ) → IsSince at k.renewal → (rows : List Row) → ((number until : ℕ) → HasRun number until rows → ⊥) →
    ((number : ℕ) × HasDone number rows) ⊎ IsSince at (known_from k rows).renewal
unfolding known_from
rows_since k at h [] none = inr h
rows_since k at h (row ∷ rows) none =
    by_told (told_since k at row.at.reading h row.at.heard)
    (λ since. rows_since (known_after k row) at
    (deed_since (known_at k row) at row.at.reading since row.deed (λ number until is. none number until (inl is))) rows
    (λ number until has. none number until (inr has)))
  where
    by_rest : ((number : ℕ) × HasDone number rows) ⊎ IsSince at (known_from (known_after k row) rows).renewal →
        ((number : ℕ) × HasDone number (row ∷ rows)) ⊎ IsSince at (known_from (known_after k row) rows).renewal
    by_rest (inl done) = inl (done.0, inr done.1)
    by_rest (inr since) = inr since

    by_told : ((number : ℕ) × (row.at.heard ≡ news.End number Done)) ⊎ IsSince at (known_at k row).renewal →
        (IsSince at (known_at k row).renewal
        → ((number : ℕ) × HasDone number rows) ⊎ IsSince at (known_from (known_after k row) rows).renewal) →
        ((number : ℕ) × HasDone number (row ∷ rows)) ⊎ IsSince at (known_from (known_after k row) rows).renewal
    by_told (inl done) rest = inl (done.0, inl done.1)
    by_told (inr since) rest = by_rest (rest since)

renew_since : (now : Known) (reading number until : ℕ) (deed : FollowDeed) → deed ≡ deeds.Run Renew number until →
    IsSince reading (done_at now reading deed).renewal
renew_since now reading number until deed is =
    subst (λ (d : FollowDeed). IsSince reading (done_at now reading d).renewal) (sym is) refl

rested_apart : (m : Margins) (at reading : ℕ) (r : Option Renewal) → IsSince at r → IsRenewalRested m reading r →
    at + min RETRY m.pause ≤ reading
rested_apart m at reading None since rested = absurd since
rested_apart m at reading (Some r) since rested = by_wait r.failed rested
  where
    by_wait : (failed : Bool) → r.since + cond failed RETRY m.pause ≤ reading → at + min RETRY m.pause ≤ reading
    by_wait true h = omega (arith, since, h)
    by_wait false h = omega (arith, since, h)

known_join : (k : Known) (before between : List Row) (one : Row) →
    known_from k (before ++ one ∷ between) ≡ known_from (known_after (known_from k before) one) between
unfolding known_from
known_join k [] between one = refl
known_join k (row ∷ before) between one = known_join (known_after k row) before between one

pub apart : RenewalsAreApart
apart m left moments before between after one other first second end until is made next none =
    let k : Known = known_from (known_first left) before in
    let last : Known = known_from (known_first left) (before ++ one ∷ between) in
    let at = at_row_of m left moments (before ++ one ∷ between) after other (is ∙ sym (append_assoc before (one ∷ between) (other ∷ after))) in
    let allowed = let_of m last other (deeds.Run Renew second until) at.allowed next in
    by_rows allowed.3.0.rested
    (rows_since (known_after k one) one.at.reading (renew_since (known_at k one) one.at.reading first end one.deed made) between none)
  where
    by_told : IsRenewalRested m other.at.reading (known_at (known_from (known_first left) (before ++ one ∷ between)) other).renewal →
        ((number : ℕ) × (other.at.heard ≡ news.End number Done))
        ⊎ IsSince one.at.reading (known_at (known_from (known_first left) (before ++ one ∷ between)) other).renewal →
        (one.at.reading + min RETRY m.pause ≤ other.at.reading) ⊎ ((number : ℕ) × HasDone number (between ++ other ∷ []))
    by_told rested (inl done) = inr (done.0, done_last done.0 between other done.1)
    by_told rested (inr since) =
        inl (rested_apart m one.at.reading other.at.reading (known_at (known_from (known_first left) (before ++ one ∷ between)) other).renewal since rested)

    by_rows : IsRenewalRested m other.at.reading (known_at (known_from (known_first left) (before ++ one ∷ between)) other).renewal →
        ((number : ℕ) × HasDone number between)
        ⊎ IsSince one.at.reading (known_from (known_after (known_from (known_first left) before) one) between).renewal →
        (one.at.reading + min RETRY m.pause ≤ other.at.reading) ⊎ ((number : ℕ) × HasDone number (between ++ other ∷ []))
    by_rows rested (inl done) = inr (done.0, done_more done.0 between other done.1)
    by_rows rested (inr since) =
        by_told rested (told_since (known_from (known_first left) (before ++ one ∷ between)) one.at.reading other.at.reading
        (subst (λ (j : Known). IsSince one.at.reading j.renewal) (sym (known_join (known_first left) before between one)) since) other.at.heard)
