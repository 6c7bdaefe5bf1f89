-- What holds of the ends that are known, after the rows of a follower.
use Rattle.std.proofs.Common.{◌≡◌, ◌≢◌, ◌<◌, ◌≤◌, ◌⊎◌, ◌++◌, ◌==◌, ℕ, Bool, true, false, cond, max, List, [], ◌∷◌, Option, Some, None, inl, inr, refl, sym, ap, subst, ◌∙◌, arith, append_assoc, append-nil}
use Rattle.std.proofs.lemmas.Bool.{cases_lt}
use Rattle.std.proofs.lemmas.Bool.Decides.{nat_tests}
use Rattle.booth_follow_rule.specs.declared.margins.Margins.{Margins}
use Rattle.booth_follow_rule.specs.declared.news.RunEnd.{RunEnd}
use Rattle.booth_follow_rule.specs.declared.news.News.{News}
use Rattle.booth_follow_rule.specs.declared.news.News.TheVariants as news
use Rattle.booth_follow_rule.specs.declared.news.RunEnd.TheVariants.{Done, Failed}
use Rattle.booth_follow_rule.specs.declared.news.Shown.{Shown}
use Rattle.booth_follow_rule.specs.declared.news.Shown.TheVariants.{Here, Elsewhere}
use Rattle.booth_follow_rule.specs.declared.state.FollowDeed.{FollowDeed}
use Rattle.booth_follow_rule.specs.declared.state.FollowDeed.TheVariants as deeds
use Rattle.booth_follow_rule.specs.declared.state.Renewal.{Renewal}
use Rattle.booth_follow_rule.specs.declared.state.Word.{Word}
use Rattle.booth_follow_rule.specs.declared.state.Word.TheVariants.{Check, Renew, Start, Stop, Kill}
use Rattle.booth_follow_rule.specs.Known.{AllRows, Known, Row, Service, Unknown, Started, Over, done_at, known_after, known_at, known_first, told, told_armed, told_done, told_failed, told_over}
use Rattle.booth_follow_rule.specs.Laws.{HasArmed, HasRun, HasTold, IsEnd, IsLet, IsRowLet, known_from, last_shown, shown_after}
use Rattle.booth_follow_rule.specs.Rule.{end_of}
use Rattle.booth_follow_rule.proofs.RowLemmas.{armed_last, armed_more, run_last, run_more, shown_push, shown_told, told_more}

-- nothing was heard since an earlier follower left an end
pub record IsLeft (end armed : ℕ) (renewal : Option Renewal) (service : Service) (last : Option Shown) : Type 0 where
  pub unheard : last ≡ None
  pub not_over : service ≢ Over
  pub in_force : end ≤ armed
  pub none : renewal ≡ None

-- a renewal that is not done was told and run
abbrev pub IsRun : Option Renewal → List Row → Type 0
IsRun None rows = Unit {0}
IsRun (Some r) rows = HasTold r.end rows × HasRun r.run r.end rows

abbrev pub IsArmedSo : Option ℕ → List Row → ℕ → Service → Type 0
IsArmedSo left rows armed service = (armed ≡ 0) ⊎ (((left ≡ Some armed) × (service ≢ Over)) ⊎ HasArmed armed rows)

abbrev pub IsShownSo : List Row → Bool → ℕ → ℕ → Option Renewal → Service → Type 0
IsShownSo rows here end armed renewal service =
    here ≡ true → (last_shown None rows ≡ Some (Here end)) ⊎ IsLeft end armed renewal service (last_shown None rows)

-- what is known of ends after these rows
pub record HoldsOf (left : Option ℕ) (rows : List Row) (here : Bool) (end armed latest : ℕ) (renewal : Option Renewal) (service : Service) : Type 0 where
  pub shown : IsShownSo rows here end armed renewal service
  pub run : IsRun renewal rows
  pub armed_so : IsArmedSo left rows armed service
  pub latest_so : (latest ≡ 0) ⊎ IsEnd left rows latest

abbrev pub Holds : Option ℕ → List Row → Known → Type 0
Holds left rows k = HoldsOf left rows k.here k.end k.armed k.latest k.renewal k.service

-- ---- one more row

end_more : (left : Option ℕ) (rows : List Row) (row : Row) (end : ℕ) → IsEnd left rows end → IsEnd left (rows ++ row ∷ []) end
end_more left rows row end (inl h) = inl h
end_more left rows row end (inr h) = inr (told_more end rows row h.0, armed_more end rows row h.1)

latest_more : (left : Option ℕ) (rows : List Row) (row : Row) (end : ℕ) → (end ≡ 0) ⊎ IsEnd left rows end → (end ≡ 0) ⊎ IsEnd left (rows ++ row ∷ []) end
latest_more left rows row end (inl h) = inl h
latest_more left rows row end (inr h) = inr (end_more left rows row end h)

is_run_more : (rows : List Row) (row : Row) (r : Option Renewal) → IsRun r rows → IsRun r (rows ++ row ∷ [])
is_run_more rows row None h = tt
is_run_more rows row (Some r) h = (told_more r.end rows row h.0, run_more r.run r.end rows row h.1)

armed_so_more : (left : Option ℕ) (rows : List Row) (row : Row) (armed : ℕ) (service : Service) → IsArmedSo left rows armed service →
    IsArmedSo left (rows ++ row ∷ []) armed service
armed_so_more left rows row armed service (inl h) = inl h
armed_so_more left rows row armed service (inr (inl h)) = inr (inl h)
armed_so_more left rows row armed service (inr (inr h)) = inr (inr (armed_more armed rows row h))

-- what the last list shows is the same
shown_more : (rows whole : List Row) (here : Bool) (end armed : ℕ) (renewal : Option Renewal) (service : Service) →
    last_shown None whole ≡ last_shown None rows → IsShownSo rows here end armed renewal service → IsShownSo whole here end armed renewal service
shown_more rows whole here end armed renewal service same h is = by_shown (h is)
  where
    by_shown : (last_shown None rows ≡ Some (Here end)) ⊎ IsLeft end armed renewal service (last_shown None rows) →
        (last_shown None whole ≡ Some (Here end)) ⊎ IsLeft end armed renewal service (last_shown None whole)
    by_shown (inl e) = inl (same ∙ e)
    by_shown (inr l) = inr (record { unheard = same ∙ l.unheard; not_over = l.not_over; in_force = l.in_force; none = l.none })

-- the same is known behind a row whose news are no list
quiet_holds : (left : Option ℕ) (rows : List Row) (row : Row) (k : Known) → Holds left rows k → (heard : News) → row.at.heard ≡ heard →
    shown_after (last_shown None rows) heard ≡ last_shown None rows → Holds left (rows ++ row ∷ []) k
quiet_holds left rows row k h heard is quiet =
    let same : last_shown None (rows ++ row ∷ []) ≡ last_shown None rows =
    shown_push None rows row ∙ (ap (λ (n : News). shown_after (last_shown None rows) n) is ∙ quiet) in record {
      shown = shown_more rows (rows ++ row ∷ []) k.here k.end k.armed k.renewal k.service same h.shown;
      run = is_run_more rows row k.renewal h.run;
      armed_so = armed_so_more left rows row k.armed k.service h.armed_so;
      latest_so = latest_more left rows row k.latest h.latest_so;
    }

-- ---- the service is over

over_holds : (left : Option ℕ) (rows : List Row) (k : Known) (reading : ℕ) → Holds left rows k → Holds left rows (told_over k reading)
over_holds left rows k reading h = record { shown = λ here. absurd cc; run = tt; armed_so = inl refl; latest_so = h.latest_so }

done_holds : (left : Option ℕ) (rows : List Row) (k : Known) (reading : ℕ) → Holds left rows k → (service : Service) (last : Option Word) →
    Holds left rows (told_done k reading service last)
done_holds left rows k reading h Over last = h
done_holds left rows k reading h Unknown None = h
done_holds left rows k reading h Unknown (Some Check) = h
done_holds left rows k reading h Unknown (Some Renew) = h
done_holds left rows k reading h Unknown (Some Start) = h
done_holds left rows k reading h Unknown (Some Stop) = over_holds left rows k reading h
done_holds left rows k reading h Unknown (Some Kill) = over_holds left rows k reading h
done_holds left rows k reading h Started None = h
done_holds left rows k reading h Started (Some Check) = h
done_holds left rows k reading h Started (Some Renew) = h
done_holds left rows k reading h Started (Some Start) = h
done_holds left rows k reading h Started (Some Stop) = over_holds left rows k reading h
done_holds left rows k reading h Started (Some Kill) = over_holds left rows k reading h

ended_holds : (left : Option ℕ) (rows : List Row) (k : Known) (reading : ℕ) → Holds left rows k → (test : Bool) →
    Holds left rows (cond test (told_done k reading k.service k.last) k)
ended_holds left rows k reading h true = done_holds left rows k reading h k.service k.last
ended_holds left rows k reading h false = h

-- ---- a renewal is done

same_number : (a b : ℕ) → (a == b) ≡ true → a ≡ b
same_number a b h = grind (arith, nat_tests)

later_so : (left : Option ℕ) (rows : List Row) (latest end : ℕ) → (latest ≡ 0) ⊎ IsEnd left rows latest → IsEnd left rows end →
    (max latest end ≡ 0) ⊎ IsEnd left rows (max latest end)
later_so left rows latest end before this = by_order (cases_lt latest end)
  where
    by_order : (latest < end) ⊎ (end ≤ latest) → (max latest end ≡ 0) ⊎ IsEnd left rows (max latest end)
    by_order (inl lt) = let e : end ≡ max latest end = omega arith in inr (subst (λ (n : ℕ). IsEnd left rows n) e this)
    by_order (inr le) = let e : latest ≡ max latest end = omega arith in subst (λ (n : ℕ). (n ≡ 0) ⊎ IsEnd left rows n) e before

renewal_done : (left : Option ℕ) (rows : List Row) (row : Row) (k : Known) (run : ℕ) → Holds left rows k → row.at.heard ≡ news.End run Done →
    (r : Renewal) → k.renewal ≡ Some r → run ≡ r.run →
    Holds left (rows ++ row ∷ []) (record k { armed = r.end; latest = max k.latest r.end; renewal = None })
renewal_done left rows row k run h is r there same =
    let whole : List Row = rows ++ row ∷ [] in
    let made = subst (λ (x : Option Renewal). IsRun x rows) there h.run in
    let heard : row.at.heard ≡ news.End r.run Done = is ∙ ap (λ (n : ℕ). news.End n Done) same in
    let armed : HasArmed r.end whole = armed_last r.run r.end rows row made.1 heard in
    let quiet : last_shown None whole ≡ last_shown None rows =
    shown_push None rows row ∙ ap (λ (n : News). shown_after (last_shown None rows) n) is in record {
      shown = λ here. by_shown quiet (h.shown here);
      run = tt;
      armed_so = inr (inr armed);
      latest_so = later_so left whole k.latest r.end (latest_more left rows row k.latest h.latest_so) (inr (told_more r.end rows row made.0, armed));
    }
  where
    none_some : k.renewal ≡ None → k.renewal ≡ Some r → ⊥
    none_some p q = cc

    by_shown : last_shown None (rows ++ row ∷ []) ≡ last_shown None rows →
        (last_shown None rows ≡ Some (Here k.end)) ⊎ IsLeft k.end k.armed k.renewal k.service (last_shown None rows) →
        (last_shown None (rows ++ row ∷ []) ≡ Some (Here k.end)) ⊎ IsLeft k.end r.end None k.service (last_shown None (rows ++ row ∷ []))
    by_shown quiet (inl e) = inl (quiet ∙ e)
    by_shown quiet (inr l) = absurd (none_some l.none there)

armed_holds : (left : Option ℕ) (rows : List Row) (row : Row) (k : Known) (run : ℕ) → Holds left rows k → row.at.heard ≡ news.End run Done →
    (r : Option Renewal) → k.renewal ≡ r → Holds left (rows ++ row ∷ []) (told_armed k run r)
armed_holds left rows row k run h is None there = quiet_holds left rows row k h (news.End run Done) is refl
armed_holds left rows row k run h is (Some r) there = by_test (run == r.run) refl
  where
    by_test : (test : Bool) → (run == r.run) ≡ test →
        Holds left (rows ++ row ∷ []) (cond test (record k { armed = r.end; latest = max k.latest r.end; renewal = None }) k)
    by_test true e = renewal_done left rows row k run h is r there (same_number run r.run e)
    by_test false e = quiet_holds left rows row k h (news.End run Done) is refl

-- ---- a renewal failed

renewal_failed : (left : Option ℕ) (rows : List Row) (row : Row) (k : Known) (run : ℕ) → Holds left rows k →
    row.at.heard ≡ news.End run Failed → (r : Renewal) → k.renewal ≡ Some r →
    Holds left (rows ++ row ∷ []) (record k { renewal = Some (record r { failed = true }) })
renewal_failed left rows row k run h is r there =
    let whole : List Row = rows ++ row ∷ [] in
    let made = subst (λ (x : Option Renewal). IsRun x rows) there h.run in
    let quiet : last_shown None whole ≡ last_shown None rows =
    shown_push None rows row ∙ ap (λ (n : News). shown_after (last_shown None rows) n) is in record {
      shown = λ here. by_shown quiet (h.shown here);
      run = is_run_more rows row (Some r) made;
      armed_so = armed_so_more left rows row k.armed k.service h.armed_so;
      latest_so = latest_more left rows row k.latest h.latest_so;
    }
  where
    none_some : k.renewal ≡ None → k.renewal ≡ Some r → ⊥
    none_some p q = cc

    by_shown : last_shown None (rows ++ row ∷ []) ≡ last_shown None rows →
        (last_shown None rows ≡ Some (Here k.end)) ⊎ IsLeft k.end k.armed k.renewal k.service (last_shown None rows) →
        (last_shown None (rows ++ row ∷ []) ≡ Some (Here k.end))
        ⊎ IsLeft k.end k.armed (Some (record r { failed = true })) k.service (last_shown None (rows ++ row ∷ []))
    by_shown quiet (inl e) = inl (quiet ∙ e)
    by_shown quiet (inr l) = absurd (none_some l.none there)

failed_holds : (left : Option ℕ) (rows : List Row) (row : Row) (k : Known) (run : ℕ) → Holds left rows k →
    row.at.heard ≡ news.End run Failed → (r : Option Renewal) → k.renewal ≡ r →
    Holds left (rows ++ row ∷ []) (told_failed k run r)
failed_holds left rows row k run h is None there = quiet_holds left rows row k h (news.End run Failed) is refl
failed_holds left rows row k run h is (Some r) there = by_test (run == r.run)
  where
    by_test : (test : Bool) →
        Holds left (rows ++ row ∷ []) (cond test (record k { renewal = Some (record r { failed = true }) }) k)
    by_test true = renewal_failed left rows row k run h is r there
    by_test false = quiet_holds left rows row k h (news.End run Failed) is refl

-- ---- news

list_holds : (left : Option ℕ) (rows : List Row) (row : Row) (k : Known) → Holds left rows k → (here : Bool) (end : ℕ) →
    (here ≡ true → last_shown None (rows ++ row ∷ []) ≡ Some (Here end)) →
    HoldsOf left (rows ++ row ∷ []) here end k.armed k.latest k.renewal k.service
list_holds left rows row k h here end shown = record {
  shown = λ is. inl (shown is);
  run = is_run_more rows row k.renewal h.run;
  armed_so = armed_so_more left rows row k.armed k.service h.armed_so;
  latest_so = latest_more left rows row k.latest h.latest_so;
}

news_holds_so : (left : Option ℕ) (rows : List Row) (row : Row) (k : Known) → Holds left rows k → (heard : News) → row.at.heard ≡ heard →
    Holds left (rows ++ row ∷ []) (told k row.at.reading heard)
news_holds_so left rows row k h news.Nothing is = quiet_holds left rows row k h news.Nothing is refl
news_holds_so left rows row k h news.Stop is = quiet_holds left rows row k h news.Stop is refl
news_holds_so left rows row k h (news.End run Failed) is = failed_holds left rows row k run h is k.renewal refl
news_holds_so left rows row k h (news.End run Done) is =
    let then : Known = told_armed k run k.renewal in
    ended_holds left (rows ++ row ∷ []) then row.at.reading (armed_holds left rows row k run h is k.renewal refl) (run == then.run)
news_holds_so left rows row k h (news.List Elsewhere) is = list_holds left rows row k h false k.end (λ here. absurd cc)
news_holds_so left rows row k h (news.List (Here until)) is =
    list_holds left rows row k h true until
    (λ here. shown_push None rows row ∙ ap (λ (n : News). shown_after (last_shown None rows) n) is)

pub news_holds : (left : Option ℕ) (rows : List Row) (row : Row) (k : Known) → Holds left rows k → Holds left (rows ++ row ∷ []) (known_at k row)
news_holds left rows row k h = news_holds_so left rows row k h row.at.heard refl

-- ---- deeds

started_holds : (left : Option ℕ) (rows : List Row) (k : Known) → Holds left rows k →
    HoldsOf left rows k.here k.end k.armed k.latest k.renewal Started
started_holds left rows k h = record { shown = λ here. by_shown (h.shown here); run = h.run; armed_so = by_armed h.armed_so; latest_so = h.latest_so }
  where
    not_over : Started ≢ Over
    not_over is = cc

    by_shown : (last_shown None rows ≡ Some (Here k.end)) ⊎ IsLeft k.end k.armed k.renewal k.service (last_shown None rows) →
        (last_shown None rows ≡ Some (Here k.end)) ⊎ IsLeft k.end k.armed k.renewal Started (last_shown None rows)
    by_shown (inl e) = inl e
    by_shown (inr l) = inr (record { unheard = l.unheard; not_over = not_over; in_force = l.in_force; none = l.none })

    by_armed : IsArmedSo left rows k.armed k.service → IsArmedSo left rows k.armed Started
    by_armed (inl e) = inl e
    by_armed (inr (inl e)) = inr (inl (e.0, not_over))
    by_armed (inr (inr e)) = inr (inr e)

-- where this site is shown until an end behind the armed one, a list showed it
pub is_shown : (left : Option ℕ) (rows : List Row) (k : Known) → Holds left rows k → k.here ≡ true → k.armed < k.end →
    last_shown None rows ≡ Some (Here k.end)
is_shown left rows k h here later = by_shown (h.shown here)
  where
    by_shown : (last_shown None rows ≡ Some (Here k.end)) ⊎ IsLeft k.end k.armed k.renewal k.service (last_shown None rows) →
        last_shown None rows ≡ Some (Here k.end)
    by_shown (inl e) = e
    by_shown (inr l) = absurd (both k.end k.armed l.in_force later)
      where
        both : (a b : ℕ) → a ≤ b → b < a → ⊥
        both a b le lt = omega arith

renew_holds : (left : Option ℕ) (rows : List Row) (k : Known) (number until reading : ℕ) → Holds left rows k → k.here ≡ true → k.armed < k.end → until ≡ k.end →
    HasRun number until rows →
    HoldsOf left rows k.here k.end k.armed k.latest (Some (record { run = number; end = until; since = reading; failed = false })) k.service
renew_holds left rows k number until reading h here later is run =
    let shown : last_shown None rows ≡ Some (Here k.end) = is_shown left rows k h here later in record {
      shown = λ here. inl shown;
      run = (subst (λ (n : ℕ). HasTold n rows) (sym is) (by_told (shown_told k.end None rows shown)), run);
      armed_so = h.armed_so;
      latest_so = h.latest_so;
    }
  where
    by_told : ((let x : Option Shown = None in x) ≡ Some (Here k.end)) ⊎ HasTold k.end rows → HasTold k.end rows
    by_told (inl none) = absurd cc
    by_told (inr told) = told

deed_holds : (m : Margins) (how : Option RunEnd) (was : Service) (left : Option ℕ) (rows : List Row) (row : Row) (now : Known) →
    Holds left (rows ++ row ∷ []) now → (deed : FollowDeed) → row.deed ≡ deed → IsLet m row.at.reading how was now deed →
    Holds left (rows ++ row ∷ []) (done_at now row.at.reading deed)
deed_holds m how was left rows row now h deeds.Nothing is allowed = h
deed_holds m how was left rows row now h deeds.Leave is allowed = h
deed_holds m how was left rows row now h (deeds.Run Check number until) is allowed = started_holds left (rows ++ row ∷ []) now h
deed_holds m how was left rows row now h (deeds.Run Start number until) is allowed = started_holds left (rows ++ row ∷ []) now h
deed_holds m how was left rows row now h (deeds.Run Stop number until) is allowed = h
deed_holds m how was left rows row now h (deeds.Run Kill number until) is allowed = h
deed_holds m how was left rows row now h (deeds.Run Renew number until) is allowed =
    let later : now.armed < now.end = omega (arith, allowed.3.0.later) in
    renew_holds left (rows ++ row ∷ []) now number until row.at.reading h allowed.3.0.here later allowed.2 (run_last number until rows row is)

pub row_holds : (m : Margins) (left : Option ℕ) (rows : List Row) (row : Row) (k : Known) → Holds left rows k → IsRowLet m k row →
    Holds left (rows ++ row ∷ []) (known_after k row)
row_holds m left rows row k h allowed =
    deed_holds m (end_of k.run row.at.heard) k.service left rows row (known_at k row) (news_holds left rows row k h) row.deed refl allowed

-- ---- all rows

holds_from : (m : Margins) (left : Option ℕ) (before : List Row) (k : Known) → Holds left before k → (rows : List Row) → AllRows (IsRowLet m) k rows →
    Holds left (before ++ rows) (known_from k rows)
unfolding known_from
holds_from m left before k h [] allowed = subst (λ (rows : List Row). Holds left rows k) (sym (append-nil before)) h
holds_from m left before k h (row ∷ rows) allowed =
    subst (λ (whole : List Row). Holds left whole (known_from (known_after k row) rows)) (append_assoc before (row ∷ []) rows)
    (holds_from m left (before ++ row ∷ []) (known_after k row) (row_holds m left before row k h allowed.0) rows allowed.1)

first_holds : (left : Option ℕ) → Holds left [] (known_first left)
unfolding last_shown
first_holds None = record { shown = λ here. absurd cc; run = tt; armed_so = inl refl; latest_so = inl refl }
first_holds (Some end) = record {
  shown = λ here. inr (record { unheard = refl; not_over = λ is. cc; in_force = omega arith; none = refl });
  run = tt;
  armed_so = inr (inl (refl, λ is. cc));
  latest_so = inr (inl refl);
}

-- after rows that are let
pub holds : (m : Margins) (left : Option ℕ) (rows : List Row) → AllRows (IsRowLet m) (known_first left) rows → Holds left rows (known_from (known_first left) rows)
holds m left rows allowed = holds_from m left [] (known_first left) (first_holds left) rows allowed

-- ---- a service that is over stays so until a deed

over_done : (k : Known) (reading : ℕ) (service : Service) (last : Option Word) → service ≡ Over → k.service ≡ Over → (told_done k reading service last).service ≡ Over
over_done k reading Over last is over = over
over_done k reading Unknown last is over = absurd cc
over_done k reading Started last is over = absurd cc

over_ended : (k : Known) (reading : ℕ) → k.service ≡ Over → (test : Bool) → (let now : Known = cond test (told_done k reading k.service k.last) k in now).service ≡ Over
over_ended k reading over true = over_done k reading k.service k.last over over
over_ended k reading over false = over

over_armed : (k : Known) (run : ℕ) → k.service ≡ Over → (r : Option Renewal) → (told_armed k run r).service ≡ Over
over_armed k run over None = over
over_armed k run over (Some r) = by_test (run == r.run)
  where
    by_test : (test : Bool) →
        (let now : Known = cond test (record k { armed = r.end; latest = max k.latest r.end; renewal = None }) k in now).service ≡ Over
    by_test true = over
    by_test false = over

over_failed : (k : Known) (run : ℕ) → k.service ≡ Over → (r : Option Renewal) → (told_failed k run r).service ≡ Over
over_failed k run over None = over
over_failed k run over (Some r) = by_test (run == r.run)
  where
    by_test : (test : Bool) →
        (let now : Known = cond test (record k { renewal = Some (record r { failed = true }) }) k in now).service ≡ Over
    by_test true = over
    by_test false = over

pub over_stays : (k : Known) (reading : ℕ) → k.service ≡ Over → (heard : News) → (told k reading heard).service ≡ Over
over_stays k reading over news.Nothing = over
over_stays k reading over news.Stop = over
over_stays k reading over (news.List Elsewhere) = over
over_stays k reading over (news.List (Here until)) = over
over_stays k reading over (news.End run Failed) = over_failed k run over k.renewal
over_stays k reading over (news.End run Done) =
    let then : Known = told_armed k run k.renewal in over_ended then reading (over_armed k run over k.renewal) (run == then.run)

-- at a start a list showed this site, and the end was armed
pub start_shown : (left : Option ℕ) (rows : List Row) (k : Known) → Holds left rows k → k.here ≡ true → k.service ≡ Over →
    last_shown None rows ≡ Some (Here k.end)
start_shown left rows k h here over = by_shown (h.shown here)
  where
    by_shown : (last_shown None rows ≡ Some (Here k.end)) ⊎ IsLeft k.end k.armed k.renewal k.service (last_shown None rows) →
        last_shown None rows ≡ Some (Here k.end)
    by_shown (inl e) = e
    by_shown (inr l) = absurd (l.not_over over)

pub start_armed : (left : Option ℕ) (rows : List Row) (k : Known) → Holds left rows k → k.armed ≢ 0 → k.service ≡ Over → HasArmed k.armed rows
start_armed left rows k h some over = by_armed h.armed_so
  where
    by_armed : IsArmedSo left rows k.armed k.service → HasArmed k.armed rows
    by_armed (inl none) = absurd (some none)
    by_armed (inr (inl e)) = absurd (e.1 over)
    by_armed (inr (inr e)) = e
