-- Years and months as `jiff` counts their days.
use Rattle.std.proofs.Common.{◌≡◌, ℕ, zero, suc, ◌+◌, ◌-◌, ◌*◌, ◌/◌, ◌%◌, ◌<◌, ◌≤◌, cond, Bool, pos, inl, inr, refl, sym, ap, ◌∙◌, subst, arith, lt-ltb, le-ltb}
use Rattle.std.proofs.lemmas.Bool.{cases_lt}
use Rattle.jiff_core.specs.Calendar.{day_count, days_in_month, days_in_year, days_of_months}
use Rattle.jiff_core.specs.Date.{epoch_day}
use Rattle.jiff_core.specs.declared.civil.date.Date.{Date}
use Rattle.jiff_core.proofs.SignedLemmas.{signed_arith}
use Rattle.jiff_core.proofs.CalendarLemmas.{day_count-day_of_year, day_count-epoch, day_count-next_year, days_from_civil-day_count, days_in_year_bounds, days_of_months-zero, days_of_months_all, days_of_months_more}
use Rattle.jiff_core.specs.DateTime.{civil_nanos}
use Rattle.jiff_core.specs.Time.{time_nanos}
use Rattle.jiff_core.specs.declared.civil.datetime.DateTime.{DateTime}
use Rattle.booth_talk.specs.declared.date.TheConstants.{LAST}
use Rattle.std.specs.Prelude.{codes}
use Rattle.std.proofs.Common.{◌++◌}
use Rattle.jiff.proofs.Family.{civil_nanos-parts, epoch_day_injective, time_nanos_bound}
use Rattle.booth_talk.specs.Civil.{Civil, civil_of, day_text, moment_text, month_of, time_text, year_of}

-- a year, and a day in it that is so many days after the first of the year before
pub record IsYearOf (year day : ℕ) (r : ℕ × ℕ) : Type 0 where
  pub within : r.1 < days_in_year (pos r.0)
  pub same : day_count (pos r.0) 1 1 + r.1 ≡ day_count (pos year) 1 1 + day
  pub later : year ≤ r.0
  pub bound : r.0 * 365 ≤ year * 365 + day

next_year : (year : ℕ) → day_count (pos (year + 1)) 1 1 ≡ day_count (pos year) 1 1 + days_in_year (pos year)
next_year year = day_count-next_year (pos year) (pos (year + 1)) (omega (arith, signed_arith)) (omega (arith, signed_arith))

pub years : (n year day : ℕ) → day ≤ n → IsYearOf year day (year_of n year day)
unfolding year_of
years zero year day le = record { within = omega (arith, days_in_year_bounds (pos year)); same = refl; later = omega arith; bound = omega arith }
years (suc n) year day le = elim (cases_lt day (days_in_year (pos year))) [
  | inl lt ↦
      subst (λ (b : Bool). IsYearOf year day (cond b (year, day) (year_of n (year + 1) (day - days_in_year (pos year)))))
      (sym (lt-ltb day (days_in_year (pos year)) lt)) (record { within = lt; same = refl; later = omega arith; bound = omega arith })
  | inr ge ↦
      let bounds = days_in_year_bounds (pos year) in
      let r = years n (year + 1) (day - days_in_year (pos year)) (omega (arith, le, ge, bounds)) in
      subst (λ (b : Bool). IsYearOf year day (cond b (year, day) (year_of n (year + 1) (day - days_in_year (pos year)))))
      (sym (le-ltb day (days_in_year (pos year)) ge))
      (record { within = r.within; same = omega (arith, r.same, ge, next_year year); later = omega (arith, r.later); bound = omega (arith, r.bound, ge, bounds) })
]

-- a month, and a day in it that is so many days after the first of the month before
pub record IsMonthOf (year month day : ℕ) (r : ℕ × ℕ) : Type 0 where
  pub within : r.1 < days_in_month (pos year) r.0
  pub same : days_of_months (pos year) (r.0 - 1) + r.1 ≡ days_of_months (pos year) (month - 1) + day
  pub least : 1 ≤ r.0
  pub most : r.0 ≤ 12

pub months : (n year month day : ℕ) → 1 ≤ month → month + n ≡ 12 → days_of_months (pos year) (month - 1) + day < days_in_year (pos year) →
    IsMonthOf year month day (month_of n year month day)
unfolding month_of
months zero year month day low last lt =
    let at : month ≡ 12 = omega (arith, last) in
    let more = days_of_months_more (pos year) month low in
    let all = days_of_months_all (pos year) in
    let same : days_of_months (pos year) month ≡ days_of_months (pos year) 12 = ap (days_of_months (pos year)) at in
    record { within = omega (arith, lt, more, all, same); same = refl; least = low; most = omega (arith, at) }
months (suc n) year month day low last lt = elim (cases_lt day (days_in_month (pos year) month)) [
  | inl inside ↦
      subst (λ (b : Bool). IsMonthOf year month day (cond b (month, day) (month_of n year (month + 1) (day - days_in_month (pos year) month))))
      (sym (lt-ltb day (days_in_month (pos year) month) inside)) (record { within = inside; same = refl; least = low; most = omega (arith, last) })
  | inr ge ↦
      let more = days_of_months_more (pos year) month low in
      let back : month + 1 - 1 ≡ month = omega arith in
      let here : days_of_months (pos year) (month + 1 - 1) ≡ days_of_months (pos year) month = ap (days_of_months (pos year)) back in
      let r = months n year (month + 1) (day - days_in_month (pos year) month) (omega arith) (omega (arith, last)) (omega (arith, lt, ge, more, here)) in
      subst (λ (b : Bool). IsMonthOf year month day (cond b (month, day) (month_of n year (month + 1) (day - days_in_month (pos year) month))))
      (sym (le-ltb day (days_in_month (pos year) month) ge))
      (record { within = r.within; same = omega (arith, r.same, ge, more, here); least = r.least; most = r.most })
]

-- the date so many days after 1970-01-01 is one that the calendar has, and has that number
pub record IsCivilOf (day : ℕ) (d : Civil) : Type 0 where
  pub later : 1970 ≤ d.year
  pub bound : d.year * 365 ≤ 1970 * 365 + day
  pub least : 1 ≤ d.month
  pub most : d.month ≤ 12
  pub first : 1 ≤ d.day
  pub last : d.day ≤ days_in_month (pos d.year) d.month
  pub count : day_count (pos d.year) d.month d.day ≡ 4371953 + day

pub civil_is : (day : ℕ) → IsCivilOf day (civil_of day)
unfolding civil_of
civil_is day =
    let y = years day 1970 day (omega arith) in
    let year : ℕ = (year_of day 1970 day).0 in
    let left : ℕ = (year_of day 1970 day).1 in
    let zeroth = days_of_months-zero (pos year) in
    let none : days_of_months (pos year) (1 - 1) ≡ days_of_months (pos year) 0 = refl in
    let m = months 11 year 1 left (omega arith) refl (omega (arith, y.within, zeroth, none)) in
    let month : ℕ = (month_of 11 year 1 left).0 in
    let at : ℕ = (month_of 11 year 1 left).1 in
    let counted = day_count-day_of_year (pos year) month (at + 1) (omega arith) in
    record {
      later = y.later;
      bound = y.bound;
      least = m.least;
      most = m.most;
      first = omega arith;
      last = omega (arith, m.within);
      count = omega (arith, counted, m.same, y.same, day_count-epoch, zeroth, none);
    }

-- the parts of a time of day
pub record IsTimeOf (seconds hour minute second : ℕ) : Type 0 where
  pub hours : hour ≡ seconds % 86400 / 3600
  pub minutes : minute ≡ seconds % 86400 / 60 % 60
  pub seconds_left : second ≡ seconds % 86400 % 60

-- what a clock shows so many seconds after 1970 began
pub shown : (at : DateTime) (seconds : ℕ) → seconds ≤ LAST → civil_nanos at ≡ pos (seconds * 1000000000) →
    moment_text at ≡ day_text (civil_of (seconds / 86400)) ++ codes " " ++ time_text (seconds % 86400)
shown at seconds early after =
    let parts = civil_nanos-parts at in
    let bound = time_nanos_bound at.time in
    let day : ℕ = seconds / 86400 in
    let days : epoch_day at.date ≡ pos day = omega (arith, signed_arith, after, parts, bound) in
    let nanos : time_nanos at.time ≡ seconds % 86400 * 1000000000 = omega (arith, signed_arith, after, parts, bound) in
    let hours : at.time.hour ≡ seconds % 86400 / 3600 = omega (arith, nanos, at.time.hour_in, at.time.minute_in, at.time.second_in, at.time.subsec_in) in
    let minutes : at.time.minute ≡ seconds % 86400 / 60 % 60 = omega (arith, nanos, at.time.hour_in, at.time.minute_in, at.time.second_in, at.time.subsec_in) in
    let left : at.time.second ≡ seconds % 86400 % 60 = omega (arith, nanos, at.time.hour_in, at.time.minute_in, at.time.second_in, at.time.subsec_in) in
    let d : Civil = civil_of day in
    let is : IsCivilOf day d = civil_is day in
    let date : Date = record {
      year = pos d.year;
      month = d.month;
      day = d.day;
      year_in = (omega (arith, signed_arith), omega (arith, signed_arith, early, is.bound));
      month_in = (is.least, is.most);
      day_in = (is.first, is.last);
    } in
    let number : epoch_day date ≡ pos day = omega (arith, signed_arith, days_from_civil-day_count (pos d.year) d.month d.day, is.count) in
    let same = epoch_day_injective at.date date (days ∙ sym number) in
    rw (same.0, same.1, same.2, hours, minutes, left) refl
