-- Between a start and the end of its stop or kill the clock is below an armed end.
use Rattle.std.proofs.Common.{◌≡◌, ◌≢◌, ◌<◌, ◌≤◌, ◌+◌, ◌*◌, ℕ, Bool, true, false, ◌==◌, cond, max, List, [], ◌∷◌, Option, Some, None, refl, sym, subst, ◌∙◌, arith}
use Rattle.booth_follow_rule.specs.declared.margins.Margins.{Margins}
use Rattle.booth_follow_rule.specs.declared.news.News.{News}
use Rattle.booth_follow_rule.specs.declared.news.News.TheVariants as news
use Rattle.booth_follow_rule.specs.declared.news.RunEnd.{RunEnd}
use Rattle.booth_follow_rule.specs.declared.news.RunEnd.TheVariants.{Done, Failed}
use Rattle.booth_follow_rule.specs.declared.news.Shown.TheVariants.{Here, Elsewhere}
use Rattle.booth_follow_rule.specs.declared.state.FollowDeed.{FollowDeed}
use Rattle.booth_follow_rule.specs.declared.state.FollowDeed.TheVariants as deeds
use Rattle.booth_follow_rule.specs.declared.state.Renewal.{Renewal}
use Rattle.booth_follow_rule.specs.declared.state.Word.{Word}
use Rattle.booth_follow_rule.specs.declared.state.Word.TheVariants.{Check, Renew, Start, Stop, Kill}
use Rattle.booth_follow_rule.specs.Known.{AllRows, Known, Row, Service, Unknown, Started, Over, done_at, killed_from, known_after, known_at, known_first, rows_of, told, told_armed, told_done, told_ended, told_failed, told_over}
use Rattle.booth_follow_rule.specs.Laws.{IsCovered, IsLet, IsPrompt, IsQuietLet, IsRenewedBeside, IsRowLet, IsStopLet, ServesInTime}
use Rattle.booth_follow_rule.specs.Rule.{end_of}
use Rattle.booth_follow_rule.proofs.KnownLemmas.{deeds_let}

-- ---- what news leave as it was

record ToldFrom (k now : Known) : Type 0 where
  last : now.last ≡ k.last
  killed_at : now.killed_at ≡ k.killed_at
  seen : now.seen ≡ k.seen
  left : now.left ≡ k.left
  grows : k.latest ≤ now.latest
  known : now.armed ≤ now.latest
  service : now.service ≡ Started → k.service ≡ Started

told_same : (k : Known) → k.armed ≤ k.latest → ToldFrom k k
told_same k le = record { last = refl; killed_at = refl; seen = refl; left = refl; grows = omega arith; known = le; service = λ is. is }

over_from : (k : Known) (reading : ℕ) → k.armed ≤ k.latest → ToldFrom k (told_over k reading)
over_from k reading le = record { last = refl; killed_at = refl; seen = refl; left = refl; grows = omega arith; known = omega arith; service = λ is. absurd cc }

done_from : (k : Known) (reading : ℕ) → k.armed ≤ k.latest → (service : Service) (last : Option Word) → ToldFrom k (told_done k reading service last)
done_from k reading le Over last = told_same k le
done_from k reading le Unknown None = told_same k le
done_from k reading le Unknown (Some Check) = told_same k le
done_from k reading le Unknown (Some Renew) = told_same k le
done_from k reading le Unknown (Some Start) = told_same k le
done_from k reading le Unknown (Some Stop) = over_from k reading le
done_from k reading le Unknown (Some Kill) = over_from k reading le
done_from k reading le Started None = told_same k le
done_from k reading le Started (Some Check) = told_same k le
done_from k reading le Started (Some Renew) = told_same k le
done_from k reading le Started (Some Start) = told_same k le
done_from k reading le Started (Some Stop) = over_from k reading le
done_from k reading le Started (Some Kill) = over_from k reading le

ended_from : (k : Known) (reading : ℕ) → k.armed ≤ k.latest → (test : Bool) → ToldFrom k (cond test (told_done k reading k.service k.last) k)
ended_from k reading le true = done_from k reading le k.service k.last
ended_from k reading le false = told_same k le

armed_from : (k : Known) (run : ℕ) → k.armed ≤ k.latest → (r : Option Renewal) → ToldFrom k (told_armed k run r)
armed_from k run le None = told_same k le
armed_from k run le (Some r) = by_test (run == r.run)
  where
    by_test : (test : Bool) → ToldFrom k (cond test (record k { armed = r.end; latest = max k.latest r.end; renewal = None }) k)
    by_test true = record { last = refl; killed_at = refl; seen = refl; left = refl; grows = omega arith; known = omega arith; service = λ is. is }
    by_test false = told_same k le

failed_from : (k : Known) (run : ℕ) → k.armed ≤ k.latest → (r : Option Renewal) → ToldFrom k (told_failed k run r)
failed_from k run le None = told_same k le
failed_from k run le (Some r) = by_test (run == r.run)
  where
    by_test : (test : Bool) → ToldFrom k (cond test (record k { renewal = Some (record r { failed = true }) }) k)
    by_test true = record { last = refl; killed_at = refl; seen = refl; left = refl; grows = omega arith; known = le; service = λ is. is }
    by_test false = told_same k le

both_from : (k then now : Known) → ToldFrom k then → ToldFrom then now → ToldFrom k now
both_from k then now first second =
    let grows : k.latest ≤ then.latest = first.grows in let more : then.latest ≤ now.latest = second.grows in record {
      last = second.last ∙ first.last;
      killed_at = second.killed_at ∙ first.killed_at;
      seen = second.seen ∙ first.seen;
      left = second.left ∙ first.left;
      grows = omega arith;
      known = second.known;
      service = λ is. first.service (second.service is);
    }

told_from : (k : Known) (reading : ℕ) → k.armed ≤ k.latest → (heard : News) → ToldFrom k (told k reading heard)
told_from k reading le news.Nothing = told_same k le
told_from k reading le news.Stop = record { last = refl; killed_at = refl; seen = refl; left = refl; grows = omega arith; known = le; service = λ is. is }
told_from k reading le (news.List Elsewhere) = record { last = refl; killed_at = refl; seen = refl; left = refl; grows = omega arith; known = le; service = λ is. is }
told_from k reading le (news.List (Here until)) =
    record { last = refl; killed_at = refl; seen = refl; left = refl; grows = omega arith; known = le; service = λ is. is }
told_from k reading le (news.End run Failed) = failed_from k run le k.renewal
told_from k reading le (news.End run Done) =
    let then : Known = told_armed k run k.renewal in
    let first : ToldFrom k then = armed_from k run le k.renewal in
    both_from k then (told_ended then reading run) first (ended_from then reading first.known (run == then.run))

-- ---- what holds of the last reading

abbrev StartedSo : Margins → ℕ → Known → Option Word → Type 0
StartedSo m gap k None = ⊥
StartedSo m gap k (Some Check) = k.seen + m.margin < k.armed
StartedSo m gap k (Some Start) = k.seen + m.margin < k.armed
StartedSo m gap k (Some Stop) = k.seen + m.kill < k.armed
StartedSo m gap k (Some Kill) = k.killed_at + m.kill < k.latest + gap
StartedSo m gap k (Some Renew) = ⊥

record IsTimely (m : Margins) (gap : ℕ) (k : Known) : Type 0 where
  known : k.armed ≤ k.latest
  left : k.left ≡ true → k.service ≢ Started
  started : k.service ≡ Started → StartedSo m gap k k.last

-- what held at the last reading, at what is known now
was_so : (m : Margins) (gap : ℕ) (k now : Known) → IsTimely m gap k → ToldFrom k now → now.service ≡ Started → (last : Option Word) → now.last ≡ last →
    StartedSo m gap k last
was_so m gap k now timely from started last is =
    subst (λ (w : Option Word). StartedSo m gap k w) (sym from.last ∙ is) (timely.started (from.service started))

quiet_so : (m : Margins) (reading gap : ℕ) (how : Option RunEnd) (was : Service) (now : Known) (left : Bool) (service : Service) (last : Option Word) →
    IsQuietLet m reading how was now left service last → left ≡ false → service ≡ Started →
    (last ≡ Some Kill → now.killed_at + m.kill < now.latest + gap) → StartedSo m gap (record now { seen = reading }) last
quiet_so m reading gap how was now true service last h left started killed = absurd cc
quiet_so m reading gap how was now false Over last h left started killed = absurd cc
quiet_so m reading gap how was now false Unknown last h left started killed = absurd cc
quiet_so m reading gap how was now false Started None h left started killed = absurd h
quiet_so m reading gap how was now false Started (Some Check) h left started killed = h.0.kept.armed
quiet_so m reading gap how was now false Started (Some Start) h left started killed = h.0.kept.armed
quiet_so m reading gap how was now false Started (Some Stop) h left started killed = h.0 refl
quiet_so m reading gap how was now false Started (Some Kill) h left started killed = killed refl
quiet_so m reading gap how was now false Started (Some Renew) h left started killed = absurd h

renewed_so : (m : Margins) (reading gap : ℕ) (how : Option RunEnd) (now : Known) (service : Service) (last : Option Word) →
    IsRenewedBeside m reading how now service last → service ≡ Started → (last ≡ Some Kill → ⊥) → StartedSo m gap (record now { seen = reading }) last
renewed_so m reading gap how now Over last h started killed = absurd cc
renewed_so m reading gap how now Unknown last h started killed = absurd cc
renewed_so m reading gap how now Started None h started killed = absurd h
renewed_so m reading gap how now Started (Some Check) h started killed = h.kept.armed
renewed_so m reading gap how now Started (Some Start) h started killed = h.kept.armed
renewed_so m reading gap how now Started (Some Stop) h started killed = h refl
renewed_so m reading gap how now Started (Some Kill) h started killed = absurd (killed refl)
renewed_so m reading gap how now Started (Some Renew) h started killed = absurd h

not_killed : (m : Margins) (reading : ℕ) (how : Option RunEnd) (now : Known) (service : Service) (last : Option Word) →
    IsRenewedBeside m reading how now service last → service ≡ Started → last ≡ Some Kill → ⊥
not_killed m reading how now Over last h started is = absurd cc
not_killed m reading how now Unknown last h started is = absurd cc
not_killed m reading how now Started None h started is = cc
not_killed m reading how now Started (Some Check) h started is = cc
not_killed m reading how now Started (Some Start) h started is = cc
not_killed m reading how now Started (Some Stop) h started is = cc
not_killed m reading how now Started (Some Kill) h started is = h
not_killed m reading how now Started (Some Renew) h started is = cc

stop_so : (m : Margins) (reading : ℕ) (how : Option RunEnd) (now : Known) (last : Option Word) → IsStopLet m reading how now last →
    (last ≡ None → ⊥) → reading + m.kill < now.armed
stop_so m reading how now None h some = absurd (some refl)
stop_so m reading how now (Some Check) h some = h.1
stop_so m reading how now (Some Start) h some = h.1
stop_so m reading how now (Some Stop) h some = absurd h
stop_so m reading how now (Some Kill) h some = absurd h
stop_so m reading how now (Some Renew) h some = absurd h

-- a kill begins a gap after the last reading that was in time, or goes on
kill_so : (m : Margins) (reading gap : ℕ) (k now : Known) → m.kill ≤ m.margin → k.armed ≤ k.latest → ToldFrom k now → reading ≤ k.seen + gap →
    (last : Option Word) → StartedSo m gap k last → killed_from last now.killed_at reading + m.kill < now.latest + gap
kill_so m reading gap k now short known from soon None h = absurd h
kill_so m reading gap k now short known from soon (Some Check) h = let grows : k.latest ≤ now.latest = from.grows in omega (arith, h)
kill_so m reading gap k now short known from soon (Some Start) h = let grows : k.latest ≤ now.latest = from.grows in omega (arith, h)
kill_so m reading gap k now short known from soon (Some Stop) h = let grows : k.latest ≤ now.latest = from.grows in omega (arith, h)
kill_so m reading gap k now short known from soon (Some Kill) h =
    let grows : k.latest ≤ now.latest = from.grows in let same : now.killed_at ≡ k.killed_at = from.killed_at in omega (arith, h)
kill_so m reading gap k now short known from soon (Some Renew) h = absurd h

not_left : (m : Margins) (gap : ℕ) (k now : Known) → IsTimely m gap k → ToldFrom k now → now.left ≡ true → now.service ≢ Started
not_left m gap k now timely from left = λ started. timely.left (sym from.left ∙ left) (from.service started)

left_false : (left : Bool) → (left ≡ true → ⊥) → left ≡ false
left_false true h = absurd (h refl)
left_false false h = refl

-- ---- one row

row_timely : (m : Margins) (reading gap : ℕ) (how : Option RunEnd) (k now : Known) → m.kill ≤ m.margin → IsTimely m gap k → ToldFrom k now →
    (k.service ≡ Started → reading ≤ k.seen + gap) → (deed : FollowDeed) → IsLet m reading how k.service now deed →
    IsTimely m gap (done_at now reading deed)
row_timely m reading gap how k now short timely from soon deeds.Nothing h = record {
  known = from.known;
  left = not_left m gap k now timely from;
  started = λ started. quiet_so m reading gap how k.service now now.left now.service now.last h (left_false now.left (λ left. not_left m gap k now timely from left started)) started
      (λ is. let grows : k.latest ≤ now.latest = from.grows in
      let same : now.killed_at ≡ k.killed_at = from.killed_at in
      let before : k.killed_at + m.kill < k.latest + gap = was_so m gap k now timely from started (Some Kill) is in omega arith);
}
row_timely m reading gap how k now short timely from soon deeds.Leave h = record {
  known = from.known;
  left = λ left started. clash (from.service started) h.1;
  started = λ started. absurd (clash (from.service started) h.1);
}
  where
    clash : k.service ≡ Started → k.service ≡ Over → ⊥
    clash p q = cc
row_timely m reading gap how k now short timely from soon (deeds.Run Check number until) h = record {
  known = from.known;
  left = λ left. absurd (clash (sym h.0 ∙ left));
  started = λ started. h.3.kept.armed;
}
  where
    clash : false ≡ true → ⊥
    clash p = cc
row_timely m reading gap how k now short timely from soon (deeds.Run Renew number until) h = record {
  known = from.known;
  left = not_left m gap k now timely from;
  started = λ started. renewed_so m reading gap how now now.service now.last h.3.1 started (not_killed m reading how now now.service now.last h.3.1 started);
}
row_timely m reading gap how k now short timely from soon (deeds.Run Start number until) h = record {
  known = from.known;
  left = λ left. absurd (clash (sym h.0 ∙ left));
  started = λ started. h.3.armed;
}
  where
    clash : false ≡ true → ⊥
    clash p = cc
row_timely m reading gap how k now short timely from soon (deeds.Run Stop number until) h = record {
  known = from.known;
  left = not_left m gap k now timely from;
  started = λ started. stop_so m reading how now now.last h.3.1 (λ none. was_so m gap k now timely from started None none);
}
row_timely m reading gap how k now short timely from soon (deeds.Run Kill number until) h = record {
  known = from.known;
  left = not_left m gap k now timely from;
  started = λ started. kill_so m reading gap k now short timely.known from (soon (from.service started)) now.last
      (was_so m gap k now timely from started now.last refl);
}

seen_at : (now : Known) (reading : ℕ) (deed : FollowDeed) → (done_at now reading deed).seen ≡ reading
seen_at now reading deeds.Nothing = refl
seen_at now reading deeds.Leave = refl
seen_at now reading (deeds.Run Check number until) = refl
seen_at now reading (deeds.Run Renew number until) = refl
seen_at now reading (deeds.Run Start number until) = refl
seen_at now reading (deeds.Run Stop number until) = refl
seen_at now reading (deeds.Run Kill number until) = refl

covered : (m : Margins) (reading gap quick : ℕ) (after : Known) → 2 * gap + quick ≤ m.kill → m.kill ≤ m.margin → after.seen ≡ reading → after.armed ≤ after.latest →
    (last : Option Word) → (last ≡ Some Kill → reading ≤ after.killed_at + quick) → StartedSo m gap after last → reading + gap < after.latest
covered m reading gap quick after quicker short seen known None killed h = absurd h
covered m reading gap quick after quicker short seen known (Some Check) killed h = omega (arith, h)
covered m reading gap quick after quicker short seen known (Some Start) killed h = omega (arith, h)
covered m reading gap quick after quicker short seen known (Some Stop) killed h = omega (arith, h)
covered m reading gap quick after quicker short seen known (Some Kill) killed h = omega (arith, h, killed refl)
covered m reading gap quick after quicker short seen known (Some Renew) killed h = absurd h

row_covered : (m : Margins) (gap quick : ℕ) (k : Known) (row : Row) → 2 * gap + quick ≤ m.kill → m.kill ≤ m.margin → IsTimely m gap (known_after k row) →
    IsPrompt gap quick k row → IsCovered gap k row
row_covered m gap quick k row quicker short timely prompt started =
    let after : Known = known_after k row in
    covered m row.at.reading gap quick after quicker short (seen_at (known_at k row) row.at.reading row.deed) timely.known after.last
    (prompt.killed started) (timely.started started)

-- ---- all rows

rows_covered : (m : Margins) (gap quick : ℕ) → 2 * gap + quick ≤ m.kill → m.kill ≤ m.margin → (k : Known) → IsTimely m gap k → (rows : List Row) →
    AllRows (IsRowLet m) k rows → AllRows (IsPrompt gap quick) k rows → AllRows (IsCovered gap) k rows
rows_covered m gap quick quicker short k timely [] h prompt = tt
rows_covered m gap quick quicker short k timely (row ∷ rows) h prompt =
    let next : IsTimely m gap (known_after k row) =
    row_timely m row.at.reading gap (end_of k.run row.at.heard) k (known_at k row) short timely
    (told_from k row.at.reading timely.known row.at.heard) prompt.0.soon row.deed h.0 in (
      row_covered m gap quick k row quicker short next prompt.0,
      rows_covered m gap quick quicker short (known_after k row) next rows h.1 prompt.1,
    )

first_timely : (m : Margins) (gap : ℕ) (left : Option ℕ) → IsTimely m gap (known_first left)
first_timely m gap None = record { known = omega arith; left = λ left. absurd cc; started = λ started. absurd cc }
first_timely m gap (Some end) = record { known = omega arith; left = λ left. absurd cc; started = λ started. absurd cc }

pub in_time : ServesInTime
in_time m left ps gap quick quicker short prompt =
    rows_covered m gap quick quicker short (known_first left) (first_timely m gap left) (rows_of m left ps) (deeds_let.rows m left ps) prompt
