-- What is known of lists is what was heard.
use Rattle.std.proofs.Common.{◌≡◌, ◌==◌, ℕ, Bool, true, false, cond, max, List, [], ◌∷◌, Option, Some, None, refl, sym, ap, ◌∙◌}
use Rattle.booth_follow_rule.specs.declared.news.News.{News}
use Rattle.booth_follow_rule.specs.declared.news.News.TheVariants as news
use Rattle.booth_follow_rule.specs.declared.news.RunEnd.TheVariants.{Done, Failed}
use Rattle.booth_follow_rule.specs.declared.news.Shown.{Shown}
use Rattle.booth_follow_rule.specs.declared.news.Shown.TheVariants.{Here, Elsewhere}
use Rattle.booth_follow_rule.specs.declared.state.FollowDeed.{FollowDeed}
use Rattle.booth_follow_rule.specs.declared.state.FollowDeed.TheVariants as deeds
use Rattle.booth_follow_rule.specs.declared.state.Renewal.{Renewal}
use Rattle.booth_follow_rule.specs.declared.state.Word.{Word}
use Rattle.booth_follow_rule.specs.declared.state.Word.TheVariants.{Check, Renew, Start, Stop, Kill}
use Rattle.booth_follow_rule.specs.Known.{Known, Row, Service, Unknown, Started, Over, done_at, known_after, known_first, told, told_armed, told_done, told_ended, told_failed}
use Rattle.booth_follow_rule.specs.Laws.{KnowsWhatIsHeard, known_from, last_shown, shown_after, shown_first}

-- what the last list shows, as it was; or it counts no more
record SameList (k now : Known) : Type 0 where
  here : now.here ≡ true → k.here ≡ true
  end : now.end ≡ k.end

same : (k : Known) → SameList k k
same k = record { here = λ is. is; end = refl }

no_more : (k now : Known) → now.here ≡ false → now.end ≡ k.end → SameList k now
no_more k now not end = record { here = λ is. absurd (clash (sym not ∙ is)); end = end }
  where
    clash : false ≡ true → ⊥
    clash p = cc

same_done : (k : Known) (reading : ℕ) (service : Service) (last : Option Word) → SameList k (told_done k reading service last)
same_done k reading Over last = same k
same_done k reading Unknown None = same k
same_done k reading Unknown (Some Check) = same k
same_done k reading Unknown (Some Renew) = same k
same_done k reading Unknown (Some Start) = same k
same_done k reading Unknown (Some Stop) = no_more k _ refl refl
same_done k reading Unknown (Some Kill) = no_more k _ refl refl
same_done k reading Started None = same k
same_done k reading Started (Some Check) = same k
same_done k reading Started (Some Renew) = same k
same_done k reading Started (Some Start) = same k
same_done k reading Started (Some Stop) = no_more k _ refl refl
same_done k reading Started (Some Kill) = no_more k _ refl refl

same_ended : (k : Known) (reading : ℕ) (test : Bool) → SameList k (cond test (told_done k reading k.service k.last) k)
same_ended k reading true = same_done k reading k.service k.last
same_ended k reading false = same k

same_armed : (k : Known) (run : ℕ) (r : Option Renewal) → SameList k (told_armed k run r)
same_armed k run None = same k
same_armed k run (Some r) = by_test (run == r.run)
  where
    by_test : (test : Bool) → SameList k (cond test (record k { armed = r.end; latest = max k.latest r.end; renewal = None }) k)
    by_test true = record { here = λ is. is; end = refl }
    by_test false = same k

same_failed : (k : Known) (run : ℕ) (r : Option Renewal) → SameList k (told_failed k run r)
same_failed k run None = same k
same_failed k run (Some r) = by_test (run == r.run)
  where
    by_test : (test : Bool) → SameList k (cond test (record k { renewal = Some (record r { failed = true }) }) k)
    by_test true = record { here = λ is. is; end = refl }
    by_test false = same k

same_deed : (k : Known) (reading : ℕ) (deed : FollowDeed) → SameList k (done_at k reading deed)
same_deed k reading deeds.Nothing = record { here = λ is. is; end = refl }
same_deed k reading deeds.Leave = record { here = λ is. is; end = refl }
same_deed k reading (deeds.Run Check number until) = record { here = λ is. is; end = refl }
same_deed k reading (deeds.Run Renew number until) = record { here = λ is. is; end = refl }
same_deed k reading (deeds.Run Start number until) = record { here = λ is. is; end = refl }
same_deed k reading (deeds.Run Stop number until) = record { here = λ is. is; end = refl }
same_deed k reading (deeds.Run Kill number until) = record { here = λ is. is; end = refl }

-- ---- the last list

abbrev Agrees : Known → Option Shown → Type 0
Agrees k last = k.here ≡ true → last ≡ Some (Here k.end)

agrees_with : (k now : Known) (last : Option Shown) → SameList k now → Agrees k last → Agrees now last
agrees_with k now last list so here = so (list.here here) ∙ ap (λ (n : ℕ). let s : Option Shown = Some (Here n) in s) (sym list.end)

agrees_told : (k : Known) (last : Option Shown) (reading : ℕ) → Agrees k last → (heard : News) → Agrees (told k reading heard) (shown_after last heard)
agrees_told k last reading so news.Nothing = so
agrees_told k last reading so news.Stop = so
agrees_told k last reading so (news.List (Here until)) = λ here. refl
agrees_told k last reading so (news.List Elsewhere) = λ here. absurd cc
agrees_told k last reading so (news.End run Failed) =
    agrees_with k (told_failed k run k.renewal) last (same_failed k run k.renewal) so
agrees_told k last reading so (news.End run Done) =
    let then : Known = told_armed k run k.renewal in
    agrees_with then (told_ended then reading run) last (same_ended then reading (run == then.run)) (agrees_with k then last (same_armed k run k.renewal) so)

agrees_from : (k : Known) (last : Option Shown) → Agrees k last → (rows : List Row) → Agrees (known_from k rows) (last_shown last rows)
unfolding known_from last_shown
agrees_from k last so [] = so
agrees_from k last so (row ∷ rows) =
    let now : Known = told k row.at.reading row.at.heard in
    agrees_from (known_after k row) (shown_after last row.at.heard)
    (agrees_with now (known_after k row) (shown_after last row.at.heard) (same_deed now row.at.reading row.deed)
    (agrees_told k last row.at.reading so row.at.heard)) rows

agrees_first : (left : Option ℕ) → Agrees (known_first left) (shown_first left)
agrees_first None = λ here. absurd cc
agrees_first (Some end) = λ here. refl

pub heard : KnowsWhatIsHeard
heard left rows = agrees_from (known_first left) (shown_first left) (agrees_first left) rows
