-- What one row behind others adds to what was shown, told, run and armed.
use Rattle.std.proofs.Common.{◌≡◌, ◌++◌, ℕ, List, [], ◌∷◌, Option, Some, inl, inr, ◌⊎◌, refl, ap, ◌∙◌}
use Rattle.booth_follow_rule.specs.declared.news.News.{News}
use Rattle.booth_follow_rule.specs.declared.news.News.TheVariants as news
use Rattle.booth_follow_rule.specs.declared.news.RunEnd.TheVariants.{Done}
use Rattle.booth_follow_rule.specs.declared.news.Shown.{Shown}
use Rattle.booth_follow_rule.specs.declared.news.Shown.TheVariants.{Here}
use Rattle.booth_follow_rule.specs.declared.state.FollowDeed.TheVariants as deeds
use Rattle.booth_follow_rule.specs.declared.state.Word.TheVariants.{Renew}
use Rattle.booth_follow_rule.specs.Known.{Row}
use Rattle.booth_follow_rule.specs.Laws.{HasArmed, HasDone, HasRow, HasRun, HasTold, last_shown, shown_after}

row_more : (P : Row → Type 0) (before : List Row) (row : Row) → HasRow P before → HasRow P (before ++ row ∷ [])
row_more P [] row h = absurd h
row_more P (r ∷ before) row (inl h) = inl h
row_more P (r ∷ before) row (inr h) = inr (row_more P before row h)

row_last : (P : Row → Type 0) (before : List Row) (row : Row) → P row → HasRow P (before ++ row ∷ [])
row_last P [] row h = inl h
row_last P (r ∷ before) row h = inr (row_last P before row h)

pub shown_push : (last : Option Shown) (before : List Row) (row : Row) → last_shown last (before ++ row ∷ []) ≡ shown_after (last_shown last before) row.at.heard
unfolding last_shown
shown_push last [] row = refl
shown_push last (r ∷ before) row = shown_push (shown_after last r.at.heard) before row

pub told_more : (end : ℕ) (before : List Row) (row : Row) → HasTold end before → HasTold end (before ++ row ∷ [])
told_more end before row h = row_more (λ (r : Row). r.at.heard ≡ news.List (Here end)) before row h

pub run_more : (number end : ℕ) (before : List Row) (row : Row) → HasRun number end before → HasRun number end (before ++ row ∷ [])
run_more number end before row h = row_more (λ (r : Row). r.deed ≡ deeds.Run Renew number end) before row h

pub run_last : (number end : ℕ) (before : List Row) (row : Row) → row.deed ≡ deeds.Run Renew number end → HasRun number end (before ++ row ∷ [])
run_last number end before row h = row_last (λ (r : Row). r.deed ≡ deeds.Run Renew number end) before row h

pub done_more : (number : ℕ) (before : List Row) (row : Row) → HasDone number before → HasDone number (before ++ row ∷ [])
done_more number before row h = row_more (λ (r : Row). r.at.heard ≡ news.End number Done) before row h

pub done_last : (number : ℕ) (before : List Row) (row : Row) → row.at.heard ≡ news.End number Done → HasDone number (before ++ row ∷ [])
done_last number before row h = row_last (λ (r : Row). r.at.heard ≡ news.End number Done) before row h

pub armed_more : (end : ℕ) (before : List Row) (row : Row) → HasArmed end before → HasArmed end (before ++ row ∷ [])
armed_more end [] row h = absurd h
armed_more end (r ∷ before) row (inl h) = inl (h.0, h.1, done_more h.0 before row h.2)
armed_more end (r ∷ before) row (inr h) = inr (armed_more end before row h)

-- a renewal that was run is done at this row
pub armed_last : (number end : ℕ) (before : List Row) (row : Row) → HasRun number end before → row.at.heard ≡ news.End number Done →
    HasArmed end (before ++ row ∷ [])
armed_last number end [] row h is = absurd h
armed_last number end (r ∷ before) row (inl h) is = inl (number, h, done_last number before row is)
armed_last number end (r ∷ before) row (inr h) is = inr (armed_last number end before row h is)

-- what the last list shows was told, unless it was shown before
pub shown_told : (end : ℕ) (last : Option Shown) (rows : List Row) → last_shown last rows ≡ Some (Here end) →
    (last ≡ Some (Here end)) ⊎ HasTold end rows
unfolding last_shown
shown_told end last [] h = inl h
shown_told end last (row ∷ rows) h = by_rest (shown_told end (shown_after last row.at.heard) rows h)
  where
    by_news : (heard : News) → row.at.heard ≡ heard → shown_after last heard ≡ Some (Here end) → (last ≡ Some (Here end)) ⊎ HasTold end (row ∷ rows)
    by_news news.Nothing is e = inl e
    by_news news.Stop is e = inl e
    by_news (news.End run how) is e = inl e
    by_news (news.List shown) is e = inr (inl (is ∙ ap (λ (s : Shown). news.List s) (same shown (Here end) e)))
      where
        same : (a b : Shown) → (let x : Option Shown = Some a in x) ≡ Some b → a ≡ b
        same a b p = cc

    by_rest : (shown_after last row.at.heard ≡ Some (Here end)) ⊎ HasTold end rows → (last ≡ Some (Here end)) ⊎ HasTold end (row ∷ rows)
    by_rest (inl e) = by_news row.at.heard refl e
    by_rest (inr h) = inr (inr h)
