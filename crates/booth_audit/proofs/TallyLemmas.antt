-- The parts of a tally, each by itself.
use Rattle.std.specs.Prelude.{length}
use Rattle.std.proofs.Common.{◌≡◌, ◌<◌, ◌+◌, List, [], ◌∷◌, drop, get_or, ℕ, refl, sym, ◌∙◌, ap}
use Rattle.std.proofs.lemmas.List.{drop_more}
use Rattle.booth_host.specs.declared.entry.Entry.{Entry}
use Rattle.booth_host.specs.declared.entry.Entry.TheVariants as entries
use Rattle.booth_node.specs.Session.{CutKeep, CutNext, CutNow, CutSend, CutStart, IsCut, Makes, SessionEntry, Starts}
use Rattle.booth_audit.specs.Hearings.{Hearings, hearings_all, hearings_noted}
use Rattle.booth_audit.specs.Holdings.{used_after}
use Rattle.booth_audit.specs.Noted.{MemberSays, Noted, noted, noted_all}
use Rattle.booth_audit.specs.Replay.{Event}
use Rattle.booth_audit.specs.Tally.{Tally, tallied, tallied_all}
use Rattle.booth_audit.specs.Turns.{events_from}
use Rattle.booth_audit.specs.Watched.{Watched, watched, watched_all}

last_so : (member : MemberSays) (notes : Noted) (what : SessionEntry) → (noted member notes what).last ≡ used_after notes.last what
last_so member notes (Starts node reading records) = refl
last_so member notes (Makes (entries.Now reading)) = refl
last_so member notes (Makes (entries.Keep name kept answer)) = refl
last_so member notes (Makes (entries.Send to bytes answer)) = refl
last_so member notes (Makes (entries.Open local port records conf_path answer)) = refl
last_so member notes (Makes (entries.Next wait answer bytes)) = refl
last_so member notes (Makes (entries.ReadFile path answer)) = refl
last_so member notes (Makes (entries.Lock path answer)) = refl
last_so member notes (Makes (entries.Kept name answer)) = refl
last_so member notes (Makes (entries.Start number name handler local expires answer)) = refl
last_so member notes (Makes (entries.Out bytes answer)) = refl
last_so member notes (Makes (entries.Err bytes answer)) = refl
last_so member notes (IsCut CutNext) = refl
last_so member notes (IsCut CutNow) = refl
last_so member notes (IsCut (CutSend to bytes)) = refl
last_so member notes (IsCut (CutKeep name kept)) = refl
last_so member notes (IsCut (CutStart job)) = refl

pub noted_so : (member : MemberSays) (tally : Tally) (events : List Event)
    → (tallied_all member tally events).noted ≡ noted_all member tally.noted events
noted_so member tally [] = refl
noted_so member tally (event ∷ events) = noted_so member (tallied member tally event) events

pub watched_so : (member : MemberSays) (tally : Tally) (events : List Event)
    → (tallied_all member tally events).watched ≡ watched_all member tally.watched events
watched_so member tally [] = refl
watched_so member tally (event ∷ events) = watched_so member (tallied member tally event) events

pub hearings_so : (member : MemberSays) (tally : Tally) (events : List Event)
    → (tallied_all member tally events).hearings ≡ hearings_all member tally.noted.last tally.hearings events
hearings_so member tally [] = refl
hearings_so member tally (event ∷ events) =
    hearings_so member (tallied member tally event) events
    ∙ ap (λ (n : ℕ). hearings_all member n (hearings_noted member tally.noted.last tally.hearings event) events)
    (last_so member tally.noted event.what)

-- ---- one event

-- its parts, each by itself
pub parts_tallied : (member : MemberSays) (old : Tally) (notes : Noted) (watch : Watched) (heard : Hearings) (what : SessionEntry)
    (line : ℕ) {then_notes : Noted} {then_watch : Watched} {then_heard : Hearings}
    → ◌≡◌ {A = Tally} (record { noted = notes; watched = watch; hearings = heard }) old → then_notes ≡ noted member notes what
    → then_watch ≡ watched member watch (record { what = what; line = line })
    → then_heard ≡ hearings_noted member notes.last heard (record { what = what; line = line })
    → ◌≡◌ {A = Tally} (record { noted = then_notes; watched = then_watch; hearings = then_heard })
    (tallied member old (record { what = what; line = line }))
parts_tallied member old notes watch heard what line {then_notes} {then_watch} {then_heard} view one other third =
    ap (λ (n : Noted). record { noted = n; watched = then_watch; hearings = then_heard }) one
    ∙ ap (λ (w : Watched). record { noted = noted member notes what; watched = w; hearings = then_heard }) other
    ∙ ap (λ (h : Hearings). record {
      noted = noted member notes what;
      watched = watched member watch (record { what = what; line = line });
      hearings = h;
    }) third
    ∙ ap (λ (t : Tally). tallied member t (record { what = what; line = line })) view

-- ---- the calls of a turn

-- one more call
pub more_tallied : (member : MemberSays) (tally : Tally) {then_tally first : Tally} (entries : List Entry) (i at : ℕ) (entry : Entry)
    → i < length entries → entry ≡ get_or entries i entry
    → then_tally ≡ tallied member tally (record { what = Makes entry; line = at })
    → tallied_all member tally (events_from at (drop i entries)) ≡ first
    → tallied_all member then_tally (events_from (at + 2) (drop (i + 1) entries)) ≡ first
more_tallied member tally entries i at entry below there is so_far =
    ap (λ (t : Tally). tallied_all member t (events_from (at + 2) (drop (i + 1) entries))) is
    ∙ ap (λ (e : Entry). tallied_all member tally (events_from at (e ∷ drop (i + 1) entries))) there
    ∙ ap (λ (l : List Entry). tallied_all member tally (events_from at l)) (sym (drop_more entries i entry below))
    ∙ so_far
