-- What one more entry of a member changes: records that it keeps, frames that were sent, and what is counted.
use Rattle.std.proofs.Common.{◌≡◌, ℕ, ◌+◌, ◌-◌, ◌≤◌, Bool, true, false, List, [], ◌∷◌, ◌++◌, length, drop, map, max, refl, sym, ap, ◌∙◌, arith}
use Rattle.std.specs.Prelude.{Option, Some, None}
use Rattle.std.proofs.lemmas.List.{append-nil, append_assoc, drop-append-le, drop-drop, length-drop, length-append}
use Rattle.std.proofs.lemmas.List.Elements.{filter_map-append}
use Rattle.booth_conf.specs.Config.{ConfigSays}
use Rattle.booth_conf.specs.declared.tickets.TicketConf.{TicketConf}
use Rattle.booth_rec.specs.declared.record.Record.{Record}
use Rattle.booth_node.specs.Session.{SessionEntry}
use Rattle.booth_node.specs.World.{WorldEntry, entries_of}
use Rattle.booth_sim.specs.declared.frames.SentFrame.{SentFrame}
use Rattle.booth_sim.specs.declared.frames.TheConstants.{KEPT_FRAMES}
use Rattle.booth_sim.specs.declared.summary.Summary.{Summary}
use Rattle.booth_sim.specs.Counts.{count_after, gains, greatest_term, is_change, is_delivery, is_restart, one_if, releases, term_in}
use Rattle.booth_sim.specs.Frames.{frame_in, frames_in, kept_frames, last_of}
use Rattle.booth_sim.specs.Kept.{all_kept, kept_after, kept_by}
use Rattle.booth_sim.specs.Simulation.{entry_at}
use Rattle.booth_sim.specs.Standing.{IsCounted, IsSeen}
use Rattle.booth_sim.proofs.Entries.{entries_join, entry_own}
use Rattle.booth_sim.proofs.KeptRecords.{kept_join}

-- ---- counts

pub count_last : (is : List WorldEntry → WorldEntry → Bool) (done xs : List WorldEntry) (e : WorldEntry)
    → count_after is done (xs ++ e ∷ []) ≡ count_after is done xs + one_if (is (done ++ xs) e)
count_last is done [] e =
    let same : one_if (is (done ++ []) e) ≡ one_if (is done e) = ap (λ (d : List WorldEntry). one_if (is d e)) (append-nil done) in
    omega (arith, same)
count_last is done (x ∷ xs) e =
    let rest = count_last is (done ++ x ∷ []) xs e in
    let same : one_if (is ((done ++ x ∷ []) ++ xs) e) ≡ one_if (is (done ++ x ∷ xs) e) =
    ap (λ (d : List WorldEntry). one_if (is d e)) (append_assoc done (x ∷ []) xs) in
    omega (arith, rest, same)

pub term_last : (xs : List WorldEntry) (e : WorldEntry) → greatest_term (xs ++ e ∷ []) ≡ max (greatest_term xs) (term_in e.what)
term_last [] e = omega arith
term_last (x ∷ xs) e = let rest = term_last xs e in omega (arith, rest)

-- what is counted goes on by what an entry counts
pub counted_more : (config : ConfigSays) (before : List WorldEntry) (e : WorldEntry) (old new : Summary) → IsCounted config before old
    → new.delivered ≡ old.delivered + one_if (is_delivery config e.what)
    → new.restarts ≡ old.restarts + one_if (is_restart before e.member e.what)
    → new.gains ≡ old.gains + one_if (is_change gains config before e.member e.what)
    → new.releases ≡ old.releases + one_if (is_change releases config before e.member e.what)
    → new.greatest_term ≡ max old.greatest_term (term_in e.what)
    → IsCounted config (before ++ e ∷ []) new
counted_more config before e old new counted delivered restarts gained released greatest = record {
  delivered = by_one (λ _ x. is_delivery config x.what) old.delivered new.delivered counted.delivered delivered;
  restarts = by_one (λ d x. is_restart d x.member x.what) old.restarts new.restarts counted.restarts restarts;
  gains = by_one (λ d x. is_change gains config d x.member x.what) old.gains new.gains counted.gains gained;
  releases = by_one (λ d x. is_change releases config d x.member x.what) old.releases new.releases counted.releases released;
  greatest = greatest ∙ ap (λ (n : ℕ). max n (term_in e.what)) counted.greatest ∙ sym (term_last before e);
}
  where
    by_one : (is : List WorldEntry → WorldEntry → Bool) (n m : ℕ) → n ≡ count_after is [] before → m ≡ n + one_if (is before e)
        → m ≡ count_after is [] (before ++ e ∷ [])
    by_one is n m was more = more ∙ ap (λ (k : ℕ). k + one_if (is before e)) was ∙ sym (count_last is [] before e)

-- ---- frames

pub last_again : {X : Type 0} (most : ℕ) (xs ys : List X) → last_of most (last_of most xs ++ ys) ≡ last_of most (xs ++ ys)
last_again {X} most xs ys =
    let before : ℕ = length xs - most in
    let few : before ≤ length xs = omega arith in
    let joined : drop before xs ++ ys ≡ drop before (xs ++ ys) = sym (drop-append-le before xs ys few) in
    let long : length (drop before (xs ++ ys)) ≡ length (xs ++ ys) - before = length-drop before (xs ++ ys) in
    let all : length (xs ++ ys) ≡ length xs + length ys = length-append xs ys in
    let places : before + ((length (xs ++ ys) - before) - most) ≡ length (xs ++ ys) - most = omega (arith, all) in
    ap (λ (zs : List X). drop (length zs - most) zs) joined
    ∙ ap (λ (n : ℕ). drop (n - most) (drop before (xs ++ ys))) long
    ∙ drop-drop ((length (xs ++ ys) - before) - most) before (xs ++ ys)
    ∙ ap (λ (n : ℕ). drop n (xs ++ ys)) places

frames_last : (config : ConfigSays) (before : List WorldEntry) (e : WorldEntry)
    → frames_in config (before ++ e ∷ []) ≡ frames_in config before ++ frames_in config (e ∷ [])
frames_last config before e = filter_map-append (λ (x : WorldEntry). frame_in config x.member x.what) before (e ∷ [])

frame_none : (config : ConfigSays) (e : WorldEntry) → frame_in config e.member e.what ≡ None → frames_in config (e ∷ []) ≡ []
frame_none config e none = rw none refl

frame_some : (config : ConfigSays) (e : WorldEntry) (frame : SentFrame) → frame_in config e.member e.what ≡ Some frame
    → frames_in config (e ∷ []) ≡ frame ∷ []
frame_some config e frame is = rw is refl

-- an entry by which no frame was sent to a member
pub no_frame : (config : ConfigSays) (before : List WorldEntry) (e : WorldEntry) → frame_in config e.member e.what ≡ None
    → kept_frames config (before ++ e ∷ []) ≡ kept_frames config before
no_frame config before e none =
    ap (λ (xs : List SentFrame). last_of KEPT_FRAMES xs)
    (frames_last config before e ∙ ap (λ (xs : List SentFrame). frames_in config before ++ xs) (frame_none config e none)
    ∙ append-nil (frames_in config before))

-- an entry by which one was
pub one_frame : (config : ConfigSays) (before : List WorldEntry) (e : WorldEntry) (frame : SentFrame) → frame_in config e.member e.what ≡ Some frame
    → kept_frames config (before ++ e ∷ []) ≡ last_of KEPT_FRAMES (kept_frames config before ++ frame ∷ [])
one_frame config before e frame is =
    ap (λ (xs : List SentFrame). last_of KEPT_FRAMES xs)
    (frames_last config before e ∙ ap (λ (xs : List SentFrame). frames_in config before ++ xs) (frame_some config e frame is))
    ∙ sym (last_again KEPT_FRAMES (frames_in config before) (frame ∷ []))

-- ---- records

pub kept_own : (m : ℕ) (name : List ℕ) (before : List WorldEntry) (time : ℕ) (what : SessionEntry)
    → kept_by m name (before ++ entry_at m time what ∷ []) ≡ kept_after name (kept_by m name before) (what ∷ [])
kept_own m name before time what =
    ap (λ (xs : List SessionEntry). kept_after name None xs)
    (entries_join m before (entry_at m time what ∷ []) ∙ ap (λ (xs : List SessionEntry). entries_of m before ++ xs) (entry_own m (entry_at m time what) [] refl))
    ∙ kept_join name None (entries_of m before) (what ∷ [])

pub all_own : (m : ℕ) (before : List WorldEntry) (time : ℕ) (what : SessionEntry) (tickets : List TicketConf)
    → all_kept tickets m (before ++ entry_at m time what ∷ []) ≡ map (λ ticket. kept_after ticket.name (kept_by m ticket.name before) (what ∷ [])) tickets
all_own m before time what [] = refl
all_own m before time what (t ∷ ts) =
    let one = kept_own m t.name before time what in
    let rest = all_own m before time what ts in cc

-- ---- an entry that changes nothing

-- an entry of which nothing is counted, and which keeps and sends nothing
pub record IsIdle (config : ConfigSays) (before : List WorldEntry) (place : ℕ) (what : SessionEntry) : Type 0 where
  pub keeps : (name : List ℕ) (kept : Option Record) → kept_after name kept (what ∷ []) ≡ kept
  pub sends : frame_in config place what ≡ None
  pub delivers : is_delivery config what ≡ false
  pub starts : is_restart before place what ≡ false
  pub gains : is_change gains config before place what ≡ false
  pub releases : is_change releases config before place what ≡ false
  pub term : term_in what ≡ 0

idle_kept : (config : ConfigSays) (before : List WorldEntry) (place time : ℕ) (what : SessionEntry) → IsIdle config before place what
    → (tickets : List TicketConf) → all_kept tickets place (before ++ entry_at place time what ∷ []) ≡ all_kept tickets place before
idle_kept config before place time what idle [] = refl
idle_kept config before place time what idle (t ∷ ts) =
    let one = kept_own place t.name before time what ∙ idle.keeps t.name (kept_by place t.name before) in
    let rest = idle_kept config before place time what idle ts in cc

pub idle_seen : (config : ConfigSays) (before : List WorldEntry) (place time : ℕ) (what : SessionEntry) (kept : List (Option Record))
    (frames : List SentFrame) (summary : Summary) → IsIdle config before place what → IsSeen config before place kept frames summary
    → IsSeen config (before ++ entry_at place time what ∷ []) place kept frames summary
idle_seen config before place time what kept frames summary idle seen = record {
  records = seen.records ∙ sym (idle_kept config before place time what idle config.tickets);
  sent = seen.sent ∙ sym (no_frame config before (entry_at place time what) idle.sends);
  counted = counted_more config before (entry_at place time what) summary summary seen.counted
      (nothing summary.delivered (is_delivery config what) idle.delivers)
      (nothing summary.restarts (is_restart before place what) idle.starts)
      (nothing summary.gains (is_change gains config before place what) idle.gains)
      (nothing summary.releases (is_change releases config before place what) idle.releases)
      (none_greater summary.greatest_term (term_in what) idle.term);
}
  where
    nothing : (n : ℕ) (b : Bool) → b ≡ false → n ≡ n + one_if b
    nothing n true e = absurd cc
    nothing n false e = omega arith

    none_greater : (n m : ℕ) → m ≡ 0 → n ≡ max n m
    none_greater n m e = omega (arith, e)
