-- What is seen after one more deed of a member.
use Rattle.std.proofs.Common.{◌≡◌, ℕ, ◌+◌, arith, false, List, [], ◌∷◌, ◌++◌, max, refl, sym, ap, ◌∙◌, subst}
use Rattle.std.specs.Prelude.{Option, Some, None, Result, Ok, Err, option_map}
use Rattle.booth_base.specs.declared.address.Peer.{Peer}
use Rattle.booth_conf.specs.Config.{ConfigSays}
use Rattle.booth_conf.specs.declared.tickets.TicketConf.{TicketConf}
use Rattle.booth_rec.specs.declared.record.Record.{Record}
use Rattle.booth_host.specs.declared.host.Failed.{Failed}
use Rattle.booth_host.specs.declared.entry.Entry.{Entry}
use Rattle.booth_host.specs.declared.entry.Entry.TheVariants.{Keep, Send}
use Rattle.booth_node.specs.Session.{Makes}
use Rattle.booth_node.specs.World.{WorldEntry}
use Rattle.booth_sim.specs.declared.frames.SentFrame.{SentFrame}
use Rattle.booth_sim.specs.declared.frames.TheConstants.{KEPT_FRAMES}
use Rattle.booth_sim.specs.declared.summary.Summary.{Summary}
use Rattle.booth_sim.specs.Counts.{is_delivery}
use Rattle.booth_sim.specs.Frames.{frame_in, last_of, place_of}
use Rattle.booth_sim.specs.Kept.{all_kept}
use Rattle.booth_sim.specs.Simulation.{entry_at}
use Rattle.booth_sim.specs.Standing.{IsCounted, IsSeen}
use Rattle.booth_sim.proofs.Deeds.{IsIdle, all_own, counted_more, idle_seen, no_frame, one_frame}
use Rattle.booth_sim.proofs.Keeps.{keep_at}

-- no keep that answered Ok
abbrev pub KeepsNothing : Entry → Type 0
KeepsNothing (Keep name rec (Ok done)) = ⊥
KeepsNothing call = Unit {0}

idle_call : (config : ConfigSays) (before : List WorldEntry) (place : ℕ) (call : Entry) → KeepsNothing call
    → frame_in config place (Makes call) ≡ None → is_delivery config (Makes call) ≡ false → IsIdle config before place (Makes call)
idle_call config before place (Keep name rec (Ok done)) nothing sends none = absurd nothing
idle_call config before place (Keep name rec (Err failed)) nothing sends none = record {
  keeps = λ n k. refl;
  sends = sends;
  delivers = none;
  starts = refl;
  gains = refl;
  releases = refl;
  term = refl;
}
idle_call config before place call nothing sends none = record {
  keeps = λ n k. refl;
  sends = sends;
  delivers = none;
  starts = refl;
  gains = refl;
  releases = refl;
  term = refl;
}

pub idle_deed : (config : ConfigSays) (before : List WorldEntry) (from time : ℕ) (deed call : Entry) (kept : List (Option Record))
    (frames : List SentFrame) (summary : Summary) → deed ≡ call → KeepsNothing call → frame_in config from (Makes call) ≡ None
    → is_delivery config (Makes deed) ≡ false → IsSeen config before from kept frames summary
    → IsSeen config (before ++ entry_at from time (Makes deed) ∷ []) from kept frames summary
idle_deed config before from time deed call kept frames summary is nothing sends none seen =
    idle_seen config before from time (Makes deed) kept frames summary
    (idle_call config before from deed (subst KeepsNothing (sym is) nothing)
    (subst (λ (d : Entry). frame_in config from (Makes d) ≡ None) (sym is) sends) none) seen

pub no_member : (config : ConfigSays) (from : ℕ) (to : Peer) (bytes : List ℕ) (answer : Result (Unit {0}) Failed) → place_of config to ≡ None
    → frame_in config from (Makes (Send to bytes answer)) ≡ None
no_member config from to bytes answer none =
    ap (λ (o : Option ℕ). option_map (λ (place : ℕ). record { from = from; to = place; bytes = bytes }) o) none

pub sent_seen : (config : ConfigSays) (before : List WorldEntry) (from time : ℕ) (deed : Entry) (to : Peer) (bytes : List ℕ)
    (answer : Result (Unit {0}) Failed) (place : ℕ) (kept : List (Option Record)) (frames new_frames : List SentFrame) (summary : Summary)
    → deed ≡ Send to bytes answer → place_of config to ≡ Some place
    → new_frames ≡ last_of KEPT_FRAMES (frames ++ record { from = from; to = place; bytes = bytes } ∷ [])
    → IsSeen config before from kept frames summary
    → IsSeen config (before ++ entry_at from time (Makes deed) ∷ []) from kept new_frames summary
sent_seen config before from time deed to bytes answer place kept frames new_frames summary is there grew seen =
    subst (λ (d : Entry). IsSeen config (before ++ entry_at from time (Makes d) ∷ []) from kept new_frames summary) (sym is) (record {
      records = seen.records ∙ sym (same_records config.tickets);
      sent = grew ∙ ap (λ (fs : List SentFrame). last_of KEPT_FRAMES (fs ++ record { from = from; to = place; bytes = bytes } ∷ [])) seen.sent
          ∙ sym (one_frame config before sent (record { from = from; to = place; bytes = bytes })
          (ap (λ (o : Option ℕ). option_map (λ (p : ℕ). record { from = from; to = p; bytes = bytes }) o) there));
      counted = counted_more config before sent summary summary seen.counted (nothing summary.delivered) (nothing summary.restarts)
          (nothing summary.gains) (nothing summary.releases) (not_greater summary.greatest_term);
    })
  where
    sent : WorldEntry
    sent = entry_at from time (Makes (Send to bytes answer))

    nothing : (n : ℕ) → n ≡ n + 0
    nothing n = omega arith

    not_greater : (n : ℕ) → n ≡ max n 0
    not_greater n = omega arith

    same_records : (tickets : List TicketConf) → all_kept tickets from (before ++ sent ∷ []) ≡ all_kept tickets from before
    same_records tickets = all_own from before time (Makes (Send to bytes answer)) tickets

pub kept_seen : (config : ConfigSays) (before : List WorldEntry) (from time : ℕ) (deed : Entry) (name : List ℕ) (rec : Record)
    (answer : Result (Unit {0}) Failed) (kept new_kept : List (Option Record)) (frames : List SentFrame) (summary new_summary : Summary)
    → deed ≡ Keep name rec answer → (done : Unit {0}) → answer ≡ Ok done → IsSeen config before from kept frames summary
    → new_kept ≡ all_kept config.tickets from (before ++ keep_at from time name rec ∷ [])
    → IsCounted config (before ++ keep_at from time name rec ∷ []) new_summary
    → IsSeen config (before ++ entry_at from time (Makes deed) ∷ []) from new_kept frames new_summary
kept_seen config before from time deed name rec answer kept new_kept frames summary new_summary is done ok seen keeps counts =
    subst (λ (d : Entry). IsSeen config (before ++ entry_at from time (Makes d) ∷ []) from new_kept frames new_summary)
    (sym (is ∙ ap (λ a. Keep name rec a) ok))
    (record { records = keeps; sent = seen.sent ∙ sym (no_frame config before (keep_at from time name rec) refl); counted = counts })
