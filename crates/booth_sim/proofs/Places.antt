-- What happens in a simulation happens at a member.
use Rattle.std.proofs.Common.{◌≡◌, ℕ, zero, suc, ◌<◌, Bool, true, false, List, [], ◌∷◌, length, drop, refl, ap, subst, arith, if◌then◌else◌}
use Rattle.std.specs.Prelude.{Option, Some, None, ◌==◌, ◌%◌, position, slice_get, option_map, is_some}
use Rattle.std.specs.List.{cons_option}
use Rattle.std.proofs.lemmas.List.Quantifiers.{position-Some}
use Rattle.booth_base.specs.declared.address.Peer.{Peer}
use Rattle.booth_conf.specs.Config.{ConfigSays, file_fault}
use Rattle.booth_conf.specs.Sound.{IsSound}
use Rattle.booth_conf.specs.Rules.{is_at}
use Rattle.booth_conf.specs.declared.members.Member.{Member}
use Rattle.booth_host.specs.declared.entry.Entry.TheVariants as calls
use Rattle.booth_node.specs.Session.{SessionEntry, Makes}
use Rattle.booth_node.specs.World.{WorldEntry}
use Rattle.booth_sim.specs.declared.drawing.Draw.{Draw}
use Rattle.booth_sim.specs.declared.drawing.Kind.{Kind}
use Rattle.booth_sim.specs.declared.drawing.Kind.TheVariants as kinds
use Rattle.booth_sim.specs.declared.frames.SentFrame.{SentFrame}
use Rattle.booth_sim.specs.Drawing.{kind_of, member_of}
use Rattle.booth_sim.specs.Frames.{chosen, frame_in, frames_in, kept_frames, place_of}
use Rattle.booth_sim.specs.Happenings.{arrives, happens, happening}
use Rattle.booth_sim.proofs.Follows.{PlaceIs}

-- a configuration has members
pub has_members : (members : List Member) (config : ConfigSays) → config.members ≡ members → IsSound config → 0 < length members
has_members [] config e sound =
    absurd (never (subst (λ (ms : List Member). is_some (file_fault ms config.tickets) ≡ false) e sound.no_fault))
  where
    never : true ≡ false → ⊥
    never e = cc
has_members (m ∷ members) config e sound = omega arith

rest_below : (word n : ℕ) → 0 < n → word % n < n
rest_below word n some = omega arith

-- ---- frames

-- each frame goes to a member
abbrev GoTo : ℕ → List SentFrame → Type 0
GoTo n [] = Unit {0}
GoTo n (frame ∷ frames) = (frame.to < n) × GoTo n frames

position_below : (p : Member → Bool) (members : List Member) (place : ℕ) → position p members ≡ Some place → place < length members
position_below p [] place is = absurd cc
position_below p (m ∷ members) place is = (position-Some p (m ∷ members) place m is).0

place_below : (config : ConfigSays) (peer : Peer) (place : ℕ) → place_of config peer ≡ Some place → place < length config.members
place_below config peer place is = by_test (peer.port == config.port) is
  where
    by_test : (b : Bool) → (if b then position (is_at peer.address) config.members else None) ≡ Some place → place < length config.members
    by_test true e = position_below (is_at peer.address) config.members place e
    by_test false e = absurd cc

goes_to : (config : ConfigSays) (entries : List WorldEntry) → GoTo (length config.members) (frames_in config entries)
goes_to config [] = tt
goes_to config (entry ∷ entries) = by_frame (frame_in config entry.member entry.what) refl (goes_to config entries)
  where
    frame_below : (what : SessionEntry) (frame : SentFrame) → frame_in config entry.member what ≡ Some frame → frame.to < length config.members
    frame_below (Makes (calls.Send to bytes answer)) frame e = by_place (place_of config to) refl e
      where
        to_is : (place : ℕ) → Some (record { from = entry.member; to = place; bytes = bytes }) ≡ Some frame → place ≡ frame.to
        to_is place e = ap (λ (o : Option SentFrame). elim o as (λ _. ℕ) [ None ↦ place | Some f ↦ f.to ]) e

        by_place : (o : Option ℕ) → place_of config to ≡ o
            → option_map (λ (place : ℕ). record { from = entry.member; to = place; bytes = bytes }) o ≡ Some frame → frame.to < length config.members
        by_place None p e = absurd cc
        by_place (Some place) p e = subst (λ (n : ℕ). n < length config.members) (to_is place e) (place_below config to place p)
    frame_below what frame e = absurd cc

    by_frame : (o : Option SentFrame) → frame_in config entry.member entry.what ≡ o → GoTo (length config.members) (frames_in config entries)
        → GoTo (length config.members) (cons_option o (frames_in config entries))
    by_frame None e rest = rest
    by_frame (Some frame) e rest = (frame_below entry.what frame e, rest)

goes_drop : (n k : ℕ) (frames : List SentFrame) → GoTo n frames → GoTo n (drop k frames)
goes_drop n zero frames h = h
goes_drop n (suc k) [] h = tt
goes_drop n (suc k) (frame ∷ frames) h = goes_drop n k frames h.1

goes_get : (n k : ℕ) (frames : List SentFrame) (frame : SentFrame) → GoTo n frames → slice_get frames k ≡ Some frame → frame.to < n
goes_get n k [] frame h e = absurd cc
goes_get n zero (f ∷ frames) frame h e = subst (λ (g : SentFrame). g.to < n) (same e) h.0
  where
    same : Some f ≡ Some frame → f ≡ frame
    same e = cc
goes_get n (suc k) (f ∷ frames) frame h e = goes_get n k frames frame h.1 e

-- ---- what happens

pub place_is : (config : ConfigSays) → IsSound config → (before : List WorldEntry) (event : ℕ) (draw : Draw)
    → PlaceIs config (happening config before event draw)
place_is config sound before event draw = by_kind (kind_of draw)
  where
    here : member_of draw (length config.members) < length config.members
    here = rest_below draw.third (length config.members) (has_members config.members config refl sound)

    by_chosen : (o : Option SentFrame) → chosen draw.first (kept_frames config before) ≡ o
        → PlaceIs config (arrives config (member_of draw (length config.members)) o)
    by_chosen None e = here
    by_chosen (Some frame) e =
        goes_get (length config.members) _ (kept_frames config before) frame
        (goes_drop (length config.members) _ (frames_in config before) (goes_to config before)) e

    by_kind : (kind : Kind) → PlaceIs config (happens config before event draw (member_of draw (length config.members)) kind)
    by_kind kinds.Frame = by_chosen (chosen draw.first (kept_frames config before)) refl
    by_kind kinds.Quiet = here
    by_kind kinds.Grant = here
    by_kind kinds.Revoke = here
    by_kind kinds.Restart = here
