-- The frames that members sent to each other, one of which may arrive.
use Rattle.std.specs.Prelude.{ℕ, ◌-◌, ◌%◌, ◌==◌, min, List, length, drop, slice_get, position, Option, None, option_map, if◌then◌else◌}
use Rattle.std.specs.List.{filter_map}
use Rattle.booth_base.specs.declared.address.Peer.{Peer}
use Rattle.booth_conf.specs.Config.{ConfigSays}
use Rattle.booth_conf.specs.Rules.{is_at}
use Rattle.booth_host.specs.declared.entry.Entry.TheVariants as calls
use Rattle.booth_node.specs.Session.{SessionEntry, Makes}
use Rattle.booth_node.specs.World.{WorldEntry}
use Rattle.booth_sim.specs.declared.frames.SentFrame.{SentFrame}
use Rattle.booth_sim.specs.declared.frames.TheConstants.{KEPT_FRAMES, NEWEST_FRAMES}

-- The place of the member that listens at this peer's address and port. No member listens at another port.
abbrev pub place_of : ConfigSays → Peer → Option ℕ
place_of config peer =
    if peer.port == config.port then position (is_at peer.address) config.members else None

-- The frame that a member sent by this call, if the frame goes to a member.
abbrev pub frame_in : ConfigSays → ℕ → SessionEntry → Option SentFrame
frame_in config from (Makes (calls.Send to bytes answer)) =
    option_map (λ place. record { from = from; to = place; bytes = bytes }) (place_of config to)
frame_in config from what = None

-- The frames between members, the oldest first. They do not include replies to clients.
abbrev pub frames_in : ConfigSays → List WorldEntry → List SentFrame
frames_in config entries = filter_map (λ entry. frame_in config entry.member entry.what) entries

-- The last elements of a list, at most this many.
abbrev pub last_of : {X : Type 0} → ℕ → List X → List X
last_of most xs = drop (length xs - most) xs

-- The frames that are stored as sent.
abbrev pub kept_frames : ConfigSays → List WorldEntry → List SentFrame
kept_frames config entries = last_of KEPT_FRAMES (frames_in config entries)

-- The frame that a word chooses among the newest ones, counted back from the newest.
abbrev pub chosen : ℕ → List SentFrame → Option SentFrame
chosen word frames =
    slice_get frames (length frames - 1 - word % min (length frames) NEWEST_FRAMES)
