-- The calls of a service, up to the one that decides its outcome, and the text that is then printed.
use Rattle.std.specs.Prelude.{◌≡◌, ◌++◌, ℕ, List, [], ◌∷◌, Option, None, Ok, Err, Bool, true, false, T}
use Rattle.booth_keys.specs.declared.ring.Ring.{Ring}
use Rattle.booth_base.specs.declared.address.Peer.{Peer}
use Rattle.booth_conf.specs.Config.{ConfigSays}
use Rattle.booth_conf.specs.Says.{Says}
use Rattle.booth_follow_rule.specs.declared.margins.Margins.{Margins}
use Rattle.booth_following.specs.declared.following.Following.{Following}
use Rattle.booth_following.specs.declared.following.ServiceOptions.{ServiceOptions}
use Rattle.booth_following.specs.Choosing.{HasFault, IsChosen}
use Rattle.booth_following.specs.Following.{IsFollowing}
use Rattle.booth_host.specs.declared.host.Failed.{Failed}
use Rattle.booth_host.specs.declared.entry.Entry.{Entry}
use Rattle.booth_host.specs.declared.entry.Entry.TheVariants.{Open, ReadFile}
use Rattle.booth_cli.specs.declared.asking.FollowWords.{FollowWords}
use Rattle.booth_outcomes.specs.declared.outcome.Outcome.{Outcome}
use Rattle.booth_outcomes.specs.declared.outcome.Outcome.TheVariants as outs
use Rattle.booth_outcomes.specs.Configuration.{IsUnread}
use Rattle.booth_outcomes.specs.Keys.{HasRing, IsKeyless, KeyTexts, key_calls}
use Rattle.booth_outcomes.specs.Texts.{not_followed_text, out_of_memory_text, unopened_text}
use Rattle.booth_followers.specs.Rounds.{IsService}

-- ---- the socket

-- the socket failed
abbrev pub IsSocketless : List ℕ → Outcome → List ℕ → List Entry → Type 0
IsSocketless conf outs.OpenFault said entries = (said ≡ unopened_text)
    × (failed : Failed) × (entries ≡ Open None 0 [] conf (Err failed) ∷ [])
IsSocketless conf outcome said entries = ⊥

-- it was opened at any address and port, with this configuration, and then the service followed its ticket
pub record IsServing (left : Option ℕ) (conf : List ℕ) (f : Following) (outcome : Outcome)
    (said : List ℕ) (entries : List Entry) : Type 0 where
  pub rest : List Entry
  pub whole : entries ≡ Open None 0 [] conf (Ok tt) ∷ rest
  pub serves : IsService left conf f outcome said rest

pub data IsStarted (left : Option ℕ) (conf : List ℕ) (f : Following) (outcome : Outcome)
    (said : List ℕ) (entries : List Entry) : Type 0 where
  Socketless : IsSocketless conf outcome said entries → IsStarted left conf f outcome said entries
  Serving : IsServing left conf f outcome said entries → IsStarted left conf f outcome said entries

-- ---- the key and the memory

-- the daemon of this site
abbrev pub daemon_of : FollowWords → ConfigSays → Peer
daemon_of asked config = record { address = asked.site; port = config.port }

-- how the service is run
abbrev pub options_of : FollowWords → Margins → ServiceOptions
options_of asked margins = record { programs = asked.program; margins = margins; restarts = asked.restart }

-- a following with these arguments, and its calls
pub record IsSetOut (left : Option ℕ) (asked : FollowWords) (config : ConfigSays) (ring : Option Ring)
    (margins : Margins) (outcome : Outcome) (said : List ℕ) (entries : List Entry) : Type 0 where
  pub f : Following
  pub is : IsFollowing ring asked.ticket (daemon_of asked config) (options_of asked margins) f
  pub starts : IsStarted left asked.conf f outcome said entries

-- the memory ran out
abbrev pub IsRoomless : Outcome → List ℕ → List Entry → Type 0
IsRoomless outs.OutOfMemory said entries = (said ≡ out_of_memory_text) × (entries ≡ [])
IsRoomless outcome said entries = ⊥

-- what follows the key
pub data FollowsKey (left : Option ℕ) (asked : FollowWords) (config : ConfigSays) (ring : Option Ring)
    (margins : Margins) (outcome : Outcome) (said : List ℕ) (entries : List Entry) : Type 0 where
  Roomless : IsRoomless outcome said entries → FollowsKey left asked config ring margins outcome said entries
  SetOut : IsSetOut left asked config ring margins outcome said entries →
      FollowsKey left asked config ring margins outcome said entries

-- the key was read, if one is set, and then these calls were made
pub record IsKeyed (left : Option ℕ) (asked : FollowWords) (config : ConfigSays) (margins : Margins)
    (outcome : Outcome) (said : List ℕ) (entries : List Entry) : Type 0 where
  pub ring : Option Ring
  pub texts : KeyTexts
  pub holds : HasRing config texts ring
  pub rest : List Entry
  pub whole : entries ≡ key_calls config texts ++ rest
  pub here : FollowsKey left asked config ring margins outcome said rest

-- what follows margins that fit
pub data FollowsMargins (left : Option ℕ) (asked : FollowWords) (config : ConfigSays) (margins : Margins)
    (outcome : Outcome) (said : List ℕ) (entries : List Entry) : Type 0 where
  Keyless : IsKeyless config outcome said entries → FollowsMargins left asked config margins outcome said entries
  Keyed : IsKeyed left asked config margins outcome said entries →
      FollowsMargins left asked config margins outcome said entries

-- ---- the margins

-- the ticket is not followed, for this fault, and no call is made
abbrev pub IsUnfollowed : FollowWords → ConfigSays → Outcome → List ℕ → List Entry → Type 0
IsUnfollowed asked config (outs.NotFollowed fault) said entries =
    HasFault config asked.ticket asked.site asked.margin asked.kill fault
    × (said ≡ not_followed_text asked.ticket fault) × (entries ≡ [])
IsUnfollowed asked config outcome said entries = ⊥

-- the margins fit, and then these calls were made
pub record IsFitted (left : Option ℕ) (asked : FollowWords) (config : ConfigSays) (outcome : Outcome) (said : List ℕ)
    (entries : List Entry) : Type 0 where
  pub margins : Margins
  pub chosen : IsChosen config asked.ticket asked.site asked.margin asked.kill margins
  pub here : FollowsMargins left asked config margins outcome said entries

-- What follows the configuration: NotFollowed without a call exactly if this is the first fault of the ticket.
pub data FollowsConfig (left : Option ℕ) (asked : FollowWords) (config : ConfigSays) (outcome : Outcome) (said : List ℕ)
    (entries : List Entry) : Type 0 where
  Unfollowed : IsUnfollowed asked config outcome said entries → FollowsConfig left asked config outcome said entries
  Fitted : IsFitted left asked config outcome said entries → FollowsConfig left asked config outcome said entries

-- ---- all stages

-- the configuration was read, and then these calls were made
pub record IsRead (left : Option ℕ) (asked : FollowWords) (outcome : Outcome) (said : List ℕ)
    (entries : List Entry) : Type 0 where
  pub text : List ℕ
  pub config : ConfigSays
  pub says : Says text config
  pub rest : List Entry
  pub whole : entries ≡ ReadFile asked.conf (Ok text) ∷ rest
  pub here : FollowsConfig left asked config outcome said rest

-- the first stage that failed, or the service
pub data IsFollowLog (left : Option ℕ) (asked : FollowWords) (outcome : Outcome) (said : List ℕ)
    (entries : List Entry) : Type 0 where
  Unread : IsUnread asked.conf outcome said entries → IsFollowLog left asked outcome said entries
  Read : IsRead left asked outcome said entries → IsFollowLog left asked outcome said entries

-- ---- for every host

-- an outcome of a service
abbrev pub is_follow_answered : Outcome → Bool
is_follow_answered outs.ConfUnread = true
is_follow_answered (outs.ConfBad fault) = true
is_follow_answered (outs.NotFollowed fault) = true
is_follow_answered outs.KeyUnread = true
is_follow_answered (outs.KeyBad fault) = true
is_follow_answered outs.OpenFault = true
is_follow_answered outs.Done = true
is_follow_answered outs.TurnsSpent = true
is_follow_answered outs.OutOfMemory = true
is_follow_answered outcome = false

abbrev pub IsFollowAnswered : Outcome → Type 0
IsFollowAnswered outcome = T (is_follow_answered outcome)
