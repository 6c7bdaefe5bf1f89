-- The calls of a move, up to the call that decides its outcome, and the text that it then prints.
use Rattle.std.specs.Prelude.{◌≡◌, ◌++◌, ◌&&◌, ℕ, Bool, List, [], ◌∷◌, Option, Some, None, Result, Ok, Err, MatchOption}
use Rattle.std.specs.Prelude.{codes, position}
use Rattle.booth_keys.specs.declared.ring.Ring.{Ring}
use Rattle.booth_base.specs.declared.address.Address.{Address}
use Rattle.booth_base.specs.declared.address.Peer.{Peer}
use Rattle.booth_base.specs.Address.{printed}
use Rattle.booth_conf.specs.Config.{ConfigSays, is_site}
use Rattle.booth_conf.specs.Says.{Says}
use Rattle.booth_conf.specs.Rules.{is_at}
use Rattle.booth_conf.specs.declared.members.Member.{Member}
use Rattle.booth_host.specs.declared.host.Failed.{Failed}
use Rattle.booth_host.specs.declared.entry.Entry.{Entry}
use Rattle.booth_host.specs.declared.entry.Entry.TheVariants.{Open, Now, ReadFile}
use Rattle.booth_move.specs.declared.carrying.Moving.{Moving}
use Rattle.booth_move.specs.declared.deeds.MoveEnd.{MoveEnd}
use Rattle.booth_move.specs.declared.deeds.MoveEnd.TheVariants as ends
use Rattle.booth_move.specs.Carrying.{IsCarried}
use Rattle.booth_cli.specs.declared.asking.MoveWords.{MoveWords}
use Rattle.booth_outcomes.specs.declared.outcome.Outcome.{Outcome}
use Rattle.booth_outcomes.specs.declared.outcome.Outcome.TheVariants as outs
use Rattle.booth_outcomes.specs.Configuration.{IsUnread}
use Rattle.booth_outcomes.specs.Keys.{HasRing, IsKeyless, KeyTexts, key_calls}
use Rattle.booth_outcomes.specs.Texts.{not_site_text}
use Rattle.booth_tools.specs.Client.{IsPlainEnd, IsSocketless, destination, refused_text}
use Rattle.booth_tools.specs.MoveLook.{IsElsewhere, IsSettled, IsShown, listing}

-- ---- the target site

-- the member is a site, and has this address
abbrev pub is_site_at : Address → Member → Bool
is_site_at address m = is_site m && is_at address m

-- the place among the members of the site with this address
abbrev pub site_at : Address → ConfigSays → Option ℕ
site_at address config = position (is_site_at address) config.members

-- ---- the output

-- the site has the ticket
abbrev pub moved_text : MoveWords → List ℕ
moved_text asked = codes "ticket " ++ asked.ticket ++ codes " moved to " ++ printed asked.target ++ codes "\n"

-- its grant was begun
abbrev pub begun_text : MoveWords → List ℕ
begun_text asked = codes "move of " ++ asked.ticket ++ codes " requested\n"

-- the ticket was released, and the answer to its grant has this result
abbrev pub stranded_text : List ℕ → ℕ → List ℕ
stranded_text ticket result =
    codes "ticket " ++ ticket ++ codes " is revoked, and its grant was refused: " ++ refused_text result

-- ---- how a move ends

-- How it ends: with its report, with the result of the revoke or of the grant, without a reply, or without a send.
abbrev pub MoveEndsWith : MoveWords → Result MoveEnd Failed → Outcome → List ℕ → List Entry → Type 0
MoveEndsWith asked (Ok ends.Moved) outcome said entries = IsShown (moved_text asked) outcome said entries
MoveEndsWith asked (Ok ends.Asked) outcome said entries = IsShown (begun_text asked) outcome said entries
MoveEndsWith asked (Ok (ends.Refused result)) outcome said entries =
    IsPlainEnd outcome (outs.Refused result) said (refused_text result) entries
MoveEndsWith asked (Ok (ends.Stranded result)) outcome said entries =
    IsPlainEnd outcome (outs.Stranded result) said (stranded_text asked.ticket result) entries
MoveEndsWith asked (Ok ends.NoReply) outcome said entries =
    IsPlainEnd outcome outs.NoReply said (codes "no reply") entries
MoveEndsWith asked (Err failed) outcome said entries =
    IsPlainEnd outcome outs.SendFault said (codes "cannot send") entries

-- a move from its start on, and its end
pub record IsMoveTold (asked : MoveWords) (moving : Moving) (start : ℕ) (outcome : Outcome) (said : List ℕ)
    (entries : List Entry) : Type 0 where
  pub end : Result MoveEnd Failed
  pub early : List Entry
  pub late : List Entry
  pub whole : entries ≡ early ++ late
  pub carried : IsCarried moving start end early
  pub told : MoveEndsWith asked end outcome said late

-- ---- the stages before it

-- the move of the ticket to the member at this place, which starts with a request to this peer
abbrev pub moving_of : MoveWords → ConfigSays → Option Ring → ℕ → Peer → Moving
moving_of asked config ring target to = record {
  config = config;
  ring = ring;
  ticket = asked.ticket;
  target = target;
  wait = asked.wait;
  to = to;
}

-- the clock was read, and then the move was carried out
pub record IsMoving (asked : MoveWords) (config : ConfigSays) (ring : Option Ring) (target : ℕ) (outcome : Outcome)
    (said : List ℕ) (entries : List Entry) : Type 0 where
  pub to : Peer
  pub named : destination asked.site config ≡ Some to
  pub start : ℕ
  pub rest : List Entry
  pub whole : entries ≡ Now start ∷ rest
  pub told : IsMoveTold asked (moving_of asked config ring target to) start outcome said rest

-- the socket was opened at any address and port
abbrev pub opened : Entry
opened = Open None 0 [] [] (Ok tt)

-- the socket was opened, and the look at the target ended the move
pub record IsLookedUp (asked : MoveWords) (config : ConfigSays) (ring : Option Ring) (outcome : Outcome)
    (said : List ℕ) (entries : List Entry) : Type 0 where
  pub rest : List Entry
  pub whole : entries ≡ opened ∷ rest
  pub here : IsSettled asked (listing config ring) outcome said rest

-- the calls of a move, in order: the socket was opened, the look showed that the target does not have the ticket, and
-- the move was tried with this outcome
pub record IsStarted (asked : MoveWords) (config : ConfigSays) (ring : Option Ring) (target : ℕ) (outcome : Outcome)
    (said : List ℕ) (entries : List Entry) : Type 0 where
  pub look : List Entry
  pub rest : List Entry
  pub whole : entries ≡ opened ∷ look ++ rest
  pub elsewhere : IsElsewhere asked (listing config ring) look
  pub here : IsMoving asked config ring target outcome said rest

-- the rest of the run, after the key
pub data FollowsKey (asked : MoveWords) (config : ConfigSays) (ring : Option Ring) (target : ℕ) (outcome : Outcome)
    (said : List ℕ) (entries : List Entry) : Type 0 where
  Socketless : IsSocketless outcome said entries → FollowsKey asked config ring target outcome said entries
  LookedUp : IsLookedUp asked config ring outcome said entries →
      FollowsKey asked config ring target outcome said entries
  Started : IsStarted asked config ring target outcome said entries →
      FollowsKey asked config ring target outcome said entries

-- the key was read, if one is set, and then these calls were made
pub record IsMoveKeyed (asked : MoveWords) (config : ConfigSays) (target : ℕ) (outcome : Outcome) (said : List ℕ)
    (entries : List Entry) : Type 0 where
  pub ring : Option Ring
  pub texts : KeyTexts
  pub holds : HasRing config texts ring
  pub rest : List Entry
  pub whole : entries ≡ key_calls config texts ++ rest
  pub here : FollowsKey asked config ring target outcome said rest

-- the rest of the run, if the target is a site
pub data FollowsSite (asked : MoveWords) (config : ConfigSays) (target : ℕ) (outcome : Outcome) (said : List ℕ)
    (entries : List Entry) : Type 0 where
  Keyless : IsKeyless config outcome said entries → FollowsSite asked config target outcome said entries
  Keyed : IsMoveKeyed asked config target outcome said entries →
      FollowsSite asked config target outcome said entries

-- The rest of the run, after the configuration: NotSite without a call exactly if no site has the address.
abbrev pub FollowsConfig : MoveWords → ConfigSays → Outcome → List ℕ → List Entry → Type 0
FollowsConfig asked config outcome said entries =
    MatchOption (site_at asked.target config)
    (IsPlainEnd outcome outs.NotSite said (not_site_text asked.target) entries)
    (λ target. FollowsSite asked config target outcome said entries)

-- the configuration was read, and then these calls were made
pub record IsMoveRead (asked : MoveWords) (outcome : Outcome) (said : List ℕ) (entries : List Entry) : Type 0 where
  pub text : List ℕ
  pub config : ConfigSays
  pub says : Says text config
  pub rest : List Entry
  pub whole : entries ≡ ReadFile asked.conf (Ok text) ∷ rest
  pub here : FollowsConfig asked config outcome said rest

-- the first stage that failed, or the move
pub data IsMoveLog (asked : MoveWords) (outcome : Outcome) (said : List ℕ) (entries : List Entry) : Type 0 where
  Unread : IsUnread asked.conf outcome said entries → IsMoveLog asked outcome said entries
  Read : IsMoveRead asked outcome said entries → IsMoveLog asked outcome said entries
