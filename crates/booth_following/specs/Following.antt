-- The ticket that is followed, and the daemon that is asked.
use Rattle.std.specs.Prelude.{◌≡◌, ℕ, List, Option}
use Rattle.booth_keys.specs.declared.ring.Ring.{Ring}
use Rattle.booth_base.specs.declared.address.Peer.{Peer}
use Rattle.booth_base.specs.Address.{id_of}
use Rattle.booth_following.specs.declared.following.Following.{Following}
use Rattle.booth_following.specs.declared.following.ServiceOptions.{ServiceOptions}
use Rattle.booth_following.specs.Lists.{line_start}

-- the following consists of these parts, for the site at the address where its daemon listens
pub record IsFollowing (ring : Option Ring) (ticket : List ℕ) (to : Peer) (options : ServiceOptions) (f : Following)
    : Type 0 where
  pub key_is : f.ring ≡ ring
  pub ticket_is : f.ticket ≡ ticket
  pub to_is : f.to ≡ to
  pub me_is : f.me ≡ record { 0 = id_of to.address }
  pub line_is : f.line ≡ line_start ticket to.address
  pub programs_are : f.programs ≡ options.programs
  pub margins_are : f.margins ≡ options.margins
  pub restarts_is : f.restarts ≡ options.restarts

-- the same with these keys
abbrev pub under : Following → Option Ring → Following
under f ring = record {
  ring = ring;
  ticket = f.ticket;
  to = f.to;
  me = f.me;
  line = f.line;
  programs = f.programs;
  margins = f.margins;
  restarts = f.restarts;
}
