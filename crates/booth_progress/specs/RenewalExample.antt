-- A renewal among three members: a site, another site that is down, and an arbitrator.
use Rattle.std.specs.Prelude.{◌≡◌, ℕ, Bool, true, false, [], ◌∷◌, codes, Some, None}
use Rattle.booth_base.specs.declared.address.MemberId.{MemberId}
use Rattle.booth_base.specs.declared.times.Times.{Times}
use Rattle.booth_rec.specs.declared.record.Promise.{Promise}
use Rattle.booth_rec.specs.declared.record.Record.{Record}
use Rattle.booth_wire.specs.declared.command.Cmd.TheVariants.{Ack}
use Rattle.booth_wire.specs.declared.message.Setup.{Setup}
use Rattle.booth_raft.specs.declared.view.Role.TheVariants.{Follower, Leader}
use Rattle.booth_raft.specs.declared.view.Round.{Round}
use Rattle.booth_raft.specs.declared.view.View.{View}
use Rattle.booth_raft.specs.GainReleaseLost.{own_end}
use Rattle.booth_raft.specs.Members.{joined_by, nobody}
use Rattle.booth_raft.specs.Messages.{head_of, part_of, round_head, round_part}
use Rattle.booth_progress.specs.Extending.{Hearing, after_hearings}
use Rattle.booth_progress.specs.Leading.{HasTermsLeft, IsLeading}
use Rattle.booth_progress.specs.Renewing.{TakesPart, after_renewal}

abbrev pub site_id : MemberId
site_id = record { 0 = 1 }

abbrev pub arbitrator_id : MemberId
arbitrator_id = record { 0 = 3 }

abbrev pub short_times : Times
short_times = record { expire = 6000; after = 0; timeout = 1000; retries = 3; renewal = 3000 }

abbrev pub setup_for : MemberId → ℕ → Bool → Setup
setup_for me place site = record {
  ticket = codes "web";
  me = me;
  place = place;
  members = 3;
  site = site;
  rank = 0;
  times = short_times;
  second = true;
  steady = true;
}

-- The site and the arbitrator voted for the site in term 1. The promise of each ends after the lease.
abbrev pub promised_until : ℕ → Promise
promised_until until = record { to = site_id; term = 1; until = until }

abbrev pub lease_kept : Record
lease_kept = record {
  version = 2;
  term = 1;
  lease = Some (record { term = 1; until = 6000 });
  bound = Some site_id;
  promise = Some (promised_until 6100);
  abstain = 0;
}

abbrev pub won_round : Round
won_round = record { term = 1; number = 0; opened = 0; answers = joined_by (joined_by nobody 0) 2; won = true }

-- The site holds by the lease of a round that it opened at 0.
abbrev pub holder : View
holder = record {
  term = 1;
  seen = 1;
  bound = Some site_id;
  promise = Some (promised_until 6100);
  abstain = 0;
  kept = lease_kept;
  sure = true;
  force = 6000;
  role = Leader;
  round = Some won_round;
  shown = Some (record { owner = site_id; until = 6000 });
  managed = true;
  hello = false;
  repeat = 0;
  repeat_reason = 0;
  repeat_term = 0;
  job = None;
  reason = 0;
  due = Some 3000;
  waiting = None;
}

abbrev pub voter : View
voter = record {
  term = 1;
  seen = 1;
  bound = Some site_id;
  promise = Some (promised_until 6150);
  abstain = 0;
  kept = record lease_kept { lease = None };
  sure = true;
  force = 0;
  role = Follower;
  round = None;
  shown = Some (record { owner = site_id; until = 6050 });
  managed = true;
  hello = false;
  repeat = 0;
  repeat_reason = 0;
  repeat_term = 0;
  job = None;
  reason = 0;
  due = None;
  waiting = None;
}

-- At 3000 the site renews: it opens round 1.
abbrev pub site_setup : Setup
site_setup = setup_for site_id 0 true

abbrev pub renewing : View
renewing = after_renewal site_setup holder 3000

abbrev pub new_round : Round
new_round = record { term = 1; number = 1; opened = 3000; answers = joined_by nobody 0; won = false }

-- The arbitrator hears it at 3100, and the site hears its answer at 3200.
abbrev pub heard_round : Hearing
heard_round = record {
  place = 0;
  head = round_head site_setup renewing 1;
  part = round_part site_setup renewing 3000;
  now = 3100;
}

abbrev pub heard_answer : Hearing
heard_answer = record {
  place = 2;
  head = head_of (setup_for arbitrator_id 2 false) Ack 0 1 0 0;
  part = part_of (setup_for arbitrator_id 2 false) site_id 1 0;
  now = 3200;
}

-- The arbitrator takes part, the premises on the site hold, and the site has a lease until 9000.
pub record ALeaseIsRenewed : Type 0 where
  pub leads : IsLeading site_setup 3000 holder
  pub left : HasTermsLeft holder
  pub opened : renewing.round ≡ Some new_round
  pub takes : TakesPart site_setup renewing 3000 new_round (heard_answer ∷ []) 2
  pub longer : own_end (after_hearings site_setup renewing (heard_answer ∷ [])) ≡ 9000
