-- The renewal among three members, computed.
use Rattle.std.proofs.Common.{false, ◌≡◌, inl, inr, refl, sym, ap, subst, arith}
use Rattle.booth_rec.specs.declared.record.Promise.{Promise}
use Rattle.booth_raft.specs.declared.view.Round.{Round}
use Rattle.booth_raft.proofs.FactsLemmas.{some_same}
use Rattle.booth_progress.specs.Leading.{Extends}
use Rattle.booth_progress.specs.RenewalExample.{ALeaseIsRenewed, heard_round, setup_for, arbitrator_id, voter, holder, site_setup, won_round}

pub a_lease_is_renewed : ALeaseIsRenewed
a_lease_is_renewed = record {
  leads = record {
    leads = refl;
    free = refl;
    rests = refl;
    runs = omega arith;
    forced = omega arith;
    within = omega arith;
    rested = omega arith;
    unpromised = λ p e other. absurd (other (ap (λ (x : Promise). x.to) (sym (some_same e))));
    round = λ r e. let same : won_round ≡ r = some_same e in
        subst (λ (x : Round). Extends site_setup 3000 holder x) same (record { opened = omega arith; longer = omega arith });
    due = (omega arith, inl (inl (omega arith)));
  };
  left = record {
    terms = refl;
    numbers = λ r e is.
        let same : won_round ≡ r = some_same e in absurd (omega (arith, ap (λ (x : Round). x.number) same, is));
  };
  opened = refl;
  takes = record {
    setup = setup_for arbitrator_id 2 false;
    old = voter;
    since = 1;
    term = 1;
    until = 6150;
    hearing = heard_round;
    behind = record {
      follows = refl;
      idle = refl;
      rests = refl;
      rested = omega arith;
      unforced = omega arith;
      reached = omega arith;
      promised = (refl, omega arith, omega arith);
      unbound = inr (refl, λ b e. sym (some_same e));
    };
    no_later = omega arith;
    head = record { from = refl; cmd = refl; request = refl; options = refl; reason = refl; result = refl };
    part = refl;
    back = inl (record {
      from = refl;
      head_is = record { from = refl; cmd = refl; request = refl; options = refl; reason = refl; result = refl };
      part_is = refl;
    });
  };
  longer = refl;
}
