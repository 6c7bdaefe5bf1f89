use Rattle.std.proofs.Common.{ℕ, refl, ap, ◌∙◌, sym}
use Rattle.std.specs.Prelude.{Some}
use Rattle.booth_wire.specs.declared.codes.results.TheConstants.{ASYN}
use Rattle.booth_wire.specs.declared.message.Setup.{Setup}
use Rattle.booth_raft.specs.Notes.{job_limit}
use Rattle.booth_ticket.specs.ManualRequests.{Begun, start_for, waits_for}
use Rattle.booth_ticket.proofs.DidLemmas.{did_as, did_last}
use Rattle.booth_ticket.proofs.manual_requests.start_for.Goals as goal

pub returns-then-not-start : goal.returns-then-not-start
unfolding start_for
returns-then-not-start g c =
    let begun = waits_for c.args.rules.now c.args.running.now c.args.job c.args.now in
    record { did = did_as refl (ap begun c.if-not-start.true) (did_last c.start.result begun c.start.ensures.did) }

pub returns : goal.returns
unfolding start_for
returns g c =
    let rules = c.args.rules.now in
    let begun = waits_for rules c.args.running.now c.args.job c.args.now in
    record {
      did = did_as refl
          (ap begun c.if-not-start.false
          ∙ ap (λ (l : ℕ). let left : Begun = record {
            answer = ASYN;
            rules = rules;
            running = Some (record { number = c.args.job; limit = l });
          } in left) (sym (c.job_limit.ensures ∙ ap (λ (s : Setup). job_limit s c.args.now) c.setup.ensures)))
          (did_last c.start.result begun c.start.ensures.did);
    }
