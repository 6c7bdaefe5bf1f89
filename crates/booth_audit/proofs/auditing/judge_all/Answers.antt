use Rattle.std.specs.Prelude.{Err, Ok}
use Rattle.std.specs.Option.{option_copied}
use Rattle.std.proofs.Common.{◌+◌, List, ℕ, subst, sym, take}
use Rattle.booth_journal.specs.declared.audit_fault.AuditFault.{AuditFault}
use Rattle.booth_audit.specs.Audit.{HasFault}
use Rattle.booth_audit.specs.Judging.{AreTrueSo, IsJudged, JudgedSays, owners_of}
use Rattle.booth_audit.proofs.TogetherLemmas.{so_more, so_wrong}
use Rattle.booth_audit.proofs.auditing.judge_all.Goals as goal

pub returns-in-Err : goal.returns-in-Err
returns-in-Err c =
    subst (λ (f : AuditFault). HasFault c.args.config.now (option_copied c.args.ring) c.args.journals.now f) (sym c.at.ensures)
    (so_wrong c.args.config.now (option_copied c.args.ring) c.args.journals.now c.loop-journal.journal c.loop-journal.invariant
    c.loop-journal-test.true c.index-journals-journal.is c.in-Err.fault
    (subst
    (λ (l : List JudgedSays). IsJudged c.args.config.now (option_copied c.args.ring) (owners_of l) c.index-journals-journal.result (Err c.in-Err.fault))
    c.deref.ensures.value
    (subst
    (λ (t : List ℕ). IsJudged c.args.config.now (option_copied c.args.ring) (owners_of c.deref.result.now) t (Err c.in-Err.fault))
    c.bytes.ensures c.in-Err.ensures)))

pub loop-journal-preserved : goal.loop-journal-preserved
loop-journal-preserved c =
    subst
    (λ (l : List JudgedSays). AreTrueSo c.args.config.now (option_copied c.args.ring) (take (c.loop-journal.journal + 1) c.args.journals.now) l)
    (sym c.in-Ok-push.ensures.items)
    (so_more c.args.config.now (option_copied c.args.ring) c.args.journals.now c.loop-journal.journal c.loop-journal.invariant
    c.loop-journal-test.true c.index-journals-journal.is
    (subst
    (λ (l : List JudgedSays). IsJudged c.args.config.now (option_copied c.args.ring) (owners_of l) c.index-journals-journal.result (Ok c.in-Ok.judged))
    c.deref.ensures.value
    (subst
    (λ (t : List ℕ). IsJudged c.args.config.now (option_copied c.args.ring) (owners_of c.deref.result.now) t (Ok c.in-Ok.judged))
    c.bytes.ensures c.in-Ok.ensures)))
