use Rattle.std.specs.Prelude.{Err, Ok}
use Rattle.std.specs.List.{All}
use Rattle.std.proofs.Common.{◌≡◌, ◌∙◌, ◌<◌, ℕ, List, arith, ap, length, subst}
use Rattle.booth_audit.specs.declared.holding.Holding.{Holding}
use Rattle.booth_audit.specs.Judging.{IsToldOf, JudgedSays, held_by, silent_by}
use Rattle.booth_audit.specs.Order.{by_tickets}
use Rattle.booth_audit.proofs.AuditLemmas.{audited_so}
use Rattle.booth_audit.proofs.FoundLemmas.{tickets_are_found}
use Rattle.booth_audit.proofs.HeardLemmas.{unsent_so}
use Rattle.booth_audit.proofs.TogetherLemmas.{so_count}
use Rattle.booth_audit.proofs.auditing.audit.Goals as goal

pub find_unsent-requires : goal.find_unsent-requires
find_unsent-requires c =
    let count = so_count c.in-Ok.ensures in
    let few = c.if-journals-ge-JOURNALS_END.false in
    record { few = omega (arith, count, few, ap (λ (l : List JudgedSays). length l) c.deref.ensures.value) }

pub returns-in-Err-find_unsent-clause-fault : goal.returns-in-Err-find_unsent-clause-fault
returns-in-Err-find_unsent-clause-fault c =
    unsent_so c.in-Ok.ensures c.in-Err-find_unsent.fault
    (subst (λ (l : List JudgedSays). IsToldOf c.args.config.now.members l (Err c.in-Err-find_unsent.fault)) c.deref.ensures.value
    c.in-Err-find_unsent.ensures)

pub reported-requires : goal.reported-requires
reported-requires c =
    let count = so_count c.in-Ok.ensures in
    let few = c.if-journals-ge-JOURNALS_END.false in
    record { few = omega (arith, count, few, ap (λ (l : List JudgedSays). length l) c.deref-2.ensures.value) }

pub returns-in-Ok-reported-clause-audited : goal.returns-in-Ok-reported-clause-audited
returns-in-Ok-reported-clause-audited c =
    audited_so (tickets_are_found c.args.config.now c.sound.ensures) c.in-Ok.ensures
    (subst (λ (l : List JudgedSays). IsToldOf c.args.config.now.members l (Ok tt)) c.deref.ensures.value c.in-Ok-find_unsent.ensures)
    (subst
    (λ (l : List JudgedSays). (count : ℕ) → All (λ (holding : Holding). holding.ticket < count) (held_by l) → c.in-Ok-reported.audit.holdings ≡ by_tickets (held_by l) 0 count)
    c.deref-2.ensures.value c.in-Ok-reported.ensures.held)
    (c.in-Ok-reported.ensures.silent ∙ ap (silent_by 0) c.deref-2.ensures.value)
