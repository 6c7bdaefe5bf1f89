-- The answer of a keep, and a message, leave what is true of every view.
use Rattle.std.proofs.Common.{◌≡◌, Bool, true, false, refl, ap, ◌∙◌}
use Rattle.std.specs.Prelude.{◌&&◌, not, Option, Some, None, is_none, is_some, if◌then◌else◌}
use Rattle.booth_base.specs.declared.address.MemberId.{MemberId}
use Rattle.booth_base.specs.declared.address.TheConstants.{NO_ONE}
use Rattle.booth_rec.specs.declared.record.Record.{Record}
use Rattle.booth_wire.specs.declared.command.Cmd.{Cmd}
use Rattle.booth_wire.specs.declared.command.Cmd.TheVariants as cmds
use Rattle.booth_wire.specs.declared.message.Head.{Head}
use Rattle.booth_wire.specs.declared.message.TicketPart.{TicketPart}
use Rattle.booth_wire.specs.declared.message.Setup.{Setup}
use Rattle.booth_manual.specs.declared.view.Call.{Call}
use Rattle.booth_manual.specs.declared.view.Call.TheVariants as calls
use Rattle.booth_manual.specs.declared.view.Waiting.{Waiting}
use Rattle.booth_manual.specs.declared.view.ManualView.{ManualView}
use Rattle.booth_manual.specs.Facts.{Tries, ViewFacts}
use Rattle.booth_manual.specs.GrantAndRevoke.{finish, goes_on}
use Rattle.booth_manual.specs.Hearing.{hear, is_shown, learned}
use Rattle.booth_manual.specs.Messages.{is_same}
use Rattle.booth_manual.specs.Outcome.{Outcome}

goes_on_facts : (setup : Setup) (view : ManualView) (call : Call) (tried : Record) (ok : Bool) → view.waiting ≡ None
    → view.kept.term ≡ view.term → is_some view.kept.lease ≡ view.owner → Tries setup view call tried
    → ViewFacts setup (goes_on setup view call tried ok).view
goes_on_facts setup view calls.Grant tried true none term leased tries = record { own_term = term; leased = leased; tried = λ w e. absurd (cc) }
goes_on_facts setup view calls.Grant tried false none term leased tries = record { own_term = term; leased = leased; tried = λ w e. absurd (cc) }
goes_on_facts setup view calls.Again tried true none term leased tries = record {
  own_term = ap (λ (r : Record). r.term) tries ∙ term;
  leased = ap (λ (r : Record). is_some r.lease) tries ∙ leased;
  tried = λ w e. absurd (cc);
}
goes_on_facts setup view calls.Again tried false none term leased tries = record { own_term = term; leased = leased; tried = λ w e. absurd (cc) }
goes_on_facts setup view calls.Revoke tried true none term leased tries =
    record { own_term = ap (λ (r : Record). r.term) tries; leased = ap (λ (r : Record). is_some r.lease) tries; tried = λ w e. absurd (cc) }
goes_on_facts setup view calls.Revoke tried false none term leased tries = record { own_term = term; leased = leased; tried = λ w e. absurd (cc) }

by_waiting : (P : Outcome → Type 0) (waiting : Option Waiting) (none : Outcome) (some : Waiting → Outcome)
    → (waiting ≡ None → P none) → ((w : Waiting) → waiting ≡ Some w → P (some w)) → P (elim waiting [ None ↦ none | Some w ↦ some w ])
by_waiting P None none some at_none at_some = at_none refl
by_waiting P (Some w) none some at_none at_some = at_some w refl

pub finish_facts : (setup : Setup) (view : ManualView) (ok : Bool) → ViewFacts setup view → ViewFacts setup (finish setup view ok).view
finish_facts setup view ok facts =
    by_waiting (λ outcome. ViewFacts setup outcome.view) view.waiting _ _
    (λ e. facts)
    (λ w e. goes_on_facts setup (record view { waiting = None }) w.call w.tried ok refl facts.own_term facts.leased (facts.tried w e).1)

-- ---- a message is heard

shown_facts : (setup : Setup) (view : ManualView) (shown : Option MemberId) → ViewFacts setup view → ViewFacts setup (record view { shown = shown })
shown_facts setup view shown facts = record { own_term = facts.own_term; leased = facts.leased; tried = facts.tried }

by_test : (P : ManualView → Type 0) (b : Bool) (x y : ManualView) → P x → P y → P (if b then x else y)
by_test P true x y p q = p
by_test P false x y p q = q

learned_facts : (setup : Setup) (view : ManualView) (leader : MemberId) → ViewFacts setup view → ViewFacts setup (learned setup view leader)
learned_facts setup view leader facts =
    by_test (λ v. ViewFacts setup v) (is_none view.shown && not view.owner && not (is_same leader NO_ONE) && not (is_same leader setup.me))
    (record view { shown = Some leader }) view
    (shown_facts setup view (Some leader) facts) facts

pub hear_facts : (setup : Setup) (view : ManualView) (head : Head) (part : TicketPart) (cmd : Cmd) → ViewFacts setup view
    → ViewFacts setup (hear setup view head part cmd).view
hear_facts setup view head part cmds.UpdE facts =
    by_test (λ v. ViewFacts setup v) view.owner view (record view { shown = Some head.from })
    facts (shown_facts setup view (Some head.from) facts)
hear_facts setup view head part cmds.Revk facts =
    by_test (λ v. ViewFacts setup v) (is_shown view.shown head.from) (record view { shown = None }) view
    (shown_facts setup view None facts) facts
hear_facts setup view head part cmds.Stat facts = learned_facts setup view part.leader facts
hear_facts setup view head part cmds.MIdx facts = learned_facts setup view part.leader facts
hear_facts setup view head part cmd facts = facts
