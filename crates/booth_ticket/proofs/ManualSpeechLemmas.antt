-- What the rules of a manual ticket say are a member's commands about it, from this member.
use Rattle.std.proofs.Common.{◌≡◌, Bool, true, false, refl, sym, subst}
use Rattle.std.specs.Prelude.{Option, Some, None}
use Rattle.booth_rec.specs.declared.record.Record.{Record}
use Rattle.booth_wire.specs.declared.command.Cmd.{Cmd}
use Rattle.booth_wire.specs.declared.command.Cmd.TheVariants.{CLst, CTkt, Peer, CGnt, CRvk, ASet, AGet, ADel, ALst, RLst, RTkt, RPer, RALs, RGnt, RRvk, RAtr, Stat, MIdx, RVot, VtFr, HrtB, Ack, UpdE, Revk, Rjc}
use Rattle.booth_wire.specs.declared.message.Head.{Head}
use Rattle.booth_wire.specs.declared.message.Setup.{Setup}
use Rattle.booth_wire.specs.declared.message.TicketPart.{TicketPart}
use Rattle.booth_wire.specs.declared.message.Say.{Say as Words}
use Rattle.booth_raft.specs.Speech.{IsSpeech}
use Rattle.booth_manual.specs.declared.view.Call.{Call}
use Rattle.booth_manual.specs.declared.view.Call.TheVariants as calls
use Rattle.booth_manual.specs.declared.view.ManualView.{ManualView}
use Rattle.booth_manual.specs.declared.view.Waiting.{Waiting}
use Rattle.booth_manual.specs.GrantAndRevoke.{finish, goes_on}
use Rattle.booth_manual.specs.Hearing.{hear}
use Rattle.booth_manual.specs.Outcome.{Outcome, quiet}
use Rattle.booth_ticket.specs.Manual.{ManualKnown}
use Rattle.booth_ticket.specs.ManualHandling.{greeting}

pub hearing_speaks : (setup : Setup) (view : ManualView) (head : Head) (part : TicketPart) (cmd : Cmd)
    → IsSpeech setup (hear setup view head part cmd).say
hearing_speaks setup view head part Stat = record { between = refl; from = refl; ticket = refl }
hearing_speaks setup view head part MIdx = tt
hearing_speaks setup view head part UpdE = tt
hearing_speaks setup view head part Revk = tt
hearing_speaks setup view head part RVot = tt
hearing_speaks setup view head part VtFr = tt
hearing_speaks setup view head part HrtB = tt
hearing_speaks setup view head part Ack = tt
hearing_speaks setup view head part Rjc = tt
hearing_speaks setup view head part CLst = tt
hearing_speaks setup view head part CTkt = tt
hearing_speaks setup view head part Peer = tt
hearing_speaks setup view head part CGnt = tt
hearing_speaks setup view head part CRvk = tt
hearing_speaks setup view head part ASet = tt
hearing_speaks setup view head part AGet = tt
hearing_speaks setup view head part ADel = tt
hearing_speaks setup view head part ALst = tt
hearing_speaks setup view head part RLst = tt
hearing_speaks setup view head part RTkt = tt
hearing_speaks setup view head part RPer = tt
hearing_speaks setup view head part RALs = tt
hearing_speaks setup view head part RGnt = tt
hearing_speaks setup view head part RRvk = tt
hearing_speaks setup view head part RAtr = tt

call_speaks : (setup : Setup) (view : ManualView) (call : Call) (tried : Record) (ok : Bool)
    → IsSpeech setup (goes_on setup view call tried ok).say
call_speaks setup view calls.Grant tried true = record { between = refl; from = refl; ticket = refl }
call_speaks setup view calls.Grant tried false = tt
call_speaks setup view calls.Again tried true = tt
call_speaks setup view calls.Again tried false = tt
call_speaks setup view calls.Revoke tried true = record { between = refl; from = refl; ticket = refl }
call_speaks setup view calls.Revoke tried false = tt

by_waiting : (P : Outcome → Type 0) (waiting : Option Waiting) (none : Outcome) (some : Waiting → Outcome) → P none
    → ((waits : Waiting) → P (some waits)) → P (elim waiting [ None ↦ none | Some waits ↦ some waits ])
by_waiting P None none some at_none at_some = at_none
by_waiting P (Some waits) none some at_none at_some = at_some waits

pub keep_speaks : (setup : Setup) (view : ManualView) (ok : Bool) → IsSpeech setup (finish setup view ok).say
keep_speaks setup view ok =
    by_waiting (λ outcome. IsSpeech setup outcome.say) view.waiting (quiet view)
    (λ waits. goes_on setup (record view { waiting = None }) waits.call waits.tried ok) tt
    (λ waits. call_speaks setup (record view { waiting = None }) waits.call waits.tried ok)

pub greeting_speaks : (setup : Setup) (known : ManualKnown) → IsSpeech setup (greeting setup known)
greeting_speaks setup known = by_greeting known.greets_at
  where
    by_greeting : (greets_at : Option _)
        → IsSpeech setup (greeting setup (record known { greets_at = greets_at }))
    by_greeting None = tt
    by_greeting (Some at) = record { between = refl; from = refl; ticket = refl }

-- words that the code was given
pub words_speak : (setup setup' : Setup) (rule_words words' : Words) → setup' ≡ setup → words' ≡ rule_words
    → IsSpeech setup rule_words → IsSpeech setup' words'
words_speak setup setup' rule_words words' same_setup same_words speaks =
    subst (λ (s : Setup). IsSpeech s words') (sym same_setup)
    (subst (λ (w : Words). IsSpeech setup w) (sym same_words) speaks)
