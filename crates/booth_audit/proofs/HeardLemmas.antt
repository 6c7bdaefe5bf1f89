-- What journals heard, against what they sent.
use Rattle.std.specs.Prelude.{length, take, Option, Result, Ok, Err}
use Rattle.std.specs.List.{All}
use Rattle.std.proofs.Common.{◌≡◌, ◌<◌, ◌+◌, ℕ, List, [], ◌∷◌, ◌++◌, get_or, refl, sym, ◌∙◌, ap, subst, arith}
use Rattle.std.proofs.lemmas.List.{take_more}
use Rattle.booth_conf.specs.Config.{ConfigSays}
use Rattle.booth_conf.specs.declared.members.Member.{Member}
use Rattle.booth_keys.specs.declared.ring.Ring.{Ring}
use Rattle.booth_journal.specs.declared.audit_fault.AuditFault.{AuditFault}
use Rattle.booth_journal.specs.declared.audit_fault.AuditFault.TheVariants as faults
use Rattle.booth_audit.specs.declared.exchanges.Exchange.{Exchange}
use Rattle.booth_audit.specs.Audit.{AreTrue, HasFault, IsTrue, id_of, node_of}
use Rattle.booth_audit.specs.Exchanges.{AllTell, HearsAll, IsToldSo, IsUnsentFault, Tells, senders_in}
use Rattle.booth_audit.specs.Faults.{Heard}
use Rattle.booth_audit.specs.Hearings.{AreCounted, Hearings}
use Rattle.booth_audit.specs.Judging.{AreExchanges, AreTallied, AreTrueSo, IsTallied, IsToldOf, JudgedSays, member_at}
use Rattle.booth_audit.specs.Noted.{Noted}
use Rattle.booth_audit.specs.Replay.{Replayed}
use Rattle.booth_audit.specs.Tally.{Tally, nothing_tallied}
use Rattle.booth_audit.proofs.CountedLemmas.{replays_are_counted}
use Rattle.booth_audit.proofs.ExchangeLemmas.{exchanges_tell}
use Rattle.booth_audit.proofs.HeldLemmas.{noted_of, own_deeds}
use Rattle.booth_audit.proofs.SendsLemmas.{senders_tell}
use Rattle.booth_audit.proofs.TallyLemmas.{hearings_so}

-- ---- one journal

tells_so : {config : ConfigSays} {ring : Option Ring} {earlier : List (Option ℕ)} {text : List ℕ} {heard : Heard}
    {judged : JudgedSays} {exchange : Exchange} → IsTrue config ring earlier text heard → IsTallied config ring heard judged
    → exchange.id ≡ id_of config.members judged.owner → exchange.sent.now ≡ judged.tally.noted.sent
    → exchange.heard.now ≡ judged.tally.hearings.all → Tells heard exchange
tells_so {config} {ring} {heard = heard} is tallied id sent hears = record {
  member = member_at config ring heard.member;
  same_id = id ∙ ap (id_of config.members) tallied.owner ∙ sym is.id;
  sent = sent ∙ ap (λ (n : Noted). n.sent) (noted_of tallied)
      ∙ senders_tell.1 (member_at config ring heard.member) heard.events;
  heard = hears ∙ ap (λ (t : Tally). t.hearings.all) tallied.tally
      ∙ ap (λ (h : Hearings). h.all) (hearings_so (member_at config ring heard.member) (nothing_tallied config.tickets) heard.events);
  sessions = is.sessions;
  own = own_deeds is;
  counted = subst (λ (r : Replayed). AreCounted r.events) is.replayed
      (replays_are_counted (node_of config ring heard.member) is.said);
}

-- ---- all journals

all_tell : (config : ConfigSays) (ring : Option Ring) (earlier : List Heard) (texts : List (List ℕ)) (heard : List Heard)
    (all : List JudgedSays) (exchanges : List Exchange) → AreTrue config ring earlier texts heard
    → AreTallied config ring heard all → AreExchanges config.members all exchanges → AllTell heard exchanges
all_tell config ring earlier [] [] [] [] are tallied so = tt
all_tell config ring earlier [] [] [] (exchange ∷ exchanges) are tallied so = absurd so
all_tell config ring earlier [] [] (judged ∷ all) exchanges are tallied so = absurd tallied
all_tell config ring earlier [] (one ∷ heard) all exchanges are tallied so = absurd are
all_tell config ring earlier (text ∷ texts) [] all exchanges are tallied so = absurd are
all_tell config ring earlier (text ∷ texts) (one ∷ heard) [] exchanges are tallied so = absurd tallied
all_tell config ring earlier (text ∷ texts) (one ∷ heard) (judged ∷ all) [] are tallied so = absurd so
all_tell config ring earlier (text ∷ texts) (one ∷ heard) (judged ∷ all) (exchange ∷ exchanges) are tallied so = (
  tells_so are.0 tallied.0 so.0 so.1 so.2,
  all_tell config ring (earlier ++ one ∷ []) texts heard all exchanges are.1 tallied.1 so.3,
)

told_so : {config : ConfigSays} {ring : Option Ring} {texts : List (List ℕ)} {all : List JudgedSays}
    (so : AreTrueSo config ring texts all) (exchanges : List Exchange) (result : Result (Unit {0}) AuditFault)
    → AreExchanges config.members all exchanges → IsToldSo (senders_in exchanges) exchanges result
    → IsUnsentFault so.heard result
told_so {config} {ring} {texts} {all} so exchanges result are told =
    exchanges_tell so.heard exchanges result (all_tell config ring [] texts so.heard all exchanges so.each so.tallied are)
    told

pub all_hear_sent : {config : ConfigSays} {ring : Option Ring} {texts : List (List ℕ)} {all : List JudgedSays}
    (so : AreTrueSo config ring texts all) → IsToldOf config.members all (Ok tt) → All (HearsAll so.heard) so.heard
all_hear_sent so sent = told_so so sent.0 (Ok tt) sent.1 sent.2

pub unsent_so : {config : ConfigSays} {ring : Option Ring} {texts : List (List ℕ)} {all : List JudgedSays}
    (so : AreTrueSo config ring texts all) (fault : AuditFault) → IsToldOf config.members all (Err fault)
    → HasFault config ring texts fault
unsent_so so faults.OutOfMemory has = tt
unsent_so so (faults.Unsent place line) has =
    let is = told_so so has.0 (Err (faults.Unsent place line)) has.1 has.2 in
    record { heard = so.heard; each = so.each; one = is.one; is = is.is; before = is.before; wrong = is.wrong }
unsent_so so (faults.Line place line) has = absurd (told_so so has.0 (Err (faults.Line place line)) has.1 has.2)
unsent_so so (faults.Member place) has = absurd (told_so so has.0 (Err (faults.Member place)) has.1 has.2)
unsent_so so (faults.Differs place line) has = absurd (told_so so has.0 (Err (faults.Differs place line)) has.1 has.2)
unsent_so so (faults.Kept place line) has = absurd (told_so so has.0 (Err (faults.Kept place line)) has.1 has.2)

-- ---- what is told of them

pub sent_by_told : (members : List Member) (all : List JudgedSays) (exchanges : List Exchange) (result : Result (Unit {0}) AuditFault)
    → AreExchanges members all exchanges → IsToldSo (senders_in exchanges) exchanges result → IsToldOf members all result
sent_by_told members all exchanges (Ok done) are told = (exchanges, are, told)
sent_by_told members all exchanges (Err faults.OutOfMemory) are told = tt
sent_by_told members all exchanges (Err (faults.Unsent place line)) are told = (exchanges, are, told)
sent_by_told members all exchanges (Err (faults.Line place line)) are told = absurd told
sent_by_told members all exchanges (Err (faults.Member place)) are told = absurd told
sent_by_told members all exchanges (Err (faults.Differs place line)) are told = absurd told
sent_by_told members all exchanges (Err (faults.Kept place line)) are told = absurd told

exchanges_then : (members : List Member) (all : List JudgedSays) (exchanges : List Exchange) (judged : JudgedSays)
    (exchange : Exchange) → AreExchanges members all exchanges → exchange.id ≡ id_of members judged.owner
    → exchange.sent.now ≡ judged.tally.noted.sent → exchange.heard.now ≡ judged.tally.hearings.all
    → AreExchanges members (all ++ judged ∷ []) (exchanges ++ exchange ∷ [])
exchanges_then members [] [] judged exchange are id sent hears = (id, sent, hears, tt)
exchanges_then members [] (first ∷ exchanges) judged exchange are id sent hears = absurd are
exchanges_then members (first ∷ all) [] judged exchange are id sent hears = absurd are
exchanges_then members (first ∷ all) (other ∷ exchanges) judged exchange are id sent hears =
    (are.0, are.1, are.2, exchanges_then members all exchanges judged exchange are.3 id sent hears)

-- one more
pub exchanges_more : (members : List Member) (all : List JudgedSays) (exchanges : List Exchange) (i : ℕ) (judged : JudgedSays)
    (exchange : Exchange) → i < length all → judged ≡ get_or all i judged → AreExchanges members (take i all) exchanges
    → exchange.id ≡ id_of members judged.owner → exchange.sent.now ≡ judged.tally.noted.sent
    → exchange.heard.now ≡ judged.tally.hearings.all
    → AreExchanges members (take (i + 1) all) (exchanges ++ exchange ∷ [])
exchanges_more members all exchanges i judged exchange below at are id sent hears =
    subst (λ (l : List JudgedSays). AreExchanges members l (exchanges ++ exchange ∷ []))
    (ap (λ (j : JudgedSays). take i all ++ j ∷ []) at ∙ sym (take_more all i judged below))
    (exchanges_then members (take i all) exchanges judged exchange are id sent hears)

pub exchanges_count : (members : List Member) (all : List JudgedSays) (exchanges : List Exchange)
    → AreExchanges members all exchanges → length exchanges ≡ length all
exchanges_count members [] [] are = refl
exchanges_count members [] (first ∷ exchanges) are = absurd are
exchanges_count members (first ∷ all) [] are = absurd are
exchanges_count members (first ∷ all) (other ∷ exchanges) are =
    let shorter = exchanges_count members all exchanges are.3 in omega (arith, shorter)
