-- Where the outside does not fail, a run ends well.
use Rattle.std.specs.Prelude.{Contains, Option, Some, None, Ok, Err}
use Rattle.std.proofs.Common.{◌≡◌, ℕ, false, true, List, [], ◌∷◌, ◌++◌, refl, sym, ap}
use Rattle.std.proofs.Common.{◌∙◌, subst, inl, inr}
use Rattle.std.proofs.lemmas.List.Elements.{Contains-append_right}
use Rattle.booth_base.specs.declared.address.Address.{Address}
use Rattle.booth_conf.specs.Config.{ConfigSays}
use Rattle.booth_conf.specs.Says.{Says, IsFault}
use Rattle.booth_conf.specs.declared.faults.ConfFault.{ConfFault}
use Rattle.booth_conf.proofs.OneAnswers.{one_answer}
use Rattle.booth_host.specs.declared.host.ReadFault.TheVariants as reads
use Rattle.booth_host.specs.declared.entry.Entry.{Entry}
use Rattle.booth_host.specs.declared.entry.Entry.TheVariants.{Open, Now, ReadFile, Lock, Kept, Out}
use Rattle.booth_outcomes.specs.declared.outcome.Outcome.{Outcome}
use Rattle.booth_outcomes.specs.declared.outcome.Outcome.TheVariants.{Done, ConfUnread, ConfBad}
use Rattle.booth_outcomes.specs.declared.outcome.Outcome.TheVariants.{NotMember, KeyUnread, KeyBad}
use Rattle.booth_outcomes.specs.declared.outcome.Outcome.TheVariants.{LockFault, Running, NotRunning, OpenFault}
use Rattle.booth_outcomes.specs.declared.outcome.Outcome.TheVariants.{RecordUnread, TurnsSpent, PrintFault}
use Rattle.booth_outcomes.specs.declared.outcome.Outcome.TheVariants.{AuditBad, JournalUnread, OutOfMemory}
use Rattle.booth_daemon.specs.Fitness.{has_member, IsUnserved}
use Rattle.booth_outcomes.specs.Configuration.{IsUnread}
use Rattle.booth_outcomes.specs.Keys.{FirstKeyless, IsFileKeyless, IsKeyFile, IsKeyless, NamesKeyFile, OldKeyless}
use Rattle.booth_daemon.specs.Opening.{IsLockless, IsUnopened, opened, reads_of}
use Rattle.booth_daemon.specs.Serving.{IsServing, Unread, Refused, Unkeyed, Unlocked, Unopened, Turning, IsStuck}
use Rattle.booth_daemon.specs.Serving.{IsTurning}
use Rattle.booth_cli.specs.declared.command.Verb.TheVariants as verbs
use Rattle.booth_cli.specs.declared.asking.DaemonWords.{DaemonWords}
use Rattle.booth_cli.specs.declared.program.Program.TheVariants.{Boothd}
use Rattle.booth_daemon.specs.Status.{IsStatus, status_text}
use Rattle.booth_daemon.specs.Simulating.{IsSimulated, IsSummed, IsUnchosen, Simulated, Unchosen, summary_text}
use Rattle.booth_cli.specs.declared.asking.SimulationWords.{SimulationWords}
use Rattle.booth_cli.specs.declared.asking.AuditWords.{AuditWords}
use Rattle.booth_keys.specs.declared.ring.Ring.{Ring}
use Rattle.booth_daemon.specs.Auditing.{AreJournalsUnread, IsAuditEnd, IsAuditing, report_text}
use Rattle.booth_daemon.specs.Auditing as audit
use Rattle.booth_daemon.specs.Run.{IsMade, Unasked, Served, Summed, Reviewed, Looked}
use Rattle.booth_outcomes.proofs.CallLemmas.{among, first_of, same_calls, second_of, third_of}
use Rattle.booth_outcomes.proofs.UsageLemmas.{for_memory}
use Rattle.booth_daemon.specs.Faultless.{IsValid, IsFaultless, EndsWell, FaultlessRuns, IsUnfailing}
use Rattle.booth_daemon.specs.Faultless.{Tells, FaultlessLooks, FaultlessSimulations, IsFaultlessFor, Sums}
use Rattle.booth_daemon.specs.Faultless.{Audits, FaultlessAudits, IsFaultlessAudit}

-- a valid text has no fault
no_fault : (address : Address) (text : List ℕ) (fault : ConfFault) → IsValid address text → IsFault text fault → ⊥
no_fault address text fault valid is = (one_answer text).not_both valid.config fault valid.says is

-- the one configuration of a text has the member
same_member : (address : Address) (text : List ℕ) (config : ConfigSays) → IsValid address text → Says text config → has_member config address ≡ false → ⊥
same_member address text config valid says none =
    let same : valid.config ≡ config = (one_answer text).one_config valid.config config valid.says says in
    let is : has_member config address ≡ true = subst (λ c. has_member c address ≡ true) same valid.member in
    cc

-- Where no read failed and each key file that is named holds a key, a key is missing for want of memory alone.
module _ (conf said : List ℕ) (body entries : List Entry) (all : (x : Entry) → Contains body x → Contains entries x)
    (read : (file : List ℕ) → Contains entries (ReadFile file (Err reads.Failed)) → ⊥)
    (keyed : (text file key_text : List ℕ) (config : ConfigSays) → Contains entries (ReadFile conf (Ok text)) → Says text config →
    NamesKeyFile config file → Contains entries (ReadFile file (Ok key_text)) → IsKeyFile key_text) where
  -- a key file that the configuration names was read behind these calls, and had no key
  no_file_key : (text : List ℕ) (config : ConfigSays) (file : List ℕ) (early rest : List Entry) (outcome : Outcome) → Says text config →
      Contains entries (ReadFile conf (Ok text)) → NamesKeyFile config file → body ≡ early ++ rest → IsFileKeyless file outcome said rest → outcome ≡ OutOfMemory
  no_file_key text config file early rest OutOfMemory says made named whole k = refl
  no_file_key text config file early rest KeyUnread says made named whole k =
      let call : Entry = ReadFile file (Err reads.Failed) in
      absurd (read file (all call (same_calls call (early ++ rest) body
      (Contains-append_right early rest call (same_calls call (call ∷ []) rest (first_of call []) k.1)) whole)))
  no_file_key text config file early rest (KeyBad fault) says made named whole k =
      let call : Entry = ReadFile file (Ok k.0) in
      let key = keyed text file k.0 config made says named
      (all call (same_calls call (early ++ rest) body
      (Contains-append_right early rest call (same_calls call (call ∷ []) rest (first_of call []) k.3)) whole)) in
      let is = k.1 in
      let reads = key.reads in
      cc
  no_file_key text config file early rest outcome says made named whole k = absurd k

  no_key : (text : List ℕ) (config : ConfigSays) (rest : List Entry) (outcome : Outcome) → Says text config → body ≡ ReadFile conf (Ok text) ∷ rest →
      IsKeyless config outcome said rest → outcome ≡ OutOfMemory
  no_key text config rest outcome says whole (FirstKeyless k) =
      let call : Entry = ReadFile conf (Ok text) in
      no_file_key text config k.file (call ∷ []) rest outcome says (all call (same_calls call (call ∷ rest) body (first_of call rest) whole)) (inl k.set) whole k.here
  no_key text config rest outcome says whole (OldKeyless k) =
      let call : Entry = ReadFile conf (Ok text) in
      no_file_key text config k.old (call ∷ ReadFile k.file (Ok k.text) ∷ []) k.rest outcome says
      (all call (same_calls call (call ∷ rest) body (first_of call rest) whole)) (inr k.old_set) (whole ∙ ap (λ es. call ∷ es) k.whole) k.here

-- each part of a run whose calls are among these, and in which nothing fails, ends well
module _ (asked : DaemonWords) (said : List ℕ) (body entries : List Entry) (all : (x : Entry) → Contains body x → Contains entries x)
    (free : IsFaultless asked entries) where
  -- the call at this place of the body was made
  made : (x : Entry) (xs : List Entry) → Contains xs x → body ≡ xs → Contains entries x
  made x xs here same = all x (same_calls x xs body here same)

  unread : (outcome : Outcome) → IsUnread asked.conf outcome said body → EndsWell outcome
  unread OutOfMemory u = tt
  unread ConfUnread u =
      let call : Entry = ReadFile asked.conf (Err reads.Failed) in
      free.read asked.conf (made call (call ∷ []) (first_of call []) u.1)
  unread (ConfBad fault) u =
      let call : Entry = ReadFile asked.conf (Ok u.0) in
      no_fault asked.site u.0 fault (free.valid u.0 (made call (call ∷ []) (first_of call []) u.3)) u.1
  unread outcome u = absurd u

  unserved : (text : List ℕ) (config : ConfigSays) (outcome : Outcome) → Says text config → body ≡ ReadFile asked.conf (Ok text) ∷ [] →
      IsUnserved asked.site config outcome said → EndsWell outcome
  unserved text config NotMember says whole u =
      let call : Entry = ReadFile asked.conf (Ok text) in
      same_member asked.site text config (free.valid text (made call (call ∷ []) (first_of call []) whole)) says u.0
  unserved text config outcome says whole u = absurd u

  keyless : (text : List ℕ) (config : ConfigSays) (rest : List Entry) (outcome : Outcome) → Says text config → body ≡ ReadFile asked.conf (Ok text) ∷ rest →
      IsKeyless config outcome said rest → EndsWell outcome
  keyless text config rest outcome says whole k =
      subst EndsWell (sym (no_key asked.conf said body entries all free.read free.keyed text config rest outcome says whole k)) tt

  -- a call behind the reads was made
  behind : {after : ConfigSays → List Entry → Type 0} (s : IsStuck asked after body) (x : Entry) (xs : List Entry) → Contains xs x → s.rest ≡ xs → Contains entries x
  behind s x xs here same =
      all x (same_calls x (reads_of asked.conf s.ready ++ s.rest) body (Contains-append_right (reads_of asked.conf s.ready) s.rest x (same_calls x xs s.rest here same)) s.whole)

  unlocked : (outcome : Outcome) → IsStuck asked (λ config es. IsLockless asked.lock outcome said es) body → EndsWell outcome
  unlocked Running s =
      let call : Entry = Lock asked.lock (Ok false) in
      free.free asked.lock (behind s call (call ∷ []) (first_of call []) s.here.1)
  unlocked LockFault s =
      let call : Entry = Lock asked.lock (Err s.here.1) in
      free.locked asked.lock s.here.1 (behind s call (call ∷ []) (first_of call []) s.here.2)
  unlocked outcome s = absurd s.here

  unopened : (outcome : Outcome) → IsStuck asked (λ config es. IsUnopened asked config outcome said es) body → EndsWell outcome
  unopened OutOfMemory s = tt
  unopened OpenFault s =
      let call : Entry = Open (Some asked.site) s.config.port asked.records asked.conf (Err s.here.2) in
      free.opened (Some asked.site) s.config.port asked.records asked.conf s.here.2
      (behind s call (Lock asked.lock (Ok true) ∷ Now s.here.1 ∷ call ∷ []) (third_of (Lock asked.lock (Ok true)) (Now s.here.1) call []) s.here.3)
  unopened RecordUnread s =
      let no = s.here.here in
      let call : Entry = Kept no.ticket.name (Err no.failed) in
      let calls : List Entry = opened asked s.config s.here.reading (Ok tt) ++ (no.early ++ call ∷ []) in
      free.kept no.ticket.name no.failed (behind s call calls
      (Contains-append_right (opened asked s.config s.here.reading (Ok tt)) (no.early ++ call ∷ []) call
      (Contains-append_right no.early (call ∷ []) call (first_of call [])))
      (s.here.whole ∙ ap (λ es. opened asked s.config s.here.reading (Ok tt) ++ es) no.whole))
  unopened outcome s = absurd s.here

  turning : (outcome : Outcome) (t : IsTurning asked outcome said body) → EndsWell outcome
  turning Done t = tt
  turning TurnsSpent t = tt
  turning outcome t = absurd t.log

  served : (outcome : Outcome) → IsServing asked outcome said body → EndsWell outcome
  served outcome (Unread u) = unread outcome u
  served outcome (Refused r) = unserved r.text r.config outcome r.says r.whole r.here
  served outcome (Unkeyed u) = keyless u.text u.config u.rest outcome u.fit.says u.whole u.here
  served outcome (Unlocked s) = unlocked outcome s
  served outcome (Unopened s) = unopened outcome s
  served outcome (Turning t) = turning outcome t

-- ---- a daemon

pub faultless_runs : FaultlessRuns
faultless_runs words outcome entries valid run free = go run.made
  where
    go : IsMade words outcome run.said run.body → EndsWell outcome
    go (Unasked is) = subst EndsWell (sym (for_memory Boothd words verbs.Daemon outcome run.said run.body valid is)) tt
    go (Served asked asks is) =
        served asked run.said run.body entries (λ x here. among x run.body run.last entries here run.whole) (free asked asks) outcome is
    go (Summed asked asks is) = let named = valid.named in let other = asks.asks.named in cc
    go (Reviewed asked asks is) = let named = valid.named in let other = asks.asks.named in cc
    go (Looked lock asks is) = let named = valid.named in let other = asks.asks.named in cc

-- ---- a simulation

module _ (asked : SimulationWords) (said : List ℕ) (entries : List Entry) (free : IsFaultlessFor asked entries) where
  unread_for : (path : List ℕ) (outcome : Outcome) (part : List Entry) → asked.conf ≡ Some path → ((x : Entry) → Contains part x → Contains entries x) →
      IsUnread path outcome said part → Sums outcome
  unread_for path OutOfMemory part same all u = tt
  unread_for path ConfUnread part same all u =
      let call : Entry = ReadFile path (Err reads.Failed) in
      absurd (free.read path (all call (same_calls call (call ∷ []) part (first_of call []) u.1)))
  unread_for path (ConfBad fault) part same all u =
      let call : Entry = ReadFile path (Ok u.0) in
      let valid = free.valid path u.0 same (all call (same_calls call (call ∷ []) part (first_of call []) u.3)) in
      absurd ((one_answer u.0).not_both valid.0 fault valid.1 u.1)
  unread_for path outcome part same all u = absurd u

  unchosen : (conf : Option (List ℕ)) (outcome : Outcome) (part : List Entry) → asked.conf ≡ conf → ((x : Entry) → Contains part x → Contains entries x) →
      IsUnchosen conf outcome said part → Sums outcome
  unchosen None outcome part same all u = subst Sums (sym u.0) tt
  unchosen (Some path) outcome part same all u = unread_for path outcome part same all u

  summed : (config : ConfigSays) (outcome : Outcome) (part : List Entry) → ((x : Entry) → Contains part x → Contains entries x) →
      IsSummed config asked outcome said part → Sums outcome
  summed config Done part all s = tt
  summed config OutOfMemory part all s = tt
  summed config PrintFault part all s =
      let call : Entry = Out (summary_text s.1) (Err s.4) in
      absurd (free.printed (summary_text s.1) s.4 (all call (same_calls call (call ∷ []) part (first_of call []) s.5)))
  summed config outcome part all s = absurd s

  simulated : (outcome : Outcome) (part : List Entry) → ((x : Entry) → Contains part x → Contains entries x) → IsSimulated asked outcome said part → Sums outcome
  simulated outcome part all (Unchosen u) = unchosen asked.conf outcome part refl all u
  simulated outcome part all (Simulated config chosen rest is s whole) =
      summed config outcome rest (λ x here. all x (same_calls x (chosen ++ rest) part (Contains-append_right chosen rest x here) whole)) s

pub faultless_simulations : FaultlessSimulations
faultless_simulations words outcome entries valid run free = go run.made
  where
    go : IsMade words outcome run.said run.body → Sums outcome
    go (Unasked is) = subst Sums (sym (for_memory Boothd words verbs.Simulate outcome run.said run.body valid is)) tt
    go (Served asked asks is) = let named = valid.named in let other = asks.asks.named in cc
    go (Summed asked asks is) =
        simulated asked run.said entries (free asked asks) outcome run.body (λ x here. among x run.body run.last entries here run.whole) is
    go (Reviewed asked asks is) = let named = valid.named in let other = asks.asks.named in cc
    go (Looked lock asks is) = let named = valid.named in let other = asks.asks.named in cc

-- ---- an audit

module _ (asked : AuditWords) (said : List ℕ) (body entries : List Entry) (all : (x : Entry) → Contains body x → Contains entries x)
    (free : IsFaultlessAudit asked entries) where
  unread_conf : (outcome : Outcome) → IsUnread asked.conf outcome said body → Audits outcome
  unread_conf OutOfMemory u = tt
  unread_conf ConfUnread u =
      let call : Entry = ReadFile asked.conf (Err reads.Failed) in
      absurd (free.read asked.conf (all call (same_calls call (call ∷ []) body (first_of call []) u.1)))
  unread_conf (ConfBad fault) u =
      let call : Entry = ReadFile asked.conf (Ok u.0) in
      let valid = free.valid u.0 (all call (same_calls call (call ∷ []) body (first_of call []) u.3)) in
      absurd ((one_answer u.0).not_both valid.0 fault valid.1 u.1)
  unread_conf outcome u = absurd u

  unread_journal : (outcome : Outcome) (early rest : List Entry) → body ≡ early ++ rest → AreJournalsUnread asked.journals.items outcome said rest → Audits outcome
  unread_journal OutOfMemory early rest whole u = tt
  unread_journal JournalUnread early rest whole u =
      let path = u.0 in
      let no = u.2 in
      let call : Entry = ReadFile path (Err reads.Failed) in
      absurd (free.read path (all call (same_calls call (early ++ rest) body
      (Contains-append_right early rest call (same_calls call (no.early ++ call ∷ []) rest
      (Contains-append_right no.early (call ∷ []) call (first_of call [])) no.whole)) whole)))
  unread_journal outcome early rest whole u = absurd u

  ended : (config : ConfigSays) (ring : Option Ring) (texts : List (List ℕ)) (outcome : Outcome) (early rest : List Entry) → body ≡ early ++ rest →
      IsAuditEnd config ring asked.journals.items texts outcome said rest → Audits outcome
  ended config ring texts Done early rest whole e = tt
  ended config ring texts OutOfMemory early rest whole e = tt
  ended config ring texts (AuditBad fault) early rest whole e = tt
  ended config ring texts PrintFault early rest whole e =
      let call : Entry = Out (report_text config asked.journals.items e.1) (Err e.3) in
      absurd (free.printed (report_text config asked.journals.items e.1) e.3 (all call (same_calls call (early ++ rest) body
      (Contains-append_right early rest call (same_calls call (call ∷ []) rest (first_of call []) e.4)) whole)))
  ended config ring texts outcome early rest whole e = absurd e

  audits : (outcome : Outcome) → IsAuditing asked outcome said body → Audits outcome
  audits outcome (audit.Unread u) = unread_conf outcome u
  audits outcome (audit.Unkeyed u) =
      subst Audits (sym (no_key asked.conf said body entries all free.read free.keyed u.text u.config u.rest outcome u.says u.whole u.here)) tt
  audits outcome (audit.Wanting w) = unread_journal outcome w.early w.rest w.whole w.here
  audits outcome (audit.Audited config ring texts early rest read end whole) = ended config ring texts outcome early rest whole end

pub faultless_audits : FaultlessAudits
faultless_audits words outcome entries valid run free = go run.made
  where
    go : IsMade words outcome run.said run.body → Audits outcome
    go (Unasked is) = subst Audits (sym (for_memory Boothd words verbs.Audit outcome run.said run.body valid is)) tt
    go (Served asked asks is) = let named = valid.named in let other = asks.asks.named in cc
    go (Summed asked asks is) = let named = valid.named in let other = asks.asks.named in cc
    go (Reviewed asked asks is) =
        audits asked run.said run.body entries (λ x here. among x run.body run.last entries here run.whole) (free asked asks) outcome is
    go (Looked lock asks is) = let named = valid.named in let other = asks.asks.named in cc

-- ---- a look at the lock

looked : (lock said : List ℕ) (body entries : List Entry) (outcome : Outcome) → ((x : Entry) → Contains body x → Contains entries x) →
    IsUnfailing entries → IsStatus lock outcome said body → Tells outcome
looked lock said body entries Done all free is = tt
looked lock said body entries NotRunning all free is = tt
looked lock said body entries LockFault all free is =
    let call : Entry = Lock lock (Err is.1) in
    free.locked lock is.1 (all call (same_calls call (call ∷ []) body (first_of call []) is.2))
looked lock said body entries PrintFault all free is =
    let first : Entry = Lock lock (Ok is.1) in
    let call : Entry = Out (status_text is.1) (Err is.2) in
    free.printed (status_text is.1) is.2 (all call (same_calls call (first ∷ call ∷ []) body (second_of first call []) is.3))
looked lock said body entries outcome all free is = absurd is

pub faultless_looks : FaultlessLooks
faultless_looks words outcome entries valid run free = go run.made
  where
    go : IsMade words outcome run.said run.body → Tells outcome
    go (Unasked is) = subst Tells (sym (for_memory Boothd words verbs.Status outcome run.said run.body valid is)) tt
    go (Served asked asks is) = let named = valid.named in let other = asks.asks.named in cc
    go (Summed asked asks is) = let named = valid.named in let other = asks.asks.named in cc
    go (Reviewed asked asks is) = let named = valid.named in let other = asks.asks.named in cc
    go (Looked lock asks is) =
        looked lock run.said run.body entries outcome (λ x here. among x run.body run.last entries here run.whole) free is
