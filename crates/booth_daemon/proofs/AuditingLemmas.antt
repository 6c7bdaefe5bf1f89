-- An audit from its parts.
use Rattle.std.specs.Prelude.{Option, Result, Ok, Err, IfErr, MatchResult}
use Rattle.std.specs.List.{zip}
use Rattle.std.proofs.Common.{◌≡◌, ◌∙◌, ◌<◌, ◌+◌, ℕ, suc, List, [], ◌∷◌, ◌++◌, length, map, take, drop, get_or}
use Rattle.std.proofs.Common.{refl, sym, ap, subst, arith, inr}
use Rattle.std.proofs.lemmas.List.{length-append, take_more}
use Rattle.booth_conf.specs.Config.{ConfigSays}
use Rattle.booth_keys.specs.declared.ring.Ring.{Ring}
use Rattle.booth_host.specs.declared.entry.Entry.{Entry}
use Rattle.booth_host.specs.declared.entry.Entry.TheVariants.{ReadFile}
use Rattle.booth_host.specs.Past.{GrewSome}
use Rattle.booth_host.proofs.PastLemmas.{no_entry, some_of, some_joined, some_weaker}
use Rattle.booth_audit.specs.Audit.{AuditSays, HasFault, IsAudited}
use Rattle.booth_journal.specs.declared.audit_fault.AuditFault.{AuditFault}
use Rattle.booth_cli.specs.declared.asking.AuditWords.{AuditWords}
use Rattle.booth_outcomes.specs.declared.outcome.Ended.{Ended}
use Rattle.booth_outcomes.specs.declared.outcome.Outcome.{Outcome}
use Rattle.booth_outcomes.specs.declared.outcome.Outcome.TheVariants.{AuditBad, ConfBad, ConfUnread, Done, JournalUnread, KeyBad, KeyUnread}
use Rattle.booth_outcomes.specs.declared.outcome.Outcome.TheVariants.{OutOfMemory, PrintFault}
use Rattle.booth_outcomes.specs.Configuration.{IsConfigRead, IsUnreadOutcome}
use Rattle.booth_outcomes.specs.Keys.{IsKeylessOutcome, IsRingRead}
use Rattle.booth_outcomes.proofs.EndedLemmas.{ErrIs, err_has}
use Rattle.booth_daemon.specs.declared.auditing.Files.{Files}
use Rattle.booth_daemon.specs.Auditing.{AreFilesRead, AreJournals, AreAllRead, AreJournalsUnread, Audited, IsAuditEnd, IsAuditOutcome, IsAuditing, IsJournalRead}
use Rattle.booth_daemon.specs.Auditing.{IsJournalUnread, IsKeyed, IsPrinted, IsBadEnd, Unkeyed, Unread, Wanting, journal_call}
use Rattle.booth_daemon.proofs.RecordLemmas.{cut_at}

-- ---- the journals, one after the other

calls_more : (paths texts : List (List ℕ)) (path text : List ℕ) → length texts ≡ length paths →
    map journal_call (zip (paths ++ path ∷ []) (texts ++ text ∷ [])) ≡ map journal_call (zip paths texts) ++ ReadFile path (Ok text) ∷ []
calls_more [] [] path text same = refl
calls_more [] (t ∷ texts) path text same = absurd (omega (arith, same))
calls_more (p ∷ paths) [] path text same = absurd (omega (arith, same))
calls_more (p ∷ paths) (t ∷ texts) path text same =
    ap (λ es. journal_call (p, t) ∷ es) (calls_more paths texts path text (omega (arith, same)))

-- one more journal
journal_last : (paths texts : List (List ℕ)) (path text : List ℕ) (xs ys : List Entry) → AreJournals paths texts xs → ys ≡ ReadFile path (Ok text) ∷ [] →
    AreJournals (paths ++ path ∷ []) (texts ++ text ∷ []) (xs ++ ys)
journal_last paths texts path text xs ys read call = record {
  each = simp length-append (ap (λ n. n + 1) read.each);
  calls = ap (λ es. es ++ ys) read.calls ∙ ap (λ es. map journal_call (zip paths texts) ++ es) call
      ∙ sym (calls_more paths texts path text read.each);
}

module _ (paths : List (List ℕ)) (i : ℕ) (path : List ℕ) (below : i < length paths) (is : path ≡ get_or paths i path)
    (texts : List (List ℕ)) where
  -- the journal at this place, behind those before it
  pub journals_more : {a b c : Option (List Entry)} (text : List ℕ) (more : List (List ℕ)) → more ≡ texts ++ text ∷ [] →
      GrewSome (AreJournals (take i paths) texts) a b → GrewSome (IsJournalRead path (Ok text)) b c → GrewSome (AreJournals (take (i + 1) paths) more) a c
  journals_more text more longer early one =
      some_joined (AreJournals (take i paths) texts) (IsJournalRead path (Ok text)) (AreJournals (take (i + 1) paths) more)
      (λ xs ys read call.
      let last : AreJournals (take i paths ++ path ∷ []) (texts ++ text ∷ []) (xs ++ ys) = journal_last (take i paths) texts path text xs ys read call in
      let here : take (i + 1) paths ≡ take i paths ++ path ∷ [] = take_more paths i path below ∙ ap (λ p. take i paths ++ p ∷ []) (sym is) in
      subst (λ ts. AreJournals (take (i + 1) paths) ts (xs ++ ys)) (sym longer)
      (subst (λ ps. AreJournals ps (texts ++ text ∷ []) (xs ++ ys)) (sym here) last)) early one

  unread_behind : (outcome : Outcome) (said : List ℕ) (xs ys : List Entry) → AreJournals (take i paths) texts xs → IsJournalUnread path outcome said ys →
      AreJournalsUnread paths outcome said (xs ++ ys)
  unread_behind JournalUnread said xs ys read not = (
    path,
    not.0,
    record {
      before = take i paths;
      after = drop (suc i) paths;
      order = cut_at paths i path below is;
      texts = texts;
      early = xs;
      read = read;
      whole = ap (λ es. xs ++ es) not.1;
    },
  )
  unread_behind OutOfMemory said xs ys read not = (
    not.0,
    inr (
      path,
      record {
        before = take i paths;
        after = drop (suc i) paths;
        order = cut_at paths i path below is;
        texts = texts;
        early = xs;
        read = read;
        whole = ap (λ es. xs ++ es) not.1;
      },
    ),
  )
  unread_behind outcome said xs ys read not = absurd not

  -- the journal at this place was not read
  pub journal_unread : {a b c : Option (List Entry)} {T : Type 0} (P : T → Type 0) (r : Result T Ended) (ended : Ended) → ErrIs r ended →
      GrewSome (AreJournals (take i paths) texts) a b → GrewSome (IsJournalRead path (Err ended)) b c →
      MatchResult r P (λ e. GrewSome (AreJournalsUnread paths e.outcome e.said) a c)
  journal_unread {a} {b} {c} P r ended same early one =
      err_has (λ r. MatchResult r P (λ e. GrewSome (AreJournalsUnread paths e.outcome e.said) a c)) r ended same
      (some_joined (AreJournals (take i paths) texts) (IsJournalRead path (Err ended)) (AreJournalsUnread paths ended.outcome ended.said)
      (λ xs ys read no. unread_behind ended.outcome ended.said xs ys read no) early one)

-- ---- how an audit may end

unread_end : (outcome : Outcome) → IsUnreadOutcome outcome → IsAuditOutcome outcome
unread_end ConfUnread is = tt
unread_end (ConfBad fault) is = tt
unread_end OutOfMemory is = tt
unread_end outcome is = absurd is

keyless_end : (outcome : Outcome) → IsKeylessOutcome outcome → IsAuditOutcome outcome
keyless_end KeyUnread is = tt
keyless_end (KeyBad fault) is = tt
keyless_end OutOfMemory is = tt
keyless_end outcome is = absurd is

pub ends_unread : {T : Type 0} (r : Result T Ended) (ended : Ended) → ErrIs r ended → IsUnreadOutcome ended.outcome → IfErr r (λ e. IsAuditOutcome e.outcome)
ends_unread r ended same is = err_has (λ r. IfErr r (λ e. IsAuditOutcome e.outcome)) r ended same (unread_end ended.outcome is)

pub ends_keyless : {T : Type 0} (r : Result T Ended) (ended : Ended) → ErrIs r ended → IsKeylessOutcome ended.outcome → IfErr r (λ e. IsAuditOutcome e.outcome)
ends_keyless r ended same is = err_has (λ r. IfErr r (λ e. IsAuditOutcome e.outcome)) r ended same (keyless_end ended.outcome is)

-- ---- the files

module _ (asked : AuditWords) where
  pub unread : {a b : Option (List Entry)} (r : Result Files Ended) (ended : Ended) → ErrIs r ended → GrewSome (IsConfigRead asked.conf (Err ended)) a b →
      GrewSome (AreFilesRead asked r) a b
  unread {a} {b} r ended is read =
      err_has (λ r. GrewSome (AreFilesRead asked r) a b) r ended is
      (some_weaker (IsConfigRead asked.conf (Err ended)) (AreFilesRead asked (Err ended)) (λ es u. Unread u) read)

  module _ (config : ConfigSays) where
    pub unkeyed : {a b c : Option (List Entry)} (r : Result Files Ended) (ended : Ended) → ErrIs r ended → GrewSome (IsConfigRead asked.conf (Ok config)) a b →
        GrewSome (IsRingRead config (Err ended)) b c → GrewSome (AreFilesRead asked r) a c
    unkeyed {a} {b} {c} r ended is read keyless =
        err_has (λ r. GrewSome (AreFilesRead asked r) a c) r ended is
        (some_joined (IsConfigRead asked.conf (Ok config)) (IsRingRead config (Err ended)) (AreFilesRead asked (Err ended))
        (λ xs ys h k. Unkeyed (record { text = h.0; config = config; says = h.1; rest = ys; whole = ap (λ zs. zs ++ ys) h.2; here = k })) read keyless)

    module _ (ring : Option Ring) where
      pub keyed : {a b c : Option (List Entry)} → GrewSome (IsConfigRead asked.conf (Ok config)) a b → GrewSome (IsRingRead config (Ok ring)) b c →
          GrewSome (IsKeyed asked.conf config ring) a c
      keyed read keys =
          some_joined (IsConfigRead asked.conf (Ok config)) (IsRingRead config (Ok ring)) (IsKeyed asked.conf config ring)
          (λ xs ys h k. record {
            text = h.0;
            says = h.1;
            key_texts = k.0;
            holds = k.1;
            whole = ap (λ zs. zs ++ ys) h.2 ∙ ap (λ zs. ReadFile asked.conf (Ok h.0) ∷ zs) k.2;
          }) read keys

      pub wanting : {a b c : Option (List Entry)} (r : Result Files Ended) (ended : Ended) → ErrIs r ended → GrewSome (IsKeyed asked.conf config ring) a b →
          GrewSome (AreJournalsUnread asked.journals.items ended.outcome ended.said) b c → GrewSome (AreFilesRead asked r) a c
      wanting {a} {b} {c} r ended is keys journals =
          err_has (λ r. GrewSome (AreFilesRead asked r) a c) r ended is
          (some_joined (IsKeyed asked.conf config ring) (AreJournalsUnread asked.journals.items ended.outcome ended.said) (AreFilesRead asked (Err ended))
          (λ xs ys k j. Wanting (record { config = config; ring = ring; early = xs; keyed = k; rest = ys; whole = refl; here = j })) keys journals)

      pub all_read : {a b c : Option (List Entry)} (texts : List (List ℕ)) → GrewSome (IsKeyed asked.conf config ring) a b →
          GrewSome (AreJournals asked.journals.items texts) b c → GrewSome (AreAllRead asked config ring texts) a c
      all_read texts keys journals =
          some_joined (IsKeyed asked.conf config ring) (AreJournals asked.journals.items texts) (AreAllRead asked config ring texts)
          (λ xs ys k j. record { early = xs; keyed = k; calls = ys; journals = j; whole = refl }) keys journals

      -- ---- the audit

      pub audited : {a b c : Option (List Entry)} (texts : List (List ℕ)) (outcome : Outcome) (said : List ℕ) → GrewSome (AreAllRead asked config ring texts) a b →
          GrewSome (IsAuditEnd config ring asked.journals.items texts outcome said) b c → GrewSome (IsAuditing asked outcome said) a c
      audited texts outcome said read end =
          some_joined (AreAllRead asked config ring texts) (IsAuditEnd config ring asked.journals.items texts outcome said) (IsAuditing asked outcome said)
          (λ xs ys r e. Audited config ring texts xs ys r e refl) read end

module _ (config : ConfigSays) (ring : Option Ring) (paths texts : List (List ℕ)) where
  printed_end : (says : AuditSays) (outcome : Outcome) (said : List ℕ) (es : List Entry) → IsAudited config ring texts says →
      IsPrinted config paths says outcome said es → IsAuditEnd config ring paths texts outcome said es
  printed_end says Done said es true_ is = (is.0, says, true_, is.1)
  printed_end says PrintFault said es true_ is = (is.0, says, true_, is.1, is.2)
  printed_end says OutOfMemory said es true_ is = is
  printed_end says outcome said es true_ is = absurd is

  -- journals that are true, and the print of the report about them
  pub printed : {a b : Option (List Entry)} (says : AuditSays) (outcome : Outcome) (said : List ℕ) → IsAudited config ring texts says →
      GrewSome (IsPrinted config paths says outcome said) a b → GrewSome (IsAuditEnd config ring paths texts outcome said) a b
  printed says outcome said true_ print =
      some_weaker (IsPrinted config paths says outcome said) (IsAuditEnd config ring paths texts outcome said)
      (λ es is. printed_end says outcome said es true_ is) print

  refused_end : (fault : AuditFault) (outcome : Outcome) (said : List ℕ) → HasFault config ring texts fault → IsBadEnd paths fault outcome said →
      IsAuditEnd config ring paths texts outcome said []
  refused_end fault OutOfMemory said has is = (is, refl)
  refused_end fault (AuditBad told) said has is =
      subst (λ f. IsAuditEnd config ring paths texts (AuditBad f) said []) (sym is.0) (is.1, has, is.2, refl)
  refused_end fault outcome said has is = absurd is

  -- journals with a fault
  pub faulty : {a : Option (List Entry)} (fault : AuditFault) (outcome : Outcome) (said : List ℕ) → HasFault config ring texts fault →
      IsBadEnd paths fault outcome said → GrewSome (IsAuditEnd config ring paths texts outcome said) a a
  faulty fault outcome said has is =
      some_of (IsAuditEnd config ring paths texts outcome said) no_entry (refused_end fault outcome said has is)
