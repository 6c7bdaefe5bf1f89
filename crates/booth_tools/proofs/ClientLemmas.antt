-- A client's calls from their parts.
use Rattle.std.specs.Prelude.{Option, Some, None, Result, Ok, Err, MatchBool, codes}
use Rattle.std.specs.List.{find, list_any}
use Rattle.std.proofs.Common.{◌≡◌, ◌∙◌, ◌++◌, ℕ, Bool, true, false, List, [], ◌∷◌, append-nil, refl, sym, ap, subst, inl, inr}
use Rattle.booth_keys.specs.declared.ring.Ring.{Ring}
use Rattle.booth_base.specs.declared.address.Peer.{Peer}
use Rattle.booth_conf.specs.Config.{ConfigSays, file_fault, is_site}
use Rattle.booth_conf.specs.declared.members.Member.{Member}
use Rattle.booth_conf.specs.declared.tickets.TicketConf.{TicketConf}
use Rattle.booth_host.specs.declared.host.Failed.{Failed}
use Rattle.booth_host.specs.declared.entry.Entry.{Entry}
use Rattle.booth_host.specs.declared.entry.Entry.TheVariants.{Open, Now, ReadFile}
use Rattle.booth_host.specs.Past.{GrewBy, GrewSome}
use Rattle.booth_host.proofs.PastLemmas.{no_entry, one_more, some_joined, some_of, some_weaker, then_some}
use Rattle.booth_talk.specs.declared.order.Asking.{Asking}
use Rattle.booth_talk.specs.declared.wait.Waited.{Waited}
use Rattle.booth_talk.specs.declared.list_wait.Listed.{Listed}
use Rattle.booth_talk.specs.Asking.{is_list}
use Rattle.booth_talk.specs.Listing.{IsListTalk}
use Rattle.booth_talk.specs.Talk.{IsTalk}
use Rattle.booth_outcomes.specs.declared.outcome.Ended.{Ended}
use Rattle.booth_outcomes.specs.declared.outcome.Outcome.{Outcome}
use Rattle.booth_outcomes.specs.declared.outcome.Outcome.TheVariants as outs
use Rattle.booth_cli.specs.declared.asking.ClientWords.{ClientWords}
use Rattle.booth_tools.specs.declared.client.Cluster.{Cluster}
use Rattle.booth_outcomes.specs.Configuration.{IsConfigRead, IsUnreadOutcome}
use Rattle.booth_outcomes.specs.Keys.{IsRingRead, HasRing, IsKeylessOutcome, key_calls}
use Rattle.booth_tools.specs.Client.{IsClusterRead, IsKeyed, IsListTold, IsTalkTold, IsTold, IsClientLog, EndsWith, ListEndsWith, Follows, Conversing, Socketless, destination}
use Rattle.booth_tools.specs.Client.{Unread, Unkeyed, Asked}
use Rattle.booth_tools.specs.ClientRun.{FitsClientWords, IsAnswered, IsClientMade, IsClientRun, Talked, Unasked}
use Rattle.booth_cli.specs.declared.page.Page.{Page}
use Rattle.booth_cli.specs.Asking.{Asks, AsksAbout, AsksClient, IsClient, IsUntaken, IsUntakenFor}
use Rattle.booth_outcomes.specs.Unasked.{IsTold as IsTold_, IsToldOutcome, IsUnasked, OfCommand, OfProgram}
use Rattle.booth_outcomes.specs.Pages.{IsPageOutcome, IsPageTold}
use Rattle.booth_outcomes.specs.Texts.{IsText, out_of_memory_text}
use Rattle.booth_cli.specs.declared.asking.Asked.TheVariants.{Client}
use Rattle.booth_cli.specs.declared.program.Program.{Program}
use Rattle.booth_cli.specs.declared.program.Program.TheVariants.{Boothd, BoothFollow}
use Rattle.clap.specs.declared.error.kind.ErrorKind.{ErrorKind}
use Rattle.booth_outcomes.proofs.UsageLemmas.{about_of, no_memory, unasked_of}
use Rattle.booth_cli.proofs.AskingLemmas.{taken_named, untaken_named, untaken_of}
use Rattle.clap.specs.declared.error.Error.{Error}
use Rattle.booth_cli.specs.declared.asking.Refusal.{Refusal}
use Rattle.booth_cli.specs.declared.asking.Refusal.TheVariants.{About, Untaken}

-- ---- outcomes

pub unread_answered : (outcome : Outcome) → IsUnreadOutcome outcome → IsAnswered outcome
unread_answered outs.ConfUnread unread = tt
unread_answered (outs.ConfBad fault) unread = tt
unread_answered outs.OutOfMemory unread = tt
unread_answered outcome unread = absurd unread

pub keyless_answered : (outcome : Outcome) → IsKeylessOutcome outcome → IsAnswered outcome
keyless_answered outs.KeyUnread keyless = tt
keyless_answered (outs.KeyBad fault) keyless = tt
keyless_answered outs.OutOfMemory keyless = tt
keyless_answered outcome keyless = absurd keyless

-- ---- the first site

step_true : (m : Member) (members : List Member) → is_site m ≡ true → find is_site (m ∷ members) ≡ None → ⊥
step_true m members is none = let here : find is_site (m ∷ members) ≡ Some m = rw is refl in cc

is_some_site : (members : List Member) → list_any is_site members ≡ true → find is_site members ≡ None → ⊥
is_some_site [] some none = absurd cc
is_some_site (m ∷ members) some none = go (is_site m) refl (is_some_site members)
  where
    go : (b : Bool) → is_site m ≡ b → (list_any is_site members ≡ true → find is_site members ≡ None → ⊥) → ⊥
    go true is others = step_true m members is none
    go false is others =
        let rest : find is_site (m ∷ members) ≡ find is_site members = rw is refl in
        let later : list_any is_site (m ∷ members) ≡ list_any is_site members = rw is refl in
        others (sym later ∙ some) (sym rest ∙ none)

pub has_site : (members : List Member) (tickets : List TicketConf) → file_fault members tickets ≡ None → find is_site members ≡ None → ⊥
has_site members tickets whole none = go (list_any is_site members) refl
  where
    go : (b : Bool) → list_any is_site members ≡ b → ⊥
    go true is = is_some_site members is none
    go false is = let bad = rw is at whole in absurd cc

-- ---- configuration and key

pub keyed : (config : ConfigSays) (cluster : Cluster) {a b : Option (List Entry)} → cluster.config ≡ config →
    GrewSome (IsRingRead config (Ok cluster.ring)) a b → GrewSome (IsKeyed config (Ok cluster)) a b
keyed config cluster same read =
    some_weaker (IsRingRead config (Ok cluster.ring)) (IsKeyed config (Ok cluster)) (λ es h. (same, h.0, h.1, h.2)) read

cluster_of : (path : List ℕ) (config : ConfigSays) (result : Result Cluster Ended) (xs ys : List Entry) → IsConfigRead path (Ok config) xs →
    IsKeyed config result ys → IsClusterRead path result (xs ++ ys)
cluster_of path config (Ok cluster) xs ys h k = (
  record {
    text = h.0;
    says = subst (λ c. Rattle.booth_conf.specs.Says.Says h.0 c) (sym k.0) h.1;
    key_texts = k.1;
    holds = subst (λ (c : ConfigSays). HasRing c k.1 cluster.ring) (sym k.0) k.2;
  },
  ap (λ zs. zs ++ ys) h.2 ∙ ap (λ zs. ReadFile path (Ok h.0) ∷ zs) k.3
      ∙ ap (λ (c : ConfigSays). ReadFile path (Ok h.0) ∷ key_calls c k.1) (sym k.0),
)
cluster_of path config (Err ended) xs ys h k =
    inr (record { text = h.0; config = config; says = h.1; rest = ys; whole = ap (λ zs. zs ++ ys) h.2; here = k })

pub read_both : (path : List ℕ) (config : ConfigSays) (result : Result Cluster Ended) {a b c : Option (List Entry)} →
    GrewSome (IsConfigRead path (Ok config)) a b → GrewSome (IsKeyed config result) b c → GrewSome (IsClusterRead path result) a c
read_both path config result read ring =
    some_joined (IsConfigRead path (Ok config)) (IsKeyed config result) (IsClusterRead path result) (λ xs ys h k. cluster_of path config result xs ys h k) read ring

pub not_read : (path : List ℕ) (ended : Ended) {a b : Option (List Entry)} → GrewSome (IsConfigRead path (Err ended)) a b →
    GrewSome (IsClusterRead path (Err ended)) a b
not_read path ended read = some_weaker (IsConfigRead path (Err ended)) (IsClusterRead path (Err ended)) (λ es h. inl h) read

-- ---- the talk

pub told : (asking : Asking) (to : Peer) (start : ℕ) (last : Result Waited Failed) (bytes held : List ℕ) (outcome : Outcome) (said : List ℕ) {a b c : Option (List Entry)} →
    held ≡ bytes → GrewSome (IsTalk asking to start last bytes) a b → GrewSome (EndsWith asking last held outcome said) b c →
    GrewSome (IsTalkTold asking to start outcome said) a c
told asking to start last bytes held outcome said same talk end =
    some_joined (IsTalk asking to start last bytes) (EndsWith asking last held outcome said) (IsTalkTold asking to start outcome said)
    (λ xs ys h k. record {
      last = last;
      bytes = bytes;
      early = xs;
      late = ys;
      whole = refl;
      talk = h;
      end = subst (λ b. EndsWith asking last b outcome said ys) same k;
    }) talk end

pub untold : (asking : Asking) (to : Peer) (start : ℕ) (failed : Failed) (bytes said : List ℕ) {a b : Option (List Entry)} → said ≡ codes "cannot send" →
    GrewSome (IsTalk asking to start (Err failed) bytes) a b → GrewSome (IsTalkTold asking to start outs.SendFault said) a b
untold asking to start failed bytes said is talk =
    some_weaker (IsTalk asking to start (Err failed) bytes) (IsTalkTold asking to start outs.SendFault said)
    (λ xs h. record {
      last = Err failed;
      bytes = bytes;
      early = xs;
      late = [];
      whole = sym (append-nil xs);
      talk = h;
      end = record { is = refl; told = is; none = refl };
    }) talk

-- ---- a list

pub list_told : (asking : Asking) (to : Peer) (start : ℕ) (last : Result Listed Failed) (text : List ℕ) (outcome : Outcome) (said : List ℕ) {a b c : Option (List Entry)} →
    GrewSome (IsListTalk asking to start last text) a b → GrewSome (ListEndsWith last text outcome said) b c →
    GrewSome (IsListTold asking to start outcome said) a c
list_told asking to start last text outcome said talk end =
    some_joined (IsListTalk asking to start last text) (ListEndsWith last text outcome said) (IsListTold asking to start outcome said)
    (λ xs ys h k. record { last = last; text = text; early = xs; late = ys; whole = refl; talk = h; end = k }) talk end

pub list_untold : (asking : Asking) (to : Peer) (start : ℕ) (failed : Failed) (text said : List ℕ) {a b : Option (List Entry)} → said ≡ codes "cannot send" →
    GrewSome (IsListTalk asking to start (Err failed) text) a b → GrewSome (IsListTold asking to start outs.SendFault said) a b
list_untold asking to start failed text said is talk =
    some_weaker (IsListTalk asking to start (Err failed) text) (IsListTold asking to start outs.SendFault said)
    (λ xs h. record {
      last = Err failed;
      text = text;
      early = xs;
      late = [];
      whole = sym (append-nil xs);
      talk = h;
      end = record { is = refl; told = is; none = refl };
    }) talk

-- ---- either

module _ (asking : Asking) (to : Peer) (start : ℕ) (outcome : Outcome) (said : List ℕ) where
  abbrev Told : Bool → List Entry → Type 0
  Told list entries = MatchBool list (IsListTold asking to start outcome said entries) (IsTalkTold asking to start outcome said entries)

  pub told_list : {a b : Option (List Entry)} → is_list asking.order ≡ true → GrewSome (IsListTold asking to start outcome said) a b →
      GrewSome (IsTold asking to start outcome said) a b
  told_list is told = some_weaker (IsListTold asking to start outcome said) (IsTold asking to start outcome said) (λ es h. subst (λ l. Told l es) (sym is) h) told

  pub told_talk : {a b : Option (List Entry)} → is_list asking.order ≡ false → GrewSome (IsTalkTold asking to start outcome said) a b →
      GrewSome (IsTold asking to start outcome said) a b
  told_talk is told = some_weaker (IsTalkTold asking to start outcome said) (IsTold asking to start outcome said) (λ es h. subst (λ l. Told l es) (sym is) h) told

-- ---- the socket and the clock

module _ (asked : ClientWords) (config : ConfigSays) (ring : Option Ring) where
  pub no_room : (ended : Ended) {a : Option (List Entry)} → ended.outcome ≡ outs.OutOfMemory → ended.said ≡ out_of_memory_text →
      GrewSome (Follows asked config ring ended.outcome ended.said) a a
  no_room ended out is =
      some_of (Follows asked config ring ended.outcome ended.said) no_entry
      (subst (λ outcome. Follows asked config ring outcome ended.said []) (sym out) (Socketless (is, refl)))

  pub conversed : (to : Peer) (start : ℕ) (outcome : Outcome) (said : List ℕ) {a b c d : Option (List Entry)} → destination asked.site config ≡ Some to →
      GrewBy a b (Open None 0 [] [] (Ok tt) ∷ []) → GrewBy b c (Now start ∷ []) →
      GrewSome (IsTold (record { order = asked.order; config = config; ring = ring }) to start outcome said) c d → GrewSome (Follows asked config ring outcome said) a d
  conversed to start outcome said named socket clock rest =
      then_some (IsTold (record { order = asked.order; config = config; ring = ring }) to start outcome said) (Follows asked config ring outcome said)
      (one_more socket clock)
      (λ ys h. Conversing (record { to = to; named = named; start = start; rest = ys; whole = refl; told = h })) rest

-- ---- the whole

pub asked_all : (asked : ClientWords) (cluster : Cluster) (outcome : Outcome) (said : List ℕ) {a b c : Option (List Entry)} →
    GrewSome (IsClusterRead asked.conf (Ok cluster)) a b → GrewSome (Follows asked cluster.config cluster.ring outcome said) b c →
    GrewSome (IsClientLog asked outcome said) a c
asked_all asked cluster outcome said read follows =
    some_joined (IsClusterRead asked.conf (Ok cluster)) (Follows asked cluster.config cluster.ring outcome said) (IsClientLog asked outcome said)
    (λ xs ys h k. Asked (record {
      config = cluster.config;
      ring = cluster.ring;
      cluster = h.0;
      rest = ys;
      whole = ap (λ zs. zs ++ ys) h.1;
      here = k;
    })) read follows

pub not_asked : (asked : ClientWords) (ended : Ended) {a b : Option (List Entry)} → GrewSome (IsClusterRead asked.conf (Err ended)) a b →
    GrewSome (IsClientLog asked ended.outcome ended.said) a b
not_asked asked ended read = some_weaker (IsClusterRead asked.conf (Err ended)) (IsClientLog asked ended.outcome ended.said) (λ es h. go es h) read
  where
    go : (es : List Entry) → IsClusterRead asked.conf (Err ended) es → IsClientLog asked ended.outcome ended.said es
    go es (inl un) = Unread un
    go es (inr un) = Unkeyed un

-- ---- the words

pub talked_made : {a b : Option (List Entry)} (program : Program) (words : List (List ℕ)) (asked : ClientWords) (outcome : Outcome) (said : List ℕ) → AsksClient program words asked →
    GrewSome (IsClientLog asked outcome said) a b → GrewSome (IsClientMade program words outcome said) a b
talked_made program words asked outcome said asks log =
    some_weaker (IsClientLog asked outcome said) (IsClientMade program words outcome said) (λ es is. Talked asked asks is) log

pub told_client : {a b : Option (List Entry)} (program : Program) (words : List (List ℕ)) (kind : ErrorKind) (outcome : Outcome) (said : List ℕ) →
    IsUntakenFor program words kind → IsToldOutcome kind outcome → GrewSome (IsTold_ program kind outcome said) a b → GrewSome (IsClientMade program words outcome said) a b
told_client program words kind outcome said un out told =
    some_weaker (IsTold_ program kind outcome said) (IsClientMade program words outcome said) (λ es is. Unasked (unasked_of program words kind outcome said es un out is)) told

-- the same of a refusal that is such an error
pub told_asked : {a b : Option (List Entry)} (program : Program) (words : List (List ℕ)) (error : Error) (refusal : Refusal) (outcome : Outcome) (said : List ℕ) →
    Asks program words (Err refusal) → refusal ≡ Untaken error → IsToldOutcome error.kind outcome → GrewSome (IsTold_ program error.kind outcome said) a b →
    GrewSome (IsClientMade program words outcome said) a b
told_asked program words error refusal outcome said asks same out told =
    told_client program words error.kind outcome said (subst (λ (x : Refusal). Asks program words (Err x)) same asks) out told

pub unasked_client : {a : Option (List Entry)} (program : Program) (words : List (List ℕ)) (outcome : Outcome) (said : List ℕ) → IsUnasked program words outcome said [] →
    GrewSome (IsClientMade program words outcome said) a a
unasked_client program words outcome said is = some_of (IsClientMade program words outcome said) no_entry (Unasked is)

-- a text about the program that was asked for
pub about_asked : {a b : Option (List Entry)} (program : Program) (words : List (List ℕ)) (page : Page) (refusal : Refusal) (outcome : Outcome) (said : List ℕ) →
    Asks program words (Err refusal) → refusal ≡ About page → GrewSome (IsPageTold program page outcome said) a b → GrewSome (IsClientMade program words outcome said) a b
about_asked program words page refusal outcome said asks same told =
    some_weaker (IsPageTold program page outcome said) (IsClientMade program words outcome said)
    (λ es is. Unasked (about_of program words page outcome said es (subst (λ (x : Refusal). Asks program words (Err x)) same asks) is)) told

pub fits_about : (program : Program) (words : List (List ℕ)) (page : Page) (refusal : Refusal) (outcome : Outcome) →
    Asks program words (Err refusal) → refusal ≡ About page → IsPageOutcome page outcome → FitsClientWords program words outcome
fits_about program words page refusal outcome asks same is = go outcome is
  where
    about : AsksAbout program words page
    about = subst (λ (x : Refusal). Asks program words (Err x)) same asks

    go : (outcome : Outcome) → IsPageOutcome page outcome → FitsClientWords program words outcome
    go (outs.Shown told) is = subst (λ (p : Page). AsksAbout program words p) (sym is) about
    go outs.PrintFault is = inr (OfProgram page about)
    go outcome is = absurd is

pub fits_untaken : (program : Program) (words : List (List ℕ)) (kind : ErrorKind) (outcome : Outcome) → IsUntakenFor program words kind → IsToldOutcome kind outcome →
    FitsClientWords program words outcome
fits_untaken program words kind (outs.Usage (Some told)) un out = subst (λ k. IsUntaken program words k) (sym out.0) (untaken_of program words kind out.1 un)
fits_untaken program words kind outs.PrintFault un out =
    inr (OfCommand kind (untaken_of program words kind (no_memory kind out) un) out)
fits_untaken program words kind outs.OutOfMemory un out = untaken_named program words kind un
fits_untaken program words kind outcome un out = absurd out

-- the same of a refusal that is such an error
pub fits_asked : (program : Program) (words : List (List ℕ)) (error : Error) (refusal : Refusal) (outcome : Outcome) →
    Asks program words (Err refusal) → refusal ≡ Untaken error → IsToldOutcome error.kind outcome → FitsClientWords program words outcome
fits_asked program words error refusal outcome asks same out =
    fits_untaken program words error.kind outcome (subst (λ (x : Refusal). Asks program words (Err x)) same asks) out

pub asks_client : (program : Program) (words : List (List ℕ)) (asked : ClientWords) (all : Rattle.booth_cli.specs.declared.asking.Asked.Asked) → Asks program words (Ok all) →
    all ≡ Client asked → AsksClient program words asked
asks_client program words asked all asks same =
    let is : Asks program words (Ok (Client asked)) = subst (λ x. Asks program words (Ok x)) same asks in is.1

pub fits_answered : (program : Program) (words : List (List ℕ)) (asked : ClientWords) (outcome : Outcome) → AsksClient program words asked → IsAnswered outcome → FitsClientWords program words outcome
fits_answered program words asked (outs.Usage kind) asks is = absurd is
fits_answered program words asked (outs.Shown page) asks is = absurd is
fits_answered program words asked (outs.BadWord word) asks is = absurd is
fits_answered program words asked outs.PrintFault asks is = inl (inl (record { asked = asked; asks = asks }))
fits_answered program words asked outs.OutOfMemory asks is = taken_named program words asks.verb asks.all asks.asks
fits_answered program words asked outs.NotSite asks is = absurd is
fits_answered program words asked (outs.Stranded result) asks is = absurd is
fits_answered program words asked outcome asks is = (inl (record { asked = asked; asks = asks }), is)

-- the calls up to the outcome, and then what is said
pub client_run_of : {a b c : Option (List Entry)} (program : Program) (words : List (List ℕ)) (outcome : Outcome) (said : List ℕ) →
    GrewSome (IsClientMade program words outcome said) a b → GrewSome (IsText program said) b c → GrewSome (IsClientRun program words outcome) a c
client_run_of program words outcome said body last =
    some_joined (IsClientMade program words outcome said) (IsText program said) (IsClientRun program words outcome)
    (λ xs ys made told. record { said = said; body = xs; last = ys; whole = refl; made = made; told = told }) body last

-- a client's words ask for no daemon, and for no look at a lock
pub no_daemon_asked : (program : Program) → IsClient program → program ≡ Boothd → ⊥
no_daemon_asked program client is = subst IsClient is client

-- and for no service that follows its ticket
pub no_follow_asked : (program : Program) → IsClient program → program ≡ BoothFollow → ⊥
no_follow_asked program client is = subst IsClient is client
