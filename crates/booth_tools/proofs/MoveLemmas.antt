-- A move's calls from their parts.
use Rattle.std.specs.Prelude.{Option, Some, None, Result, Ok, Err, IsSomeAnd, IsTrue, MatchBool, MatchOption, codes, position, slice_get, ◌&&◌}
use Rattle.std.proofs.Common.{◌≡◌, ◌∙◌, ◌++◌, ℕ, Bool, true, false, List, [], ◌∷◌, append-nil, get_or, refl, sym, ap, subst, inl, inr}
use Rattle.std.proofs.lemmas.List.Quantifiers.{position-Some}
use Rattle.std.proofs.lemmas.Option.{slice_get-get_or}
use Rattle.booth_keys.specs.declared.ring.Ring.{Ring}
use Rattle.booth_base.specs.declared.address.Address.{Address}
use Rattle.booth_base.specs.declared.address.Peer.{Peer}
use Rattle.booth_conf.specs.Config.{ConfigSays}
use Rattle.booth_conf.specs.Rules.{is_at}
use Rattle.booth_conf.specs.declared.members.Member.{Member}
use Rattle.booth_host.specs.declared.entry.Entry.{Entry}
use Rattle.booth_host.specs.declared.entry.Entry.TheVariants.{Now}
use Rattle.booth_host.specs.Past.{GrewBy, GrewSome}
use Rattle.booth_host.proofs.PastLemmas.{no_entry, some_joined, some_of, some_weaker, then_some}
use Rattle.booth_talk.specs.declared.order.Asking.{Asking}
use Rattle.booth_talk.specs.declared.list_wait.Listed.{Listed}
use Rattle.booth_talk.specs.declared.list_wait.Listed.TheVariants.{Whole, Refused, Over}
use Rattle.booth_talk.specs.Listing.{IsListTalk}
use Rattle.booth_host.specs.declared.host.Failed.{Failed}
use Rattle.booth_move.specs.declared.carrying.Moving.{Moving as Move_}
use Rattle.booth_move.specs.declared.deeds.MoveEnd.{MoveEnd}
use Rattle.booth_move.specs.Carrying.{IsCarried}
use Rattle.booth_cli.specs.declared.asking.Asked.{Asked}
use Rattle.booth_cli.specs.declared.asking.Asked.TheVariants.{Move}
use Rattle.booth_cli.specs.declared.asking.MoveWords.{MoveWords}
use Rattle.booth_cli.specs.declared.command.Verb.TheVariants as verbs
use Rattle.booth_cli.specs.declared.program.Program.{Program}
use Rattle.booth_cli.specs.declared.program.Program.TheVariants.{Booth}
use Rattle.booth_cli.specs.Asking.{Asks, AsksMove, NamesCommand}
use Rattle.booth_cli.proofs.AskingLemmas.{taken_named}
use Rattle.booth_outcomes.specs.declared.outcome.Ended.{Ended}
use Rattle.booth_outcomes.specs.declared.outcome.Outcome.{Outcome}
use Rattle.booth_outcomes.specs.declared.outcome.Outcome.TheVariants as outs
use Rattle.booth_outcomes.specs.Configuration.{IsConfigRead, IsUnreadOutcome}
use Rattle.booth_outcomes.specs.Texts.{not_site_text, out_of_memory_text}
use Rattle.booth_tools.specs.declared.client.Cluster.{Cluster}
use Rattle.booth_tools.specs.Client.{IsKeyed, IsPlainEnd, destination}
use Rattle.booth_tools.specs.ClientRun.{FitsClientWords, IsAnswered, IsClientMade, IsMoveAnswered, Moved}
use Rattle.booth_tools.specs.MoveLook.{IsElsewhere, IsHeldIn, IsJudged, IsLook, IsSettled, IsShown, held_text, listing, target_peer}
use Rattle.booth_tools.specs.MoveRun.{FollowsConfig, FollowsKey, FollowsSite, IsMoveLog, IsMoveTold, IsMoving, MoveEndsWith, is_site_at, moving_of, opened, site_at}
use Rattle.booth_tools.specs.MoveRun.{Keyed, Keyless, LookedUp, Read, Socketless, Started, Unread}

-- ---- outcomes

pub answered_moved : (outcome : Outcome) → IsAnswered outcome → IsMoveAnswered outcome
answered_moved outs.NotSite is = tt
answered_moved (outs.Stranded result) is = tt
answered_moved outcome is = is

pub unread_moved : (outcome : Outcome) → IsUnreadOutcome outcome → IsMoveAnswered outcome
unread_moved outs.ConfUnread unread = tt
unread_moved (outs.ConfBad fault) unread = tt
unread_moved outs.OutOfMemory unread = tt
unread_moved outcome unread = absurd unread

-- ---- the site that is to have the ticket

left_true : (a b : Bool) → a && b ≡ true → IsTrue a
left_true true b both = refl
left_true false b both = absurd cc

-- the place of a site with an address is that of a site
pub is_there : (address : Address) (config : ConfigSays) (i : ℕ) → site_at address config ≡ Some i →
    IsSomeAnd (slice_get config.members i) (λ m. IsTrue m.site)
is_there address config i there = go config.members there
  where
    go : (ms : List Member) → position (is_site_at address) ms ≡ Some i → IsSomeAnd (slice_get ms i) (λ m. IsTrue m.site)
    go [] is = absurd cc
    go (m ∷ ms) is =
        let found = position-Some (is_site_at address) (m ∷ ms) i m is in
        subst (λ (o : Option Member). IsSomeAnd o (λ m. IsTrue m.site)) (sym (slice_get-get_or (m ∷ ms) i m found.0))
        (let x : Member = get_or (m ∷ ms) i m in left_true x.site (is_at address x) found.1)

-- ---- how a move ends

module _ (asked : MoveWords) (moving : Move_) (start : ℕ) where
  pub move_told : (end : MoveEnd) (outcome : Outcome) (said : List ℕ) {a b c : Option (List Entry)} → GrewSome (IsCarried moving start (Ok end)) a b →
      GrewSome (MoveEndsWith asked (Ok end) outcome said) b c → GrewSome (IsMoveTold asked moving start outcome said) a c
  move_told end outcome said carried told =
      some_joined (IsCarried moving start (Ok end)) (MoveEndsWith asked (Ok end) outcome said) (IsMoveTold asked moving start outcome said)
      (λ xs ys h k. record { end = Ok end; early = xs; late = ys; whole = refl; carried = h; told = k }) carried told

  pub move_untold : (failed : Failed) (said : List ℕ) {a b : Option (List Entry)} → said ≡ codes "cannot send" →
      GrewSome (IsCarried moving start (Err failed)) a b → GrewSome (IsMoveTold asked moving start outs.SendFault said) a b
  move_untold failed said is carried =
      some_weaker (IsCarried moving start (Err failed)) (IsMoveTold asked moving start outs.SendFault said)
      (λ xs h. record {
        end = Err failed;
        early = xs;
        late = [];
        whole = sym (append-nil xs);
        carried = h;
        told = record { is = refl; told = is; none = refl };
      }) carried

-- ---- one part after another

abbrev Then : (P Q : List Entry → Type 0) → List Entry → Type 0
Then P Q entries = (xs : List Entry) × (ys : List Entry) × (entries ≡ xs ++ ys) × P xs × Q ys

both : (P Q : List Entry → Type 0) {a b c : Option (List Entry)} → GrewSome P a b → GrewSome Q b c → GrewSome (Then P Q) a c
both P Q first second = some_joined P Q (Then P Q) (λ xs ys h k. (xs, ys, refl, h, k)) first second

-- ---- the socket and the clock

-- a move of the ticket with this name
abbrev pub named_so : MoveWords → ConfigSays → Option Ring → ℕ → Peer → List ℕ → Move_
named_so asked config ring target to ticket = record (moving_of asked config ring target to) { ticket = ticket }

module _ (asked : MoveWords) (config : ConfigSays) (ring : Option Ring) (target : ℕ) where
  pub no_move_room : (ended : Ended) {a : Option (List Entry)} → ended.outcome ≡ outs.OutOfMemory → ended.said ≡ out_of_memory_text →
      GrewSome (FollowsKey asked config ring target ended.outcome ended.said) a a
  no_move_room ended out is =
      some_of (FollowsKey asked config ring target ended.outcome ended.said) no_entry
      (subst (λ outcome. FollowsKey asked config ring target outcome ended.said []) (sym out) (Socketless (is, refl)))

  -- what follows the look, of a move whose ticket has the name that was copied
  pub move_begun : (to : Peer) (start : ℕ) (ticket : List ℕ) (outcome : Outcome) (said : List ℕ) {b c d : Option (List Entry)} →
      destination asked.site config ≡ Some to → ticket ≡ asked.ticket → GrewBy b c (Now start ∷ []) →
      GrewSome (IsMoveTold asked (named_so asked config ring target to ticket) start outcome said) c d → GrewSome (IsMoving asked config ring target outcome said) b d
  move_begun to start ticket outcome said {b} {c} {d} named same clock rest =
      let so : GrewSome (IsMoveTold asked (moving_of asked config ring target to) start outcome said) c d =
      subst (λ (t : List ℕ). GrewSome (IsMoveTold asked (named_so asked config ring target to t) start outcome said) c d) same rest in
      then_some (IsMoveTold asked (moving_of asked config ring target to) start outcome said) (IsMoving asked config ring target outcome said) clock
      (λ ys h. record { to = to; named = named; start = start; rest = ys; whole = refl; told = h }) so

  pub looked_up : (outcome : Outcome) (said : List ℕ) {a b c : Option (List Entry)} → GrewBy a b (opened ∷ []) →
      GrewSome (IsSettled asked (listing config ring) outcome said) b c → GrewSome (FollowsKey asked config ring target outcome said) a c
  looked_up outcome said socket settled =
      then_some (IsSettled asked (listing config ring) outcome said) (FollowsKey asked config ring target outcome said) socket
      (λ ys h. LookedUp (record { rest = ys; whole = refl; here = h })) settled

  pub moved_on : (outcome : Outcome) (said : List ℕ) {a b c d : Option (List Entry)} → GrewBy a b (opened ∷ []) →
      GrewSome (IsElsewhere asked (listing config ring)) b c → GrewSome (IsMoving asked config ring target outcome said) c d →
      GrewSome (FollowsKey asked config ring target outcome said) a d
  moved_on outcome said socket elsewhere moving =
      then_some (Then (IsElsewhere asked (listing config ring)) (IsMoving asked config ring target outcome said)) (FollowsKey asked config ring target outcome said) socket
      (λ ys h. Started (record { look = h.0; rest = h.1; whole = ap (λ zs. opened ∷ zs) h.2; elsewhere = h.3; here = h.4 }))
      (both (IsElsewhere asked (listing config ring)) (IsMoving asked config ring target outcome said) elsewhere moving)

-- ---- the look

module _ (asked : MoveWords) (asking : Asking) (to : Peer) (named : to ≡ target_peer asked asking.config) (start : ℕ) where
  abbrev Comes : Result Listed Failed → List ℕ → List Entry → Type 0
  Comes last text entries = IsListTalk asking to start last text entries

  look_of : (how : Option Ended) (listed : Listed) (text : List ℕ) (zs early late : List Entry) → zs ≡ early ++ late →
      Comes (Ok listed) text early → IsJudged asked listed text how late → IsLook asked asking how (Now start ∷ zs)
  look_of (Some ended) listed text zs early late same talk end =
      record { to = to; named = named; start = start; last = Ok listed; text = text; early = early; late = late; whole = ap (λ ys. Now start ∷ ys) same; talk = talk; end = end }
  look_of None Whole text zs early late same talk end =
      record {
        to = to;
        named = named;
        start = start;
        text = text;
        early = early;
        whole = ap (λ ys. Now start ∷ ys) (same ∙ ap (λ ys. early ++ ys) end.1 ∙ append-nil early);
        talk = talk;
        free = end.0;
      }
  look_of None (Refused result) text zs early late same talk end = absurd end
  look_of None Over text zs early late same talk end = absurd end

  pub look_settled : (listed : Listed) (text : List ℕ) (how : Option Ended) {a b c d : Option (List Entry)} → GrewBy a b (Now start ∷ []) →
      GrewSome (Comes (Ok listed) text) b c → GrewSome (IsJudged asked listed text how) c d → GrewSome (IsLook asked asking how) a d
  look_settled listed text how clock talk end =
      then_some (Then (Comes (Ok listed) text) (IsJudged asked listed text how)) (IsLook asked asking how) clock
      (λ zs h. look_of how listed text zs h.0 h.1 h.2 h.3 h.4) (both (Comes (Ok listed) text) (IsJudged asked listed text how) talk end)

  pub not_looked : (failed : Failed) (text said : List ℕ) {a b c : Option (List Entry)} → said ≡ codes "cannot send" → GrewBy a b (Now start ∷ []) →
      GrewSome (Comes (Err failed) text) b c → GrewSome (IsSettled asked asking outs.SendFault said) a c
  not_looked failed text said is clock talk =
      then_some (Comes (Err failed) text) (IsSettled asked asking outs.SendFault said) clock
      (λ xs h. record {
        to = to;
        named = named;
        start = start;
        last = Err failed;
        text = text;
        early = xs;
        late = [];
        whole = ap (λ ys. Now start ∷ ys) (sym (append-nil xs));
        talk = h;
        end = record { is = refl; told = is; none = refl };
      }) talk

-- the target has the ticket, which is printed
pub held_shown : (asked : MoveWords) (text : List ℕ) (ended : Ended) {a b : Option (List Entry)} → IsHeldIn asked text →
    GrewSome (IsShown (held_text asked) ended.outcome ended.said) a b → GrewSome (IsJudged asked Whole text (Some ended)) a b
held_shown asked text ended held shown =
    some_weaker (IsShown (held_text asked) ended.outcome ended.said) (IsJudged asked Whole text (Some ended)) (λ es h. inl (held, h)) shown

-- there is no memory for the text of the list
pub unread_list : (asked : MoveWords) (text : List ℕ) (ended : Ended) {a : Option (List Entry)} → ended.outcome ≡ outs.OutOfMemory → ended.said ≡ out_of_memory_text →
    GrewSome (IsJudged asked Whole text (Some ended)) a a
unread_list asked text ended out is = some_of (IsJudged asked Whole text (Some ended)) no_entry (inr (record { is = out; told = is; none = refl }))

-- the target does not have the ticket, and nothing was printed
pub not_held : (asked : MoveWords) (text : List ℕ) (shows : Bool) {a : Option (List Entry)} → shows ≡ false →
    MatchBool shows (IsHeldIn asked text) (IsHeldIn asked text → ⊥) → GrewSome (IsJudged asked Whole text None) a a
not_held asked text shows is found =
    some_of (IsJudged asked Whole text None) no_entry (subst (λ (b : Bool). MatchBool b (IsHeldIn asked text) (IsHeldIn asked text → ⊥)) is found, refl)

-- ---- the key

pub move_keyed : (asked : MoveWords) (config : ConfigSays) (target : ℕ) (cluster : Cluster) (outcome : Outcome) (said : List ℕ) {a b c : Option (List Entry)} →
    GrewSome (IsKeyed config (Ok cluster)) a b → GrewSome (FollowsKey asked cluster.config cluster.ring target outcome said) b c →
    GrewSome (FollowsSite asked config target outcome said) a c
move_keyed asked config target cluster outcome said read follows =
    some_joined (IsKeyed config (Ok cluster)) (FollowsKey asked cluster.config cluster.ring target outcome said) (FollowsSite asked config target outcome said)
    (λ xs ys h k. Keyed (record {
      ring = cluster.ring;
      texts = h.1;
      holds = h.2;
      rest = ys;
      whole = ap (λ zs. zs ++ ys) h.3;
      here = subst (λ (c : ConfigSays). FollowsKey asked c cluster.ring target outcome said ys) h.0 k;
    })) read follows

pub move_keyless : (asked : MoveWords) (config : ConfigSays) (target : ℕ) (ended : Ended) {a b : Option (List Entry)} → GrewSome (IsKeyed config (Err ended)) a b →
    GrewSome (FollowsSite asked config target ended.outcome ended.said) a b
move_keyless asked config target ended read =
    some_weaker (IsKeyed config (Err ended)) (FollowsSite asked config target ended.outcome ended.said) (λ es h. Keyless h) read

-- ---- the configuration

module _ (asked : MoveWords) (config : ConfigSays) where
  -- what follows the configuration, by the place of the target
  abbrev At : Outcome → List ℕ → List Entry → Option ℕ → Type 0
  At outcome said entries place =
      MatchOption place (IsPlainEnd outcome outs.NotSite said (not_site_text asked.target) entries) (λ target. FollowsSite asked config target outcome said entries)

  pub at_site : (target : ℕ) (outcome : Outcome) (said : List ℕ) {a b : Option (List Entry)} → site_at asked.target config ≡ Some target →
      GrewSome (FollowsSite asked config target outcome said) a b → GrewSome (FollowsConfig asked config outcome said) a b
  at_site target outcome said is follows =
      some_weaker (FollowsSite asked config target outcome said) (FollowsConfig asked config outcome said)
      (λ es h. subst (At outcome said es) (sym is) h) follows

  pub at_no_site : (said : List ℕ) {a : Option (List Entry)} → site_at asked.target config ≡ None → said ≡ not_site_text asked.target →
      GrewSome (FollowsConfig asked config outs.NotSite said) a a
  at_no_site said is told =
      some_of (FollowsConfig asked config outs.NotSite said) no_entry
      (subst (At outs.NotSite said []) (sym is) (record { is = refl; told = told; none = refl }))

  pub moved_all : (outcome : Outcome) (said : List ℕ) {a b c : Option (List Entry)} → GrewSome (IsConfigRead asked.conf (Ok config)) a b →
      GrewSome (FollowsConfig asked config outcome said) b c → GrewSome (IsMoveLog asked outcome said) a c
  moved_all outcome said read follows =
      some_joined (IsConfigRead asked.conf (Ok config)) (FollowsConfig asked config outcome said) (IsMoveLog asked outcome said)
      (λ xs ys h k. Read (record {
        text = h.0;
        config = config;
        says = h.1;
        rest = ys;
        whole = ap (λ zs. zs ++ ys) h.2;
        here = k;
      })) read follows

pub not_moved : (asked : MoveWords) (ended : Ended) {a b : Option (List Entry)} → GrewSome (IsConfigRead asked.conf (Err ended)) a b →
    GrewSome (IsMoveLog asked ended.outcome ended.said) a b
not_moved asked ended read = some_weaker (IsConfigRead asked.conf (Err ended)) (IsMoveLog asked ended.outcome ended.said) (λ es h. Unread h) read

-- ---- the words

pub moved_made : {a b : Option (List Entry)} (program : Program) (words : List (List ℕ)) (asked : MoveWords) (outcome : Outcome) (said : List ℕ) →
    (program ≡ Booth) × AsksMove words asked → GrewSome (IsMoveLog asked outcome said) a b → GrewSome (IsClientMade program words outcome said) a b
moved_made program words asked outcome said asks log =
    some_weaker (IsMoveLog asked outcome said) (IsClientMade program words outcome said) (λ es is. Moved asked asks.0 asks.1 is) log

pub asks_move : (program : Program) (words : List (List ℕ)) (asked : MoveWords) (all : Asked) → Asks program words (Ok all) → all ≡ Move asked →
    (program ≡ Booth) × AsksMove words asked
asks_move program words asked all asks same =
    let is : Asks program words (Ok (Move asked)) = subst (λ x. Asks program words (Ok x)) same asks in is

pub fits_moved : (program : Program) (words : List (List ℕ)) (asked : MoveWords) (outcome : Outcome) → (program ≡ Booth) × AsksMove words asked → IsMoveAnswered outcome →
    FitsClientWords program words outcome
fits_moved program words asked (outs.Usage kind) asks is = absurd is
fits_moved program words asked (outs.Shown page) asks is = absurd is
fits_moved program words asked (outs.BadWord word) asks is = absurd is
fits_moved program words asked outs.PrintFault asks is = inl (inr (record { asked = asked; own = asks.0; asks = asks.1 }))
fits_moved program words asked outs.OutOfMemory asks is =
    subst (λ (p : Program). NamesCommand p words) (sym asks.0) (taken_named Booth words verbs.Move asks.1.all asks.1.asks)
fits_moved program words asked outs.NotSite asks is = record { asked = asked; own = asks.0; asks = asks.1 }
fits_moved program words asked (outs.Stranded result) asks is = record { asked = asked; own = asks.0; asks = asks.1 }
fits_moved program words asked outcome asks is = (inr (record { asked = asked; own = asks.0; asks = asks.1 }), is)
