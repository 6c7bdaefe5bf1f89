-- Whom the acts of a ticket reach, whatever its kind: members and the clients that wait for it, but for the reply to
-- who asked, which comes last.
use Rattle.std.proofs.Common.{◌≡◌, ◌⊎◌, inl, inr, ℕ, Bool, true, false, List, [], ◌∷◌, ◌++◌, refl, sym, ap, ◌∙◌, subst, append_assoc, append-nil, if◌then◌else◌}
use Rattle.std.specs.Prelude.{Option, Some, None}
use Rattle.std.specs.List.{filter}
use Rattle.std.specs.Option.{is_none}
use Rattle.booth_base.specs.declared.address.Peer.{Peer}
use Rattle.booth_base.specs.Tree.{Deeds, Ends, Does, Leads, ◌>>=◌, each, Always}
use Rattle.booth_base.proofs.TreeLemmas.{always_left, always_then, at_end, split}
use Rattle.booth_wire.specs.declared.command.Cmd.{Cmd}
use Rattle.booth_wire.specs.declared.command.Cmd.TheVariants.{RGnt}
use Rattle.booth_wire.specs.declared.codes.results.TheConstants.{PEND}
use Rattle.booth_wire.specs.declared.message.Head.{Head}
use Rattle.booth_wire.specs.declared.message.TicketPart.{TicketPart}
use Rattle.booth_wire.specs.declared.message.Setup.{Setup}
use Rattle.booth_raft.specs.declared.deed.Told.{Told}
use Rattle.booth_raft.specs.declared.deed.Told.TheVariants as tells
use Rattle.booth_raft.specs.Messages.{head_of}
use Rattle.booth_raft.specs.Speech.{IsOwn}
use Rattle.booth_raft.proofs.FactsLemmas.{on_cond}
use Rattle.booth_ticket.specs.declared.hands.To.TheVariants.{Client, Member}
use Rattle.booth_ticket.specs.declared.request.Request.{Request}
use Rattle.booth_ticket.specs.declared.waiters.Waiter.{Waiter}
use Rattle.booth_ticket.specs.Acts.{Ask, Keep, Start, Say, Act, IsAct}
use Rattle.booth_ticket.specs.Saying.{say_to}
use Rattle.booth_ticket.specs.Waiting.{joined, joins, result_for, staying, tell_each, tell_one, tell_result, waiter_of}
use Rattle.booth_ticket.proofs.WalkLemmas.{Allows, Any}
use Rattle.booth_node.specs.Calls.{EndsGrant, IsAmong, IsOutcome}
use Rattle.booth_node.proofs.DueLemmas.{Each}

-- one of these clients that wait is told what became of its grant of the ticket
pub record TellsOne (setup : Setup) (waiters : List Waiter) (peer : Peer) (head : Head) (part : TicketPart)
    : Type 0 where
  pub waiter : Waiter
  pub waits : IsAmong waiter waiters
  pub to : waiter.from ≡ peer
  pub outcome : IsOutcome setup.me waiter head
  pub ticket : part.ticket ≡ setup.ticket

-- one of these acts tells this client that waits what became of its grant of the ticket
pub record IsTold (setup : Setup) (waiter : Waiter) (acts : List Act) : Type 0 where
  pub before : List Act
  pub head : Head
  pub part : TicketPart
  pub ok : Bool
  pub after : List Act
  pub whole : acts ≡ before ++ record { ask = Say (Client waiter.from) head part; ok = ok } ∷ after
  pub outcome : IsOutcome setup.me waiter head
  pub ticket : part.ticket ≡ setup.ticket

-- the result that a client is told, where it is told one, ends its grant
abbrev MayBeTold : Waiter → Option ℕ → Type 0
MayBeTold waiter None = Unit {0}
MayBeTold waiter (Some result) = EndsGrant waiter result

-- so does what it is told of each outcome
may_be_told : (told : Told) (waiter : Waiter) → MayBeTold waiter (result_for told waiter)
may_be_told tells.Nothing waiter = tt
may_be_told (tells.Gained true) waiter = inl refl
may_be_told (tells.Gained false) waiter = by_commit waiter.commit refl
  where
    by_commit : (commit : Bool) → waiter.commit ≡ commit
        → MayBeTold waiter (if commit then None else Some PEND)
    by_commit true same = tt
    by_commit false same = inr (inr (inr (refl, same)))
may_be_told tells.RoundFailed waiter = inr (inl refl)
may_be_told tells.AskFailed waiter = inr (inl refl)
may_be_told tells.Released waiter = inr (inl refl)
may_be_told tells.ReleaseFailed waiter = tt
may_be_told tells.Lost waiter = inr (inl refl)
may_be_told tells.HandlerFailed waiter = inr (inr (inl refl))

pub told_behind : (setup : Setup) (waiter : Waiter) (first later acts : List Act) → acts ≡ first ++ later
    → IsTold setup waiter later → IsTold setup waiter acts
told_behind setup waiter first later acts whole told = record {
  before = first ++ told.before;
  head = told.head;
  part = told.part;
  ok = told.ok;
  after = told.after;
  whole = whole ∙ ap (λ (l : List Act). first ++ l) told.whole
      ∙ sym (append_assoc first told.before
      (record { ask = Say (Client waiter.from) told.head told.part; ok = told.ok } ∷ told.after));
  outcome = told.outcome;
  ticket = told.ticket;
}

-- who waited is left, or one of these acts tells it
abbrev pub Remembers : Setup → List Waiter → List Waiter → List Act → Type 0
Remembers setup waiters stay acts =
    (waiter : Waiter) → IsAmong waiter waiters → IsAmong waiter stay ⊎ IsTold setup waiter acts

-- what is asked reaches members and those that wait alone
abbrev pub Among : Setup → List Waiter → Ask → Type 0
Among setup waiters (Keep tried) = Unit {0}
Among setup waiters (Start job expires) = Unit {0}
Among setup waiters (Say (Member place) head part) = IsOwn setup head part
Among setup waiters (Say (Client peer) head part) = TellsOne setup waiters peer head part

abbrev pub AllAmong : Setup → List Waiter → List Act → Type 0
AllAmong setup waiters acts = Each (λ act. Among setup waiters act.ask) acts

-- those that are left waited before
abbrev pub Fewer : List Waiter → List Waiter → Type 0
Fewer before after = (waiter : Waiter) → IsAmong waiter after → IsAmong waiter before

-- these acts reach members and those that wait alone, nobody waits that did not, and nobody is forgotten
pub record Tells (setup : Setup) (waiters stay : List Waiter) (acts : List Act) : Type 0 where
  pub among : AllAmong setup waiters acts
  pub fewer : Fewer waiters stay
  pub remembers : Remembers setup waiters stay acts

filtered : (p : Waiter → Bool) (ws : List Waiter) → Fewer ws (filter p ws)
filtered p [] w h = h
filtered p (x ∷ ws) w h = by_test (p x) (filtered p ws w) h
  where
    by_test : (b : Bool) → (IsAmong w (filter p ws) → IsAmong w ws)
        → IsAmong w (if b then x ∷ filter p ws else filter p ws) → IsAmong w (x ∷ ws)
    by_test true more (inl e) = inl e
    by_test true more (inr g) = inr (more g)
    by_test false more g = inr (more g)

pub each_joined : {X : Type 0} (P : X → Type 0) (xs ys : List X) → Each P xs → Each P ys → Each P (xs ++ ys)
each_joined P [] ys first later = later
each_joined P (x ∷ xs) ys first later = (first.0, each_joined P xs ys first.1 later)

-- each ask of a tree reaches members and those that wait alone, and this is so of what it leaves
abbrev pub Reaches : {S : Type 0} → Setup → List Waiter → (S → Type 0) → Deeds Ask S → Type 0
Reaches setup waiters Q t = Always (Among setup waiters) Q t

-- what is so of each ask of a tree is so of each act of its path
each_act : {S : Type 0} (P : Ask → Type 0) (Q : S → Type 0) (t : Deeds Ask S) (acts : List Act) (left : S) → Always P Q t
    → Leads IsAct t acts (Ends left) → Each (λ act. P act.ask) acts
each_act P Q (Ends s) [] left all leads = tt
each_act P Q (Ends s) (act ∷ acts) left all leads = absurd leads
each_act P Q (Does ask go) [] left all leads = absurd cc
each_act P Q (Does ask go) (act ∷ acts) left all leads = (
  subst (λ (a : Act). P a.ask) (sym leads.1) all.0,
  each_act P Q (go leads.0) acts left (all.1 leads.0) leads.2,
)

module _ (setup : Setup) (waiters : List Waiter) where
  -- so the acts of such a tree reach members and those that wait alone
  pub all_among : {S : Type 0} (Q : S → Type 0) (t : Deeds Ask S) (acts : List Act) (left : S) → Reaches setup waiters Q t
      → Leads IsAct t acts (Ends left) → AllAmong setup waiters acts
  all_among Q t acts left all leads = each_act (Among setup waiters) Q t acts left all leads

  pub reaches_then : {S T : Type 0} (Q : S → Type 0) (R : T → Type 0) (t : Deeds Ask S) (f : S → Deeds Ask T)
      → Reaches setup waiters Q t → ((s : S) → Q s → Reaches setup waiters R (f s)) → Reaches setup waiters R (t >>= f)
  reaches_then Q R t f all on = always_then (Among setup waiters) Q R t f all on

  -- those that wait are told
  told_result : (part : TicketPart) (waiter : Waiter) (result : Option ℕ) → part.ticket ≡ setup.ticket → MayBeTold waiter result
      → IsAmong waiter waiters → Reaches setup waiters Any (tell_result setup part waiter result)
  unfolding say_to
  told_result part waiter None names may waits = tt
  told_result part waiter (Some result) names may waits = (
    record {
      waiter = waiter;
      waits = waits;
      to = refl;
      outcome = record { cmd = refl; request = refl; options = refl; reason = refl; result = may; from = refl };
      ticket = names;
    },
    λ ok. tt,
  )

  told_each : (part : TicketPart) (told : Told) (ws : List Waiter) → part.ticket ≡ setup.ticket → Fewer waiters ws
      → Reaches setup waiters Any (each (tell_one setup part told) ws)
  unfolding tell_one
  told_each part told [] names are = tt
  told_each part told (w ∷ ws) names are =
      reaches_then Any Any (tell_result setup part w (result_for told w)) _
      (told_result part w (result_for told w) names (may_be_told told w) (are w (inl refl)))
      (λ done any. told_each part told ws names (λ v h. are v (inr h)))

  -- so are a ticket's asks allowed
  pub among_allowed : Allows setup waiters (Among setup waiters)
  among_allowed = record {
    keeps = λ tried. tt;
    starts = λ job expires. tt;
    says = λ place head part own. own;
    tells = λ part told names. told_each part told waiters names (λ w h. h);
  }

  -- all that wait are told, and those are left that wait on
  tells_reach : (part : TicketPart) (told : Told) → part.ticket ≡ setup.ticket
      → Reaches setup waiters (λ stay. stay ≡ staying told waiters) (tell_each setup part told waiters)
  unfolding tell_each
  tells_reach part told names =
      reaches_then Any (λ stay. stay ≡ staying told waiters) (each (tell_one setup part told) waiters) _
      (told_each part told waiters names (λ w h. h)) (λ done any. refl)

-- ---- nobody is forgotten

-- the deeds of a part, and what is made of what they leave
pub ended : {S T : Type 0} (t : Deeds Ask S) (f : S → T) (acts : List Act) (left : T)
    → Leads IsAct (t >>= (λ x. Ends (f x))) acts (Ends left)
    → (end : S) × Leads IsAct t acts (Ends end) × (left ≡ f end)
ended t f acts left leads =
    let c = split IsAct t (λ x. Ends (f x)) acts left leads in
    let over = at_end IsAct (f c.mid) left c.later c.to_end in (
      c.mid,
      subst (λ (l : List Act). Leads IsAct t l (Ends c.mid))
          (sym (append-nil c.first) ∙ ap (λ (l : List Act). c.first ++ l) (sym over.0) ∙ sym c.whole) c.to_mid,
      over.1,
    )

module _ (setup : Setup) where
  told_ahead : (waiter : Waiter) (first later acts : List Act) → acts ≡ first ++ later
      → IsTold setup waiter first → IsTold setup waiter acts
  told_ahead waiter first later acts whole told = record {
    before = told.before;
    head = told.head;
    part = told.part;
    ok = told.ok;
    after = told.after ++ later;
    whole = whole ∙ ap (λ (l : List Act). l ++ later) told.whole
        ∙ append_assoc told.before
        (record { ask = Say (Client waiter.from) told.head told.part; ok = told.ok } ∷ told.after) later;
    outcome = told.outcome;
    ticket = told.ticket;
  }

  -- each is told, or stays
  one_remembered : (part : TicketPart) (waiter : Waiter) (result : Option ℕ) (acts : List Act) (left : Unit {0})
      → part.ticket ≡ setup.ticket → MayBeTold waiter result
      → Leads IsAct (tell_result setup part waiter result) acts (Ends left)
      → (is_none result ≡ true) ⊎ IsTold setup waiter acts
  unfolding say_to
  one_remembered part waiter None acts left names may leads = inl refl
  one_remembered part waiter (Some result) [] left names may leads = absurd cc
  one_remembered part waiter (Some result) (act ∷ acts) left names may leads = inr (record {
    before = [];
    head = head_of setup RGnt waiter.number 0 0 result;
    part = part;
    ok = leads.0;
    after = acts;
    whole = ap (λ (a : Act). a ∷ acts) leads.1;
    outcome = record { cmd = refl; request = refl; options = refl; reason = refl; result = may; from = refl };
    ticket = names;
  })

  each_remembered : (part : TicketPart) (told : Told) (ws : List Waiter) (acts : List Act) (left : Unit {0})
      → part.ticket ≡ setup.ticket → Leads IsAct (each (tell_one setup part told) ws) acts (Ends left)
      → Remembers setup ws (staying told ws) acts
  unfolding tell_one
  each_remembered part told [] acts left names leads w h = absurd h
  each_remembered part told (x ∷ ws) acts left names leads w h =
      let c = split IsAct (tell_result setup part x (result_for told x)) (λ done. each (tell_one setup part told) ws) acts left leads in
      by_place h
      (one_remembered part x (result_for told x) c.first c.mid names (may_be_told told x) c.to_mid)
      (each_remembered part told ws c.later left names c.to_end w)
      (λ now. told_ahead x c.first c.later acts c.whole now)
      (λ later. told_behind setup w c.first c.later acts c.whole later)
    where
      stays_too : (b : Bool) → IsAmong w (staying told ws)
          → IsAmong w (if b then x ∷ staying told ws else staying told ws)
      stays_too true g = inr g
      stays_too false g = g

      stays_first : (b : Bool) → b ≡ true → w ≡ x
          → IsAmong w (if b then x ∷ staying told ws else staying told ws)
      stays_first true e same = inl same
      stays_first false e same = absurd cc

      by_place : {first later : List Act} → IsAmong w (x ∷ ws)
          → (is_none (result_for told x) ≡ true) ⊎ IsTold setup x first
          → (IsAmong w ws → IsAmong w (staying told ws) ⊎ IsTold setup w later)
          → (IsTold setup x first → IsTold setup x acts) → (IsTold setup w later → IsTold setup w acts)
          → IsAmong w (staying told (x ∷ ws)) ⊎ IsTold setup w acts
      by_place (inl same) (inl none) more ahead behind =
          inl (stays_first (is_none (result_for told x)) none same)
      by_place (inl same) (inr told_now) more ahead behind =
          inr (subst (λ (y : Waiter). IsTold setup y acts) (sym same) (ahead told_now))
      by_place {later = later} (inr g) first more ahead behind = by_rest (more g)
        where
          by_rest : IsAmong w (staying told ws) ⊎ IsTold setup w later
              → IsAmong w (staying told (x ∷ ws)) ⊎ IsTold setup w acts
          by_rest (inl stays) = inl (stays_too (is_none (result_for told x)) stays)
          by_rest (inr told_later) = inr (behind told_later)

  -- who waited is left by those deeds, or told
  pub all_remembered : (part : TicketPart) (told : Told) (waiters : List Waiter) (acts : List Act) (stay : List Waiter)
      → part.ticket ≡ setup.ticket → Leads IsAct (tell_each setup part told waiters) acts (Ends stay)
      → Remembers setup waiters (staying told waiters) acts
  unfolding tell_each
  all_remembered part told waiters acts stay names leads w h =
      let c = split IsAct (each (tell_one setup part told) waiters) (λ done. Ends (staying told waiters)) acts stay leads in
      ahead c.first c.later c.whole (each_remembered part told waiters c.first c.mid names c.to_mid w h)
    where
      ahead : (first later : List Act) → acts ≡ first ++ later → IsAmong w (staying told waiters) ⊎ IsTold setup w first
          → IsAmong w (staying told waiters) ⊎ IsTold setup w acts
      ahead first later whole (inl stays) = inl stays
      ahead first later whole (inr told_now) = inr (told_ahead w first later acts whole told_now)

-- those that wait are told, by deeds of a setup that is this one
module _ (setup found : Setup) (waiters : List Waiter) (part : TicketPart) (told : Told) (same : found ≡ setup)
    (names : part.ticket ≡ setup.ticket) where
  pub found_reach : Reaches setup waiters (λ stay. stay ≡ staying told waiters) (tell_each found part told waiters)
  found_reach =
      subst (λ (s : Setup). Reaches setup waiters (λ stay. stay ≡ staying told waiters) (tell_each s part told waiters))
      (sym same) (tells_reach setup waiters part told names)

  pub found_remembered : (acts : List Act) (stay : List Waiter) → Leads IsAct (tell_each found part told waiters) acts (Ends stay)
      → (stay ≡ staying told waiters) × Remembers setup waiters stay acts
  found_remembered acts stay leads =
      let is : stay ≡ staying told waiters =
      always_left IsAct (Among setup waiters) (λ stay. stay ≡ staying told waiters) (tell_each found part told waiters) acts stay
      found_reach leads in (
        is,
        subst (λ (ws : List Waiter). Remembers setup waiters ws acts) (sym is)
            (all_remembered setup part told waiters acts stay names
            (subst (λ (s : Setup). Leads IsAct (tell_each s part told waiters) acts (Ends stay)) same leads)),
      )

-- who is told among the first acts, or the later ones, is told
pub told_first : (setup : Setup) (stay : List Waiter) (waiter : Waiter) (first later acts : List Act) → acts ≡ first ++ later
    → IsAmong waiter stay ⊎ IsTold setup waiter first → IsAmong waiter stay ⊎ IsTold setup waiter acts
told_first setup stay waiter first later acts whole (inl stays) = inl stays
told_first setup stay waiter first later acts whole (inr now) = inr (told_ahead setup waiter first later acts whole now)

pub told_later : (setup : Setup) (stay : List Waiter) (waiter : Waiter) (first later acts : List Act) → acts ≡ first ++ later
    → IsAmong waiter stay ⊎ IsTold setup waiter later → IsAmong waiter stay ⊎ IsTold setup waiter acts
told_later setup stay waiter first later acts whole (inl stays) = inl stays
told_later setup stay waiter first later acts whole (inr now) = inr (told_behind setup waiter first later acts whole now)

-- Some deeds that reach members and those that wait alone, and then those that wait are told.
pub tells_all : {S T : Type 0} (setup : Setup) (waiters : List Waiter) (Q : S → Type 0) (t : Deeds Ask S) (at : S → Setup)
    (part : S → TicketPart) (told : S → Told) (end : S → List Waiter → T) (of : T → List Waiter) (acts : List Act) (left : T)
    → Reaches setup waiters Q t → ((s : S) → Q s → at s ≡ setup) → ((s : S) → Q s → (part s).ticket ≡ setup.ticket)
    → ((s : S) (stay : List Waiter) → of (end s stay) ≡ stay)
    → Leads IsAct (t >>= (λ s. tell_each (at s) (part s) (told s) waiters >>= (λ stay. Ends (end s stay)))) acts (Ends left)
    → Tells setup waiters (of left) acts
tells_all {S} {T} setup waiters Q t at part told end of acts left all same names is leads =
    let one = split IsAct t (λ s. tell_each (at s) (part s) (told s) waiters >>= (λ stay. Ends (end s stay))) acts left leads in
    let s : S = one.mid in
    let q : Q s = always_left IsAct (Among setup waiters) Q t one.first s all one.to_mid in
    let two = ended (tell_each (at s) (part s) (told s) waiters) (end s) one.later left one.to_end in
    let it = found_remembered setup (at s) waiters (part s) (told s) (same s q) (names s q) one.later two.0 two.1 in
    subst (λ (ws : List Waiter). Tells setup waiters ws acts) (sym (ap of two.2 ∙ is s two.0))
    (record {
      among = all_among setup waiters (Any {S = T})
          (t >>= (λ s. tell_each (at s) (part s) (told s) waiters >>= (λ stay. Ends (end s stay)))) acts left
          (reaches_then setup waiters Q (Any {S = T}) t _ all
          (λ s q. reaches_then setup waiters (λ stay. stay ≡ staying (told s) waiters) (Any {S = T})
          (tell_each (at s) (part s) (told s) waiters) _
          (found_reach setup (at s) waiters (part s) (told s) (same s q) (names s q)) (λ stay is. tt)))
          leads;
      fewer = subst (λ (ws : List Waiter). Fewer waiters ws) (sym it.0) (filtered (λ w. is_none (result_for (told s) w)) waiters);
      remembers = λ w h. told_later setup two.0 w one.first one.later acts one.whole (it.1 w h);
    })

-- ---- a client's request

abbrev pub reply_act : Setup → Request → Cmd → ℕ → TicketPart → Bool → Act
reply_act setup request cmd result part ok =
    record { ask = Say (Client request.from) (head_of setup cmd request.number 0 0 result) part; ok = ok }

-- all acts but the last one reach members and those that wait alone, the last one is the reply, and nobody is
-- forgotten
pub record Replies (setup : Setup) (waiters stay : List Waiter) (request : Request) (cmd : Cmd)
    (acts : List Act) : Type 0 where
  pub before : List Act
  pub result : ℕ
  pub part : TicketPart
  pub ok : Bool
  pub whole : acts ≡ before ++ reply_act setup request cmd result part ok ∷ []
  pub among : AllAmong setup waiters before
  pub remembers : Remembers setup waiters stay acts

among_more : (w : Waiter) (ws more : List Waiter) → IsAmong w ws → IsAmong w (ws ++ more)
among_more w [] more h = absurd h
among_more w (x ∷ ws) more (inl e) = inl e
among_more w (x ∷ ws) more (inr h) = inr (among_more w ws more h)

pub among_joined : (w : Waiter) (request : Request) (result : ℕ) (ws : List Waiter) → IsAmong w ws
    → IsAmong w (joined request result ws)
among_joined w request result ws h =
    on_cond (λ (l : List Waiter). IsAmong w l) (joins request result) (ws ++ waiter_of request ∷ []) ws
    (among_more w ws (waiter_of request ∷ []) h) h

-- some deeds that reach members and those that wait alone, and then the reply
pub replied_last : (setup : Setup) (waiters stay : List Waiter) (request : Request) (cmd : Cmd) (result : ℕ)
    (part : TicketPart) (first later acts : List Act) (left : Unit {0}) → acts ≡ first ++ later → AllAmong setup waiters first
    → Leads IsAct (say_to (Client request.from) (head_of setup cmd request.number 0 0 result) part) later (Ends left)
    → Remembers setup waiters stay acts → Replies setup waiters stay request cmd acts
unfolding say_to
replied_last setup waiters stay request cmd result part first [] acts left whole among leads remembers = absurd cc
replied_last setup waiters stay request cmd result part first (act ∷ later) acts left whole among leads remembers =
    let over = at_end IsAct tt left later leads.2 in
    record {
      before = first;
      result = result;
      part = part;
      ok = leads.0;
      whole = whole
          ∙ ap (λ (l : List Act). first ++ act ∷ l) over.0
          ∙ ap (λ (a : Act). first ++ a ∷ []) leads.1;
      among = among;
      remembers = remembers;
    }
