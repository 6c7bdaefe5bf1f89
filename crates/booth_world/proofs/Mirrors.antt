-- When a tree of the node's deeds does for one ticket what a host's tree does.
use Rattle.std.proofs.Common.{◌≡◌, ◌≢◌, ◌⊎◌, inl, inr, ℕ, ◌<◌, Bool, true, List, [], ◌∷◌, refl, sym, ◌∙◌}
use Rattle.std.specs.Prelude.{is_some}
use Rattle.booth_base.specs.Tree.{Deeds, Ends, Does, ◌>>=◌}
use Rattle.booth_conf.specs.Config.{ConfigSays}
use Rattle.booth_wire.specs.declared.command.Cmd.TheVariants.{Revk}
use Rattle.booth_wire.specs.declared.command.Direction.TheVariants.{BetweenMembers}
use Rattle.booth_wire.specs.declared.message.Head.{Head}
use Rattle.booth_wire.specs.declared.message.TicketPart.{TicketPart}
use Rattle.booth_wire.specs.declared.message.Setup.{Setup}
use Rattle.booth_wire.specs.Command.{direction_of}
use Rattle.booth_wire.specs.PlainMessage.{PlainMessage, Ticket}
use Rattle.booth_auth.specs.Sealed.{stamped_head}
use Rattle.booth_ticket.specs.Saying.{others}
use Rattle.booth_node.specs.declared.node_config.NodeConfig.{NodeConfig}
use Rattle.booth_node.specs.Reaction.{Ask, Send, Keep, Start}
use Rattle.booth_world.specs.Facts.{Has}
use Rattle.booth_world.specs.Rules.{MemberMessage}
use Rattle.booth_world.specs.Revocations.{SendsEach}
use Rattle.booth_world.specs.Turns.{Keeps, Sends, AsksElse, TurnTree}

-- ---- a host's tree, with all behind it that is said before the next keep or start

abbrev pub skip : TurnTree → TurnTree
skip (Ends view) = Ends view
skip (Does (Keeps kept) go) = Does (Keeps kept) go
skip (Does (Sends message) go) = skip (go true)
skip (Does AsksElse go) = Does AsksElse go

abbrev pub sent_by : TurnTree → List MemberMessage → List MemberMessage
sent_by (Ends view) sent = sent
sent_by (Does (Keeps kept) go) sent = sent
sent_by (Does (Sends message) go) sent = sent_by (go true) (message ∷ sent)
sent_by (Does AsksElse go) sent = sent

-- a host's tree, where what it asks for first, beside keeps and sends, is answered so
abbrev pub later : List Bool → TurnTree → TurnTree
later [] tree = tree
later (ok ∷ answers) (Does AsksElse go) = later answers (go ok)
later (ok ∷ answers) tree = tree

abbrev pub SentMore : List MemberMessage → List MemberMessage → Type 0
SentMore sent sent' = (l : MemberMessage) → Has sent l → Has sent' l

pub grows : (tree : TurnTree) (sent : List MemberMessage) → SentMore sent (sent_by tree sent)
grows (Ends view) sent l h = h
grows (Does (Keeps kept) go) sent l h = h
grows (Does (Sends message) go) sent l h = grows (go true) (message ∷ sent) l (inr h)
grows (Does AsksElse go) sent l h = h

pub sent_more : (tree : TurnTree) (sent sent' : List MemberMessage) → SentMore sent sent' → SentMore (sent_by tree sent) (sent_by tree sent')
sent_more (Ends view) sent sent' more l h = more l h
sent_more (Does (Keeps kept) go) sent sent' more l h = more l h
sent_more (Does (Sends message) go) sent sent' more l h = sent_more (go true) (message ∷ sent) (message ∷ sent') longer l h
  where
    longer : SentMore (message ∷ sent) (message ∷ sent')
    longer k (inl e) = inl e
    longer k (inr h) = inr (more k h)
sent_more (Does AsksElse go) sent sent' more l h = more l h

-- another host's tree, with the same next keep or start, that has said no less
pub record IsNoLess (sent : List MemberMessage) (tree : TurnTree) (sent' : List MemberMessage) (tree' : TurnTree) : Type 0 where
  pub same : skip tree ≡ skip tree'
  pub more : SentMore (sent_by tree sent) (sent_by tree' sent')

-- what is so of a place in a host's tree is so of each that is no less
abbrev pub IsKept : {S : Type 0} → (List MemberMessage → S → TurnTree → Type 0) → Type 0
IsKept {S} Q =
    (state : S) (sent sent' : List MemberMessage) (tree tree' : TurnTree) → IsNoLess sent tree sent' tree' → Q sent state tree → Q sent' state tree'

pub no_less_on : (sent sent' : List MemberMessage) (tree tree' rest : TurnTree) → IsNoLess sent tree sent' tree'
    → IsNoLess (sent_by tree sent) rest (sent_by tree' sent') rest
no_less_on sent sent' tree tree' rest x =
    record { same = refl; more = sent_more rest (sent_by tree sent) (sent_by tree' sent') x.more }

-- ---- the node's deeds against it

-- a message repeats a host's message
abbrev pub Repeats : MemberMessage → PlainMessage → Type 0
Repeats message plain = (plain.head.cmd ≡ message.head.cmd) × (plain.content ≡ Ticket message.part)

-- what is done later changes nothing of what comes first
pub sends_next : {S T : Type 0} (config : ConfigSays) (places : List ℕ) (P : PlainMessage → Type 0) (f : S → Deeds Ask T) (deeds : Deeds Ask S)
    → SendsEach config places P deeds → SendsEach config places P (deeds >>= f)
sends_next config [] P f deeds x = tt
sends_next config (place ∷ places) P f (Does (Send peer message) go) x = (x.0, x.1, λ ok. sends_next config places P f (go ok) (x.2 ok))
sends_next config (place ∷ places) P f (Does (Keep name tried) go) x = absurd x
sends_next config (place ∷ places) P f (Does (Start job) go) x = absurd x
sends_next config (place ∷ places) P f (Ends state) x = absurd x

module _ (node : NodeConfig) (s : Setup) where
  -- After a keep that was done: where what the host's tree says first is that a term was given back, it is about the
  -- ticket, and the node's deeds begin with it, to each other member.
  abbrev pub IsTold : {S : Type 0} → TurnTree → Deeds Ask S → Type 0
  IsTold rest deeds =
      1 < s.members → (message : MemberMessage) (more : Bool → TurnTree) → rest ≡ Does (Sends message) more
      → message.head.cmd ≡ Revk → (message.part.ticket ≡ s.ticket) × SendsEach node.config (others s) (Repeats message) deeds

  -- What is sent says truly whether there is a key; and where it is a member's message about this ticket, the host's
  -- tree has said it, but for its stamp.
  pub record IsSpoken (sent : List MemberMessage) (message : PlainMessage) : Type 0 where
    pub truly : message.head.auth ≡ is_some node.ring
    pub spoken : (part : TicketPart) → direction_of message.head.cmd ≡ BetweenMembers → message.content ≡ Ticket part
        → part.ticket ≡ s.ticket
        → (head : Head) × (now : ℕ) × (message.head ≡ stamped_head (is_some node.ring) now head)
        × Has sent (record { sender = s.place; head = head; part = part })

  pub spoken_more : (sent sent' : List MemberMessage) (message : PlainMessage) → SentMore sent sent' → IsSpoken sent message → IsSpoken sent' message
  spoken_more sent sent' message more x = record {
    truly = x.truly;
    spoken = λ part between is named. let q = x.spoken part between is named in (q.0, q.1, q.2, more _ q.3);
  }

  -- The node's deeds keep of this ticket what the host's tree keeps, start its handler where the host's tree asks for
  -- something else, which may go on to ask for more, and say what it says before that; deeds of other tickets stand
  -- between. Where they end, this is so of what is left and of the place in the host's tree.
  abbrev pub Mirrors : {S : Type 0} → (List MemberMessage → S → TurnTree → Type 0) → List MemberMessage → Deeds Ask S → TurnTree → Type 0
  Mirrors Q sent (Ends state) tree = Q sent state tree
  Mirrors Q sent (Does (Send peer message) go) tree =
      IsSpoken (sent_by tree sent) message × ((ok : Bool) → Mirrors Q sent (go ok) tree)
  Mirrors Q sent (Does (Keep name tried) go) tree =
      ((name ≢ s.ticket) × ((ok : Bool) → Mirrors Q sent (go ok) tree))
      ⊎ ((name ≡ s.ticket) × (rest : Bool → TurnTree) × (skip tree ≡ Does (Keeps tried) rest)
      × ((ok : Bool) → Mirrors Q (sent_by tree sent) (go ok) (rest ok)) × IsTold (rest true) (go true))
  Mirrors Q sent (Does (Start job) go) tree =
      ((ok : Bool) → Mirrors Q sent (go ok) tree)
      ⊎ ((rest : Bool → TurnTree) × (skip tree ≡ Does AsksElse rest)
      × ((ok : Bool) → (answers : List Bool) × Mirrors Q (sent_by tree sent) (go ok) (later answers (rest ok))))

  pub mirrors_kept : {S : Type 0} (Q : List MemberMessage → S → TurnTree → Type 0) (deeds : Deeds Ask S) → IsKept Q
      → (sent sent' : List MemberMessage) (tree tree' : TurnTree) → IsNoLess sent tree sent' tree' → Mirrors Q sent deeds tree → Mirrors Q sent' deeds tree'
  mirrors_kept Q (Ends state) kept sent sent' tree tree' x m = kept state sent sent' tree tree' x m
  mirrors_kept Q (Does (Send peer message) go) kept sent sent' tree tree' x m =
      (spoken_more (sent_by tree sent) (sent_by tree' sent') message x.more m.0, λ ok. mirrors_kept Q (go ok) kept sent sent' tree tree' x (m.1 ok))
  mirrors_kept Q (Does (Keep name tried) go) kept sent sent' tree tree' x (inl m) =
      inl (m.0, λ ok. mirrors_kept Q (go ok) kept sent sent' tree tree' x (m.1 ok))
  mirrors_kept Q (Does (Keep name tried) go) kept sent sent' tree tree' x (inr m) =
      inr (
        m.0,
        m.1,
        sym x.same ∙ m.2,
        (λ ok. mirrors_kept Q (go ok) kept (sent_by tree sent) (sent_by tree' sent') (m.1 ok) (m.1 ok)
            (no_less_on sent sent' tree tree' (m.1 ok) x) (m.3 ok)),
        m.4,
      )
  mirrors_kept Q (Does (Start job) go) kept sent sent' tree tree' x (inl m) =
      inl (λ ok. mirrors_kept Q (go ok) kept sent sent' tree tree' x (m ok))
  mirrors_kept Q (Does (Start job) go) kept sent sent' tree tree' x (inr m) =
      inr (
        m.0,
        sym x.same ∙ m.1,
        λ ok. (
          (m.2 ok).0,
          mirrors_kept Q (go ok) kept (sent_by tree sent) (sent_by tree' sent')
              (later (m.2 ok).0 (m.0 ok)) (later (m.2 ok).0 (m.0 ok))
              (no_less_on sent sent' tree tree' (later (m.2 ok).0 (m.0 ok)) x) (m.2 ok).1,
        ),
      )

  -- one after the other
  pub mirrors_next : {S T : Type 0} (P : List MemberMessage → S → TurnTree → Type 0) (Q : List MemberMessage → T → TurnTree → Type 0)
      (f : S → Deeds Ask T) (sent : List MemberMessage) (deeds : Deeds Ask S) (tree : TurnTree)
      → ((sent' : List MemberMessage) (state : S) (tree' : TurnTree) → P sent' state tree' → Mirrors Q sent' (f state) tree')
      → Mirrors P sent deeds tree → Mirrors Q sent (deeds >>= f) tree
  mirrors_next P Q f sent (Ends state) tree on m = on sent state tree m
  mirrors_next P Q f sent (Does (Send peer message) go) tree on m = (m.0, λ ok. mirrors_next P Q f sent (go ok) tree on (m.1 ok))
  mirrors_next P Q f sent (Does (Keep name tried) go) tree on (inl m) = inl (m.0, λ ok. mirrors_next P Q f sent (go ok) tree on (m.1 ok))
  mirrors_next P Q f sent (Does (Keep name tried) go) tree on (inr m) =
      inr (
        m.0,
        m.1,
        m.2,
        (λ ok. mirrors_next P Q f (sent_by tree sent) (go ok) (m.1 ok) on (m.3 ok)),
        λ others_are message rest is revokes.
            let told = m.4 others_are message rest is revokes in
            (told.0, sends_next node.config (others s) (Repeats message) f (go true) told.1),
      )
  mirrors_next P Q f sent (Does (Start job) go) tree on (inl m) = inl (λ ok. mirrors_next P Q f sent (go ok) tree on (m ok))
  mirrors_next P Q f sent (Does (Start job) go) tree on (inr m) =
      inr (
        m.0,
        m.1,
        λ ok. ((m.2 ok).0, mirrors_next P Q f (sent_by tree sent) (go ok) (later (m.2 ok).0 (m.0 ok)) on (m.2 ok).1),
      )
