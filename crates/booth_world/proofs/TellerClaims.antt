-- What a member tells of a ticket, and the records that bear it out.
use Rattle.std.proofs.Common.{◌≡◌, ◌≢◌, ◌⊎◌, ⊎_elim, inl, inr, ℕ, ◌<◌, List, [], ◌∷◌, slice_get, refl, sym, ap, ◌∙◌, subst, arith}
use Rattle.std.specs.Prelude.{Option, Some, None, IsSomeAnd, is_some}
use Rattle.booth_keys.specs.declared.ring.Ring.{Ring}
use Rattle.booth_base.specs.declared.address.Address.{Address}
use Rattle.booth_base.specs.declared.address.MemberId.{MemberId}
use Rattle.booth_chain.proofs.NodesLemmas.{same_or_not}
use Rattle.booth_rec.specs.declared.record.Lease.{Lease}
use Rattle.booth_rec.specs.declared.record.Record.{Record}
use Rattle.booth_rec.specs.Record.{lease_end}
use Rattle.booth_wire.specs.declared.command.Cmd.TheVariants.{RLst}
use Rattle.booth_wire.specs.declared.message.Setup.{Setup}
use Rattle.booth_wire.specs.declared.message.TicketPart.{TicketPart}
use Rattle.booth_wire.specs.PlainMessage.{PlainMessage, Text, Ticket}
use Rattle.booth_host.specs.declared.host.Job.{Job}
use Rattle.booth_ticket.specs.Ticket.{TicketState, Known}
use Rattle.booth_node.specs.Records.{Has}
use Rattle.booth_world.specs.Tellers.{Claim, IsGranted, HasLeft, EndsIn, IsListed, BearsOut, HasNone, JobTells, ListTells, MessageTells}
use Rattle.booth_world.proofs.Lists.{none_is, some_same}
use Rattle.booth_world.proofs.TellerSteps.{IsHonest}

-- one of these records may be kept; and where a grant's success is told, it is kept, as no other may be
abbrev pub IsKeptFor : List Record → Record → Claim → Type 0
IsKeptFor may k (IsGranted head) = may ≡ k ∷ []
IsKeptFor may k claim = Has may k

pub any_kept : (may : List Record) (k : Record) (claim : Claim) → IsKeptFor may k claim → Has may k
any_kept may k (IsGranted head) kept = subst (λ (rs : List Record). Has rs k) (sym kept) (inl refl)
any_kept may k (HasLeft head seconds) kept = kept
any_kept may k (EndsIn second) kept = kept
any_kept may k (IsListed digits) kept = kept

-- such a record has a lease that bears the claim out
abbrev pub IsBacked : List Record → Claim → Type 0
IsBacked may claim = (k : Record) × IsKeptFor may k claim × IsSomeAnd k.lease (λ lease. BearsOut claim lease.until)

-- by whom is told what: the ticket's name, the member's id and its address
pub record Teller : Type 0 where
  pub name : List ℕ
  pub me : MemberId
  pub address : Address

abbrev pub IsTold : Teller → PlainMessage → Claim → Type 0
IsTold by message claim = MessageTells by.name by.me message claim ⊎ ListTells by.name by.address message claim

-- a message that is sent by this ring, and whose claims are borne out
abbrev pub IsHonestMessage : Teller → Option Ring → List Record → PlainMessage → Type 0
IsHonestMessage by ring may message =
    (message.head.auth ≡ is_some ring) × ((claim : Claim) → IsTold by message claim → IsBacked may claim)

abbrev pub IsHonestJob : List ℕ → List Record → Job → Type 0
IsHonestJob name may job = (claim : Claim) → JobTells name job claim → IsBacked may claim

pub in_lease : (P : ℕ → Type 0) (o : Option Lease) → 0 < lease_end o → P (lease_end o) → IsSomeAnd o (λ lease. P lease.until)
in_lease P None some p = absurd (omega (arith, some))
in_lease P (Some lease) some p = p

pub text_is_none : (text : List ℕ) (part : TicketPart) → Text text ≡ Ticket part → ⊥
text_is_none text part e = cc

pub same_part : (a b : TicketPart) → Ticket a ≡ Ticket b → a ≡ b
same_part a b e = cc

pub same_text : (a b : List ℕ) → Text a ≡ Text b → a ≡ b
same_text a b e = cc

-- a list is a text, under its own command
pub list_is : (name : List ℕ) (address : Address) (message : PlainMessage) (claim : Claim) → ListTells name address message claim
    → (text : List ℕ) × (message.head.cmd ≡ RLst) × (message.content ≡ Text text)
list_is name address message (IsGranted head) t = absurd t
list_is name address message (HasLeft head seconds) t = absurd t
list_is name address message (EndsIn second) t = absurd t
list_is name address message (IsListed digits) t = (t.0, t.1, t.2)

-- what is said of a ticket is no list
pub told_of_ticket : (by : Teller) (ring : Option Ring) (may : List Record) (message : PlainMessage) (part : TicketPart) → message.head.auth ≡ is_some ring
    → message.content ≡ Ticket part → ((claim : Claim) → MessageTells by.name by.me message claim → IsBacked may claim)
    → IsHonestMessage by ring may message
told_of_ticket by ring may message part truly is so = (
  truly,
  λ claim told.
      ⊎_elim (λ (t : MessageTells by.name by.me message claim). so claim t)
      (λ (t : ListTells by.name by.address message claim).
      let q = list_is by.name by.address message claim t in absurd (text_is_none q.0 part (sym q.2 ∙ is))) told,
)

-- what is no ticket's, and no list, tells nothing
pub told_of_none : (by : Teller) (ring : Option Ring) (may : List Record) (message : PlainMessage) → message.head.auth ≡ is_some ring
    → ((part : TicketPart) → message.content ≡ Ticket part → ⊥) → (message.head.cmd ≡ RLst → ⊥)
    → IsHonestMessage by ring may message
told_of_none by ring may message truly none other = (
  truly,
  λ claim told.
      ⊎_elim (λ (t : MessageTells by.name by.me message claim). absurd (none t.0 t.1))
      (λ (t : ListTells by.name by.address message claim). absurd (other (list_is by.name by.address message claim t).1)) told,
)

-- a place was found, or another or none
pub found_or_not : (found : Option ℕ) (place : ℕ) → (found ≡ Some place) ⊎ (found ≢ Some place)
found_or_not None place = inr (λ e. none_is place e)
found_or_not (Some p) place = by_place (same_or_not p place)
  where
    by_place : (p ≡ place) ⊎ (p ≢ place) → (Some p ≡ Some place) ⊎ (Some p ≢ Some place)
    by_place (inl e) = inl (ap (λ (n : ℕ). Some n) e)
    by_place (inr ne) = inr (λ e. ne (some_same p place e))

module _ (s : Setup) (found : Option ℕ) where
  -- A ticket that stands at a place, at rest, with a record that may be kept.
  pub record IsOwn (place : ℕ) (may : List Record) (tickets : List TicketState) : Type 0 where
    pub known : Known
    pub own : slice_get tickets place ≡ Some (record { setup = s; known = known })
    pub honest : IsHonest s may known

  -- Where the ticket was found, it stands so; no other has its name, and no name has a gap.
  pub record IsPlaced (may : List Record) (tickets : List TicketState) : Type 0 where
    pub own : (place : ℕ) → found ≡ Some place → IsOwn place may tickets
    pub others : (other : ℕ) (t : TicketState) → slice_get tickets other ≡ Some t → found ≢ Some other → t.setup.ticket ≢ s.ticket
    pub named : (other : ℕ) (t : TicketState) → slice_get tickets other ≡ Some t → HasNone 10 t.setup.ticket × HasNone 32 t.setup.ticket
    pub clear : HasNone 32 s.ticket
