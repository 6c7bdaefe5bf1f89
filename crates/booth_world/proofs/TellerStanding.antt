-- What a client is told of how a ticket stands is borne out by the records that may be kept then.
use Rattle.std.proofs.Common.{Bool, List, ap, arith, false, inl, inr, refl, slice_get, subst, sym, true, ℕ, ◌<◌, ◌∙◌, ◌≡◌, ◌≢◌, ◌⊎◌}
use Rattle.std.specs.Prelude.{Option, Some, None, not, nat_lt, if◌then◌else◌}
use Rattle.std.proofs.lemmas.Bool.{and_parts}
use Rattle.booth_base.specs.declared.address.Address.{Address}
use Rattle.booth_base.specs.declared.address.TheConstants.{NO_ONE}
use Rattle.booth_rec.specs.declared.record.Lease.{Lease}
use Rattle.booth_rec.specs.declared.record.Record.{Record}
use Rattle.booth_rec.specs.Record.{lease_end}
use Rattle.booth_wire.specs.declared.codes.results.TheConstants.{SUCCESS}
use Rattle.booth_wire.specs.declared.command.Cmd.TheVariants.{RGnt, RTkt}
use Rattle.booth_wire.specs.declared.message.Setup.{Setup}
use Rattle.booth_wire.specs.declared.message.TicketPart.{TicketPart}
use Rattle.booth_wire.specs.PlainMessage.{PlainMessage, Ticket}
use Rattle.booth_auth.specs.Sealed.{stamped}
use Rattle.booth_raft.specs.declared.view.Shown.{Shown}
use Rattle.booth_raft.specs.declared.view.View.{View}
use Rattle.booth_raft.specs.Members.{is_same}
use Rattle.booth_raft.specs.Messages.{part_of}
use Rattle.booth_raft.specs.Numbers.{seconds_left}
use Rattle.booth_raft.proofs.AnswerLemmas.{same-is_same}
use Rattle.booth_raft.proofs.FactsLemmas.{on_cond, untrue}
use Rattle.booth_ticket.specs.declared.ticket.Owner.{Owner}
use Rattle.booth_ticket.specs.Requests.{is_holder, is_shown_elsewhere, lease_part, shown_part, told_lease, told_part}
use Rattle.booth_ticket.specs.Ticket.{TicketState, Known, Automatic, Manual, endless_part, manual_owner, told_ticket}
use Rattle.booth_node.specs.declared.node_config.NodeConfig.{NodeConfig}
use Rattle.booth_node.specs.Replies.{Reply, reply_message}
use Rattle.booth_world.specs.Tellers.{Claim, IsGranted, HasLeft, EndsIn, IsListed, PartTells}
use Rattle.booth_world.proofs.Lists.{some_same}
use Rattle.booth_world.proofs.TellerClaims.{IsBacked, IsHonestMessage, IsOwn, IsPlaced, found_or_not, same_part, told_of_ticket}
use Rattle.booth_world.proofs.TellerNodes.{by, own_message}
use Rattle.booth_world.proofs.TellerRules.{IsBorne, some_left}
use Rattle.booth_world.proofs.TellerSteps.{IsHonest}

-- ---- what is told

-- it is about the ticket
pub names_it : (setup : Setup) (known : Known) (now : ℕ) → (told_ticket setup known now).ticket ≡ setup.ticket
names_it setup (Automatic view) now = by_lease (told_lease setup view now)
  where
    by_shown : (o : Option Shown) → (shown_part setup o now).ticket ≡ setup.ticket
    by_shown None = refl
    by_shown (Some shown) =
        on_cond (λ (p : TicketPart). p.ticket ≡ setup.ticket) (is_shown_elsewhere (Some shown) setup.me now) _ _ refl refl

    by_lease : (o : Option Lease) → (lease_part setup view o now).ticket ≡ setup.ticket
    by_lease None = by_shown view.shown
    by_lease (Some lease) = refl
names_it setup (Manual known) now = by_owner (manual_owner setup known.view)
  where
    by_owner : (o : Option Owner) → (endless_part setup o).ticket ≡ setup.ticket
    by_owner None = refl
    by_owner (Some owner) = refl

abbrev Borne : Setup → Record → ℕ → TicketPart → Type 0
Borne s base now part = IsBorne s.me (lease_end base.lease) now part

-- where it names this member, it is the end of the record's lease
told_borne : (s : Setup) (now : ℕ) (base : Record) (view : View) → view.kept ≡ base → IsBorne s.me (lease_end base.lease) now (told_part s view now)
told_borne s now base view same = by_holder (is_holder s view now)
  where
    nobody : Borne s base now (part_of s NO_ONE 0 0)
    nobody leads some = absurd (omega (arith, some))

    by_shown : (o : Option Shown) → Borne s base now (shown_part s o now)
    by_shown None = nobody
    by_shown (Some shown) = by_test (is_shown_elsewhere (Some shown) s.me now) refl
      where
        by_test : (b : Bool) → is_shown_elsewhere (Some shown) s.me now ≡ b
            → Borne s base now (if b then part_of s shown.owner 0 (seconds_left shown.until now) else part_of s NO_ONE 0 0)
        by_test false is = nobody
        by_test true is = λ leads some.
            let other : not (is_same shown.owner s.me) ≡ true = (and_parts (nat_lt now shown.until) (not (is_same shown.owner s.me)) is).1 in
            absurd (untrue (sym (ap not (same-is_same shown.owner s.me leads)) ∙ other))

    by_lease : (o : Option Lease) → view.kept.lease ≡ o → Borne s base now (lease_part s view o now)
    by_lease None e = by_shown view.shown
    by_lease (Some lease) e = λ leads some.
        let until : lease.until ≡ lease_end base.lease = ap lease_end (sym e) ∙ ap (λ (r : Record). lease_end r.lease) same in
        (subst (λ (n : ℕ). now < n) until (some_left now lease.until some), ap (λ (n : ℕ). seconds_left n now) until)

    by_holder : (b : Bool) → Borne s base now (lease_part s view (if b then view.kept.lease else None) now)
    by_holder false = by_shown view.shown
    by_holder true = by_lease view.kept.lease refl

-- ---- the reply

module _ (s : Setup) (at_found : Option ℕ) (lasts : 0 < s.times.expire) (address : Address) (node : NodeConfig) (moment : ℕ) where
  abbrev standing : TicketState → Reply
  standing ticket = record { result = SUCCESS; content = Ticket (told_ticket ticket.setup ticket.known moment) }

  abbrev tells : ℕ → TicketState → PlainMessage
  tells request ticket = stamped node.ring moment (reply_message node.me request RTkt (standing ticket))

  abbrev IsTrue : List Record → PlainMessage → Type 0
  IsTrue may message = IsHonestMessage (by s at_found lasts address) node.ring may message

  not_granted : RTkt ≡ RGnt → ⊥
  not_granted e = cc

  -- this ticket's own
  own_true : (may : List Record) (request : ℕ) (known : Known) → IsHonest s may known → IsTrue may (tells request (record { setup = s; known = known }))
  own_true may request (Manual known) honest = absurd honest
  own_true may request (Automatic view) honest =
      own_message s at_found lasts address node moment may (reply_message node.me request RTkt (standing (record { setup = s; known = Automatic view }))).head
      (told_part s view moment) (
        λ leads some. let b = told_borne s moment honest.0 view honest.2.same leads some in (honest.0, honest.1, b.0, b.1),
        λ is done. absurd (not_granted is),
      )

  -- another's
  other_true : (may : List Record) (request : ℕ) (ticket : TicketState) → ticket.setup.ticket ≢ s.ticket → IsTrue may (tells request ticket)
  other_true may request ticket other =
      told_of_ticket (by s at_found lasts address) node.ring may (tells request ticket) part refl refl
      (λ claim told. by_claim told.0 (same_part part told.0 told.1) claim told.2)
    where
      part : TicketPart
      part = told_ticket ticket.setup ticket.known moment

      never : (found : TicketPart) → part ≡ found → found.ticket ≡ s.ticket → ⊥
      never found same named =
          other (sym (names_it ticket.setup ticket.known moment) ∙ (ap (λ (p : TicketPart). p.ticket) same ∙ named))

      by_claim : (found : TicketPart) → part ≡ found → (claim : Claim) → PartTells s.ticket s.me (tells request ticket).head found claim → IsBacked may claim
      by_claim found same (IsGranted head) t = absurd (never found same t.0)
      by_claim found same (HasLeft head seconds) t = absurd (never found same t.0)
      by_claim found same (EndsIn second) t = absurd t
      by_claim found same (IsListed digits) t = absurd t

  pub standing_true : (may : List Record) (request place : ℕ) (ticket : TicketState) (tickets : List TicketState) → IsPlaced s at_found may tickets
      → slice_get tickets place ≡ Some ticket → IsTrue may (tells request ticket)
  standing_true may request place ticket tickets at is = by_place (found_or_not at_found place)
    where
      by_place : (at_found ≡ Some place) ⊎ (at_found ≢ Some place) → IsTrue may (tells request ticket)
      by_place (inr ne) = other_true may request ticket (at.others place ticket is ne)
      by_place (inl same) =
          let own : IsOwn s at_found place may tickets = at.own place same in
          subst (λ (t : TicketState). IsTrue may (tells request t))
          (some_same (record { setup = s; known = own.known }) ticket (sym own.own ∙ is))
          (own_true may request own.known own.honest)
