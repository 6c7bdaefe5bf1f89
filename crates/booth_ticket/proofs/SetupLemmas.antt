-- A call leaves the setup as it was, whatever is answered.
use Rattle.std.proofs.Common.{◌≡◌, ℕ, List, [], refl}
use Rattle.std.specs.Prelude.{Option}
use Rattle.booth_base.specs.Tree.{Deeds, Ends, Does, Leads, each, Always}
use Rattle.booth_base.proofs.TreeLemmas.{always_left}
use Rattle.booth_wire.specs.declared.message.Head.{Head}
use Rattle.booth_wire.specs.declared.message.TicketPart.{TicketPart}
use Rattle.booth_wire.specs.declared.message.Setup.{Setup}
use Rattle.booth_manual.specs.State.{State as Rules}
use Rattle.booth_ticket.specs.declared.handling.Service.{Service}
use Rattle.booth_ticket.specs.declared.request.Given.{Given}
use Rattle.booth_ticket.specs.declared.manual.Job.{Job}
use Rattle.booth_ticket.specs.declared.request.Request.{Request}
use Rattle.booth_ticket.specs.declared.request.Wish.{Wish}
use Rattle.booth_ticket.specs.declared.waiters.Waiter.{Waiter}
use Rattle.booth_ticket.specs.Acts.{Ask, Act, Did, IsAct}
use Rattle.booth_ticket.specs.ManualHandling.{Granted, grant_after}
use Rattle.booth_ticket.specs.ManualRequests.{Begun, do_for}
use Rattle.booth_ticket.specs.Ticket.{Known, TicketLeft, ticket_asked, ticket_due, ticket_heard, ticket_over}
use Rattle.booth_ticket.specs.Waiting.{tell_one}
use Rattle.booth_ticket.proofs.WalkLemmas.{Allows, Any, after_walks, begin_walks, ticket_asked_walks, ticket_due_walks, ticket_heard_walks, ticket_over_walks}

any_is : {A S : Type 0} (t : Deeds A S) → Always Any Any t
any_is (Ends s) = tt
any_is (Does a f) = (tt, λ ok. any_is (f ok))

module _ (setup : Setup) (waiters : List Waiter) where
  -- all is allowed
  any_allowed : Allows setup waiters (Any {S = Ask})
  any_allowed = record {
    keeps = λ tried. tt;
    starts = λ job expires. tt;
    says = λ place head part own. tt;
    tells = λ part told names. any_is (each (tell_one setup part told) waiters);
  }

  kept_of : (t : Deeds Ask TicketLeft) (acts : List Act) (left : TicketLeft)
      → Always (Any {S = Ask}) (λ (l : TicketLeft). l.ticket.setup ≡ setup) t → Leads IsAct t acts (Ends left)
      → left.ticket.setup ≡ setup
  kept_of t acts left all leads =
      always_left IsAct (Any {S = Ask}) (λ (l : TicketLeft). l.ticket.setup ≡ setup) t acts left all leads

-- so do the rules of a manual ticket
pub begin_keeps : (rules : Rules) (running : Option Job) (refused job : Option ℕ) (wish : Wish) (now : ℕ) (acts : List Act) (begun : Begun)
    → Leads IsAct (do_for rules running refused job wish now) acts (Ends begun) → begun.rules.setup ≡ rules.setup
begin_keeps rules running refused job wish now acts begun leads =
    always_left IsAct (Any {S = Ask}) (λ (b : Begun). b.rules.setup ≡ rules.setup) (do_for rules running refused job wish now) acts
    begun
    (begin_walks rules.setup [] (Any {S = Ask}) (any_allowed rules.setup []) rules running refused job wish now refl) leads

pub after_keeps : (rules : Rules) (service : Service) (acts : List Act) (done : Granted)
    → Leads IsAct (grant_after rules service) acts (Ends done) → done.rules.setup ≡ rules.setup
after_keeps rules service acts done leads =
    always_left IsAct (Any {S = Ask}) (λ (g : Granted). g.rules.setup ≡ rules.setup) (grant_after rules service) acts done
    (after_walks rules.setup [] (Any {S = Ask}) (any_allowed rules.setup []) rules service refl) leads

module _ (setup : Setup) (known : Known) (waiters : List Waiter) (acts : List Act) (left : TicketLeft) where
  pub ticket_heard_keeps : (from : ℕ) (head : Head) (part : TicketPart) (now : ℕ)
      → Leads IsAct (ticket_heard setup known waiters from head part now) acts (Ends left) → left.ticket.setup ≡ setup
  ticket_heard_keeps from head part now leads =
      kept_of setup waiters (ticket_heard setup known waiters from head part now) acts left
      (ticket_heard_walks setup waiters (Any {S = Ask}) (any_allowed setup waiters) known from head part now) leads

  pub ticket_asked_keeps : (spare : ℕ) (given : Given) (request : Request)
      → Leads IsAct (ticket_asked setup known waiters spare given request) acts (Ends left) → left.ticket.setup ≡ setup
  ticket_asked_keeps spare given request leads =
      kept_of setup waiters (ticket_asked setup known waiters spare given request) acts left
      (ticket_asked_walks setup waiters (Any {S = Ask}) (any_allowed setup waiters) known spare given request
      (λ wanted result part names. tt)) leads

  pub ticket_due_keeps : (given : Given)
      → Leads IsAct (ticket_due setup known waiters given) acts (Ends left) → left.ticket.setup ≡ setup
  ticket_due_keeps given leads =
      kept_of setup waiters (ticket_due setup known waiters given) acts left
      (ticket_due_walks setup waiters (Any {S = Ask}) (any_allowed setup waiters) known given) leads

  pub ticket_over_keeps : (job : ℕ) (service : Service) (now : ℕ)
      → Leads IsAct (ticket_over setup known waiters job service now) acts (Ends left) → left.ticket.setup ≡ setup
  ticket_over_keeps job service now leads =
      kept_of setup waiters (ticket_over setup known waiters job service now) acts left
      (ticket_over_walks setup waiters (Any {S = Ask}) (any_allowed setup waiters) known job service now) leads

-- what left a ticket's tree, by what was done
pub left_keeps : {X : Type 0} {did : X → Act → X → Type 0} {tree : Deeds Ask TicketLeft} {left : TicketLeft} {old new : X} (setup : Setup)
    → ((acts : List Act) (end : TicketLeft) → Leads IsAct tree acts (Ends end) → end.ticket.setup ≡ setup)
    → Did did tree left old new → left.ticket.setup ≡ setup
left_keeps {X} {did} {tree} {left} setup keeps done = keeps done.acts left done.leads
