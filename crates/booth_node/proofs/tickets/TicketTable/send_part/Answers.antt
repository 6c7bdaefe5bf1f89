use Rattle.std.proofs.Common.{List, ℕ, drop, refl, sym, ap, ◌∙◌, subst}
use Rattle.std.proofs.lemmas.List.{drop-map}
use Rattle.std.specs.Prelude.{is_ok}
use Rattle.booth_host.specs.declared.entry.Entry.TheVariants as calls
use Rattle.booth_ticket.specs.Ticket.{TicketState}
use Rattle.booth_node.specs.Replies.{list_line, list_lines}
use Rattle.booth_node.specs.ReplyForms.{IsPartWritten}
use Rattle.booth_node.proofs.LedLemmas.{led_last}
use Rattle.booth_node.proofs.TellLemmas.{rest_of}
use Rattle.booth_node.proofs.tickets.TicketTable.send_part.Goals as goal

pub returns-clause-sent : goal.returns-clause-sent
returns-clause-sent g c =
    let node = c.args.self.now.node in
    let items = c.args.self.now.tickets.items in
    let frame = c.part-count.new.self.frame in
    let written : List (List ℕ) → Type 0 =
    λ lines. IsPartWritten node c.args.now lines c.args.part.request c.args.part.number c.part-count.result frame in
    let it : IsPartWritten node c.args.now (drop c.args.first (list_lines node c.args.now items)) c.args.part.request c.args.part.number
    c.part-count.result frame =
    subst written
    (ap (λ (ts : List TicketState). list_lines node c.args.now ts)
    (rest_of c.deref.result.now c.args.first ∙ ap (λ (ts : List TicketState). drop c.args.first ts) c.deref.ensures.value)
    ∙ sym (drop-map (list_line node.config c.args.now) c.args.first items)) c.part-count.ensures in
    record {
      text = it.text;
      part = it.part;
      led = led_last (is_ok c.send.result) (calls.Send c.args.to c.bytes.result.now c.send.result) (λ ok. tt) c.send.ensures.past
          c.send.ensures.cause.later (refl, c.bytes.ensures.value ∙ it.written, it.fits, refl);
    }
