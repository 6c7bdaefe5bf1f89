-- A configuration and a message that pass their tests have their forms.
use Rattle.std.proofs.Common.{◌≡◌, ℕ, ◌<◌, true, List, refl}
use Rattle.std.specs.Prelude.{◌^◌, Option, Some, None, IfSome}
use Rattle.std.proofs.lemmas.Bool.{and_parts, leb-true, ltb-true, not-true}
use Rattle.booth_base.specs.Name.{is_name}
use Rattle.booth_conf.specs.Config.{ConfigSays}
use Rattle.booth_conf.specs.Sound.{IsSound, each}
use Rattle.booth_wire.specs.PlainMessage.{Content, Bare, Ticket, Attr, Text, PlainMessage}
use Rattle.booth_wire.specs.Spelling.{HeadFits, PartFits, Fits}
use Rattle.booth_wire.specs.declared.command.Kind.{Kind}
use Rattle.booth_wire.specs.declared.command.Kind.TheVariants as kinds
use Rattle.booth_wire.specs.declared.message.Head.{Head}
use Rattle.booth_examples.specs.Fitting.{is_sound, is_short, head_fits, part_fits, same_kind, fits}
use Rattle.booth_examples.proofs.SameLemmas.{no_test}

pub config_is : (c : ConfigSays) → is_sound c ≡ true → IsSound c
config_is c e =
    let port = and_parts _ _ e in
    let authfile = and_parts _ _ port.1 in
    let skew = and_parts _ _ authfile.1 in
    let old = and_parts _ _ skew.1 in
    let extras = and_parts _ _ old.1 in
    let new_extras = and_parts _ _ extras.1 in
    let members = and_parts _ _ new_extras.1 in
    let new_members = and_parts _ _ members.1 in
    let few_members = and_parts _ _ new_members.1 in
    let tickets = and_parts _ _ few_members.1 in
    let new_tickets = and_parts _ _ tickets.1 in
    let few_tickets = and_parts _ _ new_tickets.1 in
    record {
      port = port.0;
      authfile = authfile.0;
      skew = skew.0;
      authfile_old = old.0;
      extras = extras.0;
      new_extras = new_extras.0;
      members = members.0;
      new_members = new_members.0;
      few_members = leb-true _ _ few_members.0;
      tickets = tickets.0;
      new_tickets = new_tickets.0;
      few_tickets = leb-true _ _ few_tickets.0;
      no_fault = not-true _ few_tickets.1;
    }

short_is : (n : ℕ) → is_short n ≡ true → n < 2 ^ 32
short_is n e = ltb-true n (2 ^ 32) e

head_is : (h : Head) → head_fits h ≡ true → HeadFits h
head_is h e =
    let secs = and_parts (is_short h.secs) _ e in
    let usecs = and_parts (is_short h.usecs) _ secs.1 in
    let from = and_parts (is_short h.from.0) _ usecs.1 in
    let request = and_parts (is_short h.request) _ from.1 in
    let options = and_parts (is_short h.options) _ request.1 in
    let reason = and_parts (is_short h.reason) _ options.1 in
    record {
      secs = short_is h.secs secs.0;
      usecs = short_is h.usecs usecs.0;
      from = short_is h.from.0 from.0;
      request = short_is h.request request.0;
      options = short_is h.options options.0;
      reason = short_is h.reason reason.0;
      result = short_is h.result reason.1;
    }

name_is : (o : Option (List ℕ)) → each is_name o ≡ true → IfSome o (λ name. is_name name ≡ true)
name_is None e = tt
name_is (Some name) e = e

part_is : (c : Content) → part_fits c ≡ true → PartFits c
part_is (Ticket part) e =
    let ticket = and_parts (is_name part.ticket) _ e in
    let leader = and_parts (is_short part.leader.0) _ ticket.1 in
    let term = and_parts (is_short part.term) _ leader.1 in
    record {
      ticket = ticket.0;
      leader = short_is part.leader.0 leader.0;
      term = short_is part.term term.0;
      valid_for = short_is part.valid_for term.1;
    }
part_is (Attr part) e =
    let ticket = and_parts (is_name part.ticket) _ e in
    let name = and_parts (each is_name part.name) _ ticket.1 in
    record { ticket = ticket.0; name = name_is part.name name.0; value = name.1 }
part_is Bare e = tt
part_is (Text text) e = tt

kind_is : (a b : Kind) → same_kind a b ≡ true → a ≡ b
kind_is kinds.Bare kinds.Bare e = refl
kind_is kinds.Ticket kinds.Ticket e = refl
kind_is kinds.Attr kinds.Attr e = refl
kind_is kinds.Text kinds.Text e = refl
kind_is a b e = no_test e

pub message_is : (l : PlainMessage) → fits l ≡ true → Fits l
message_is l e =
    let head = and_parts (head_fits l.head) _ e in
    let part = and_parts (part_fits l.content) _ head.1 in
    let kind = and_parts _ _ part.1 in
    let named = and_parts _ _ kind.1 in
    record {
      head = head_is l.head head.0;
      part = part_is l.content part.0;
      kind = kind_is _ _ kind.0;
      named = named.0;
      text = named.1;
    }
