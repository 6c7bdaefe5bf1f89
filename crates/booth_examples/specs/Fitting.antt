-- Tests of forms: configurations that a text spells, and messages that have a spelling.
use Rattle.std.specs.Prelude.{ℕ, ◌^◌, Bool, true, false, not, ◌&&◌, nat_le, nat_lt, [], length, is_some}
use Rattle.std.specs.List.{list_all}
use Rattle.booth_base.specs.Name.{is_name, is_value}
use Rattle.booth_base.specs.declared.limits.TheConstants.{MEMBERS}
use Rattle.booth_conf.specs.Config.{ConfigSays, file_fault}
use Rattle.booth_conf.specs.Sound.{is_within, each, is_text, is_extra, is_member, is_ticket, are_new, same_key, same_member, same_ticket}
use Rattle.booth_conf.specs.declared.limits.TheConstants.{SECONDS, TICKETS}
use Rattle.booth_wire.specs.Command.{kind_of}
use Rattle.booth_wire.specs.PlainMessage.{Content, Ticket, Attr, PlainMessage, kind_in, is_named, has_text}
use Rattle.booth_wire.specs.declared.command.Kind.{Kind}
use Rattle.booth_wire.specs.declared.command.Kind.TheVariants as kinds
use Rattle.booth_wire.specs.declared.message.Head.{Head}

-- ---- configurations

abbrev pub is_sound : ConfigSays → Bool
is_sound c =
    is_within 1 65535 c.port && (each (is_text 1) c.authfile && (is_within 1 SECONDS c.skew
    && (each (is_text 1) c.authfile_old && (list_all is_extra c.extras && (are_new same_key [] c.extras
    && (list_all is_member c.members && (are_new same_member [] c.members
    && (nat_le (length c.members) MEMBERS && (list_all is_ticket c.tickets && (are_new same_ticket [] c.tickets
    && (nat_le (length c.tickets) TICKETS && not (is_some (file_fault c.members c.tickets)))))))))))))

-- ---- messages

-- The number fits into four bytes.
abbrev pub is_short : ℕ → Bool
is_short n = nat_lt n (2 ^ 32)

abbrev pub head_fits : Head → Bool
head_fits h =
    is_short h.secs && (is_short h.usecs && (is_short h.from.0 && (is_short h.request
    && (is_short h.options && (is_short h.reason && is_short h.result)))))

abbrev pub part_fits : Content → Bool
part_fits (Ticket part) =
    is_name part.ticket && (is_short part.leader.0 && (is_short part.term && is_short part.valid_for))
part_fits (Attr part) = is_name part.ticket && (each is_name part.name && is_value part.value)
part_fits content = true

abbrev pub same_kind : Kind → Kind → Bool
same_kind kinds.Bare kinds.Bare = true
same_kind kinds.Ticket kinds.Ticket = true
same_kind kinds.Attr kinds.Attr = true
same_kind kinds.Text kinds.Text = true
same_kind a b = false

abbrev pub fits : PlainMessage → Bool
fits l =
    head_fits l.head && (part_fits l.content && (same_kind (kind_in l.content) (kind_of l.head.cmd)
    && (is_named l.head.cmd l.content && has_text l.content)))
