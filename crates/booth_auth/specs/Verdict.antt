-- The gate: which datagrams it accepts, and the fault for which it drops each of the others.
use Rattle.std.specs.Prelude.{◌≡◌, ℕ, ◌+◌, ◌-◌, ◌/◌, Bool, false, not, ◌&&◌, ◌||◌, ◌==◌, nat_lt, if◌then◌else◌, List, [], ◌∷◌, length, take, position, is_some, Option, Some, None, Result, Ok, Err, bytes_eq}
use Rattle.std.specs.List.{list_any}
use Rattle.booth_base.specs.declared.address.MemberId.{MemberId}
use Rattle.booth_base.specs.declared.address.TheConstants.{NO_ONE}
use Rattle.booth_conf.specs.Config.{ConfigSays, has_id}
use Rattle.booth_conf.specs.Lookups.{is_called}
use Rattle.booth_conf.specs.declared.members.Member.{Member}
use Rattle.booth_wire.specs.declared.command.Cmd.{Cmd}
use Rattle.booth_wire.specs.declared.command.Cmd.TheVariants as cmds
use Rattle.booth_wire.specs.declared.command.Direction.{Direction}
use Rattle.booth_wire.specs.declared.command.Direction.TheVariants.{ToDaemon, ToClient, BetweenMembers}
use Rattle.booth_wire.specs.declared.message.FrameFault.{FrameFault}
use Rattle.booth_wire.specs.declared.message.Head.{Head}
use Rattle.booth_wire.specs.declared.message.Message.{Message}
use Rattle.booth_wire.specs.declared.message.TicketPart.{TicketPart}
use Rattle.booth_wire.specs.Command.{code_of, direction_of}
use Rattle.booth_wire.specs.PlainMessage.{Content, Ticket, PlainMessage, plain_of}
use Rattle.booth_wire.specs.Layout.{field_at, word_at}
use Rattle.booth_wire.specs.Reading.{decoded}
use Rattle.booth_wire.specs.Spelling.{before_auth}
use Rattle.booth_keys.specs.Mac.{mac, mac256}
use Rattle.booth_keys.specs.declared.ring.Ring.{Ring}
use Rattle.booth_auth.specs.declared.admission.DropFault.{DropFault}
use Rattle.booth_auth.specs.declared.admission.DropFault.TheVariants as faults

-- ---- the keys

-- there is a key, and the frame has no authentication part
abbrev pub lacks_mac : Option Ring → Head → Bool
lacks_mac None h = false
lacks_mac (Some ring) h = not h.auth

-- the number of the hash, at the start of an authentication part
abbrev pub hash_id : List ℕ → ℕ
hash_id bytes = word_at (length bytes - 28) bytes

-- With SHA-1 the MAC of a frame is the first 20 of its hash bytes. It is right if it is the MAC of all bytes before
-- the authentication part.
abbrev pub is_sha1_right : List ℕ → List ℕ → Bool
is_sha1_right key bytes = bytes_eq (field_at (length bytes - 24) 20 bytes) (mac key (before_auth bytes))

-- With SHA-256 all 24 hash bytes are the first 24 of the MAC.
abbrev pub is_sha256_right : List ℕ → List ℕ → Bool
is_sha256_right key bytes =
    bytes_eq (field_at (length bytes - 24) 24 bytes) (take 24 (mac256 key (before_auth bytes)))

-- Hash id 3 means SHA-256. With any other id the MAC is by SHA-1.
abbrev pub is_mac_right : List ℕ → List ℕ → Bool
is_mac_right key bytes = if hash_id bytes == 3 then is_sha256_right key bytes else is_sha1_right key bytes

abbrev pub is_old_right : Option (List ℕ) → List ℕ → Bool
is_old_right None bytes = false
is_old_right (Some key) bytes = is_mac_right key bytes

-- neither key of the ring gives the frame's MAC
abbrev pub has_wrong_mac : Option Ring → List ℕ → Bool
has_wrong_mac None bytes = false
has_wrong_mac (Some ring) bytes = not (is_mac_right ring.first bytes || is_old_right ring.old bytes)

-- the frame has a MAC by one of the keys, if there are any
abbrev pub is_signed : Option Ring → Head → List ℕ → Bool
is_signed ring h bytes = not (lacks_mac ring h) && not (has_wrong_mac ring bytes)

-- there is a key, and the sender's clock is more than `skew` seconds behind this one, which reads
-- `now` ms
abbrev pub is_too_old : Option Ring → ℕ → ℕ → Head → Bool
is_too_old None skew now h = false
is_too_old (Some ring) skew now h = nat_lt (h.secs + skew) (now / 1000)

-- ---- the sender

abbrev pub is_member : ConfigSays → MemberId → Bool
is_member config id = is_some (position (has_id id) config.members)

-- Clients have no member's number, members are in the configuration, and a daemon does not accept its own messages.
abbrev pub may_come_from : ConfigSays → Direction → MemberId → Bool
may_come_from config ToDaemon from = from.0 == 0
may_come_from config BetweenMembers from = is_member config from
may_come_from config ToClient from = false

abbrev pub is_stranger : ConfigSays → Head → Bool
is_stranger config h = not (may_come_from config (direction_of h.cmd) h.from)

-- ---- what members say about a ticket

-- the part about a ticket in a member's command; a client's command has none here
abbrev pub member_part : Direction → Content → Option TicketPart
member_part BetweenMembers (Ticket part) = Some part
member_part direction content = None

abbrev pub part_of_member : PlainMessage → Option TicketPart
part_of_member l = member_part (direction_of l.head.cmd) l.content

abbrev pub names_no_ticket : ConfigSays → Option TicketPart → Bool
names_no_ticket config None = false
names_no_ticket config (Some part) = not (is_some (position (is_called part.ticket) config.tickets))

abbrev pub is_site_of : MemberId → Member → Bool
is_site_of id m = m.site && has_id id m

-- nobody, or a site: arbitrators hold no tickets
abbrev pub may_lead : ConfigSays → MemberId → Bool
may_lead config id = id.0 == NO_ONE.0 || list_any (is_site_of id) config.members

-- the commands of a ticket's leader, or of a member that wants to be it
abbrev pub leads : Cmd → Bool
leads cmd = list_any (λ c. code_of c == code_of cmd) (cmds.RVot ∷ cmds.HrtB ∷ cmds.UpdE ∷ [])

abbrev pub names_no_leader : ConfigSays → Head → Option TicketPart → Bool
names_no_leader config h None = false
names_no_leader config h (Some part) =
    not (may_lead config part.leader) || (leads h.cmd && not (part.leader.0 == h.from.0))

-- ---- the first fault

-- Each fault under its condition, in the order of the faults.
abbrev pub admitted : ConfigSays → MemberId → PlainMessage → Result PlainMessage DropFault
admitted config me l =
    if is_stranger config l.head then Err faults.Stranger else
    if l.head.from.0 == me.0 then Err faults.Own else
    if names_no_ticket config (part_of_member l) then Err faults.Ticket else
    if names_no_leader config l.head (part_of_member l) then Err faults.Leader else Ok l

abbrev pub judged :
    ConfigSays → Option Ring → MemberId → ℕ → List ℕ → PlainMessage → Result PlainMessage DropFault
judged config ring me now bytes l =
    if lacks_mac ring l.head then Err faults.NoMac else
    if has_wrong_mac ring bytes then Err faults.BadMac else
    if is_too_old ring config.skew now l.head then Err faults.TooOld else admitted config me l

abbrev pub judged_if_read :
    ConfigSays → Option Ring → MemberId → ℕ → List ℕ → Result PlainMessage FrameFault →
    Result PlainMessage DropFault
judged_if_read config ring me now bytes (Err fault) = Err (faults.Frame fault)
judged_if_read config ring me now bytes (Ok l) = judged config ring me now bytes l

-- how the member `me` judges these bytes, at a reading of its clock in ms: the message, or the first of eight faults
abbrev pub verdict : ConfigSays → Option Ring → MemberId → ℕ → List ℕ → Result PlainMessage DropFault
verdict config ring me now bytes = judged_if_read config ring me now bytes (decoded bytes)

-- a message or a fault equals a verdict
abbrev pub Passes : Result Message DropFault → Result PlainMessage DropFault → Type 0
Passes (Ok m) judged = judged ≡ Ok (plain_of m)
Passes (Err fault) judged = judged ≡ Err fault
