-- What holds for each configuration that a text spells.
use Rattle.std.specs.Prelude.{◌≡◌, ◌≤◌, ◌<◌, ℕ, Bool, true, false, ◌&&◌, ◌||◌, not, nat_le, nat_lt, ◌==◌, ◌+◌, ◌*◌, ◌/◌, List, [], ◌∷◌, ◌++◌, length, Option, Some, None, is_some, bytes_eq}
use Rattle.std.specs.List.{list_all, list_any}
use Rattle.booth_base.specs.Name.{is_name, is_value}
use Rattle.booth_base.specs.Address.{id_of}
use Rattle.booth_base.specs.declared.address.Address.{Address}
use Rattle.booth_base.specs.declared.address.Address.TheVariants.{V4, V6}
use Rattle.booth_base.specs.declared.times.Times.{Times}
use Rattle.booth_conf.specs.Grammar.{is_value_byte, is_other, begins_bare, stays_bare}
use Rattle.booth_conf.specs.Values.{is_word_byte, is_word, default_name}
use Rattle.booth_conf.specs.Rules.{is_at}
use Rattle.booth_conf.specs.Config.{ConfigSays, file_fault}
use Rattle.booth_conf.specs.Print.{prereq_text}
use Rattle.booth_conf.specs.declared.limits.TheConstants.{LEAST_RETRIES, MOST_RETRIES, PREREQS, SECONDS, TICKETS, WEIGHT}
use Rattle.booth_base.specs.declared.limits.TheConstants.{MEMBERS}
use Rattle.booth_conf.specs.declared.keys.KeyNo.{KeyNo}
use Rattle.booth_conf.specs.declared.members.Member.{Member}
use Rattle.booth_conf.specs.declared.tickets.Prereq.{Prereq}
use Rattle.booth_conf.specs.declared.tickets.TicketConf.{TicketConf}
use Rattle.booth_base.specs.declared.text.TheConstants.{PATH_BYTES}

abbrev pub is_within : ℕ → ℕ → ℕ → Bool
is_within least most n = nat_le least n && nat_le n most

-- the value passes the test, if there is one
abbrev pub each : {X : Type 0} → (X → Bool) → Option X → Bool
each p None = true
each p (Some x) = p x

-- a value that some line can contain: in `"`, in `'`, or bare
abbrev pub is_sayable : List ℕ → Bool
is_sayable value =
    list_all is_value_byte value
    && (list_all (is_other 0x22) value
    || (list_all (is_other 0x27) value || (begins_bare value && stays_bare value [])))

abbrev pub is_text : ℕ → List ℕ → Bool
is_text least value = is_sayable value && is_within least PATH_BYTES (length value)

abbrev pub is_command : List ℕ → Bool
is_command value = is_text 1 value && list_any is_word_byte value

-- one of the five keys without effect, with its text
abbrev pub is_extra : KeyNo × List ℕ → Bool
is_extra e = is_within 5 9 e.0.0 && is_text 0 e.1

abbrev pub is_byte : ℕ → Bool
is_byte b = nat_lt b 256

abbrev pub is_address : Address → Bool
is_address (V4 bytes) = length bytes == 4 && list_all is_byte bytes
is_address (V6 bytes) = length bytes == 16 && list_all is_byte bytes

abbrev pub is_member : Member → Bool
is_member m = is_address m.address && m.id.0 == id_of m.address

abbrev pub is_weight : ℕ → Bool
is_weight n = nat_le n WEIGHT

abbrev pub are_weights : List ℕ → Bool
are_weights ws = nat_le (length ws) MEMBERS && list_all is_weight ws

abbrev pub is_prereq : Prereq → Bool
is_prereq q = is_name q.name && (is_value q.value && (is_word q.value && is_sayable (prereq_text q)))

-- whole seconds, in milliseconds
abbrev pub is_seconds : ℕ → ℕ → Bool
is_seconds least ms = 1000 * (ms / 1000) == ms && is_within least SECONDS (ms / 1000)

abbrev pub is_renewal : Times → Bool
is_renewal times = times.renewal == times.expire / 2 || is_seconds 1 times.renewal

abbrev pub are_times : Times → Bool
are_times times =
    is_seconds 1 times.expire && (is_seconds 0 times.after && (is_seconds 1 times.timeout
    && (is_within LEAST_RETRIES MOST_RETRIES times.retries && is_renewal times)))

abbrev pub is_ticket_name : List ℕ → Bool
is_ticket_name name = is_name name && (not (bytes_eq name default_name) && is_sayable name)

abbrev pub are_prereqs : List Prereq → Bool
are_prereqs qs = nat_le (length qs) PREREQS && list_all is_prereq qs

abbrev pub is_ticket : TicketConf → Bool
is_ticket t =
    is_ticket_name t.name && (are_times t.times && (are_weights t.weights.items
    && (each is_command t.handler && are_prereqs t.prereqs)))

-- no element equals one before it, or one of these
abbrev pub are_new : {X : Type 0} → (X → X → Bool) → List X → List X → Bool
are_new same before [] = true
are_new same before (x ∷ xs) = not (list_any (same x) before) && are_new same (before ++ x ∷ []) xs

abbrev pub same_key : KeyNo × List ℕ → KeyNo × List ℕ → Bool
same_key e f = f.0.0 == e.0.0

abbrev pub same_member : Member → Member → Bool
same_member m n = is_at m.address n

abbrev pub same_ticket : TicketConf → TicketConf → Bool
same_ticket t u = bytes_eq t.name u.name

pub record IsSound (c : ConfigSays) : Type 0 where
  pub port : is_within 1 65535 c.port ≡ true
  pub authfile : each (is_text 1) c.authfile ≡ true
  pub skew : is_within 1 SECONDS c.skew ≡ true
  pub authfile_old : each (is_text 1) c.authfile_old ≡ true
  pub extras : list_all is_extra c.extras ≡ true
  pub new_extras : are_new same_key [] c.extras ≡ true
  pub members : list_all is_member c.members ≡ true
  pub new_members : are_new same_member [] c.members ≡ true
  pub few_members : length c.members ≤ MEMBERS
  pub tickets : list_all is_ticket c.tickets ≡ true
  pub new_tickets : are_new same_ticket [] c.tickets ≡ true
  pub few_tickets : length c.tickets ≤ TICKETS
  pub no_fault : is_some (file_fault c.members c.tickets) ≡ false

-- times in milliseconds with which the rules of a ticket can count
pub record HasTimes (t : TicketConf) : Type 0 where
  pub some : 0 < t.times.expire
  pub expire : t.times.expire ≤ 1000 * SECONDS
  pub after : t.times.after ≤ 1000 * SECONDS
  pub timeout : t.times.timeout ≤ 1000 * SECONDS
  pub retries : t.times.retries ≤ 100
  pub renewal : t.times.renewal < t.times.expire
  pub resends : t.times.timeout * (t.times.retries + 1) < t.times.renewal
