-- The configuration of all settings together, and the faults of the whole file.
use Rattle.std.specs.Prelude.{◌≡◌, ◌⊎◌, ℕ, Bool, not, nat_lt, ◌==◌, ◌||◌, ◌+◌, ◌*◌, ◌/◌, List, [], ◌∷◌, ◌++◌, map, drop, position, Option, Some, None, option_map, unwrap_or, Result, Ok, Err, if◌then◌else◌}
use Rattle.std.specs.List.{list_any, filter_map, enumerate_from}
use Rattle.std.specs.Option.{option_or}
use Rattle.booth_base.specs.declared.address.MemberId.{MemberId}
use Rattle.booth_base.specs.declared.address.TheConstants.{NO_ONE}
use Rattle.booth_base.specs.declared.times.Times.{Times}
use Rattle.booth_keys.specs.declared.ring.Hash.{Hash}
use Rattle.booth_keys.specs.declared.ring.Hash.TheVariants.{Sha1, Sha256}
use Rattle.booth_conf.specs.Sections.{first, number_given, text_given, word_given, weights_given, prereq_of, extra_of}
use Rattle.booth_conf.specs.Rules.{Summary}
use Rattle.booth_conf.specs.declared.keys.ConfKey.{ConfKey}
use Rattle.booth_conf.specs.declared.keys.ConfKey.TheVariants as keys
use Rattle.booth_conf.specs.declared.keys.KeyNo.{KeyNo}
use Rattle.booth_conf.specs.declared.members.Member.{Member}
use Rattle.booth_conf.specs.declared.tickets.TicketConf.{TicketConf}
use Rattle.booth_conf.specs.declared.sections.NamedSection.{NamedSection}
use Rattle.booth_conf.specs.declared.settings.Entry.{Entry}
use Rattle.booth_conf.specs.declared.defaults.TheConstants.{EXPIRE, PORT, RETRIES, SKEW, TIMEOUT}
use Rattle.booth_conf.specs.declared.faults.ConfFault.{ConfFault}
use Rattle.booth_conf.specs.declared.faults.ConfFault.TheVariants.{NoSite, NoTicket, IdClash, Renewal, RetryTime, OutOfMemory}

-- a configuration: the members and the tickets in the order of the file
pub record ConfigSays : Type 0 where
  pub port : ℕ
  pub authfile : Option (List ℕ)
  pub skew : ℕ
  pub authfile_old : Option (List ℕ)
  pub auth_hash : Hash
  pub extras : List (KeyNo × List ℕ)
  pub members : List Member
  pub tickets : List TicketConf

-- DEFAULTS

-- the ticket's own value, or else the value of `__default__`, or else the table's default
abbrev pub chosen : {X : Type 0} → Option X → Option X → X → X
chosen own default table = unwrap_or (option_or own default) table

-- the renewal in seconds if it is set, else half of expire
abbrev pub renewal_of : Option ℕ → ℕ → ℕ
renewal_of None expire = expire / 2
renewal_of (Some seconds) expire = 1000 * seconds

-- the number for a key
abbrev pub chosen_number : ConfKey → List Entry → List Entry → ℕ → ℕ
chosen_number key defaults own table = chosen (number_given key own) (number_given key defaults) table

-- the times in milliseconds
abbrev pub times_of : List Entry → List Entry → Times
times_of defaults own =
    let expire : ℕ = 1000 * chosen_number keys.Expire defaults own EXPIRE in
    record {
      expire = expire;
      after = 1000 * chosen_number keys.AcquireAfter defaults own 0;
      timeout = 1000 * chosen_number keys.Timeout defaults own TIMEOUT;
      retries = chosen_number keys.Retries defaults own RETRIES;
      renewal = renewal_of
          (option_or (number_given keys.RenewalFreq own) (number_given keys.RenewalFreq defaults)) expire;
    }

-- the second word of `steady` is `yes`
abbrev pub is_yes : ℕ → Bool
is_yes place = place == 1

-- the second word of a mode is `manual`
abbrev pub is_manual : ℕ → Bool
is_manual place = place == 1

abbrev pub ticket_of : List Entry → NamedSection → TicketConf
ticket_of defaults t = record {
  name = t.name;
  manual = is_manual (chosen (word_given keys.Mode t.section) (word_given keys.Mode defaults) 0);
  times = times_of defaults t.section;
  steady = is_yes (chosen (word_given keys.Steady t.section) (word_given keys.Steady defaults) 0);
  weights = chosen (weights_given keys.Weights t.section) (weights_given keys.Weights defaults) (record { items = [] });
  handler = option_or (text_given keys.BeforeAcquireHandler t.section) (text_given keys.BeforeAcquireHandler defaults);
  prereqs = filter_map prereq_of t.section;
}

-- the defaults, which are empty without `__default__`
abbrev pub defaults_of : Summary → List Entry
defaults_of d = unwrap_or d.defaults []

-- the second word of a hash is `sha256`
abbrev pub hash_at : ℕ → Hash
hash_at place = if place == 1 then Sha256 else Sha1

abbrev pub config_of : Summary → ConfigSays
config_of d = record {
  port = unwrap_or (number_given keys.Port d.top) PORT;
  authfile = text_given keys.Authfile d.top;
  skew = unwrap_or (number_given keys.Maxtimeskew d.top) SKEW;
  authfile_old = text_given keys.AuthfileOld d.top;
  auth_hash = hash_at (unwrap_or (word_given keys.Authhash d.top) 0);
  extras = filter_map extra_of d.top;
  members = d.members;
  tickets = map (ticket_of (defaults_of d)) d.tickets;
}

-- WHOLE-FILE FAULTS

abbrev pub is_site : Member → Bool
is_site m = m.site

abbrev pub no_site : List Member → List ConfFault
no_site members = if list_any is_site members then [] else NoSite ∷ []

abbrev pub no_ticket : List TicketConf → List ConfFault
no_ticket [] = NoTicket ∷ []
no_ticket (t ∷ tickets) = []

-- the id of no one: 0, or the reserved one
abbrev pub is_reserved : MemberId → Bool
is_reserved id = id.0 == 0 || id.0 == NO_ONE.0

abbrev pub reserved_id : ℕ × Member → Option ConfFault
reserved_id p = if is_reserved p.1.id then Some (IdClash p.0 p.0) else None

abbrev pub has_id : MemberId → Member → Bool
has_id id m = m.id.0 == id.0

-- a member, and the next one after it with the same id
abbrev pub same_id : List Member → ℕ × Member → Option ConfFault
same_id members p =
    option_map (λ k. IdClash p.0 (p.0 + 1 + k)) (position (has_id p.1.id) (drop (p.0 + 1) members))

abbrev pub time_fault : ℕ × TicketConf → Option ConfFault
time_fault p =
    let times : Times = p.1.times in
    if not (nat_lt times.renewal times.expire) then Some (Renewal p.0)
    else (if not (nat_lt (times.timeout * (times.retries + 1)) times.renewal)
    then Some (RetryTime p.0) else None)

-- the faults of the whole file, in the order in which they are reported
abbrev pub file_faults : List Member → List TicketConf → List ConfFault
file_faults members tickets =
    no_site members
    ++ (no_ticket tickets
    ++ (filter_map reserved_id (enumerate_from 0 members)
    ++ (filter_map (same_id members) (enumerate_from 0 members)
    ++ filter_map time_fault (enumerate_from 0 tickets))))

abbrev pub file_fault : List Member → List TicketConf → Option ConfFault
file_fault members tickets = first (file_faults members tickets)

-- the configuration of the draft, or the first fault of the whole file
abbrev pub Completes : Summary → Result ConfigSays ConfFault → Type 0
Completes d (Ok config) = (config ≡ config_of d) × (file_fault config.members config.tickets ≡ None)
Completes d (Err fault) =
    (fault ≡ OutOfMemory) ⊎ (file_fault (config_of d).members (config_of d).tickets ≡ Some fault)
