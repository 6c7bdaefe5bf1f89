-- The table of keys: the number, the name, the scope and the form of each. `Values` defines each form.
use Rattle.std.specs.Prelude.{◌≡◌, ◌==◌, ℕ, Bool, List, [], ◌∷◌, Option, Some, None, option_map, codes, bytes_eq}
use Rattle.std.specs.List.{find}
use Rattle.std.specs.Borrow.{Bor}
use Rattle.booth_conf.specs.declared.keys.KeyNo.{KeyNo}
use Rattle.booth_conf.specs.declared.keys.Row.{Row}
use Rattle.booth_conf.specs.declared.limits.TheConstants.{LEAST_RETRIES, MOST_RETRIES, SECONDS}
use Rattle.booth_conf.specs.declared.keys.Choice.TheVariants as choices
use Rattle.booth_conf.specs.declared.keys.Form.{Form}
use Rattle.booth_conf.specs.declared.keys.Form.TheVariants.{Number, Text, Command, OneOf, Address, TicketName, Weights, Prereq}
use Rattle.booth_conf.specs.declared.keys.Scope.{Scope}
use Rattle.booth_conf.specs.declared.keys.Scope.TheVariants.{File, Ticket as OfTicket}
use Rattle.booth_conf.specs.declared.keys.ConfKey.{ConfKey}
use Rattle.booth_conf.specs.declared.keys.ConfKey.TheVariants as keys

-- the row of a key in the table
pub record KeyRow : Type 0 where
  pub number : ℕ
  pub name : List ℕ
  pub scope : Scope
  pub form : Form

abbrev pub row : ℕ → List ℕ → Scope → Form → KeyRow
row number name scope form = record { number = number; name = name; scope = scope; form = form }

-- THE TABLE
abbrev pub row_of : ConfKey → KeyRow
row_of keys.Port = row 1 (codes "port") File (Number 1 65535)
row_of keys.Transport = row 2 (codes "transport") File (OneOf choices.Transport)
row_of keys.Authfile = row 3 (codes "authfile") File (Text 1)
row_of keys.Maxtimeskew = row 4 (codes "maxtimeskew") File (Number 1 SECONDS)
row_of keys.Debug = row 5 (codes "debug") File (Text 0)
row_of keys.SiteUser = row 6 (codes "site-user") File (Text 0)
row_of keys.SiteGroup = row 7 (codes "site-group") File (Text 0)
row_of keys.ArbitratorUser = row 8 (codes "arbitrator-user") File (Text 0)
row_of keys.ArbitratorGroup = row 9 (codes "arbitrator-group") File (Text 0)
row_of keys.Site = row 10 (codes "site") File Address
row_of keys.Arbitrator = row 11 (codes "arbitrator") File Address
row_of keys.Ticket = row 12 (codes "ticket") File TicketName
row_of keys.Expire = row 13 (codes "expire") OfTicket (Number 1 SECONDS)
row_of keys.AcquireAfter = row 14 (codes "acquire-after") OfTicket (Number 0 SECONDS)
row_of keys.Timeout = row 15 (codes "timeout") OfTicket (Number 1 SECONDS)
row_of keys.Retries = row 16 (codes "retries") OfTicket (Number LEAST_RETRIES MOST_RETRIES)
row_of keys.RenewalFreq = row 17 (codes "renewal-freq") OfTicket (Number 1 SECONDS)
row_of keys.Weights = row 18 (codes "weights") OfTicket Weights
row_of keys.BeforeAcquireHandler = row 19 (codes "before-acquire-handler") OfTicket Command
row_of keys.AttrPrereq = row 20 (codes "attr-prereq") OfTicket Prereq
row_of keys.Mode = row 21 (codes "mode") OfTicket (OneOf choices.Mode)
row_of keys.AuthfileOld = row 22 (codes "authfile-old") File (Text 1)
row_of keys.Authhash = row 23 (codes "authhash") File (OneOf choices.Hash)
row_of keys.Steady = row 24 (codes "steady") OfTicket (OneOf choices.Steady)

abbrev pub all_keys : List ConfKey
all_keys =
    keys.Port ∷ keys.Transport ∷ keys.Authfile ∷ keys.Maxtimeskew ∷ keys.Debug ∷ keys.SiteUser
    ∷ keys.SiteGroup ∷ keys.ArbitratorUser ∷ keys.ArbitratorGroup ∷ keys.Site ∷ keys.Arbitrator
    ∷ keys.Ticket ∷ keys.Expire ∷ keys.AcquireAfter ∷ keys.Timeout ∷ keys.Retries ∷ keys.RenewalFreq
    ∷ keys.Weights ∷ keys.BeforeAcquireHandler ∷ keys.AttrPrereq ∷ keys.Mode
    ∷ keys.AuthfileOld ∷ keys.Authhash ∷ keys.Steady ∷ []

abbrev pub is_named : List ℕ → ConfKey → Bool
is_named name key = bytes_eq (row_of key).name name

-- the key with this name
abbrev pub key_named : List ℕ → Option ConfKey
key_named name = find (is_named name) all_keys

abbrev pub number_of : ConfKey → KeyNo
number_of key = record { 0 = (row_of key).number }

abbrev pub has_number : KeyNo → ConfKey → Bool
has_number number key = (row_of key).number == number.0

-- two keys are equal if their numbers are
abbrev pub are_one : ConfKey → ConfKey → Bool
are_one key other = (row_of other).number == (row_of key).number

-- the key with this number
abbrev pub key_numbered : KeyNo → Option ConfKey
key_numbered number = find (has_number number) all_keys

-- the name of the key with this number
abbrev pub name_at : KeyNo → Option (List ℕ)
name_at number = option_map (λ key. (row_of key).name) (key_numbered number)

-- the code's row has the content of the definition's
pub record IsRow (shown : Row) (said : KeyRow) : Type 0 where
  pub number : shown.number.0 ≡ said.number
  pub name : shown.name.now ≡ said.name
  pub scope : shown.scope ≡ said.scope
  pub form : shown.form ≡ said.form

abbrev pub Names : Option (Bor (List ℕ)) → Option (List ℕ) → Type 0
Names None name = name ≡ None
Names (Some shown) name = name ≡ Some shown.now
