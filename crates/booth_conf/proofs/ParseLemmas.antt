-- What reading and filling in answer is what the text says.
use Rattle.std.proofs.Common.{◌≡◌, ◌≤◌, ◌+◌, ℕ, Bool, true, false, cond, List, [], ◌∷◌, ◌++◌, length, drop, Option, Some, None, Result, Ok, Err, refl, ap, ◌∙◌, sym, subst, inl, inr}
use Rattle.std.specs.Prelude.{option_map, position}
use Rattle.std.specs.List.{list_all, list_any, filter_map, enumerate_from, cons_option}
use Rattle.booth_conf.specs.Sections.{first}
use Rattle.booth_conf.specs.Rules.{Summary}
use Rattle.booth_conf.specs.Reads.{lines_of, said_lines, ReadsLines, fault_at}
use Rattle.booth_conf.specs.Config.{Completes, ConfigSays, config_of, is_site, no_site, no_ticket, is_reserved, reserved_id, has_id, same_id, time_fault, file_faults, file_fault}
use Rattle.booth_conf.specs.Says.{said_config, HasLineFault, HasFileFault, IsFault, Parses}
use Rattle.booth_conf.specs.declared.limits.TheConstants.{TEXT_BYTES}
use Rattle.booth_conf.specs.declared.members.Member.{Member}
use Rattle.booth_conf.specs.declared.tickets.TicketConf.{TicketConf}
use Rattle.booth_conf.specs.declared.faults.ConfFault.{ConfFault}
use Rattle.booth_conf.specs.declared.faults.ConfFault.TheVariants.{TooLarge, Syntax, UnknownKey, Misplaced, BadValue, Repeated, DefaultLate, TooMany, NoSite, NoTicket, IdClash, Renewal, RetryTime, OutOfMemory}
use Rattle.booth_conf.specs.declared.faults.LineFault.{LineFault}
use Rattle.booth_conf.specs.declared.faults.LineFault.TheVariants as faults
use Rattle.booth_conf.proofs.SaidLemmas.{all_said_found}
use Rattle.booth_conf.proofs.KeyLemmas.{both_true}

-- FAULTS OF THE WHOLE FILE

abbrev pub is_whole : ConfFault → Bool
is_whole TooLarge = false
is_whole (Syntax line) = false
is_whole (UnknownKey line) = false
is_whole (Misplaced line) = false
is_whole (BadValue line key) = false
is_whole (Repeated line) = false
is_whole (DefaultLate line) = false
is_whole (TooMany line) = false
is_whole NoSite = true
is_whole NoTicket = true
is_whole (IdClash i j) = true
is_whole (Renewal ticket) = true
is_whole (RetryTime ticket) = true
is_whole OutOfMemory = false

all_both : (xs ys : List ConfFault) → list_all is_whole xs ≡ true → list_all is_whole ys ≡ true →
    list_all is_whole (xs ++ ys) ≡ true
all_both [] ys h k = k
all_both (x ∷ xs) ys h k = let b = both_true (is_whole x) (list_all is_whole xs) h in rw (b.0, all_both xs ys b.1 k) refl

abbrev maybe_whole : Option ConfFault → Bool
maybe_whole None = true
maybe_whole (Some f) = is_whole f

given_whole : {X : Type 0} (f : X → Option ConfFault) → ((x : X) → maybe_whole (f x) ≡ true) →
    (xs : List X) → list_all is_whole (filter_map f xs) ≡ true
given_whole f h [] = refl
given_whole f h (x ∷ xs) = elim (f x) as (λ o. maybe_whole o ≡ true → list_all is_whole (filter_map f xs) ≡ true → list_all is_whole (cons_option o (filter_map f xs)) ≡ true) [
  | None ↦ λ a b. b
  | Some y ↦ λ a b. rw (a, b) refl
] (h x) (given_whole f h xs)

reserved_whole : (p : ℕ × Member) → maybe_whole (reserved_id p) ≡ true
reserved_whole p = elim (is_reserved p.1.id) as (λ b. maybe_whole (cond b (Some (IdClash p.0 p.0)) None) ≡ true) [ true ↦ refl | false ↦ refl ]

same_whole : (members : List Member) (p : ℕ × Member) → maybe_whole (same_id members p) ≡ true
same_whole members p = elim (position (has_id p.1.id) (drop (p.0 + 1) members)) as (λ o. maybe_whole (option_map (λ k. IdClash p.0 (p.0 + 1 + k)) o) ≡ true) [ None ↦ refl | Some k ↦ refl ]

time_whole : (p : ℕ × TicketConf) → maybe_whole (time_fault p) ≡ true
time_whole p = two_whole _ _ (Renewal p.0) (RetryTime p.0) refl refl where
  two_whole : (a b : Bool) (f g : ConfFault) → is_whole f ≡ true → is_whole g ≡ true →
      maybe_whole (cond a (Some f) (cond b (Some g) None)) ≡ true
  two_whole true b f g h k = h
  two_whole false true f g h k = k
  two_whole false false f g h k = refl

site_whole : (members : List Member) → list_all is_whole (no_site members) ≡ true
site_whole members = elim (list_any is_site members) as (λ b. list_all is_whole (cond b [] (NoSite ∷ [])) ≡ true) [ true ↦ refl | false ↦ refl ]

ticket_whole : (tickets : List TicketConf) → list_all is_whole (no_ticket tickets) ≡ true
ticket_whole [] = refl
ticket_whole (t ∷ ts) = refl

faults_whole : (members : List Member) (tickets : List TicketConf) →
    list_all is_whole (file_faults members tickets) ≡ true
faults_whole members tickets =
    all_both (no_site members) _ (site_whole members)
    (all_both (no_ticket tickets) _ (ticket_whole tickets)
    (all_both (filter_map reserved_id (enumerate_from 0 members)) _ (given_whole reserved_id reserved_whole (enumerate_from 0 members))
    (all_both (filter_map (same_id members) (enumerate_from 0 members)) _ (given_whole (same_id members) (same_whole members) (enumerate_from 0 members))
    (given_whole time_fault time_whole (enumerate_from 0 tickets)))))

first_whole : (fs : List ConfFault) (f : ConfFault) → list_all is_whole fs ≡ true →
    first fs ≡ Some f → is_whole f ≡ true
first_whole [] f h e = cc
first_whole (g ∷ gs) f h e = let same : g ≡ f = cc in subst (λ x. is_whole x ≡ true) same (both_true (is_whole g) (list_all is_whole gs) h).0

whole_fault : (text : List ℕ) (f : ConfFault) → is_whole f ≡ true → HasFileFault text f →
    IsFault text f
whole_fault text TooLarge w h = cc
whole_fault text (Syntax line) w h = cc
whole_fault text (UnknownKey line) w h = cc
whole_fault text (Misplaced line) w h = cc
whole_fault text (BadValue line key) w h = cc
whole_fault text (Repeated line) w h = cc
whole_fault text (DefaultLate line) w h = cc
whole_fault text (TooMany line) w h = cc
whole_fault text NoSite w h = h
whole_fault text NoTicket w h = h
whole_fault text (IdClash i j) w h = h
whole_fault text (Renewal ticket) w h = h
whole_fault text (RetryTime ticket) w h = h
whole_fault text OutOfMemory w h = cc

pub file_fault_is : (text : List ℕ) (f : ConfFault) → HasFileFault text f → IsFault text f
file_fault_is text f h =
    let members : List Member = (said_config h.said).members in
    let tickets : List TicketConf = (said_config h.said).tickets in
    whole_fault text f (first_whole (file_faults members tickets) f (faults_whole members tickets) h.first_one) h

-- FAULTS OF LINES

pub line_fault_is : (text : List ℕ) (line : ℕ) (fault : LineFault) → HasLineFault text line fault →
    IsFault text (fault_at line fault)
line_fault_is text line faults.Syntax h = h
line_fault_is text line faults.UnknownKey h = h
line_fault_is text line faults.Misplaced h = h
line_fault_is text line (faults.BadValue key) h = h
line_fault_is text line faults.Repeated h = h
line_fault_is text line faults.DefaultLate h = h
line_fault_is text line faults.TooMany h = h

-- THE ANSWER

pub complete_parses : (text : List ℕ) (d : Summary) (r : Result ConfigSays ConfFault) →
    length text ≤ TEXT_BYTES → ReadsLines (Ok d) (said_lines text) → Completes d r → Parses text r
complete_parses text d (Ok c) short (fine, same) (value, whole) = record {
  short = short;
  said = said_lines text;
  reads = all_said_found (lines_of text);
  fine = fine;
  value = value ∙ ap config_of same;
  whole = whole;
}
complete_parses text d (Err f) short h (inl memory) = inl memory
complete_parses text d (Err f) short (fine, same) (inr fault) = inr (file_fault_is text f (record {
  short = short;
  said = said_lines text;
  reads = all_said_found (lines_of text);
  fine = fine;
  first_one = ap (λ x. file_fault (config_of x).members (config_of x).tickets) (sym same) ∙ fault;
}))

pub read_parses : (text : List ℕ) (f : ConfFault) → length text ≤ TEXT_BYTES →
    ReadsLines (Err f) (said_lines text) → Parses text (Err f)
read_parses text f short (inl memory) = inl memory
read_parses text f short (inr h) = inr (subst (IsFault text) (sym h.is) (line_fault_is text (h.place + 1) h.fault (record {
  short = short;
  said = said_lines text;
  reads = all_said_found (lines_of text);
  place = h.place;
  number = refl;
  first_one = h.first_one;
})))
