-- The times of the tickets of a sound configuration.
use Rattle.std.proofs.Common.{◌≡◌, ◌<◌, ◌≤◌, ◌+◌, ◌*◌, ℕ, zero, suc, Bool, true, false, not, List, [], ◌∷◌, ◌++◌, length, get_or, Option, Some, None, refl, ap, sym, ◌∙◌, subst, arith}
use Rattle.std.specs.Prelude.{if◌then◌else◌, is_some, nat_lt}
use Rattle.std.specs.List.{All, list_all, filter_map, enumerate_from}
use Rattle.std.proofs.lemmas.Bool.Decides.{nat_tests}
use Rattle.booth_conf.specs.Sections.{first}
use Rattle.booth_conf.specs.Config.{ConfigSays, no_site, no_ticket, reserved_id, same_id, time_fault}
use Rattle.booth_conf.specs.Sound.{is_seconds, is_ticket, IsSound, HasTimes}
use Rattle.booth_conf.specs.declared.limits.TheConstants.{SECONDS}
use Rattle.booth_conf.specs.declared.tickets.TicketConf.{TicketConf}
use Rattle.booth_conf.specs.declared.faults.ConfFault.{ConfFault}
use Rattle.booth_conf.specs.declared.faults.ConfFault.TheVariants.{Renewal, RetryTime}
use Rattle.booth_conf.proofs.KeyLemmas.{both_true}
use Rattle.booth_conf.proofs.FirstLemmas.{given, given_cons}
use Rattle.booth_conf.proofs.TicketAgain.{TimesFacts, times_facts, ticket_facts}

-- what is given of no element is given neither of the first nor of the others
none_given : {X Y : Type 0} (f : ℕ × X → Option Y) (n : ℕ) (x : X) (xs : List X) (o : Option Y)
    → f (n, x) ≡ o → is_some (given f n (x ∷ xs)) ≡ false → (f (n, x) ≡ None) × (is_some (given f (n + 1) xs) ≡ false)
none_given f n x xs None e h = (e, subst (λ g. is_some g ≡ false) (given_cons f n x xs None e) h)
none_given f n x xs (Some y) e h =
    let some : true ≡ false = ap is_some (sym (given_cons f n x xs (Some y) e)) ∙ h in
    cc

none_behind : {Y : Type 0} (xs ys : List Y) → is_some (first (xs ++ ys)) ≡ false →
    is_some (first ys) ≡ false
none_behind [] ys h = h
none_behind (x ∷ xs) ys h = cc

seconds_fit : (least ms : ℕ) → is_seconds least ms ≡ true → ms ≤ 1000 * SECONDS
seconds_fit least ms h = grind (arith, nat_tests)

seconds_some : (ms : ℕ) → is_seconds 1 ms ≡ true → 0 < ms
seconds_some ms h = grind (arith, nat_tests)

neither : (a b : Bool) (x y : ConfFault)
    → (if not a then Some x else (if not b then Some y else None)) ≡ None → (a ≡ true) × (b ≡ true)
neither true true x y h = (refl, refl)
neither true false x y h = cc
neither false b x y h = cc

ticket_timed : (t : TicketConf) (n : ℕ) → is_ticket t ≡ true → time_fault (n, t) ≡ None → HasTimes t
ticket_timed t n sound none =
    let f : TimesFacts t.times = times_facts t.times (ticket_facts t sound).times in
    let order = neither (nat_lt t.times.renewal t.times.expire)
    (nat_lt (t.times.timeout * (t.times.retries + 1)) t.times.renewal) (Renewal n) (RetryTime n) none in
    record {
      some = seconds_some t.times.expire f.expire;
      expire = seconds_fit 1 t.times.expire f.expire;
      after = seconds_fit 0 t.times.after f.after;
      timeout = seconds_fit 1 t.times.timeout f.timeout;
      retries = let r = f.retries in grind (arith, nat_tests);
      renewal = let r = order.0 in grind (arith, nat_tests);
      resends = let r = order.1 in grind (arith, nat_tests);
    }

timed_from : (ts : List TicketConf) (n k : ℕ) (d : TicketConf) → list_all is_ticket ts ≡ true
    → is_some (given time_fault n ts) ≡ false → k < length ts → HasTimes (get_or ts k d)
timed_from [] n k d sound none lt = absurd (omega arith)
timed_from (t ∷ ts) n zero d sound none lt =
    ticket_timed t n (both_true (is_ticket t) (list_all is_ticket ts) sound).0
    (none_given time_fault n t ts (time_fault (n, t)) refl none).0
timed_from (t ∷ ts) n (suc k) d sound none lt =
    timed_from ts (n + 1) k d (both_true (is_ticket t) (list_all is_ticket ts) sound).1
    (none_given time_fault n t ts (time_fault (n, t)) refl none).1 (omega arith)

pub tickets_timed : (c : ConfigSays) → IsSound c → All HasTimes c.tickets
tickets_timed c sound k d lt =
    let times = filter_map time_fault (enumerate_from 0 c.tickets) in
    let same = filter_map (same_id c.members) (enumerate_from 0 c.members) in
    let ids = filter_map reserved_id (enumerate_from 0 c.members) in
    timed_from c.tickets 0 k d sound.tickets
    (none_behind same times (none_behind ids (same ++ times)
    (none_behind (no_ticket c.tickets) (ids ++ (same ++ times))
    (none_behind (no_site c.members) (no_ticket c.tickets ++ (ids ++ (same ++ times))) sound.no_fault)))) lt
