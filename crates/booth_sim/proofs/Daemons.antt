-- What stands in each daemon where they stand as the entries left their members.
use Rattle.std.proofs.Common.{◌≡◌, ℕ, zero, suc, ◌+◌, ◌<◌, Bool, true, false, List, [], ◌∷◌, ◌++◌, length, max, get_or, drop, All, refl, sym, ap, ◌∙◌, subst, arith, if◌then◌else◌}
use Rattle.std.specs.Prelude.{Option, Some, slice_get, count_by}
use Rattle.std.specs.List.{range_with_len}
use Rattle.std.proofs.lemmas.List.{length-map}
use Rattle.std.proofs.lemmas.List.Elements.{All-nil, All-cons}
use Rattle.std.proofs.lemmas.List.Sums.{sum_by_push}
use Rattle.booth_conf.specs.Config.{ConfigSays}
use Rattle.booth_conf.specs.declared.tickets.TicketConf.{TicketConf}
use Rattle.booth_rec.specs.declared.record.Record.{Record}
use Rattle.booth_node.specs.World.{WorldEntry}
use Rattle.booth_sim.specs.declared.daemon.Daemon.{Daemon}
use Rattle.booth_sim.specs.Counts.{holders, is_holder, most_of, one_if}
use Rattle.booth_sim.specs.Kept.{kept_by}
use Rattle.booth_sim.specs.Standing.{AreDaemons, IsDaemon, KeepsAll}

pub all_keep : (config : ConfigSays) (before : List WorldEntry) (place : ℕ) (daemons : List Daemon) → AreDaemons config before place daemons
    → All (KeepsAll config) daemons
all_keep config before place [] are = All-nil (KeepsAll config)
all_keep config before place (d ∷ ds) are =
    All-cons (KeepsAll config) d ds
    (ap (λ (xs : List (Option Record)). length xs) are.0.records ∙ length-map config.tickets (λ (t : TicketConf). kept_by place t.name before))
    (all_keep config before (place + 1) ds are.1)

pub daemon_at : (config : ConfigSays) (before : List WorldEntry) (place : ℕ) (daemons : List Daemon) → AreDaemons config before place daemons
    → (i : ℕ) (daemon : Daemon) → slice_get daemons i ≡ Some daemon → IsDaemon config before (place + i) daemon
daemon_at config before place [] are i daemon is = absurd cc
daemon_at config before place (d ∷ ds) are zero daemon is =
    let same : d ≡ daemon = cc in
    subst (λ (n : ℕ). IsDaemon config before n daemon) (omega arith) (subst (λ (x : Daemon). IsDaemon config before place x) same are.0)
daemon_at config before place (d ∷ ds) are (suc i) daemon is =
    let at : place + 1 + i ≡ place + suc i = omega arith in
    subst (λ (n : ℕ). IsDaemon config before n daemon) at (daemon_at config before (place + 1) ds are.1 i daemon is)

-- the element at a place
there_at : {X : Type 0} (xs : List X) (i : ℕ) (x : X) → i < length xs → x ≡ get_or xs i x → slice_get xs i ≡ Some x
there_at [] i x within is = absurd (omega (arith, within))
there_at (y ∷ ys) zero x within is = ap Some (sym is)
there_at (y ∷ ys) (suc i) x within is = there_at ys i x (omega (arith, within)) is

pub there : {X : Type 0} (xs ys : List X) (i : ℕ) (x : X) → xs ≡ ys → i < length ys → x ≡ get_or xs i x → slice_get ys i ≡ Some x
there {X} xs ys i x same within is = there_at ys i x within (subst (λ (zs : List X). x ≡ get_or zs i x) same is)

-- ---- counting

range_last : (first n : ℕ) → range_with_len first (n + 1) ≡ range_with_len first n ++ (first + n) ∷ []
range_last first zero = let same : first ≡ first + 0 = omega arith in ap (λ (k : ℕ). k ∷ []) same
range_last first (suc n) =
    let same : first + 1 + n ≡ first + suc n = omega arith in
    let more : suc n + 1 ≡ suc (n + 1) = omega arith in
    ap (λ (k : ℕ). range_with_len first k) more
    ∙ ap (λ (ks : List ℕ). first ∷ ks)
    (range_last (first + 1) n ∙ ap (λ (k : ℕ). range_with_len (first + 1) n ++ k ∷ []) same)

pub one_more_counted : (p : ℕ → Bool) (n : ℕ) → count_by p (range_with_len 0 (n + 1)) ≡ count_by p (range_with_len 0 n) + one_if (p n)
one_more_counted p n =
    let same : 0 + n ≡ n = omega arith in
    ap (λ (ks : List ℕ). count_by p ks) (range_last 0 n ∙ ap (λ (k : ℕ). range_with_len 0 n ++ k ∷ []) same)
    ∙ sum_by_push (λ (k : ℕ). if p k then 1 else 0) (range_with_len 0 n) n

-- one more ticket of those that are left
pub most_more : (config : ConfigSays) (before : List WorldEntry) (tickets : List TicketConf) (i : ℕ) (ticket : TicketConf) (old new : ℕ)
    → slice_get tickets i ≡ Some ticket → new ≡ max (holders config before ticket) old
    → max new (most_of config before (drop (i + 1) tickets)) ≡ max old (most_of config before (drop i tickets))
most_more config before [] i ticket old new is e = absurd cc
most_more config before (t ∷ ts) zero ticket old new is e =
    let same : t ≡ ticket = cc in
    let count : holders config before t ≡ holders config before ticket = ap (λ (x : TicketConf). holders config before x) same in
    omega (arith, e, count)
most_more config before (t ∷ ts) (suc i) ticket old new is e =
    let more : suc i + 1 ≡ suc (i + 1) = omega arith in
    ap (λ (n : ℕ). max new (most_of config before (drop n (t ∷ ts)))) more ∙ most_more config before ts i ticket old new is e

pub holder_more : (p : ℕ → Bool) (n old new : ℕ) (holds : Bool) → old ≡ count_by p (range_with_len 0 n) → holds ≡ p n → new ≡ old + one_if holds
    → new ≡ count_by p (range_with_len 0 (n + 1))
holder_more p n old new holds was is more =
    more ∙ ap (λ (k : ℕ). k + one_if holds) was ∙ ap (λ (b : Bool). count_by p (range_with_len 0 n) + one_if b) is ∙ sym (one_more_counted p n)

pub holders_by_votes : (config : ConfigSays) (before : List WorldEntry) (ticket : TicketConf) → ticket.manual ≡ false
    → holders config before ticket ≡ count_by (is_holder config before ticket) (range_with_len 0 (length config.members))
holders_by_votes config before ticket votes = rw votes refl

pub holders_by_hand : (config : ConfigSays) (before : List WorldEntry) (ticket : TicketConf) → ticket.manual ≡ true → holders config before ticket ≡ 0
holders_by_hand config before ticket by_hand = rw by_hand refl

pub stands : (config : ConfigSays) (before : List WorldEntry) (daemons : List Daemon) (place : ℕ) (daemon : Daemon) → AreDaemons config before 0 daemons
    → slice_get daemons place ≡ Some daemon → IsDaemon config before place daemon
stands config before daemons place daemon are is =
    let same : 0 + place ≡ place = omega arith in
    subst (λ (n : ℕ). IsDaemon config before n daemon) same (daemon_at config before 0 daemons are place daemon is)
