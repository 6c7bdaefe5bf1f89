-- What is counted of entries when one more follows, and the most holders when an event follows.
use Rattle.std.proofs.Common.{◌≡◌, ℕ, ◌+◌, Bool, true, false, List, [], ◌∷◌, ◌++◌, refl, sym, ap, ◌∙◌, arith, if◌then◌else◌}
use Rattle.std.specs.Prelude.{Option, None, Ok, max}
use Rattle.std.proofs.lemmas.List.{append-nil, append_assoc}
use Rattle.std.proofs.lemmas.List.Elements.{filter_map-append}
use Rattle.booth_keys.specs.declared.ring.Ring.{Ring}
use Rattle.booth_base.specs.Tree.{Deeds, Ends, Does, Leads}
use Rattle.booth_conf.specs.Config.{ConfigSays}
use Rattle.booth_conf.specs.declared.tickets.TicketConf.{TicketConf}
use Rattle.booth_rec.specs.declared.record.Record.{Record}
use Rattle.booth_host.specs.declared.host.Arrival.{Arrival}
use Rattle.booth_host.specs.declared.host.Arrival.TheVariants as arrivals
use Rattle.booth_host.specs.declared.entry.Entry.{Entry}
use Rattle.booth_host.specs.declared.entry.Entry.TheVariants as calls
use Rattle.booth_node.specs.Reaction.{Ask, Send, Keep, Start, IsDone}
use Rattle.booth_node.specs.Session.{SessionEntry, Makes}
use Rattle.booth_node.specs.State.{State}
use Rattle.booth_node.specs.World.{WorldEntry, entries_of}
use Rattle.booth_sim.specs.declared.frames.SentFrame.{SentFrame}
use Rattle.booth_sim.specs.declared.frames.TheConstants.{KEPT_FRAMES}
use Rattle.booth_sim.specs.declared.summary.Summary.{Summary}
use Rattle.booth_sim.specs.Counts.{begins, count_after, gains, greatest_term, is_change, is_delivery, is_restart, is_some_entry, most_between, most_of, one_if, releases, term_in}
use Rattle.booth_sim.specs.Frames.{frame_in, frames_in, kept_frames, last_of}
use Rattle.booth_sim.specs.Kept.{all_kept, kept_after, kept_by}
use Rattle.booth_sim.specs.Simulation.{entry_at, made_at, start_at}
use Rattle.booth_sim.specs.Standing.{IsCounted}
use Rattle.booth_sim.proofs.Entries.{entries_join, entry_own}
use Rattle.booth_sim.proofs.KeptRecords.{kept_join}

-- ---- counts

count_join : (is : List WorldEntry → WorldEntry → Bool) (done xs : List WorldEntry) (e : WorldEntry)
    → count_after is done (xs ++ e ∷ []) ≡ count_after is done xs + one_if (is (done ++ xs) e)
count_join is done [] e =
    let same : one_if (is (done ++ []) e) ≡ one_if (is done e) = ap (λ (d : List WorldEntry). one_if (is d e)) (append-nil done) in
    omega (arith, same)
count_join is done (x ∷ xs) e =
    let rest = count_join is (done ++ x ∷ []) xs e in
    let same : one_if (is ((done ++ x ∷ []) ++ xs) e) ≡ one_if (is (done ++ x ∷ xs) e) =
    ap (λ (d : List WorldEntry). one_if (is d e)) (append_assoc done (x ∷ []) xs) in omega (arith, rest, same)

greatest_join : (xs : List WorldEntry) (e : WorldEntry) → greatest_term (xs ++ e ∷ []) ≡ max (greatest_term xs) (term_in e.what)
greatest_join [] e = omega arith
greatest_join (x ∷ xs) e = let rest = greatest_join xs e in omega (arith, rest)

-- what one more entry adds
record OneMore (config : ConfigSays) (before : List WorldEntry) (e : WorldEntry) (old new : Summary) : Type 0 where
  delivered : new.delivered ≡ old.delivered + one_if (is_delivery config e.what)
  restarts : new.restarts ≡ old.restarts + one_if (is_restart before e.member e.what)
  gains : new.gains ≡ old.gains + one_if (is_change gains config before e.member e.what)
  releases : new.releases ≡ old.releases + one_if (is_change releases config before e.member e.what)
  greatest : new.greatest_term ≡ max old.greatest_term (term_in e.what)

one_counted : (config : ConfigSays) (before : List WorldEntry) (e : WorldEntry) (old new : Summary) → IsCounted config before old
    → OneMore config before e old new → IsCounted config (before ++ e ∷ []) new
one_counted config before e old new is more = record {
  delivered =
      let j = count_join (λ done entry. is_delivery config entry.what) [] before e in
      let o = is.delivered in let m = more.delivered in omega (arith, j, o, m);
  restarts =
      let j = count_join (λ done entry. is_restart done entry.member entry.what) [] before e in
      let o = is.restarts in let m = more.restarts in omega (arith, j, o, m);
  gains =
      let j = count_join (λ done entry. is_change gains config done entry.member entry.what) [] before e in
      let o = is.gains in let m = more.gains in omega (arith, j, o, m);
  releases =
      let j = count_join (λ done entry. is_change releases config done entry.member entry.what) [] before e in
      let o = is.releases in let m = more.releases in omega (arith, j, o, m);
  greatest =
      more.greatest ∙ ap (λ (n : ℕ). max n (term_in e.what)) is.greatest ∙ sym (greatest_join before e);
}

-- an arrival
delivery_same : (config : ConfigSays) (arrival : Arrival) (bytes : List ℕ)
    → is_delivery config (Makes (calls.Next 100 (Ok arrival) [])) ≡ is_delivery config (Makes (calls.Next 100 (Ok arrival) bytes))
delivery_same config (arrivals.Datagram from) bytes = refl
delivery_same config arrival bytes = refl

pub next_counted : (config : ConfigSays) (before : List WorldEntry) (place time : ℕ) (arrival : Arrival) (bytes : List ℕ) (old : Summary)
    → IsCounted config before old
    → IsCounted config (before ++ entry_at place time (Makes (calls.Next 100 (Ok arrival) bytes)) ∷ [])
    (record old { delivered = old.delivered + one_if (is_delivery config (Makes (calls.Next 100 (Ok arrival) []))) })
next_counted config before place time arrival bytes old is =
    one_counted config before (entry_at place time (Makes (calls.Next 100 (Ok arrival) bytes))) old _ is
    (record {
      delivered = ap (λ (b : Bool). old.delivered + one_if b) (delivery_same config arrival bytes);
      restarts = omega arith;
      gains = omega arith;
      releases = omega arith;
      greatest = omega arith;
    })

-- a reading
pub now_counted : (config : ConfigSays) (before : List WorldEntry) (place time reading : ℕ) (old : Summary)
    → IsCounted config before old → IsCounted config (before ++ entry_at place time (Makes (calls.Now reading)) ∷ []) old
now_counted config before place time reading old is =
    one_counted config before (entry_at place time (Makes (calls.Now reading))) old old is
    (record { delivered = omega arith; restarts = omega arith; gains = omega arith; releases = omega arith; greatest = omega arith })

-- a start that is a restart
pub restart_counted : (config : ConfigSays) (before : List WorldEntry) (place time : ℕ) (old : Summary)
    → is_some_entry (entries_of place before) ≡ true → IsCounted config before old
    → IsCounted config (before ++ start_at config before place time ∷ []) (record old { restarts = old.restarts + 1 })
restart_counted config before place time old did is =
    one_counted config before (start_at config before place time) old _ is
    (record {
      delivered = omega arith;
      restarts = ap (λ (b : Bool). old.restarts + one_if b) (sym did);
      gains = omega arith;
      releases = omega arith;
      greatest = omega arith;
    })

-- a first start
pub start_counted : (config : ConfigSays) (before : List WorldEntry) (place : ℕ) (old : Summary)
    → is_some_entry (entries_of place before) ≡ false → IsCounted config before old
    → IsCounted config (before ++ start_at config [] place 0 ∷ []) old
start_counted config before place old did is =
    one_counted config before (start_at config [] place 0) old old is
    (record {
      delivered = omega arith;
      restarts = let none : old.restarts + one_if (is_some_entry (entries_of place before)) ≡ old.restarts + 0 =
          ap (λ (b : Bool). old.restarts + one_if b) did in omega (arith, none);
      gains = omega arith;
      releases = omega arith;
      greatest = omega arith;
    })

-- ---- frames and records

pub frames_stay : (config : ConfigSays) (before : List WorldEntry) (e : WorldEntry) → frame_in config e.member e.what ≡ None
    → kept_frames config (before ++ e ∷ []) ≡ kept_frames config before
frames_stay config before e none =
    ap (λ (fs : List SentFrame). last_of KEPT_FRAMES fs)
    (filter_map-append (λ (entry : WorldEntry). frame_in config entry.member entry.what) before (e ∷ [])
    ∙ (ap (λ (fs : List SentFrame). frames_in config before ++ fs) (alone (frame_in config e.member e.what) none)
    ∙ append-nil (frames_in config before)))
  where
    alone : (o : Option SentFrame) → o ≡ None
        → frames_in config (e ∷ []) ≡ []
    alone o is = simp none

-- entries of another member leave these
pub kept_other : (tickets : List TicketConf) (m : ℕ) (before last : List WorldEntry) → entries_of m last ≡ []
    → all_kept tickets m (before ++ last) ≡ all_kept tickets m before
kept_other [] m before last none = refl
kept_other (ticket ∷ tickets) m before last none =
    ap (λ (kept : Option Record). kept ∷ all_kept tickets m (before ++ last))
    (ap (λ (es : List SessionEntry). kept_after ticket.name None es) (no_more m before last none))
    ∙ ap (λ (rest : List (Option Record)). kept_by m ticket.name before ∷ rest) (kept_other tickets m before last none)
  where
    no_more : (k : ℕ) (xs ys : List WorldEntry) → entries_of k ys ≡ [] → entries_of k (xs ++ ys) ≡ entries_of k xs
    no_more k xs ys e =
        entries_join k xs ys ∙ ap (λ (es : List SessionEntry). entries_of k xs ++ es) e ∙ append-nil (entries_of k xs)

-- so does one that is no keep
pub kept_stay : (tickets : List TicketConf) (before : List WorldEntry) (e : WorldEntry)
    → ((name : List ℕ) (kept : Option Record) → kept_after name kept (e.what ∷ []) ≡ kept)
    → all_kept tickets e.member (before ++ e ∷ []) ≡ all_kept tickets e.member before
kept_stay [] before e none = refl
kept_stay (ticket ∷ tickets) before e none =
    ap (λ (kept : Option Record). kept ∷ all_kept tickets e.member (before ++ e ∷ []))
    (ap (λ (es : List SessionEntry). kept_after ticket.name None es)
    (entries_join e.member before (e ∷ [])
    ∙ ap (λ (es : List SessionEntry). entries_of e.member before ++ es) (entry_own e.member e [] refl))
    ∙ kept_join ticket.name None (entries_of e.member before) (e.what ∷ [])
    ∙ none ticket.name (kept_by e.member ticket.name before))
    ∙ ap (λ (rest : List (Option Record)). kept_by e.member ticket.name before ∷ rest) (kept_stay tickets before e none)

-- ---- the most holders

-- no event begins with one of these
abbrev pub NoneBegins : List WorldEntry → Type 0
NoneBegins [] = Unit {0}
NoneBegins (e ∷ entries) = (begins e.what ≡ false) × NoneBegins entries

most_within : (config : ConfigSays) (done rest : List WorldEntry) → NoneBegins rest
    → most_between config done rest ≡ most_of config (done ++ rest) config.tickets
most_within config done [] none = ap (λ (d : List WorldEntry). most_of config d config.tickets) (sym (append-nil done))
most_within config done (e ∷ rest) none =
    let here : (if begins e.what then most_of config done config.tickets else 0) ≡ 0 =
    ap (λ (b : Bool). if b then most_of config done config.tickets else 0) none.0 in
    let more = most_within config (done ++ e ∷ []) rest none.1 in
    let same : most_of config ((done ++ e ∷ []) ++ rest) config.tickets ≡ most_of config (done ++ e ∷ rest) config.tickets =
    ap (λ (d : List WorldEntry). most_of config d config.tickets) (append_assoc done (e ∷ []) rest) in
    omega (arith, here, more, same)

-- the entries of one more event
pub most_join : (config : ConfigSays) (done xs : List WorldEntry) (e : WorldEntry) (rest : List WorldEntry) → begins e.what ≡ true → NoneBegins rest
    → most_between config done (xs ++ e ∷ rest)
    ≡ max (most_between config done xs) (most_of config ((done ++ xs) ++ e ∷ rest) config.tickets)
most_join config done [] e rest starts none =
    let here : (if begins e.what then most_of config done config.tickets else 0) ≡ most_of config done config.tickets =
    ap (λ (b : Bool). if b then most_of config done config.tickets else 0) starts in
    let more = most_within config (done ++ e ∷ []) rest none in
    let same : most_of config ((done ++ e ∷ []) ++ rest) config.tickets ≡ most_of config ((done ++ []) ++ e ∷ rest) config.tickets =
    ap (λ (d : List WorldEntry). most_of config d config.tickets)
    (append_assoc done (e ∷ []) rest ∙ ap (λ (d : List WorldEntry). d ++ e ∷ rest) (sym (append-nil done))) in
    omega (arith, here, more, same)
most_join config done (x ∷ xs) e rest starts none =
    let more = most_join config (done ++ x ∷ []) xs e rest starts none in
    let same : most_of config (((done ++ x ∷ []) ++ xs) ++ e ∷ rest) config.tickets ≡ most_of config ((done ++ x ∷ xs) ++ e ∷ rest) config.tickets =
    ap (λ (d : List WorldEntry). most_of config (d ++ e ∷ rest) config.tickets) (append_assoc done (x ∷ []) xs) in
    omega (arith, more, same)

-- the deeds of a turn begin none
pub deeds_begin_none : (place time : ℕ) (ring : Option Ring) (deeds left : Deeds Ask State) (entries : List Entry)
    → Leads (IsDone ring) deeds entries left → NoneBegins (made_at place time entries)
deeds_begin_none place time ring deeds left [] leads = tt
deeds_begin_none place time ring (Ends state) left (call ∷ entries) leads = absurd leads
deeds_begin_none place time ring (Does ask go) left (call ∷ entries) leads =
    (deed ring ask leads.0 call leads.1, deeds_begin_none place time ring (go leads.0) left entries leads.2)
  where
    deed : (k : Option Ring) (a : Ask) (ok : Bool) (c : Entry) → IsDone k a ok c → begins (Makes c) ≡ false
    deed k (Send peer message) ok (calls.Send to bytes answer) d = refl
    deed k (Keep name tried) ok (calls.Keep ticket rec answer) d = refl
    deed k (Start job) ok (calls.Start number ticket handler local expires answer) d = refl
    deed k (Send peer message) ok c d = absurd d
    deed k (Keep name tried) ok c d = absurd d
    deed k (Start job) ok c d = absurd d
