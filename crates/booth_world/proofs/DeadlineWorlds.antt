-- In each world, whoever waits for a ticket has a deadline that is coming.
use Rattle.std.proofs.Common.{◌≡◌, ◌≢◌, ◌⊎◌, ◌+◌, inl, inr, ℕ, ◌<◌, Bool, true, false, List, [], ◌∷◌, ◌++◌, length, refl, sym, ap, ◌∙◌, subst, arith, slice_get}
use Rattle.std.specs.Prelude.{Option, Some, is_ok}
use Rattle.std.proofs.lemmas.List.{get_or-replicate, length-replicate}
use Rattle.std.proofs.lemmas.Option.{slice_get_within}
use Rattle.booth_base.specs.Tree.{Ends, Does, Always}
use Rattle.booth_chain.proofs.NodesLemmas.{same_or_not}
use Rattle.booth_conf.specs.Sound.{IsSound as IsSoundConfig}
use Rattle.booth_conf.specs.declared.tickets.TicketConf.{TicketConf}
use Rattle.booth_rec.specs.declared.record.Record.{Record}
use Rattle.booth_host.specs.declared.entry.Entry.{Entry}
use Rattle.booth_host.specs.declared.entry.Entry.TheVariants as calls
use Rattle.booth_wire.specs.declared.message.Setup.{Setup}
use Rattle.booth_ticket.specs.declared.waiters.Waiter.{Waiter}
use Rattle.booth_ticket.specs.Ticket.{TicketState, Known, Automatic, Manual}
use Rattle.booth_ticket.specs.Waiting.{waiting_at}
use Rattle.booth_node.specs.declared.node_config.NodeConfig.{NodeConfig}
use Rattle.booth_node.specs.Opening.{known_at_start, opened, opened_by, setup_of, start_reading}
use Rattle.booth_node.specs.Reaction.{Send, Keep, Start, used}
use Rattle.booth_node.specs.Records.{record_at}
use Rattle.booth_node.specs.Session.{MayMake, SessionEntry, Starts, Makes, IsCut, Stand, Down, Doing, Hearing, MayDo, AreSessions, after_call, after_entry, after_entries}
use Rattle.booth_node.specs.State.{State}
use Rattle.booth_node.specs.World.{HasConfiguration, WorldEntry, World, entries_of, members_of, stand_after, IsUntimedWorld}
use Rattle.booth_world.specs.NodeWaits.{IsComing, RestsWithDeadlines, StandsWithDeadlines, WorldsWaitersHaveDeadlines}
use Rattle.booth_world.proofs.Configured.{timed_so}
use Rattle.booth_world.proofs.DeadlineLaws.{waiters_have_deadlines}
use Rattle.booth_world.proofs.DeadlineNodes.{AnyDeed, AreCalm, IsCalm, turn_calm}
use Rattle.booth_world.proofs.Lists.{some_same}
use Rattle.booth_world.proofs.WaitingLaws.{manual_waiters_have_jobs}
use Rattle.booth_world.proofs.WorldEntries.{started_at, started_is}
use Rattle.booth_world.proofs.WorldHosts.{append_none, entries_join, entry_other, entry_own, sessions_at, stand_own}
use Rattle.booth_world.proofs.WorldRuns.{append_both}

-- what a member that stands so leaves is calm
abbrev StandsCalm : Stand → Type 0
StandsCalm Down = Unit {0}
StandsCalm (Doing node deeds) = (now : ℕ) × Always AnyDeed (AreCalm now) deeds
StandsCalm (Hearing node old answer bytes) = (now : ℕ) × AreCalm now old

makes : (stand : Stand) (call : Entry) → StandsCalm stand → MayMake stand call → StandsCalm (after_call stand call)
makes Down call h d = absurd d
makes (Doing node (Ends old)) (calls.Next wait answer bytes) h d = h
makes (Doing node (Ends old)) call h d = absurd d
makes (Doing node (Does (Send peer message) go)) (calls.Send to bytes answer) h d = (h.0, h.1.1 (is_ok answer))
makes (Doing node (Does (Send peer message) go)) call h d = absurd d
makes (Doing node (Does (Keep name tried) go)) (calls.Keep ticket_name rec answer) h d = (h.0, h.1.1 (is_ok answer))
makes (Doing node (Does (Keep name tried) go)) call h d = absurd d
makes (Doing node (Does (Start job) go)) (calls.Start number named handler local expires answer) h d = (h.0, h.1.1 (is_ok answer))
makes (Doing node (Does (Start job) go)) call h d = absurd d
makes (Hearing node old answer bytes) (calls.Now reading) h d =
    let same : old.last_reading ≡ h.0 = h.1.reading in
    (used old.last_reading reading, turn_calm node (used old.last_reading reading) old answer bytes h.0 (omega (arith, same)) h.1)
makes (Hearing node old answer bytes) call h d = absurd d

-- a start leaves each ticket calm
starts : (node : NodeConfig) → IsSoundConfig node.config → (reading : ℕ) (records : List (Option Record))
    → length records ≡ length node.config.tickets → AreCalm (start_reading reading) (opened node records reading)
starts node sound reading records all = record { reading = refl; each_is = by_ticket }
  where
    by_ticket : (place : ℕ) (t : TicketState) → slice_get (opened node records reading).tickets place ≡ Some t
        → (place < length (opened node records reading).waiters)
        × IsCalm t.setup (start_reading reading) t.known (waiting_at (opened node records reading).waiters place)
    by_ticket place t read =
        let q = started_is node (start_reading reading) 0 place node.config.tickets records t read in
        let conf : TicketConf = q.0 in
        let within : place < length node.config.tickets = slice_get_within node.config.tickets place conf q.1 in
        let s : Setup = setup_of node (0 + place) conf in
        let same : opened_by conf s (record_at records place) (start_reading reading) ≡ t =
        some_same _ t (sym (started_at node (start_reading reading) 0 place node.config.tickets records conf all q.1) ∙ read) in
        let short = (timed_so node.config sound place conf q.1).renewal in
        let by_kind : (manual : Bool) → IsCalm s (start_reading reading) (known_at_start manual s (record_at records place) (start_reading reading)) [] =
        λ manual. kinds manual s (record_at records place) short in (
          subst (λ (n : ℕ). place < n) (sym (length-replicate (length node.config.tickets) [])) within,
          subst (λ (x : TicketState). IsCalm x.setup (start_reading reading) x.known (waiting_at (opened node records reading).waiters place)) same
              (subst (λ (ws : List Waiter). IsCalm s (start_reading reading) (known_at_start conf.manual s (record_at records place) (start_reading reading)) ws)
              (sym (get_or-replicate (length node.config.tickets) place [] [] within)) (by_kind conf.manual)),
        )
      where
        kinds : (manual : Bool) (s : Setup) (rec : Record) → s.times.renewal < s.times.expire
            → IsCalm s (start_reading reading) (known_at_start manual s rec (start_reading reading)) []
        kinds true s rec short = manual_waiters_have_jobs.starts rec (start_reading reading)
        kinds false s rec short = (short, waiters_have_deadlines.starts s rec (start_reading reading))

module _ (w : World) (is_world : IsUntimedWorld w) (m : ℕ) (below : m < members_of w) where
  abbrev CalmAfter : List WorldEntry → Type 0
  CalmAfter before = StandsCalm (stand_after m before)

  one_entry : (before after : List WorldEntry) (e : WorldEntry) → w.entries ≡ before ++ e ∷ after → e.member ≡ m
      → MayDo (stand_after m before) e.what → CalmAfter before → StandsCalm (after_entry (stand_after m before) e.what)
  one_entry before after e whole is may_do h = by_what e.what (is_world.same_members before after e whole) may_do
    where
      by_what : (what : SessionEntry) → HasConfiguration w e what → MayDo (stand_after m before) what
          → StandsCalm (after_entry (stand_after m before) what)
      by_what (Starts node reading records) own all = (start_reading reading, starts node own.sound reading records all)
      by_what (Makes call) own d = makes (stand_after m before) call h d
      by_what (IsCut call) own d = tt

  one_step : (before after : List WorldEntry) (e : WorldEntry) → w.entries ≡ before ++ e ∷ after → CalmAfter before
      → CalmAfter (before ++ e ∷ [])
  one_step before after e whole h = by_member (same_or_not e.member m)
    where
      by_member : (e.member ≡ m) ⊎ (e.member ≢ m) → CalmAfter (before ++ e ∷ [])
      by_member (inr ne) =
          subst (λ (xs : List SessionEntry). StandsCalm (after_entries Down xs))
          (sym (entries_join m before (e ∷ []) ∙ ap (λ (xs : List SessionEntry). entries_of m before ++ xs) (entry_other m e [] ne)
          ∙ append_none (entries_of m before))) h
      by_member (inl is) =
          subst (λ (s : Stand). StandsCalm s) (sym (stand_own m before e is))
          (one_entry before after e whole is
          (sessions_at Down (entries_of m before) (entries_of m after) e.what
          (subst (λ (xs : List SessionEntry). AreSessions Down xs)
          (ap (λ (es : List WorldEntry). entries_of m es) whole ∙ entries_join m before (e ∷ after)
          ∙ ap (λ (xs : List SessionEntry). entries_of m before ++ xs) (entry_own m e after is))
          (is_world.one_daemon m below))) h)

  steps : (between before after : List WorldEntry) → w.entries ≡ before ++ (between ++ after) → CalmAfter before
      → CalmAfter (before ++ between)
  steps [] before after whole h = subst CalmAfter (sym (append_none before)) h
  steps (e ∷ between) before after whole h =
      subst CalmAfter (append_both before (e ∷ []) between)
      (steps between (before ++ e ∷ []) after (whole ∙ sym (append_both before (e ∷ []) (between ++ after)))
      (one_step before (between ++ after) e whole h))

pub worlds_waiters : WorldsWaitersHaveDeadlines
worlds_waiters w is_world m below moment =
    by_stand (stand_after m moment.before) (steps w is_world m below moment.before [] moment.after moment.whole tt)
  where
    comes : (s : Setup) (now : ℕ) (known : Known) (waiters : List Waiter) → IsCalm s now known waiters → (waiters ≡ []) ⊎ IsComing s now known
    comes s now (Automatic view) waiters h = waiters_have_deadlines.coming s view waiters now h.1
    comes s now (Manual known) waiters h = manual_waiters_have_jobs.coming known waiters h

    rests : (state : State) (now : ℕ) → AreCalm now state → RestsWithDeadlines state
    rests state now at = λ place t is.
        subst (λ (n : ℕ). (waiting_at state.waiters place ≡ []) ⊎ IsComing t.setup n t.known) (sym at.reading)
        (comes t.setup now t.known (waiting_at state.waiters place) (at.each_is place t is).1)

    by_stand : (stand : Stand) → StandsCalm stand → StandsWithDeadlines stand
    by_stand Down h = tt
    by_stand (Doing node (Ends state)) h = rests state h.0 h.1
    by_stand (Doing node (Does ask go)) h = tt
    by_stand (Hearing node old answer bytes) h = rests old h.0 h.1
