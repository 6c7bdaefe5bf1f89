-- A member stays behind a site, and a leader keeps its lease, through a session.
use Rattle.std.proofs.Common.{◌≡◌, ℕ, ◌+◌, ◌<◌, ◌≤◌, List, [], ◌∷◌, sym, subst, arith}
use Rattle.std.specs.Prelude.{None, Result, is_ok}
use Rattle.booth_base.specs.Times.{promise_of}
use Rattle.booth_base.specs.Tree.{Ends, Does}
use Rattle.booth_host.specs.declared.entry.Entry.{Entry}
use Rattle.booth_host.specs.declared.entry.Entry.TheVariants as calls
use Rattle.booth_host.specs.declared.host.Arrival.{Arrival}
use Rattle.booth_host.specs.declared.host.Failed.{Failed}
use Rattle.booth_raft.specs.declared.view.View.{View}
use Rattle.booth_raft.specs.GainReleaseLost.{own_end}
use Rattle.booth_node.specs.declared.node_config.NodeConfig.{NodeConfig}
use Rattle.booth_node.specs.Jobs.{handler_at}
use Rattle.booth_node.specs.Reaction.{Action, Keep, Send, Start, react, used}
use Rattle.booth_node.specs.Session.{AreSessions, Doing, Down, Hearing, IsCut, Makes, MayDo, MayMake, SessionEntry, Stand, Starts, after_call, after_entries, after_entry}
use Rattle.booth_node.specs.State.{State}
use Rattle.booth_progress.specs.Behind.{IsBehind}
use Rattle.booth_progress.specs.Leading.{KeepsLease}
use Rattle.booth_progress.specs.Sessions.{AtReading, EachEntry, IsCalmEntry, IsFairEntry, IsWell, RestsBehind, RestsLeading, SessionsKeepLeases, SessionsStayBehind, Stands}
use Rattle.booth_progress.specs.Turns.{HasSomeView, IsFairTo, IsLeft, IsNoRevoke, Meets}
use Rattle.booth_progress.specs.Written.{IsKept, Whenever}
use Rattle.booth_progress.proofs.TurnLemmas.{turns_keep_leases, turns_stay_behind}
use Rattle.booth_progress.proofs.WrittenLemmas.{whenever_on}

-- a state's property that each turn leaves goes on through a session
module _ (Holds : State → Type 0) (Now : NodeConfig → ℕ → Type 0) (May : Action → Type 0)
    (turns : (node : NodeConfig) (old : State) (reading : ℕ) (answer : Result Arrival Failed) (bytes : List ℕ) → Holds old
    → Now node (used old.last_reading reading) → Meets node (used old.last_reading reading) old answer bytes May
    → Whenever IsKept Holds (react node old (used old.last_reading reading) answer bytes)) where
  makes : (stand : Stand) (call : Entry) → Stands Holds stand → MayMake stand call → IsWell (Makes call)
      → AtReading Now May stand (Makes call) → Stands Holds (after_call stand call)
  makes Down call h d well hears = absurd d
  makes (Doing node (Ends old)) (calls.Next wait answer bytes) h d well hears = h
  makes (Doing node (Ends old)) call h d well hears = absurd d
  makes (Doing node (Does (Send peer message) go)) (calls.Send to bytes answer) h d well hears = h (is_ok answer) tt
  makes (Doing node (Does (Send peer message) go)) call h d well hears = absurd d
  makes (Doing node (Does (Keep name tried) go)) (calls.Keep ticket rec answer) h d well hears = h (is_ok answer) well
  makes (Doing node (Does (Keep name tried) go)) call h d well hears = absurd d
  makes (Doing node (Does (Start job) go)) (calls.Start number ticket handler local expires answer) h d well hears = h (is_ok answer) tt
  makes (Doing node (Does (Start job) go)) call h d well hears = absurd d
  makes (Hearing node old answer bytes) (calls.Now reading) h d well hears = turns node old reading answer bytes h hears.0 hears.1
  makes (Hearing node old answer bytes) call h d well hears = absurd d

  goes : (stand : Stand) (what : SessionEntry) → Stands Holds stand → MayDo stand what → IsWell what → AtReading Now May stand what
      → Stands Holds (after_entry stand what)
  goes stand (Starts node reading records) h d well hears = absurd well
  goes stand (Makes call) h d well hears = makes stand call h d well hears
  goes stand (IsCut call) h d well hears = absurd well

  all_go : (Fits : Stand → SessionEntry → Type 0)
      → ((stand : Stand) (what : SessionEntry) → Fits stand what → IsWell what × AtReading Now May stand what)
      → (stand : Stand) (entries : List SessionEntry) → AreSessions stand entries → EachEntry Fits stand entries → Stands Holds stand
      → Stands Holds (after_entries stand entries)
  all_go Fits fits stand [] are each_fits h = h
  all_go Fits fits stand (what ∷ entries) are each_fits h =
      let fit = fits stand what each_fits.0 in
      all_go Fits fits (after_entry stand what) entries are.1 each_fits.1 (goes stand what h are.0 fit.0 fit.1)

pub no_earlier : (last reading : ℕ) → last ≤ used last reading
no_earlier last reading = omega arith

pub sessions_stay_behind : SessionsStayBehind
sessions_stay_behind place setup site since term until stand entries other are each_fits h =
    all_go (RestsBehind place setup site since term until) (λ node now. now < until) (IsFairTo place site since term) turns
    (IsFairEntry place site since term until) (λ at what fair. (fair.well, fair.hears)) stand entries are each_fits h
  where
    turns : (node : NodeConfig) (old : State) (reading : ℕ) (answer : Result Arrival Failed) (bytes : List ℕ)
        → RestsBehind place setup site since term until old → used old.last_reading reading < until
        → Meets node (used old.last_reading reading) old answer bytes (IsFairTo place site since term)
        → Whenever IsKept (RestsBehind place setup site since term until) (react node old (used old.last_reading reading) answer bytes)
    turns node old reading answer bytes rests before meets =
        let now : ℕ = used old.last_reading reading in
        let later : old.last_reading ≤ now = no_earlier old.last_reading reading in
        let made : until ≤ old.last_reading + promise_of setup.times = rests.made in
        let lasts : until ≤ now + promise_of setup.times = omega (arith, made, later) in
        whenever_on IsKept (IsLeft now place setup (IsBehind site since term until now)) (RestsBehind place setup site since term until)
        (react node old now answer bytes)
        (turns_stay_behind node old place setup site since term until old.last_reading now answer bytes later before lasts other rests.behind meets)
        (λ left l. record {
          made = subst (λ (n : ℕ). until ≤ n + promise_of setup.times) (sym l.reading) lasts;
          behind = subst (λ (n : ℕ). HasSomeView left place setup (IsBehind site since term until n)) (sym l.reading) l.ticket;
        })

pub sessions_keep_leases : SessionsKeepLeases
sessions_keep_leases place setup first stand entries short two are each_fits h =
    all_go (RestsLeading place setup first) (λ node now. (now < own_end first) × (handler_at node place ≡ None)) (IsNoRevoke place) turns
    (IsCalmEntry place first) (λ at what calm. (calm.well, calm.hears)) stand entries are each_fits h
  where
    turns : (node : NodeConfig) (old : State) (reading : ℕ) (answer : Result Arrival Failed) (bytes : List ℕ)
        → RestsLeading place setup first old
        → (used old.last_reading reading < own_end first) × (handler_at node place ≡ None)
        → Meets node (used old.last_reading reading) old answer bytes (IsNoRevoke place)
        → Whenever IsKept (RestsLeading place setup first) (react node old (used old.last_reading reading) answer bytes)
    turns node old reading answer bytes rests at meets = by_view rests.keeps
      where
        now : ℕ
        now = used old.last_reading reading

        by_view : HasSomeView old place setup (KeepsLease setup old.last_reading first)
            → Whenever IsKept (RestsLeading place setup first) (react node old now answer bytes)
        by_view (view, there, keeps) =
            let before : now < own_end first = at.0 in
            let longer : own_end first ≤ own_end view = keeps.longer in
            whenever_on IsKept (IsLeft now place setup (KeepsLease setup now view)) (RestsLeading place setup first)
            (react node old now answer bytes)
            (turns_keep_leases node old place setup view old.last_reading now answer bytes (no_earlier old.last_reading reading)
            (omega (arith, before, longer)) short at.1 two there keeps.leading meets)
            (λ left l. record {
              keeps = subst (λ (n : ℕ). HasSomeView left place setup (KeepsLease setup n first)) (sym l.reading) (longer_still view keeps left l.ticket);
            })
          where
            longer_still : (v : View) → KeepsLease setup old.last_reading first v → (left : State)
                → HasSomeView left place setup (KeepsLease setup now v) → HasSomeView left place setup (KeepsLease setup now first)
            longer_still v before_it left (after, found, still) =
                let one : own_end first ≤ own_end v = before_it.longer in
                let more : own_end v ≤ own_end after = still.longer in
                (after, found, record { leading = still.leading; longer = omega (arith, one, more) })
