-- The silent starts of all journals are those of their members' events.
use Rattle.std.specs.Prelude.{map, Option}
use Rattle.std.proofs.Common.{◌≡◌, ◌+◌, ℕ, List, [], ◌∷◌, ◌++◌, refl, ◌∙◌, ap}
use Rattle.booth_conf.specs.Config.{ConfigSays}
use Rattle.booth_keys.specs.declared.ring.Ring.{Ring}
use Rattle.booth_audit.specs.declared.silent.SilentStart.{SilentStart}
use Rattle.booth_audit.specs.declared.silent.Unwritten.{Unwritten}
use Rattle.booth_audit.specs.Audit.{AreTrue, IsTrue}
use Rattle.booth_audit.specs.Faults.{Heard}
use Rattle.booth_audit.specs.Judging.{AreTallied, IsTallied, JudgedSays, member_at, silent_by}
use Rattle.booth_audit.specs.Silent.{silent_start, silent_starts, unwritten_in}
use Rattle.booth_audit.specs.Tally.{Tally, nothing_tallied}
use Rattle.booth_audit.specs.Watched.{AreFound, Watched}
use Rattle.booth_audit.proofs.HeldLemmas.{own_deeds}
use Rattle.booth_audit.proofs.TallyLemmas.{watched_so}
use Rattle.booth_audit.proofs.WatchedLemmas.{watch_tells_unwritten}

-- ---- one journal

unwritten_so : {config : ConfigSays} {ring : Option Ring} {earlier : List (Option ℕ)} {text : List ℕ} {heard : Heard}
    {judged : JudgedSays} → AreFound config.tickets → IsTrue config ring earlier text heard
    → IsTallied config ring heard judged → judged.tally.watched.unwritten ≡ unwritten_in [] heard.events
unwritten_so {config} {ring} {heard = heard} found is tallied =
    ap (λ (t : Tally). t.watched.unwritten) tallied.tally
    ∙ ap (λ (w : Watched). w.unwritten)
    (watched_so (member_at config ring heard.member) (nothing_tallied config.tickets) heard.events)
    ∙ watch_tells_unwritten (member_at config ring heard.member) found heard.events is.sessions (own_deeds is)

-- ---- all journals

pub silent_so : (config : ConfigSays) (ring : Option Ring) → AreFound config.tickets → (journal : ℕ) (earlier : List Heard)
    (texts : List (List ℕ)) (heard : List Heard) (all : List JudgedSays) → AreTrue config ring earlier texts heard
    → AreTallied config ring heard all → silent_by journal all ≡ silent_starts journal heard
silent_so config ring found journal earlier [] [] [] are tallied = refl
silent_so config ring found journal earlier [] [] (judged ∷ all) are tallied = absurd tallied
silent_so config ring found journal earlier [] (one ∷ heard) all are tallied = absurd are
silent_so config ring found journal earlier (text ∷ texts) [] all are tallied = absurd are
silent_so config ring found journal earlier (text ∷ texts) (one ∷ heard) [] are tallied = absurd tallied
silent_so config ring found journal earlier (text ∷ texts) (one ∷ heard) (judged ∷ all) are tallied =
    ap (λ (l : List Unwritten). map (silent_start journal) l ++ silent_by (journal + 1) all)
    (unwritten_so found are.0 tallied.0)
    ∙ ap (λ (l : List SilentStart). map (silent_start journal) (unwritten_in [] one.events) ++ l)
    (silent_so config ring found (journal + 1) (earlier ++ one ∷ []) texts heard all are.1 tallied.1)
