-- Pieces of a replay, one behind the other.
use Rattle.std.specs.Prelude.{length, Bool, false, Option, None, Some}
use Rattle.std.proofs.Common.{◌≡◌, ◌≤◌, ◌+◌, ℕ, suc, List, [], ◌∷◌, ◌++◌, refl, sym, ◌∙◌, ap, subst, arith}
use Rattle.booth_host.specs.declared.entry.Entry.{Entry}
use Rattle.booth_journal.specs.Looking.{IsFirstCall}
use Rattle.booth_journal.specs.Says.{Said, Says, answer_lines}
use Rattle.booth_node.specs.declared.node_config.NodeConfig.{NodeConfig}
use Rattle.booth_node.specs.Session.{AreSessions, Makes, SessionEntry, Stand, after_entries, after_entry}
use Rattle.booth_audit.specs.declared.end.End.{End}
use Rattle.booth_audit.specs.declared.end.End.TheVariants.{Over, Cut, Differs}
use Rattle.booth_audit.specs.Course.{AreLeft, IsBehind, IsNone, IsOver, after_session}
use Rattle.booth_audit.specs.Noted.{MemberSays}
use Rattle.booth_audit.specs.Replay.{Event, Replayed, deeds_of, with_event}
use Rattle.booth_audit.specs.Tally.{Tally, tallied, tallied_all}
use Rattle.booth_audit.specs.Turns.{events_from, made_by, with_events}

-- ---- events, one behind the other

pub with_all : (one other : List Event) (rest : Replayed)
    → with_events (one ++ other) rest ≡ with_events one (with_events other rest)
with_all [] other rest = refl
with_all (event ∷ one) other rest = ap (with_event event) (with_all one other rest)

pub with_none : (events : List Event) (strays : Option ℕ)
    → with_events events (record { events = []; strays = strays }) ≡ record { events = events; strays = strays }
with_none [] strays = refl
with_none (event ∷ events) strays = ap (with_event event) (with_none events strays)

pub deeds_then : (one other : List Event) → deeds_of (one ++ other) ≡ deeds_of one ++ deeds_of other
deeds_then [] other = refl
deeds_then (event ∷ one) other = ap (λ (l : List SessionEntry). event.what ∷ l) (deeds_then one other)

pub deeds_made : (line : ℕ) (entries : List Entry) → deeds_of (events_from line entries) ≡ made_by entries
deeds_made line [] = refl
deeds_made line (entry ∷ entries) = ap (λ (l : List SessionEntry). Makes entry ∷ l) (deeds_made (line + 2) entries)

pub tallied_then : (member : MemberSays) (tally : Tally) (one other : List Event)
    → tallied_all member tally (one ++ other) ≡ tallied_all member (tallied_all member tally one) other
tallied_then member tally [] other = refl
tallied_then member tally (event ∷ one) other = tallied_then member (tallied member tally event) one other

pub stands_then : (stand : Stand) (one other : List SessionEntry)
    → after_entries stand (one ++ other) ≡ after_entries (after_entries stand one) other
stands_then stand [] other = refl
stands_then stand (what ∷ one) other = stands_then (after_entry stand what) one other

pub sessions_then : (stand : Stand) (one other : List SessionEntry) → AreSessions stand one
    → AreSessions (after_entries stand one) other → AreSessions stand (one ++ other)
sessions_then stand [] other are then_are = then_are
sessions_then stand (what ∷ one) other are then_are =
    (are.0, sessions_then (after_entry stand what) one other are.1 then_are)

-- ---- what is left

pub left_all : {text : List ℕ} {line : ℕ} {left : List Said} → Says text left → AreLeft text line text line left
left_all says = record { says = says; within = omega arith; no_longer = omega arith }

pub left_then : {text rest behind : List ℕ} {line at next : ℕ} {left then_left : List Said} → AreLeft text line rest at left
    → AreLeft rest at behind next then_left → AreLeft text line behind next then_left
left_then {text} {rest} {behind} one other =
    let a = one.within in let b = other.within in let c = one.no_longer in let d = other.no_longer in
    record { says = other.says; within = omega (arith, a, b); no_longer = omega (arith, c, d) }

-- the same, by equations
pub over_at : {node : NodeConfig} {whole : Replayed} {events : List Event} {text rest behind : List ℕ} {line at next : ℕ}
    {strays known : Bool} → strays ≡ known → next ≡ at → behind ≡ rest
    → IsOver node whole events text line known rest at → IsOver node whole events text line strays behind next
over_at {node} {whole} {events} {text} {rest} {behind} {line} {at} {next} {strays} {known} s n b over =
    subst (λ (x : Bool). IsOver node whole events text line x behind next) (sym s)
    (subst (λ (x : ℕ). IsOver node whole events text line known behind x) (sym n)
    (subst (λ (x : List ℕ). IsOver node whole events text line known x at) (sym b) over))

pub over_then : {node : NodeConfig} {whole part : Replayed} {other : List Event} {text rest behind : List ℕ} {line at next : ℕ}
    {strays : Bool} {left : List Said} (one : List Event) → whole ≡ with_events one part → AreLeft text line rest at left
    → IsOver node part other rest at strays behind next → IsOver node whole (one ++ other) text line strays behind next
over_then {node} {whole} {part} {other} {next = next} {strays = strays} one is left over = record {
  then_left = over.then_left;
  left = left_then left over.left;
  is = is ∙ ap (with_events one) over.is ∙ sym (with_all one other (after_session node strays next over.then_left));
}

-- ---- a call without its answer

pub skipped : {text call behind : List ℕ} {answer : Option (List ℕ)} (said : Said) (more : List Said)
    → IsFirstCall text (said ∷ more) call answer behind → Says behind more × (length behind + 1 ≤ length text)
skipped {text} {behind = behind} said more f =
    let is = f.is in
    let same : f.more ≡ more = cc in
    let long : suc (length (answer_lines f.said.answer)) + length behind ≤ length text = f.shorter in
    (subst (λ (l : List Said). Says behind l) same f.says, omega (arith, long))

-- ---- where lines end

pub none_over : {node : NodeConfig} {whole : Replayed} {text rest behind : List ℕ} {line at next : ℕ} {strays : Bool}
    {left : List Said} (end : Option End) → AreLeft text line rest at left → IsNone node end at left whole
    → IsBehind end rest at strays behind next → IsOver node whole [] text line strays behind next
none_over {left = left} None are none b =
    over_at b.0 b.1 b.2 (record { then_left = left; left = are; is = none })
none_over {left = left} (Some Over) are none b =
    over_at b.0 b.1 b.2 (record { then_left = left; left = are; is = none })
none_over {left = left} (Some Differs) are none b =
    over_at b.0 b.1 b.2 (record { then_left = left; left = are; is = none })
none_over {text = text} {rest = rest} {behind = behind} {line = line} {at = at} (Some Cut) are none b =
    let part = b.2 none.0 none.1 (subst (λ (l : List Said). Says rest l) none.2 are.says) in
    let within = are.within in
    let no_longer = are.no_longer in
    let shorter = part.1 in
    over_at b.0 b.1 refl (record {
      then_left = none.1;
      left = record {
        says = part.0;
        within = omega (arith, within, shorter);
        no_longer = omega (arith, no_longer, shorter);
      };
      is = none.3;
    })

-- ---- behind a cut

pub behind_cut : {end : Option End} {rest behind : List ℕ} {at : ℕ} (line : ℕ) → end ≡ Some Cut → at ≡ line + 1
    → ((said : Said) (more : List Said) → Says rest (said ∷ more) → Says behind more × (length behind + 1 ≤ length rest))
    → IsBehind end rest line false behind at
behind_cut {rest = rest} {behind} {at} line is next skips =
    subst (λ (o : Option End). IsBehind o rest line false behind at) (sym is) (refl, next, skips)
