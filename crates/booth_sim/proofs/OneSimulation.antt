-- A configuration, a number and a count of events make one simulation.
use Rattle.std.proofs.Common.{◌≡◌, ℕ, zero, suc, ◌+◌, Bool, List, [], ◌∷◌, ◌++◌, refl, sym, ap, ◌∙◌, subst}
use Rattle.std.specs.Prelude.{Option, None, Result, Ok, Err, is_err}
use Rattle.booth_keys.specs.declared.ring.Ring.{Ring}
use Rattle.booth_base.specs.Tree.{Deeds, Ends, Does, Leads}
use Rattle.booth_conf.specs.Config.{ConfigSays}
use Rattle.booth_host.specs.declared.host.Failed.{Failed}
use Rattle.booth_host.specs.declared.host.Job.{Job}
use Rattle.booth_host.specs.declared.entry.Entry.{Entry}
use Rattle.booth_host.specs.declared.entry.Entry.TheVariants as calls
use Rattle.booth_node.specs.declared.node_config.NodeConfig.{NodeConfig}
use Rattle.booth_node.specs.Reaction.{Ask, Send, Keep, Start, IsDone, react, used}
use Rattle.booth_node.specs.Session.{Doing}
use Rattle.booth_node.specs.State.{State}
use Rattle.booth_node.specs.World.{WorldEntry, last_time}
use Rattle.booth_sim.specs.Drawing.{draw_of, keeps_fail, rise_of}
use Rattle.booth_sim.specs.Happenings.{Happening, Turns, Restarts, happening, reading_at}
use Rattle.booth_sim.specs.Laws.{OneSimulation}
use Rattle.booth_sim.specs.Simulation.{AreAnswered, IsAnswered, IsEvent, IsHappening, made_at, node_in, turn_calls}

one_answer : (a b : Result (Unit {0}) Failed) → is_err a ≡ is_err b → a ≡ b
one_answer (Ok x) (Ok y) e = refl
one_answer (Ok x) (Err g) e = absurd cc
one_answer (Err f) (Ok y) e = absurd cc
one_answer (Err f) (Err g) e = refl

-- an ask has one call with this answer, and goes on with it
same_call : (ring : Option Ring) (fails : Bool) (ask : Ask) (ok other_ok : Bool) (call other : Entry)
    → IsDone ring ask ok call → IsAnswered fails call → IsDone ring ask other_ok other → IsAnswered fails other → call ≡ other
same_call ring fails (Send peer message) ok ok' (calls.Send to bytes answer) (calls.Send to' bytes' answer') d a d' a' =
    ap (λ p. calls.Send p bytes answer) (d.0 ∙ sym d'.0) ∙ ap (λ b. calls.Send to' b answer) (d.1 ∙ sym d'.1)
    ∙ ap (λ r. calls.Send to' bytes' r) (one_answer answer answer' (a ∙ sym a'))
same_call ring fails (Keep name tried) ok ok' (calls.Keep ticket rec answer) (calls.Keep ticket' rec' answer') d a d' a' =
    ap (λ t. calls.Keep t rec answer) (d.0 ∙ sym d'.0) ∙ ap (λ r. calls.Keep ticket' r answer) (d.1 ∙ sym d'.1)
    ∙ ap (λ r. calls.Keep ticket' rec' r) (one_answer answer answer' (a ∙ sym a'))
same_call ring fails (Start job) ok ok' (calls.Start n t h l x answer) (calls.Start n' t' h' l' x' answer') d a d' a' =
    ap (λ (j : Job). calls.Start j.number j.ticket j.handler j.local j.expires answer) (d.0 ∙ sym d'.0)
    ∙ ap (λ r. calls.Start n' t' h' l' x' r) (one_answer answer answer' (a ∙ sym a'))
same_call ring fails (Send peer message) ok ok' (calls.Send to bytes answer) other d a d' a' = absurd d'
same_call ring fails (Keep name tried) ok ok' (calls.Keep ticket rec answer) other d a d' a' = absurd d'
same_call ring fails (Start job) ok ok' (calls.Start n t h l x answer) other d a d' a' = absurd d'
same_call ring fails (Send peer message) ok ok' call other d a d' a' = absurd d
same_call ring fails (Keep name tried) ok ok' call other d a d' a' = absurd d
same_call ring fails (Start job) ok ok' call other d a d' a' = absurd d

same_ok : (ring : Option Ring) (ask : Ask) (ok other_ok : Bool) (call : Entry) → IsDone ring ask ok call → IsDone ring ask other_ok call
    → ok ≡ other_ok
same_ok ring (Send peer message) ok ok' (calls.Send to bytes answer) d d' = d.3 ∙ sym d'.3
same_ok ring (Keep name tried) ok ok' (calls.Keep ticket rec answer) d d' = d.2 ∙ sym d'.2
same_ok ring (Start job) ok ok' (calls.Start n t h l x answer) d d' = d.1 ∙ sym d'.1
same_ok ring (Send peer message) ok ok' call d d' = absurd d
same_ok ring (Keep name tried) ok ok' call d d' = absurd d
same_ok ring (Start job) ok ok' call d d' = absurd d

same_deeds : (ring : Option Ring) (fails : Bool) (tree : Deeds Ask State) (new new' : State) (xs ys : List Entry)
    → Leads (IsDone ring) tree xs (Ends new) → AreAnswered fails xs → Leads (IsDone ring) tree ys (Ends new') → AreAnswered fails ys → xs ≡ ys
same_deeds ring fails (Ends s) new new' [] [] l a l' a' = refl
same_deeds ring fails (Ends s) new new' [] (y ∷ ys) l a l' a' = absurd l'
same_deeds ring fails (Ends s) new new' (x ∷ xs) ys l a l' a' = absurd l
same_deeds ring fails (Does ask go) new new' [] ys l a l' a' = absurd cc
same_deeds ring fails (Does ask go) new new' (x ∷ xs) [] l a l' a' = absurd cc
same_deeds ring fails (Does ask go) new new' (x ∷ xs) (y ∷ ys) l a l' a' =
    let calls : x ≡ y = same_call ring fails ask l.0 l'.0 x y l.1 a.0 l'.1 a'.0 in
    let oks : l'.0 ≡ l.0 = same_ok ring ask l'.0 l.0 y l'.1 (subst (λ (c : Entry). IsDone ring ask l.0 c) calls l.1) in
    ap (λ (c : Entry). c ∷ xs) calls
    ∙ ap (λ (cs : List Entry). y ∷ cs)
    (same_deeds ring fails (go l.0) new new' xs ys l.2 a.1 (subst (λ (b : Bool). Leads (IsDone ring) (go b) ys (Ends new')) oks l'.2) a'.1)

same_state : (node : NodeConfig) (a b : State) → Doing node (Ends a) ≡ Doing node (Ends b) → a ≡ b
same_state node a b e = cc

same_last : (config : ConfigSays) (before : List WorldEntry) (time : ℕ) (fails : Bool) (what : Happening) (xs ys : List WorldEntry)
    → IsHappening config before time fails what xs → IsHappening config before time fails what ys → xs ≡ ys
same_last config before time fails (Turns place arrival bytes) xs ys one other =
    let olds : other.old ≡ one.old = same_state (node_in config place) other.old one.old (sym other.stands ∙ one.stands) in
    let deeds : one.deeds ≡ other.deeds =
    same_deeds None fails (react (node_in config place) one.old (used one.old.last_reading (reading_at place time)) (Ok arrival) bytes)
    one.new other.new one.deeds other.deeds one.turn.2 one.answered
    (subst (λ (s : State). Leads (IsDone None) (react (node_in config place) s (used s.last_reading (reading_at place time)) (Ok arrival) bytes)
    other.deeds (Ends other.new)) olds other.turn.2) other.answered in
    one.whole ∙ ap (λ (ds : List Entry). made_at place time (turn_calls arrival bytes (reading_at place time) ds)) deeds ∙ sym other.whole
same_last config before time fails (Restarts place) xs ys one other = one ∙ sym other

pub one_simulation : OneSimulation
one_simulation config number zero one other is is' = is ∙ sym is'
one_simulation config number (suc event) one other is is' =
    let befores : is'.0 ≡ is.0 = one_simulation config number event is'.0 is.0 is'.3 is.3 in
    let there : IsEvent config is.0 event (draw_of number event) is'.1 =
    subst (λ (b : List WorldEntry). IsEvent config b event (draw_of number event) is'.1) befores is'.4 in
    let lasts : is.1 ≡ is'.1 =
    same_last config is.0 (last_time 0 is.0 + rise_of (draw_of number event)) (keeps_fail (draw_of number event))
    (happening config is.0 event (draw_of number event)) is.1 is'.1 is.4 there in
    is.2 ∙ ap (λ (b : List WorldEntry). b ++ is.1) (sym befores) ∙ ap (λ (l : List WorldEntry). is'.0 ++ l) lasts ∙ sym is'.2
