-- The calls of a node log are those of a session, also where its last turn stopped.
use Rattle.std.proofs.Common.{◌≡◌, Bool, List, [], ◌∷◌, ◌++◌, refl, sym, ap, subst}
use Rattle.std.specs.Prelude.{Option}
use Rattle.booth_keys.specs.declared.ring.Ring.{Ring}
use Rattle.booth_base.specs.Tree.{Deeds, Ends, Does, Leads}
use Rattle.booth_host.specs.declared.entry.Entry.{Entry}
use Rattle.booth_host.specs.declared.entry.Entry.TheVariants as calls
use Rattle.booth_node.specs.declared.node.Turn.{Turn}
use Rattle.booth_node.specs.declared.node.Turn.TheVariants.{Went, Stopped}
use Rattle.booth_node.specs.declared.node_config.NodeConfig.{NodeConfig}
use Rattle.booth_node.specs.Log.{AreTurns, joined_turns}
use Rattle.booth_node.specs.Reaction.{Ask, Send, Keep, Start, IsDone, used, react, IsTurn}
use Rattle.booth_node.specs.Session.{SessionEntry, Makes, Stand, Doing, did, MayMake, after_entry, AreSessions, after_entries}
use Rattle.booth_node.specs.State.{State}
use Rattle.booth_world.specs.Worlds.{made, LogsAreSessions, StoppedLogsAreSessions, CutSessionsAreSessions}

-- the rest of a session, and where it leaves the member
abbrev IsPath : Stand → List SessionEntry → Stand → Type 0
IsPath stand entries last = AreSessions stand entries × (after_entries stand entries ≡ last)

path_join : (stand mid last : Stand) (xs ys : List SessionEntry) → IsPath stand xs mid → IsPath mid ys last → IsPath stand (xs ++ ys) last
path_join stand mid last [] ys p q = subst (λ (s : Stand). IsPath s ys last) (sym p.1) q
path_join stand mid last (x ∷ xs) ys p q =
    let rest = path_join (after_entry stand x) mid last xs ys (p.0.1, p.1) q in
    ((p.0.0, rest.0), rest.1)

-- a deed says itself what it was answered
says_so : (ring : Option Ring) (ask : Ask) (ok : Bool) (call : Entry) → IsDone ring ask ok call → ok ≡ did call
says_so ring (Send peer message) ok (calls.Send to bytes answer) d = d.3
says_so ring (Keep name tried) ok (calls.Keep ticket rec answer) d = d.2
says_so ring (Start job) ok (calls.Start number ticket handler local expires answer) d = d.1
says_so ring (Send peer message) ok call d = absurd d
says_so ring (Keep name tried) ok call d = absurd d
says_so ring (Start job) ok call d = absurd d

deeds_path : (node : NodeConfig) (deeds left : Deeds Ask State) (entries : List Entry) → Leads (IsDone node.ring) deeds entries left
    → IsPath (Doing node deeds) (made entries) (Doing node left)
deeds_path node deeds left [] leads = (tt, ap (λ (t : Deeds Ask State). Doing node t) (sym leads))
deeds_path node (Ends state) left (call ∷ entries) leads = absurd leads
deeds_path node (Does ask go) left (call ∷ entries) leads =
    let ok : leads.0 ≡ did call = says_so node.ring ask leads.0 call leads.1 in
    let rest = deeds_path node (go (did call)) left entries
    (subst (λ (b : Bool). Leads (IsDone node.ring) (go b) entries left) ok leads.2) in
    ((doable node ask go call (subst (λ (b : Bool). IsDone node.ring ask b call) ok leads.1), rest.0), rest.1)
  where
    doable : (n : NodeConfig) (a : Ask) (g : Bool → Deeds Ask State) (c : Entry) → IsDone n.ring a (did c) c → MayMake (Doing n (Does a g)) c
    doable n a g c d = d

turn_path : (node : NodeConfig) (old new : State) (turn : Turn) (entries : List Entry) → IsTurn node old turn entries new
    → IsPath (Doing node (Ends old)) (made entries) (Doing node (Ends new))
turn_path node old new turn (calls.Next wait answer bytes ∷ calls.Now reading ∷ entries) is =
    let rest = deeds_path node (react node old (used old.last_reading reading) answer bytes) (Ends new) entries is.2 in
    ((is.0, (tt, rest.0)), rest.1)
turn_path node old new turn entries is = absurd is

pub made_join : (xs ys : List Entry) → made (xs ++ ys) ≡ made xs ++ made ys
made_join [] ys = refl
made_join (x ∷ xs) ys = ap (λ (zs : List SessionEntry). Makes x ∷ zs) (made_join xs ys)

turns_path : (node : NodeConfig) (old new : State) (turns : List (List Entry)) → AreTurns node old turns new
    → IsPath (Doing node (Ends old)) (made (joined_turns turns)) (Doing node (Ends new))
turns_path node old new [] are = (tt, ap (λ (s : State). Doing node (Ends s)) (sym are))
turns_path node old new (turn ∷ turns) are =
    subst (λ (es : List SessionEntry). IsPath (Doing node (Ends old)) es (Doing node (Ends new))) (sym (made_join turn (joined_turns turns)))
    (path_join (Doing node (Ends old)) (Doing node (Ends are.0)) (Doing node (Ends new)) (made turn) (made (joined_turns turns))
    (turn_path node old are.0 Went turn are.1) (turns_path node are.0 new turns are.2))

pub logs_are_sessions : LogsAreSessions
logs_are_sessions node old new count entries log =
    subst (λ (es : List Entry). IsPath (Doing node (Ends old)) (made es) (Doing node (Ends new))) (sym log.whole)
    (turns_path node old new log.turns log.each)

pub stopped_logs_are_sessions : StoppedLogsAreSessions
stopped_logs_are_sessions node old new entries log =
    subst (λ (es : List Entry). IsPath (Doing node (Ends old)) (made es) (Doing node (Ends new))) (sym log.whole)
    (subst (λ (es : List SessionEntry). IsPath (Doing node (Ends old)) es (Doing node (Ends new))) (sym (made_join log.before log.last))
    (path_join (Doing node (Ends old)) (Doing node (Ends log.mid)) (Doing node (Ends new)) (made log.before) (made log.last)
    (logs_are_sessions node old log.mid log.count log.before log.log) (turn_path node log.mid new Stopped log.last log.stop)))

pub cut_sessions_are_sessions : CutSessionsAreSessions
cut_sessions_are_sessions stand [] late are = tt
cut_sessions_are_sessions stand (entry ∷ early) late are =
    (are.0, cut_sessions_are_sessions (after_entry stand entry) early late are.1)
