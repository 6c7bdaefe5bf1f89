-- Entries that pass their tests are sessions.
use Rattle.std.proofs.Common.{◌≡◌, true, List, [], ◌∷◌, refl}
use Rattle.std.specs.Prelude.{Option, bytes_eq}
use Rattle.std.proofs.lemmas.Bool.{and_parts, eqb-true}
use Rattle.booth_auth.specs.Sealed.{sealed}
use Rattle.booth_base.specs.Tree.{Ends, Does}
use Rattle.booth_host.specs.declared.entry.Entry.{Entry}
use Rattle.booth_host.specs.declared.entry.Entry.TheVariants as calls
use Rattle.booth_keys.specs.declared.ring.Ring.{Ring}
use Rattle.booth_node.specs.Reaction.{Ask, Send, Keep, Start, IsDone}
use Rattle.booth_node.specs.Session.{SessionEntry, Starts, Makes, IsCut, CutCall, CutNext, CutNow, CutSend, CutKeep, CutStart, Stand, Doing, Hearing, did, after_entry, MayMake, IsNextDeed, MayBeCut, MayDo, AreSessions}
use Rattle.booth_node.specs.declared.node_config.NodeConfig.{NodeConfig}
use Rattle.booth_examples.specs.Same.{same_peer}
use Rattle.booth_examples.specs.Sessions.{is_done, may_make, is_next_deed, may_be_cut, may_do, are_sessions}
use Rattle.booth_examples.proofs.FittingLemmas.{message_is}
use Rattle.booth_examples.proofs.SameLemmas.{no_test, bytes_are, peer_is, record_is, job_is}

done_is : (ring : Option Ring) (ask : Ask) (call : Entry) → is_done ring ask call ≡ true → IsDone ring ask (did call) call
done_is ring (Send peer message) (calls.Send to bytes answer) e =
    let q = and_parts (same_peer to peer) _ e in
    let r = and_parts (bytes_eq bytes (sealed ring message)) _ q.1 in
    (peer_is to peer q.0, bytes_are bytes (sealed ring message) r.0, message_is message r.1, refl)
done_is ring (Keep name tried) (calls.Keep ticket rec answer) e =
    let q = and_parts (bytes_eq ticket name) _ e in
    (bytes_are ticket name q.0, record_is rec tried q.1, refl)
done_is ring (Start job) (calls.Start number ticket handler local expires answer) e = (job_is _ job e, refl)
done_is ring ask call e = no_test e

make_is : (stand : Stand) (call : Entry) → may_make stand call ≡ true → MayMake stand call
make_is (Doing node (Ends old)) (calls.Next wait answer bytes) e = eqb-true wait 100 e
make_is (Doing node (Does ask go)) call e = done_is node.ring ask call e
make_is (Hearing node old answer bytes) (calls.Now reading) e = tt
make_is stand call e = no_test e

deed_is : (node : NodeConfig) (ask : Ask) (call : CutCall) → is_next_deed node.ring ask call ≡ true → IsNextDeed node ask call
deed_is node (Send peer message) (CutSend to bytes) e =
    let q = and_parts (same_peer to peer) _ e in
    let r = and_parts (bytes_eq bytes (sealed node.ring message)) _ q.1 in
    (peer_is to peer q.0, bytes_are bytes (sealed node.ring message) r.0, message_is message r.1)
deed_is node (Keep name tried) (CutKeep ticket rec) e =
    let q = and_parts (bytes_eq ticket name) _ e in
    (bytes_are ticket name q.0, record_is rec tried q.1)
deed_is node (Start asked) (CutStart job) e = job_is job asked e
deed_is node ask call e = no_test e

cut_is : (stand : Stand) (call : CutCall) → may_be_cut stand call ≡ true → MayBeCut stand call
cut_is (Doing node (Ends old)) CutNext e = tt
cut_is (Doing node (Does ask go)) call e = deed_is node ask call e
cut_is (Hearing node old answer bytes) CutNow e = tt
cut_is stand call e = no_test e

do_is : (stand : Stand) (entry : SessionEntry) → may_do stand entry ≡ true → MayDo stand entry
do_is stand (Starts node reading records) e = eqb-true _ _ e
do_is stand (Makes call) e = make_is stand call e
do_is stand (IsCut call) e = cut_is stand call e

pub sessions_are : (stand : Stand) (entries : List SessionEntry) → are_sessions stand entries ≡ true → AreSessions stand entries
sessions_are stand [] e = tt
sessions_are stand (entry ∷ entries) e =
    let q = and_parts (may_do stand entry) _ e in
    (do_is stand entry q.0, sessions_are (after_entry stand entry) entries q.1)
