-- A test of sessions: each entry must be allowed in the state of its member.
use Rattle.std.specs.Prelude.{Bool, true, false, ◌&&◌, ◌==◌, List, [], ◌∷◌, length, Option, bytes_eq}
use Rattle.booth_auth.specs.Sealed.{sealed}
use Rattle.booth_base.specs.Tree.{Ends, Does}
use Rattle.booth_host.specs.declared.entry.Entry.{Entry}
use Rattle.booth_host.specs.declared.entry.Entry.TheVariants as calls
use Rattle.booth_keys.specs.declared.ring.Ring.{Ring}
use Rattle.booth_node.specs.Reaction.{Ask, Send, Keep, Start}
use Rattle.booth_node.specs.Session.{SessionEntry, Starts, Makes, IsCut, CutCall, CutNext, CutNow, CutSend, CutKeep, CutStart, Stand, Doing, Hearing, after_entry}
use Rattle.booth_examples.specs.Fitting.{fits}
use Rattle.booth_examples.specs.Same.{same_peer, same_record, same_job}

-- The call is the requested one, with any answer.
abbrev pub is_done : Option Ring → Ask → Entry → Bool
is_done ring (Send peer message) (calls.Send to bytes answer) =
    same_peer to peer && (bytes_eq bytes (sealed ring message) && fits message)
is_done ring (Keep name tried) (calls.Keep ticket rec answer) = bytes_eq ticket name && same_record rec tried
is_done ring (Start job) (calls.Start number ticket handler local expires answer) =
    same_job (record { number = number; ticket = ticket; handler = handler; local = local; expires = expires }) job
is_done ring ask entry = false

abbrev pub may_make : Stand → Entry → Bool
may_make (Doing node (Ends old)) (calls.Next wait answer bytes) = wait == 100
may_make (Doing node (Does ask go)) call = is_done node.ring ask call
may_make (Hearing node old answer bytes) (calls.Now reading) = true
may_make stand call = false

abbrev pub is_next_deed : Option Ring → Ask → CutCall → Bool
is_next_deed ring (Send peer message) (CutSend to bytes) =
    same_peer to peer && (bytes_eq bytes (sealed ring message) && fits message)
is_next_deed ring (Keep name tried) (CutKeep ticket rec) = bytes_eq ticket name && same_record rec tried
is_next_deed ring (Start asked) (CutStart job) = same_job job asked
is_next_deed ring ask call = false

abbrev pub may_be_cut : Stand → CutCall → Bool
may_be_cut (Doing node (Ends old)) CutNext = true
may_be_cut (Doing node (Does ask go)) call = is_next_deed node.ring ask call
may_be_cut (Hearing node old answer bytes) CutNow = true
may_be_cut stand call = false

abbrev pub may_do : Stand → SessionEntry → Bool
may_do stand (Starts node reading records) = length records == length node.config.tickets
may_do stand (Makes call) = may_make stand call
may_do stand (IsCut call) = may_be_cut stand call

abbrev pub are_sessions : Stand → List SessionEntry → Bool
are_sessions stand [] = true
are_sessions stand (entry ∷ entries) = may_do stand entry && are_sessions (after_entry stand entry) entries
