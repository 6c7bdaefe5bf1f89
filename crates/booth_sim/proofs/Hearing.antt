-- What a member of a simulation hears of another was sent by that one.
use Rattle.std.proofs.Common.{◌≡◌, ℕ, zero, suc, Bool, true, false, List, [], ◌∷◌, ◌++◌, length, drop, refl, sym, ap, ◌∙◌, subst, inl, inr, if◌then◌else◌}
use Rattle.std.specs.Prelude.{◌==◌, Option, Some, None, Result, Ok, Err, option_map, slice_get, map}
use Rattle.std.specs.List.{cons_option}
use Rattle.booth_keys.specs.declared.ring.Ring.{Ring}
use Rattle.booth_base.specs.declared.address.MemberId.{MemberId}
use Rattle.booth_base.specs.Tree.{Deeds, Ends, Does, Leads}
use Rattle.booth_conf.specs.Config.{ConfigSays}
use Rattle.booth_wire.specs.declared.command.Direction.TheVariants.{BetweenMembers}
use Rattle.booth_wire.specs.declared.message.FrameFault.{FrameFault}
use Rattle.booth_wire.specs.Command.{direction_of}
use Rattle.booth_wire.specs.Layout.{word_at}
use Rattle.booth_wire.specs.PlainMessage.{PlainMessage}
use Rattle.booth_wire.specs.Reading.{decoded}
use Rattle.booth_auth.specs.declared.admission.DropFault.{DropFault}
use Rattle.booth_auth.specs.declared.admission.DropFault.TheVariants as faults
use Rattle.booth_auth.specs.Verdict.{admitted, is_stranger, judged_if_read, names_no_leader, names_no_ticket, part_of_member, verdict}
use Rattle.booth_rec.specs.declared.record.Record.{Record}
use Rattle.booth_host.specs.declared.host.Arrival.{Arrival}
use Rattle.booth_host.specs.declared.host.Arrival.TheVariants as arrivals
use Rattle.booth_host.specs.declared.entry.Entry.{Entry}
use Rattle.booth_host.specs.declared.entry.Entry.TheVariants as calls
use Rattle.booth_node.specs.declared.node_config.NodeConfig.{NodeConfig}
use Rattle.booth_node.specs.Reaction.{Ask, Send, Keep, Start, IsDone, react, used}
use Rattle.booth_node.specs.Records.{Has}
use Rattle.booth_node.specs.Session.{SessionEntry, Starts, Makes, Stand, Doing, Hearing, after_entry, did}
use Rattle.booth_node.specs.State.{State}
use Rattle.booth_node.specs.World.{WorldEntry, World, HearsSent, IsSend, WasSent, id_at, stand_after}
use Rattle.booth_sim.proofs.AlongWorlds.{Along}
use Rattle.booth_sim.specs.declared.drawing.Draw.{Draw}
use Rattle.booth_sim.specs.declared.drawing.Kind.{Kind}
use Rattle.booth_sim.specs.declared.drawing.Kind.TheVariants as kinds
use Rattle.booth_sim.specs.declared.frames.SentFrame.{SentFrame}
use Rattle.booth_sim.specs.Drawing.{kind_of, member_of, ticket_of}
use Rattle.booth_sim.specs.Frames.{chosen, frame_in, frames_in, kept_frames, place_of}
use Rattle.booth_sim.specs.Happenings.{Happening, Turns, Restarts, arrives, happens, happening, reading_at, ticket_name}
use Rattle.booth_sim.specs.Simulation.{IsHappening, entry_at, made_at, node_in, start_at}
use Rattle.booth_sim.proofs.Entries.{stand_own}
use Rattle.booth_sim.proofs.Speaking.{grant_is_a_clients, read_head, revoke_is_a_clients}

-- ---- frames

-- a member sent this frame, by one of these entries
abbrev WasFrame : List WorldEntry → SentFrame → Type 0
WasFrame before frame = (entry : WorldEntry) × Has before entry × (entry.member ≡ frame.from) × IsSend entry.what frame.bytes

abbrev WereFrames : List WorldEntry → List SentFrame → Type 0
WereFrames before [] = Unit {0}
WereFrames before (frame ∷ frames) = WasFrame before frame × WereFrames before frames

were_more : (e : WorldEntry) (before : List WorldEntry) (frames : List SentFrame) → WereFrames before frames → WereFrames (e ∷ before) frames
were_more e before [] h = tt
were_more e before (frame ∷ frames) h = ((h.0.0, inr h.0.1, h.0.2, h.0.3), were_more e before frames h.1)

same_frame : (a b : SentFrame) → Some a ≡ Some b → a ≡ b
same_frame a b e = cc

sends_it : (config : ConfigSays) (from : ℕ) (what : SessionEntry) (frame : SentFrame) → frame_in config from what ≡ Some frame
    → (from ≡ frame.from) × IsSend what frame.bytes
sends_it config from (Makes (calls.Send to bytes answer)) frame e = by_place (place_of config to) e
  where
    by_place : (o : Option ℕ) → option_map (λ (place : ℕ). record { from = from; to = place; bytes = bytes }) o ≡ Some frame
        → (from ≡ frame.from) × (bytes ≡ frame.bytes)
    by_place None e = absurd cc
    by_place (Some place) e =
        let is = same_frame (record { from = from; to = place; bytes = bytes }) frame e in
        (ap (λ (f : SentFrame). f.from) is, ap (λ (f : SentFrame). f.bytes) is)
sends_it config from what frame e = absurd cc

were_sent : (config : ConfigSays) (entries : List WorldEntry) → WereFrames entries (frames_in config entries)
were_sent config [] = tt
were_sent config (entry ∷ entries) =
    by_frame (frame_in config entry.member entry.what) refl (were_more entry entries (frames_in config entries) (were_sent config entries))
  where
    by_frame : (o : Option SentFrame) → frame_in config entry.member entry.what ≡ o → WereFrames (entry ∷ entries) (frames_in config entries)
        → WereFrames (entry ∷ entries) (cons_option o (frames_in config entries))
    by_frame None e rest = rest
    by_frame (Some frame) e rest =
        let it = sends_it config entry.member entry.what frame e in ((entry, inl refl, it.0, it.1), rest)

were_drop : (before : List WorldEntry) (k : ℕ) (frames : List SentFrame) → WereFrames before frames → WereFrames before (drop k frames)
were_drop before zero frames h = h
were_drop before (suc k) [] h = tt
were_drop before (suc k) (frame ∷ frames) h = were_drop before k frames h.1

were_get : (before : List WorldEntry) (k : ℕ) (frames : List SentFrame) (frame : SentFrame) → WereFrames before frames
    → slice_get frames k ≡ Some frame → WasFrame before frame
were_get before k [] frame h e = absurd cc
were_get before zero (f ∷ frames) frame h e = subst (λ (g : SentFrame). WasFrame before g) (same_frame f frame e) h.0
were_get before (suc k) (f ∷ frames) frame h e = were_get before k frames frame h.1 e

has_left : (xs ys : List WorldEntry) (x : WorldEntry) → Has xs x → Has (xs ++ ys) x
has_left [] ys x h = absurd h
has_left (y ∷ xs) ys x (inl e) = inl e
has_left (y ∷ xs) ys x (inr h) = inr (has_left xs ys x h)

-- ---- the gate

passed : (test : Bool) (fault : DropFault) (rest : Result PlainMessage DropFault) (l : PlainMessage) → (if test then Err fault else rest) ≡ Ok l
    → rest ≡ Ok l
passed true fault rest l e = absurd cc
passed false fault rest l e = e

abbrev let_through : PlainMessage → Result PlainMessage DropFault
let_through m = Ok m

let_in : (config : ConfigSays) (me : MemberId) (m l : PlainMessage) → admitted config me m ≡ Ok l → m ≡ l
let_in config me m l e =
    let known = passed (is_stranger config m.head) faults.Stranger _ l e in
    let other = passed (m.head.from.0 == me.0) faults.Own _ l known in
    let ticket = passed (names_no_ticket config (part_of_member m)) faults.Ticket _ l other in
    same (passed (names_no_leader config m.head (part_of_member m)) faults.Leader (let_through m) l ticket)
  where
    same : let_through m ≡ Ok l → m ≡ l
    same e = cc

by_read : (config : ConfigSays) (me : MemberId) (now : ℕ) (bytes : List ℕ) (l : PlainMessage) (r : Result PlainMessage FrameFault)
    → judged_if_read config None me now bytes r ≡ Ok l → r ≡ Ok l
by_read config me now bytes l (Err fault) e = absurd cc
by_read config me now bytes l (Ok m) e = ap (λ (x : PlainMessage). Ok x) (let_in config me m l e)

was_read : (config : ConfigSays) (me : MemberId) (now : ℕ) (bytes : List ℕ) (l : PlainMessage) → verdict config None me now bytes ≡ Ok l
    → decoded bytes ≡ Ok l
was_read config me now bytes l e = by_read config me now bytes l (decoded bytes) e

-- ---- what comes in a turn

module _ (config : ConfigSays) (w : World) where
  -- each send bears the id of its member
  abbrev pub SendOwn : List WorldEntry → Type 0
  SendOwn before = (entry : WorldEntry) → Has before entry → (bytes : List ℕ) → IsSend entry.what bytes → word_at 20 bytes ≡ (id_at w entry.member).0

  -- a member's message that comes was sent
  abbrev pub Spoke : List WorldEntry → List ℕ → Type 0
  Spoke before bytes = (message : PlainMessage) → decoded bytes ≡ Ok message → direction_of message.head.cmd ≡ BetweenMembers → WasSent w before message

  abbrev pub SpokeIn : List WorldEntry → Happening → Type 0
  SpokeIn before (Turns place (arrivals.Datagram from) bytes) = Spoke before bytes
  SpokeIn before what = Unit {0}

  same_id : (a b : MemberId) → a.0 ≡ b.0 → a ≡ b
  same_id a b e = ap (λ (n : ℕ). record { 0 = n }) e

  frame_spoke : (before : List WorldEntry) (frame : SentFrame) → SendOwn before → WasFrame before frame → Spoke before frame.bytes
  frame_spoke before frame own was message read between = record {
    entry = was.0;
    earlier = was.1;
    sender = same_id (id_at w was.0.member) message.head.from
        (sym (own was.0 was.1 frame.bytes was.3) ∙ sym (read_head frame.bytes message read).0);
    bytes = frame.bytes;
    sent = was.3;
    same = read;
  }

  pub spoke : (before : List WorldEntry) (event : ℕ) (draw : Draw) → SendOwn before → SpokeIn before (happening config before event draw)
  spoke before event draw own = by_kind (kind_of draw)
    where
      by_chosen : (o : Option SentFrame) → chosen draw.first (kept_frames config before) ≡ o
          → SpokeIn before (arrives config (member_of draw (length config.members)) o)
      by_chosen None e = tt
      by_chosen (Some frame) e =
          frame_spoke before frame own
          (were_get before _ (kept_frames config before) frame (were_drop before _ (frames_in config before) (were_sent config before)) e)

      by_kind : (kind : Kind) → SpokeIn before (happens config before event draw (member_of draw (length config.members)) kind)
      by_kind kinds.Frame = by_chosen (chosen draw.first (kept_frames config before)) refl
      by_kind kinds.Quiet = tt
      by_kind kinds.Grant = λ message read between.
          absurd (grant_is_a_clients (ticket_name config (ticket_of draw (length config.tickets))) event message read between)
      by_kind kinds.Revoke = λ message read between.
          absurd (revoke_is_a_clients (ticket_name config (ticket_of draw (length config.tickets))) event message read between)
      by_kind kinds.Restart = tt

  later : (before after : List WorldEntry) (message : PlainMessage) → WasSent w before message → WasSent w (before ++ after) message
  later before after message s = record {
    entry = s.entry;
    earlier = has_left before after s.entry s.earlier;
    sender = s.sender;
    bytes = s.bytes;
    sent = s.sent;
    same = s.same;
  }

  -- ---- along a turn

  abbrev pub Hears : List WorldEntry → WorldEntry → Type 0
  Hears before entry = HearsSent w before (stand_after entry.member before) entry.what

  says_so : (ring : Option Ring) (ask : Ask) (ok : Bool) (call : Entry) → IsDone ring ask ok call → ok ≡ did call
  says_so ring (Send peer message) ok (calls.Send to bytes answer) d = d.3
  says_so ring (Keep name tried) ok (calls.Keep ticket rec answer) d = d.2
  says_so ring (Start job) ok (calls.Start number ticket handler local expires answer) d = d.1
  says_so ring (Send peer message) ok call d = absurd d
  says_so ring (Keep name tried) ok call d = absurd d
  says_so ring (Start job) ok call d = absurd d

  deeds_hear : (node : NodeConfig) (place time : ℕ) (deeds left : Deeds Ask State) (entries : List Entry) (before : List WorldEntry)
      → stand_after place before ≡ Doing node deeds → Leads (IsDone node.ring) deeds entries left → Along Hears before (made_at place time entries)
  deeds_hear node place time deeds left [] before stands leads = tt
  deeds_hear node place time (Ends state) left (call ∷ entries) before stands leads = absurd leads
  deeds_hear node place time (Does ask go) left (call ∷ entries) before stands leads =
      let e : WorldEntry = entry_at place time (Makes call) in
      let oks : did call ≡ leads.0 = sym (says_so node.ring ask leads.0 call leads.1) in
      let after : stand_after place (before ++ e ∷ []) ≡ Doing node (go leads.0) =
      stand_own place before e refl ∙ ap (λ (s : Stand). after_entry s (Makes call)) stands ∙ ap (λ (b : Bool). Doing node (go b)) oks in (
        subst (λ (s : Stand). HearsSent w before s (Makes call)) (sym stands) tt,
        deeds_hear node place time (go leads.0) left entries (before ++ e ∷ []) after leads.2,
      )

  reading_hears : (before : List WorldEntry) (next : WorldEntry) (place : ℕ) (old : State) (arrival : Arrival) (bytes : List ℕ) (reading : ℕ)
      → SpokeIn before (Turns place arrival bytes)
      → HearsSent w (before ++ next ∷ []) (Hearing (node_in config place) old (Ok arrival) bytes) (Makes (calls.Now reading))
  reading_hears before next place old (arrivals.Datagram from) bytes reading said = λ message ok between.
      later before (next ∷ []) message
      (said message (was_read config (node_in config place).me (used old.last_reading reading) bytes message ok) between)
  reading_hears before next place old (arrivals.Handler job status) bytes reading said = tt
  reading_hears before next place old arrivals.Quiet bytes reading said = tt
  reading_hears before next place old arrivals.Stop bytes reading said = tt

  start_hears : (before : List WorldEntry) (stand : Stand) (node : NodeConfig) (reading : ℕ) (records : List (Option Record))
      → HearsSent w before stand (Starts node reading records)
  start_hears before (Hearing node' old (Ok (arrivals.Datagram from)) bytes) node reading records = tt
  start_hears before stand node reading records = tt

  pub happening_hears : (before : List WorldEntry) (time : ℕ) (fails : Bool) (what : Happening) (last : List WorldEntry) → SpokeIn before what
      → IsHappening config before time fails what last → Along Hears before last
  happening_hears before time fails (Turns place arrival bytes) last said is =
      let reading : ℕ = reading_at place time in
      let node : NodeConfig = node_in config place in
      let next : WorldEntry = entry_at place time (Makes (calls.Next 100 (Ok arrival) bytes)) in
      let now : WorldEntry = entry_at place time (Makes (calls.Now (reading_at place time))) in
      let hearing : stand_after place (before ++ next ∷ []) ≡ Hearing (node_in config place) is.old (Ok arrival) bytes =
      stand_own place before next refl ∙ ap (λ (s : Stand). after_entry s next.what) is.stands in
      let doing : stand_after place ((before ++ next ∷ []) ++ now ∷ [])
      ≡ Doing (node_in config place) (react (node_in config place) is.old (used is.old.last_reading (reading_at place time)) (Ok arrival) bytes) =
      stand_own place (before ++ next ∷ []) now refl ∙ ap (λ (s : Stand). after_entry s now.what) hearing in
      subst (λ (es : List WorldEntry). Along Hears before es) (sym is.whole) (
        subst (λ (s : Stand). HearsSent w before s next.what) (sym is.stands) tt,
        (
          subst (λ (s : Stand). HearsSent w (before ++ next ∷ []) s now.what) (sym hearing)
              (reading_hears before next place is.old arrival bytes (reading_at place time) said),
          deeds_hear (node_in config place) place time _ (Ends is.new) is.deeds ((before ++ next ∷ []) ++ now ∷ []) doing is.turn.2,
        ),
      )
  happening_hears before time fails (Restarts place) last said is =
      subst (λ (es : List WorldEntry). Along Hears before es) (sym is)
      (start_hears before (stand_after place before) _ _ _, tt)

  pub starts_hear : (places : List ℕ) (before : List WorldEntry) → Along Hears before (map (λ place. start_at config [] place 0) places)
  starts_hear [] before = tt
  starts_hear (place ∷ places) before =
      (start_hears before (stand_after place before) _ _ _, starts_hear places (before ++ start_at config [] place 0 ∷ []))
