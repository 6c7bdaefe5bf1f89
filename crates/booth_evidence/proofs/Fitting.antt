-- A world that fits audited journals meets the premises of worlds.
use Rattle.std.specs.Prelude.{slice_get, unwrap_or, Bool, Option, None, Some, Ok}
use Rattle.std.specs.Option.{option_map_or}
use Rattle.std.proofs.Common.{◌≡◌, inl, inr, ℕ, ◌<◌, List, [], ◌∷◌, ◌++◌, length, append_assoc, append-nil, refl, sym, ◌∙◌, ap, subst}
use Rattle.std.proofs.lemmas.Option.{none-some}
use Rattle.booth_base.specs.declared.address.TheConstants.{NO_ONE}
use Rattle.booth_conf.specs.Config.{ConfigSays}
use Rattle.booth_conf.specs.Sound.{IsSound}
use Rattle.booth_conf.specs.declared.members.Member.{Member}
use Rattle.booth_keys.specs.declared.ring.Ring.{Ring}
use Rattle.booth_rec.specs.declared.record.Record.{Record}
use Rattle.booth_rec.specs.Record.{no_record}
use Rattle.booth_host.specs.declared.host.Arrival.TheVariants as arrivals
use Rattle.booth_host.specs.declared.entry.Entry.TheVariants as calls
use Rattle.booth_wire.specs.PlainMessage.{PlainMessage}
use Rattle.booth_node.specs.declared.node_config.NodeConfig.{NodeConfig}
use Rattle.booth_node.specs.AttributeRequests.{is_at_site}
use Rattle.booth_node.specs.Opening.{is_site_at}
use Rattle.booth_node.specs.Records.{Has, MayRead, may_after_all, record_at}
use Rattle.booth_node.specs.Session.{AreSessions, Down, Hearing, IsCut, Makes, SessionEntry, Stand, Starts, after_entries}
use Rattle.booth_node.specs.World.{AtEach, BeginsFree, Beginning, HasConfiguration, HasForm, HearsSent, HoldsNothing, IsNodeOf, IsSecondStart, IsSecondWorld, IsSend, IsWorld, ReadsKept, StartsIn, StaysSecond, WasSent, World, WorldEntry, begins_with, clock_at, entries_of, id_at, members_of}
use Rattle.booth_world.proofs.Configured.{id_apart}
use Rattle.booth_world.proofs.WorldHosts.{entries_join, entry_own}
use Rattle.booth_audit.specs.Audit.{AuditSays, IsAudited, id_of, node_of}
use Rattle.booth_audit.specs.Faults.{AllHearSent, AllReadKept, Heard, HearsSent as HeardSent, ReadsKept as MayAllRead, WasSent as WasHeardSent}
use Rattle.booth_audit.specs.Own.{AllOwn, IsOwn}
use Rattle.booth_audit.specs.Replay.{Event, deeds_of}
use Rattle.booth_audit.proofs.HeldLemmas.{own_deeds}
use Rattle.booth_evidence.specs.Journals.{FitsJournals, HearsNothingEarly, IsJournaled}
use Rattle.booth_evidence.proofs.Journaled.{TextOf, journal_of, nobody_did, of_text, one_journal, same_deeds, same_owner, text_of}
use Rattle.booth_evidence.proofs.Lists.{InWorld, all_has, in_world, mapped}

-- ---- one action among the actions of a member

own_at : (node : NodeConfig) (before after : List SessionEntry) (what : SessionEntry) → AllOwn node (before ++ what ∷ after)
    → IsOwn node what
own_at node [] after what own = own.0
own_at node (first ∷ before) after what own = own_at node before after what own.1

kept_at : (base before after : List SessionEntry) (what : SessionEntry) → AllReadKept base (before ++ what ∷ after)
    → MayAllRead (base ++ before) what
kept_at base [] after what kept = subst (λ (l : List SessionEntry). MayAllRead l what) (sym (append-nil base)) kept.0
kept_at base (first ∷ before) after what kept =
    subst (λ (l : List SessionEntry). MayAllRead l what) (append_assoc base (first ∷ []) before)
    (kept_at (base ++ first ∷ []) before after what kept.1)

sent_at : (all : List Heard) (base before after : List SessionEntry) (what : SessionEntry) → AllHearSent all base (before ++ what ∷ after)
    → HeardSent all (after_entries Down (base ++ before)) what
sent_at all base [] after what sent =
    subst (λ (l : List SessionEntry). HeardSent all (after_entries Down l) what) (sym (append-nil base)) sent.0
sent_at all base (first ∷ before) after what sent =
    subst (λ (l : List SessionEntry). HeardSent all (after_entries Down l) what) (append_assoc base (first ∷ []) before)
    (sent_at all (base ++ first ∷ []) before after what sent.1)

-- ---- the world

module _ (config : ConfigSays) (sound : IsSound config) (ring : Option Ring) (texts : List (List ℕ)) (says : AuditSays)
    (audited : IsAudited config ring texts says) (w : World) (fits : FitsJournals config ring texts w) where
  abbrev pub node_at : ℕ → NodeConfig
  node_at m = node_of config ring (Some m)

  -- what the audit found of the entries of a member
  pub record Found (m : ℕ) : Type 0 where
    pub sessions : AreSessions Down (entries_of m w.entries)
    pub own : AllOwn (node_at m) (entries_of m w.entries)
    pub kept : AllReadKept [] (entries_of m w.entries)
    pub sent : AllHearSent audited.heard [] (entries_of m w.entries)

  pub found : (m : ℕ) → Found m
  found m = by (fits.journaled m)
    where
      by : IsJournaled config ring texts m (entries_of m w.entries) → Found m
      by (inl j) =
          let q = of_text config ring [] texts audited.heard audited.each j.0 j.1 in
          let owner = same_owner config ring m j.0 q.one q.audited (entries_of m w.entries) j.2 in
          let same = same_deeds config ring m j.0 q.one q.audited (entries_of m w.entries) j.2 in
          record {
            sessions = subst (AreSessions Down) (sym same) q.audited.is.sessions;
            own = subst (AllOwn (node_at m)) (sym same)
                (subst (λ (o : Option ℕ). AllOwn (node_of config ring o) (deeds_of q.one.events)) owner (own_deeds q.audited.is));
            kept = subst (AllReadKept []) (sym same) q.audited.is.kept;
            sent = subst (AllHearSent audited.heard []) (sym same)
                (all_has (λ (one : Heard). AllHearSent audited.heard [] (deeds_of one.events)) audited.heard audited.sent q.one q.among);
          }
      by (inr none) = record {
        sessions = subst (AreSessions Down) (sym none.1) tt;
        own = subst (AllOwn (node_at m)) (sym none.1) tt;
        kept = subst (AllReadKept []) (sym none.1) tt;
        sent = subst (AllHearSent audited.heard []) (sym none.1) tt;
      }

  -- what the audit heard of a member is what the member does in the world
  pub heard_deeds : (one : Heard) → Has audited.heard one → (m : ℕ) → one.member ≡ Some m → deeds_of one.events ≡ entries_of m w.entries
  heard_deeds one has m owned = by (fits.journaled m)
    where
      by : IsJournaled config ring texts m (entries_of m w.entries) → deeds_of one.events ≡ entries_of m w.entries
      by (inl j) =
          let q = of_text config ring [] texts audited.heard audited.each j.0 j.1 in
          let owner = same_owner config ring m j.0 q.one q.audited (entries_of m w.entries) j.2 in
          let same : q.one ≡ one = one_journal config ring [] texts audited.heard audited.each q.one one q.among has m owner owned in
          ap (λ (h : Heard). deeds_of h.events) (sym same)
          ∙ sym (same_deeds config ring m j.0 q.one q.audited (entries_of m w.entries) j.2)
      by (inr none) =
          let t = text_of config ring [] texts audited.heard audited.each one has in
          absurd (none.0 t.text (deeds_of one.events) t.among (journal_of config ring m t.text one t.audited owned))

  -- the entries of a member around one of its own
  pub mine : (before after : List WorldEntry) (e : WorldEntry) → w.entries ≡ before ++ e ∷ after
      → entries_of e.member w.entries ≡ entries_of e.member before ++ e.what ∷ entries_of e.member after
  mine before after e whole =
      ap (λ (es : List WorldEntry). entries_of e.member es) whole ∙ entries_join e.member before (e ∷ after)
      ∙ ap (λ (xs : List SessionEntry). entries_of e.member before ++ xs) (entry_own e.member e after refl)

  pub own_start : (before after : List WorldEntry) (e : WorldEntry) → w.entries ≡ before ++ e ∷ after → IsOwn (node_at e.member) e.what
  own_start before after e whole =
      own_at (node_at e.member) (entries_of e.member before) (entries_of e.member after) e.what
      (subst (AllOwn (node_at e.member)) (mine before after e whole) (found e.member).own)

  -- ---- members and records

  same_id : (m : ℕ) → id_of config.members (Some m) ≡ id_at w m
  same_id m = ap (λ (ms : List Member). option_map_or (λ (member : Member). member.id) (slice_get ms m) NO_ONE) fits.same_members

  node_is : (m : ℕ) (node : NodeConfig) → node ≡ node_at m → IsNodeOf w m node
  node_is m node own =
      subst (IsNodeOf w m) (sym own) (record { sound = sound; members = fits.same_members; me = same_id m })

  configured : (e : WorldEntry) (what : SessionEntry) → IsOwn (node_at e.member) what → HasConfiguration w e what
  configured e (Starts node reading records) own = node_is e.member node own
  configured e (Makes call) own = tt
  configured e (IsCut call) own = tt

  site_is : (m : ℕ) → m < members_of w → is_at_site (node_at m) ≡ is_site_at w.members m
  site_is m below =
      ap (λ (o : Option ℕ). is_site_at config.members (unwrap_or o 0))
      (id_apart config sound m (subst (λ (ms : List Member). m < length ms) (sym fits.same_members) below))
      ∙ ap (λ (ms : List Member). is_site_at ms m) fits.same_members

  pub begins_bare : (m : ℕ) (name : List ℕ) → no_record ≡ begins_with w m name
  begins_bare m name = sym (ap (λ (b : Beginning). b.records name) (fits.nothing_before m))

  reads_kept : (before : List WorldEntry) (e : WorldEntry) (what : SessionEntry) → e.member < members_of w → IsOwn (node_at e.member) what
      → MayAllRead (entries_of e.member before) what → ReadsKept w before e what
  reads_kept before e (Starts node reading records) below own kept = λ place ticket is.
      subst (λ (site : Bool). MayRead site
      (may_after_all ticket.name (begins_with w e.member ticket.name ∷ []) (entries_of e.member before)) (record_at records place))
      (ap is_at_site own ∙ site_is e.member below)
      (subst (λ (first : Record). MayRead (is_at_site node) (may_after_all ticket.name (first ∷ []) (entries_of e.member before)) (record_at records place))
      (begins_bare e.member ticket.name) (kept place ticket is))
  reads_kept before e (Makes call) below own kept = tt
  reads_kept before e (IsCut call) below own kept = tt

  stays_second : (before : List WorldEntry) (e : WorldEntry) (what : SessionEntry) → IsOwn (node_at e.member) what → StaysSecond w before e what
  stays_second before e (Starts node reading records) own = λ was. ap (λ (n : NodeConfig). n.second) own
  stays_second before e (Makes call) own = tt
  stays_second before e (IsCut call) own = tt

  second_start : (m : ℕ) (what : SessionEntry) → IsOwn (node_at m) what → IsSecondStart what
  second_start m (Starts node reading records) own = ap (λ (n : NodeConfig). n.second) own
  second_start m (Makes call) own = tt
  second_start m (IsCut call) own = tt

  starts_in : (m : ℕ) (what : SessionEntry) → IsOwn (node_at m) what → StartsIn config what
  starts_in m (Starts node reading records) own = ap (λ (n : NodeConfig). n.config) own
  starts_in m (Makes call) own = tt
  starts_in m (IsCut call) own = tt

  pub one_configuration : AtEach w (λ before entry. StartsIn config entry.what)
  one_configuration before after e whole = starts_in e.member e.what (own_start before after e whole)

  free : BeginsFree w
  free m name automatic =
      subst (λ (b : Beginning). HoldsNothing w m (clock_at w m 0) (b.records name)) (sym (fits.nothing_before m)) (record {
        over = λ lease is. absurd (none-some lease is);
        version = inl refl;
        bound = λ id is. absurd (none-some id is);
        promise = λ promise is. absurd (none-some promise is);
      })

  -- ---- messages

  -- a message that a journal shows as sent was sent in the world
  sent_there : (message : PlainMessage) → WasHeardSent audited.heard message → WasSent w w.entries message
  sent_there message was = by was.sender.member refl
    where
      t : TextOf config ring texts was.sender
      t = text_of config ring [] texts audited.heard audited.each was.sender was.known

      by_entry : (m : ℕ) → was.sender.member ≡ Some m → InWorld m w.entries was.event.what → WasSent w w.entries message
      by_entry m owned q = record {
        entry = q.entry;
        earlier = q.among;
        sender = ap (λ (k : ℕ). id_at w k) q.own ∙ sym (same_id m) ∙ ap (λ (o : Option ℕ). id_of config.members o) (sym owned)
            ∙ sym t.audited.is.id ∙ was.same_id;
        bytes = was.bytes;
        sent = subst (λ (what : SessionEntry). IsSend what was.bytes) (sym q.is) was.sent;
        same = was.same;
      }

      by : (o : Option ℕ) → was.sender.member ≡ o → WasSent w w.entries message
      by (Some m) owned =
          by_entry m owned
          (in_world m w.entries was.event.what
          (subst (λ (xs : List SessionEntry). Has xs was.event.what) (heard_deeds was.sender was.known m owned)
          (mapped (λ (event : Event). event.what) was.sender.events was.event was.told)))
      by None nobody =
          absurd (subst (λ (events : List Event). Has events was.event) (nobody_did config ring t.text was.sender t.audited nobody) was.told)

  hears_sent : (before : List WorldEntry) (stand : Stand) (what : SessionEntry) → HeardSent audited.heard stand what
      → HearsNothingEarly w before stand what → HearsSent w before stand what
  hears_sent before (Hearing node old (Ok (arrivals.Datagram from)) bytes) (Makes (calls.Now reading)) sent early =
      λ message accepted between. early message accepted between (sent_there message (sent message accepted between))
  hears_sent before stand what sent early = tt

  -- ---- all premises

  form : HasForm w
  form = record {
    said = (config, sound, fits.same_members);
    members = fits.of_members;
    in_order = fits.in_order;
    within = fits.within;
  }

  pub is_world : IsWorld w
  is_world = record {
    form = form;
    nothing_held = free;
    same_members = λ before after e whole. configured e e.what (own_start before after e whole);
    true_clocks = fits.true_clocks;
    records_return = λ before after e whole.
        reads_kept before e e.what (fits.of_members before after e whole) (own_start before after e whole)
        (kept_at [] (entries_of e.member before) (entries_of e.member after) e.what
        (subst (AllReadKept []) (mine before after e whole) (found e.member).kept));
    versions_rise = λ before after e whole. stays_second before e e.what (own_start before after e whole);
    members_speak = λ before after e whole.
        hears_sent before (after_entries Down (entries_of e.member before)) e.what
        (sent_at audited.heard [] (entries_of e.member before) (entries_of e.member after) e.what
        (subst (AllHearSent audited.heard []) (mine before after e whole) (found e.member).sent))
        (fits.nothing_early before after e whole);
    one_daemon = λ m below. (found m).sessions;
  }

  pub is_second : IsSecondWorld w
  is_second before after e whole = second_start e.member e.what (own_start before after e whole)
