-- The entry of the world for each line of the audit.
use Rattle.std.specs.Prelude.{◌^◌, ◌-◌, bytes_eq, is_ok, map, min, position, slice_get, Option, None, Some, if◌then◌else◌}
use Rattle.std.specs.Option.{option_map_or}
use Rattle.std.proofs.Common.{◌≡◌, ◌⊎◌, inl, inr, ℕ, suc, ◌+◌, ◌<◌, ◌≤◌, Bool, true, false, List, [], ◌∷◌, ◌++◌, refl, sym, ◌∙◌, ap, subst, arith}
use Rattle.std.proofs.lemmas.Option.{same_Some}
use Rattle.booth_conf.specs.Config.{ConfigSays}
use Rattle.booth_conf.specs.Lookups.{is_called}
use Rattle.booth_conf.specs.Sound.{IsSound}
use Rattle.booth_conf.specs.declared.tickets.TicketConf.{TicketConf}
use Rattle.booth_keys.specs.declared.ring.Ring.{Ring}
use Rattle.booth_rec.specs.declared.record.Lease.{Lease}
use Rattle.booth_rec.specs.declared.record.Record.{Record}
use Rattle.booth_rec.specs.Record.{no_record}
use Rattle.booth_host.specs.declared.entry.Entry.TheVariants as calls
use Rattle.booth_node.specs.declared.node_config.NodeConfig.{NodeConfig}
use Rattle.booth_node.specs.Records.{Has, may_after, may_after_all, may_after_keep, record_at}
use Rattle.booth_node.specs.Session.{CutKeep, IsCut, Makes, SessionEntry, Starts}
use Rattle.booth_node.specs.World.{ReadsClock, World, WorldEntry, clock_at, entries_of, members_of}
use Rattle.booth_world.proofs.WorldHosts.{may_join}
use Rattle.booth_audit.specs.declared.holding.Holding.{Holding}
use Rattle.booth_audit.specs.Audit.{AuditSays, IsAudited, deeds_by, node_of}
use Rattle.booth_audit.specs.Holdings.{Deeds, FindsAt, holding_by, holding_in, holdings_by, holdings_from, holdings_in, holdings_of, used_after, used_after_all}
use Rattle.booth_audit.specs.Own.{IsOwn}
use Rattle.booth_audit.proofs.FoundLemmas.{tickets_are_found}
use Rattle.booth_evidence.specs.Journals.{FitsJournals}
use Rattle.booth_evidence.specs.Overlaps.{IsLineOf, IsWrite, MayGiveALine, WritesWithin}
use Rattle.booth_evidence.proofs.Fitting.{heard_deeds, own_start}
use Rattle.booth_evidence.proofs.Lists.{EntryAt, Image, entry_at, image, in_one_of, up_to}
use Rattle.booth_evidence.proofs.Reported.{used_join}

-- ---- from all holdings to those of one ticket of one member

record FromTickets (all : List Deeds) (line : Holding) (tickets : List TicketConf) (start : ℕ) : Type 0 where
  pub place : ℕ
  pub conf : TicketConf
  pub is : slice_get tickets place ≡ Some conf
  pub in_it : Has (holdings_of all (start + place) conf) line

from_tickets : (all : List Deeds) (line : Holding) (tickets : List TicketConf) (start : ℕ) → Has (holdings_from all start tickets) line
    → FromTickets all line tickets start
from_tickets all line [] start has = absurd has
from_tickets all line (conf ∷ more) start has =
    by (in_one_of (holdings_of all start conf) (holdings_from all (start + 1) more) line has)
    (λ later. from_tickets all line more (start + 1) later)
  where
    by : Has (holdings_of all start conf) line ⊎ Has (holdings_from all (start + 1) more) line
        → (Has (holdings_from all (start + 1) more) line → FromTickets all line more (start + 1)) → FromTickets all line (conf ∷ more) start
    by (inl here) rest =
        let same : start ≡ start + 0 = omega arith in
        record { place = 0; conf = conf; is = refl; in_it = subst (λ (k : ℕ). Has (holdings_of all k conf) line) same here }
    by (inr later) rest =
        let q = rest later in
        let same : (start + 1) + q.place ≡ start + suc q.place = omega arith in
        record { place = suc q.place; conf = q.conf; is = q.is; in_it = subst (λ (k : ℕ). Has (holdings_of all k q.conf) line) same q.in_it }

record OfOne (all : List Deeds) (ticket : ℕ) (conf : TicketConf) (line : Holding) : Type 0 where
  pub one : Deeds
  pub among : Has all one
  pub in_it : Has (holdings_by ticket conf one) line

of_one : (all : List Deeds) (ticket : ℕ) (conf : TicketConf) (line : Holding) → Has (holdings_of all ticket conf) line
    → OfOne all ticket conf line
of_one [] ticket conf line has = absurd has
of_one (one ∷ all) ticket conf line has =
    by (in_one_of (holdings_by ticket conf one) (holdings_of all ticket conf) line has) (λ later. of_one all ticket conf line later)
  where
    by : Has (holdings_by ticket conf one) line ⊎ Has (holdings_of all ticket conf) line
        → (Has (holdings_of all ticket conf) line → OfOne all ticket conf line) → OfOne (one ∷ all) ticket conf line
    by (inl here) rest = record { one = one; among = inl refl; in_it = here }
    by (inr later) rest = let q = rest later in record { one = q.one; among = inr q.among; in_it = q.in_it }

record OfMember (ticket : ℕ) (conf : TicketConf) (one : Deeds) (line : Holding) : Type 0 where
  pub m : ℕ
  pub owned : one.member ≡ Some m
  pub in_it : Has (holdings_in conf.name ticket m 0 one.entries) line

of_member : (ticket : ℕ) (conf : TicketConf) (one : Deeds) (line : Holding) → Has (holdings_by ticket conf one) line
    → OfMember ticket conf one line
of_member ticket conf one line has = by one.member refl has
  where
    by : (o : Option ℕ) → one.member ≡ o → Has (option_map_or (λ member. holdings_in conf.name ticket member 0 one.entries) o []) line
        → OfMember ticket conf one line
    by None owned in_it = absurd in_it
    by (Some m) owned in_it = record { m = m; owned = owned; in_it = in_it }

-- ---- the action of a holding

record AtAction (name : List ℕ) (ticket member last : ℕ) (entries : List SessionEntry) (line : Holding) : Type 0 where
  pub before : List SessionEntry
  pub what : SessionEntry
  pub after : List SessionEntry
  pub whole : entries ≡ before ++ what ∷ after
  pub in_it : Has (holding_in name ticket member (used_after_all last (before ++ what ∷ [])) what) line

at_action : (name : List ℕ) (ticket member last : ℕ) (entries : List SessionEntry) (line : Holding)
    → Has (holdings_in name ticket member last entries) line → AtAction name ticket member last entries line
at_action name ticket member last [] line has = absurd has
at_action name ticket member last (what ∷ more) line has =
    by (in_one_of (holding_in name ticket member (used_after last what) what) (holdings_in name ticket member (used_after last what) more) line has)
    (λ later. at_action name ticket member (used_after last what) more line later)
  where
    by : Has (holding_in name ticket member (used_after last what) what) line ⊎ Has (holdings_in name ticket member (used_after last what) more) line
        → (Has (holdings_in name ticket member (used_after last what) more) line → AtAction name ticket member (used_after last what) more line)
        → AtAction name ticket member last (what ∷ more) line
    by (inl here) rest = record { before = []; what = what; after = more; whole = refl; in_it = here }
    by (inr later) rest = let q = rest later in record {
      before = what ∷ q.before;
      what = q.what;
      after = q.after;
      whole = ap (λ (xs : List SessionEntry). what ∷ xs) q.whole;
      in_it = q.in_it;
    }

-- ---- the record of a holding

abbrev line_with : ℕ → ℕ → ℕ → ℕ → Holding
line_with ticket member from until = record { ticket = ticket; member = member; from = from; until = until }

record FromLease (ticket member from : ℕ) (o : Option Lease) (line : Holding) : Type 0 where
  pub lease : Lease
  pub is : o ≡ Some lease
  pub same : line ≡ line_with ticket member from lease.until

from_lease : (ticket member from : ℕ) (o : Option Lease) (line : Holding) → Has (holding_by ticket member from o) line
    → FromLease ticket member from o line
from_lease ticket member from None line has = absurd has
from_lease ticket member from (Some lease) line (inl same) = record { lease = lease; is = refl; same = sym same }
from_lease ticket member from (Some lease) line (inr none) = absurd none

record FromAction (name : List ℕ) (ticket member from : ℕ) (what : SessionEntry) (may : List Record) (line : Holding) : Type 0 where
  pub kept : Record
  pub lease : Lease
  pub leased : kept.lease ≡ Some lease
  pub kind : MayGiveALine what
  pub may_be : Has (may_after name may what) kept
  pub same : line ≡ line_with ticket member from lease.until

after_keep : (ok : Bool) (rec : Record) (may : List Record) → Has (may_after_keep ok rec may) rec
after_keep true rec may = inl refl
after_keep false rec may = inl refl

from_action : (name : List ℕ) (ticket member from : ℕ) (what : SessionEntry) (may : List Record) (line : Holding) → FindsAt name ticket what
    → Has (holding_in name ticket member from what) line → FromAction name ticket member from what may line
from_action name ticket member from (Starts node reading records) may line finds has =
    let q = from_lease ticket member from (record_at records ticket).lease line has in record {
      kept = record_at records ticket;
      lease = q.lease;
      leased = q.is;
      kind = tt;
      may_be =
          subst (λ (found : Option ℕ). Has (option_map_or (λ place. record_at records place ∷ []) found may) (record_at records ticket)) (sym finds)
          (inl refl);
      same = q.same;
    }
from_action name ticket member from (Makes (calls.Keep kept_of rec answer)) may line finds has = by (bytes_eq kept_of name) refl has
  where
    by : (b : Bool) → bytes_eq kept_of name ≡ b → Has (if b then holding_by ticket member from rec.lease else []) line
        → FromAction name ticket member from (Makes (calls.Keep kept_of rec answer)) may line
    by true t here =
        let q = from_lease ticket member from rec.lease line here in record {
          kept = rec;
          lease = q.lease;
          leased = q.is;
          kind = tt;
          may_be = subst (λ (b : Bool). Has (if b then may_after_keep (is_ok answer) rec may else may) rec) (sym t)
              (after_keep (is_ok answer) rec may);
          same = q.same;
        }
    by false t none = absurd none
from_action name ticket member from (IsCut (CutKeep kept_of rec)) may line finds has = by (bytes_eq kept_of name) refl has
  where
    by : (b : Bool) → bytes_eq kept_of name ≡ b → Has (if b then holding_by ticket member from rec.lease else []) line
        → FromAction name ticket member from (IsCut (CutKeep kept_of rec)) may line
    by true t here =
        let q = from_lease ticket member from rec.lease line here in record {
          kept = rec;
          lease = q.lease;
          leased = q.is;
          kind = tt;
          may_be = subst (λ (b : Bool). Has (if b then rec ∷ may else may) rec) (sym t) (inl refl);
          same = q.same;
        }
    by false t none = absurd none
from_action name ticket member from what may line finds has = absurd has

finds_own : (node : NodeConfig) (name : List ℕ) (ticket : ℕ) (what : SessionEntry) → position (is_called name) node.config.tickets ≡ Some ticket
    → IsOwn node what → FindsAt name ticket what
finds_own node name ticket (Starts other reading records) at own =
    subst (λ (n : NodeConfig). position (is_called name) n.config.tickets ≡ Some ticket) (sym own) at
finds_own node name ticket (Makes call) at own = tt
finds_own node name ticket (IsCut call) at own = tt

-- ---- the entry of a line

-- A line of the audit, at its entry of the world.
pub record LineAt (w : World) (ticket : TicketConf) (line : Holding) : Type 0 where
  pub before : List WorldEntry
  pub entry : WorldEntry
  pub after : List WorldEntry
  pub whole : w.entries ≡ before ++ entry ∷ after
  pub kept : Record
  pub lease : Lease
  pub line_of : IsLineOf w ticket line before entry kept lease

as_line : (w : World) (conf : TicketConf) (m : ℕ) (early : List SessionEntry) (what : SessionEntry) (ticket from : ℕ) (line : Holding)
    → EntryAt m w.entries early what → from ≡ used_after_all 0 (early ++ what ∷ [])
    → FromAction conf.name ticket m from what (may_after_all conf.name (no_record ∷ []) early) line → LineAt w conf line
as_line w conf m early what ticket from line e used f = record {
  before = e.before;
  entry = e.entry;
  after = e.after;
  whole = e.whole;
  kept = f.kept;
  lease = f.lease;
  line_of = record {
    own = e.own ∙ sym member;
    kind = subst MayGiveALine (sym e.is) f.kind;
    may = subst (λ (k : ℕ). Has (may_after_all conf.name (no_record ∷ []) (entries_of k (e.before ++ e.entry ∷ []))) f.kept) (sym member)
        (subst (λ (xs : List SessionEntry). Has (may_after_all conf.name (no_record ∷ []) xs) f.kept) (sym all)
        (subst (λ (rs : List Record). Has rs f.kept) (sym (may_join conf.name (no_record ∷ []) early (what ∷ []))) f.may_be));
    leased = f.leased;
    from = ap (λ (l : Holding). l.from) f.same ∙ used ∙ ap (λ (xs : List SessionEntry). used_after_all 0 xs) (sym all)
        ∙ ap (λ (k : ℕ). used_after_all 0 (entries_of k (e.before ++ e.entry ∷ []))) (sym member);
    until = ap (λ (l : Holding). l.until) f.same;
  };
}
  where
    member : line.member ≡ m
    member = ap (λ (l : Holding). l.member) f.same

    all : entries_of m (e.before ++ e.entry ∷ []) ≡ early ++ what ∷ []
    all =
        up_to m e.before e.entry e.own ∙ ap (λ (xs : List SessionEntry). xs ++ e.entry.what ∷ []) e.first
        ∙ ap (λ (x : SessionEntry). early ++ x ∷ []) e.is

module _ (config : ConfigSays) (sound : IsSound config) (ring : Option Ring) (texts : List (List ℕ)) (says : AuditSays)
    (audited : IsAudited config ring texts says) (w : World) (fits : FitsJournals config ring texts w) where
  pub line_at : (line : Holding) → Has says.holdings line → (place : ℕ) (ticket : TicketConf) → slice_get config.tickets place ≡ Some ticket
      → line.ticket ≡ place → LineAt w ticket line
  line_at line has place ticket is of_ticket = subst (λ (c : TicketConf). LineAt w c line) same_ticket found_line
    where
      all : List Deeds
      all = map deeds_by audited.heard

      t : FromTickets all line config.tickets 0
      t = from_tickets all line config.tickets 0 (subst (λ (hs : List Holding). Has hs line) audited.held has)

      o : OfOne all (0 + t.place) t.conf line
      o = of_one all (0 + t.place) t.conf line t.in_it

      q : OfMember (0 + t.place) t.conf o.one line
      q = of_member (0 + t.place) t.conf o.one line o.in_it

      h : Image deeds_by audited.heard o.one
      h = image deeds_by audited.heard o.one o.among

      entries : entries_of q.m w.entries ≡ o.one.entries
      entries =
          sym (heard_deeds config sound ring texts says audited w fits h.of h.among q.m (ap (λ (d : Deeds). d.member) h.is ∙ q.owned))
          ∙ ap (λ (d : Deeds). d.entries) h.is

      a : AtAction t.conf.name (0 + t.place) q.m 0 o.one.entries line
      a = at_action t.conf.name (0 + t.place) q.m 0 o.one.entries line q.in_it

      e : EntryAt q.m w.entries a.before a.what
      e = entry_at q.m w.entries a.before a.after a.what (entries ∙ a.whole)

      at_place : position (is_called t.conf.name) config.tickets ≡ Some (0 + t.place)
      at_place =
          let zero_more : t.place ≡ 0 + t.place = omega arith in
          tickets_are_found config sound t.place t.conf t.is ∙ ap (λ (k : ℕ). Some k) zero_more

      own : IsOwn (node_of config ring (Some q.m)) a.what
      own =
          subst (IsOwn (node_of config ring (Some q.m))) e.is
          (subst (λ (k : ℕ). IsOwn (node_of config ring (Some k)) e.entry.what) e.own
          (own_start config sound ring texts says audited w fits e.before e.after e.entry e.whole))

      f : FromAction t.conf.name (0 + t.place) q.m (used_after_all 0 (a.before ++ a.what ∷ [])) a.what
          (may_after_all t.conf.name (no_record ∷ []) a.before) line
      f =
          from_action t.conf.name (0 + t.place) q.m (used_after_all 0 (a.before ++ a.what ∷ [])) a.what
          (may_after_all t.conf.name (no_record ∷ []) a.before) line
          (finds_own (node_of config ring (Some q.m)) t.conf.name (0 + t.place) a.what at_place own) a.in_it

      found_line : LineAt w t.conf line
      found_line = as_line w t.conf q.m a.before a.what (0 + t.place) (used_after_all 0 (a.before ++ a.what ∷ [])) line e refl f

      same_ticket : t.conf ≡ ticket
      same_ticket =
          let there : line.ticket ≡ 0 + t.place = ap (λ (l : Holding). l.ticket) f.same in
          let same : t.place ≡ place = omega (arith, there, of_ticket) in
          same_Some t.conf ticket (sym t.is ∙ ap (λ (k : ℕ). slice_get config.tickets k) same ∙ is)

  -- when a line is made, its member's clock has not gone on by more than this
  pub in_use : (ticket : TicketConf) (line : Holding) (pause : ℕ) → line.member < members_of w → WritesWithin w line.member pause
      → (x : LineAt w ticket line) → clock_at w line.member x.entry.time ≤ line.from + pause
  in_use ticket line pause below writes x = by x.entry.what refl x.line_of.kind
    where
      m : ℕ
      m = line.member

      early : List SessionEntry
      early = entries_of line.member x.before

      used_so : used_after_all 0 (entries_of line.member (x.before ++ x.entry ∷ [])) ≡ used_after (used_after_all 0 early) x.entry.what
      used_so =
          ap (λ (xs : List SessionEntry). used_after_all 0 xs) (up_to line.member x.before x.entry x.line_of.own)
          ∙ used_join 0 early (x.entry.what ∷ [])

      small : clock_at w line.member x.entry.time < 2 ^ 62
      small =
          (fits.true_clocks.clocks line.member below).rising.small x.entry.time
          (let long = fits.true_clocks.long line.member below in
          let within = fits.within x.before x.after x.entry x.whole in
          omega (arith, long, within))

      read_now : (reading : ℕ) → reading ≡ clock_at w line.member x.entry.time → line.from ≡ min reading (2 ^ 62 - 1)
          → clock_at w line.member x.entry.time ≤ line.from + pause
      read_now reading same from = grind (arith, small, same, from)

      by_write : IsWrite x.entry.what → clock_at w line.member x.entry.time ≤ line.from + pause
      by_write write =
          let soon = writes x.before x.after x.entry x.whole x.line_of.own write in
          let from = x.line_of.from in
          omega (arith, soon, from)

      by : (what : SessionEntry) → x.entry.what ≡ what → MayGiveALine what → clock_at w line.member x.entry.time ≤ line.from + pause
      by (Starts node reading records) same kind =
          read_now reading
          (subst (λ (s : SessionEntry). ReadsClock w x.entry s) same (fits.true_clocks.read x.before x.after x.entry x.whole)
          ∙ ap (λ (k : ℕ). clock_at w k x.entry.time) x.line_of.own)
          (x.line_of.from ∙ used_so ∙ ap (λ (s : SessionEntry). used_after (used_after_all 0 early) s) same)
      by (Makes (calls.Keep ticket rec answer)) same kind = by_write (subst IsWrite (sym same) tt)
      by (IsCut (CutKeep ticket rec)) same kind = by_write (subst IsWrite (sym same) tt)
      by what same kind = absurd kind
