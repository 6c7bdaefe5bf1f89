-- What comes of one journal.
use Rattle.std.specs.Prelude.{◌||◌, Bool, true, false, Option, None, Some, Ok, Err}
use Rattle.std.specs.List.{list_any}
use Rattle.std.specs.Option.{option_map_or}
use Rattle.std.proofs.Common.{◌≡◌, inl, inr, ◌⊎◌, ℕ, List, [], ◌∷◌, refl, sym, ◌∙◌, ap, subst, true≢false}
use Rattle.std.proofs.lemmas.Bool.Decides.{Decides-eqb}
use Rattle.std.proofs.lemmas.List.Elements.{All-head}
use Rattle.booth_base.specs.declared.address.Address.{Address}
use Rattle.booth_base.specs.declared.address.TheConstants.{NO_ONE}
use Rattle.booth_conf.specs.Config.{ConfigSays}
use Rattle.booth_conf.specs.declared.members.Member.{Member}
use Rattle.booth_journal.specs.Says.{Said, Says}
use Rattle.booth_keys.specs.declared.ring.Ring.{Ring}
use Rattle.booth_node.specs.Records.{Has}
use Rattle.booth_audit.specs.declared.journal_fault.JournalFault.TheVariants as wrongs
use Rattle.booth_audit.specs.declared.owners.OwnerFault.TheVariants.{NotOne}
use Rattle.booth_audit.specs.Audit.{IsMembers, IsNoMembers, IsWrong, id_of, node_of}
use Rattle.booth_audit.specs.Course.{IsReplayed}
use Rattle.booth_audit.specs.Faults.{AreOf, IsOf, opened_in, place_of}
use Rattle.booth_audit.specs.Judging.{IsJudged, JudgedSays, concluded, is_of_place, is_place, member_at, owners_of}
use Rattle.booth_audit.specs.Noted.{IsMember, MemberSays}
use Rattle.booth_audit.specs.Own.{AllOwn}
use Rattle.booth_audit.specs.Owners.{IsNobodys, IsOwner}
use Rattle.booth_audit.specs.Replay.{Replayed, deeds_of}
use Rattle.booth_audit.specs.Tally.{Tally, nothing_tallied}
use Rattle.booth_audit.specs.Watched.{AreFound, TellsFirst}
use Rattle.booth_audit.proofs.OwnLemmas.{replays_are_own}
use Rattle.booth_audit.proofs.TallyLemmas.{watched_so}
use Rattle.booth_audit.proofs.WatchedLemmas.{watch_tells_first}

-- ---- one owner alone

-- the starts of a member are no other's
pub owner_alone : (members : List Member) (locals : List (Option Address)) (place : ℕ) (other : Option ℕ)
    → AreOf members locals (Some place) → AreOf members locals other → other ≡ Some place
owner_alone members [] place other are then_are = absurd (are.0 refl)
owner_alone members (local ∷ locals) place None are none = let no : local ∷ locals ≡ [] = none in absurd cc
owner_alone members (local ∷ locals) place (Some another) are then_are =
    sym (All-head (λ (x : Option Address). place_of members x ≡ Some another) local locals then_are.1)
    ∙ All-head (λ (x : Option Address). place_of members x ≡ Some place) local locals are.1

-- ---- who has a journal already

owned_head : (place : ℕ) (owner : Option ℕ) → is_place place owner ≡ true → owner ≡ Some place
owned_head place None is = let no : false ≡ true = is in absurd cc
owned_head place (Some other) is = ap Some ((Decides-eqb other place).0 is)

owned_itself : (place : ℕ) → is_place place (Some place) ≡ true
owned_itself place = (Decides-eqb place place).1 refl

any_head : (p : JudgedSays → Bool) (x : JudgedSays) (all : List JudgedSays) (b : Bool) → p x ≡ b
    → list_any p (x ∷ all) ≡ true → (p x ≡ true) ⊎ (list_any p all ≡ true)
any_head p x all true is any = inl is
any_head p x all false is any = inr (sym (ap (λ (b : Bool). b || list_any p all) is) ∙ any)

pub owned_has : (place : ℕ) (all : List JudgedSays) → list_any (is_of_place place) all ≡ true → Has (owners_of all) (Some place)
owned_has place [] any = let no : false ≡ true = any in absurd cc
owned_has place (judged ∷ all) any = by (any_head (is_of_place place) judged all (is_of_place place judged) refl any) (owned_has place all)
  where
    by : (is_of_place place judged ≡ true) ⊎ (list_any (is_of_place place) all ≡ true)
        → (list_any (is_of_place place) all ≡ true → Has (owners_of all) (Some place)) → Has (owners_of (judged ∷ all)) (Some place)
    by (inl here) later = inl (owned_head place judged.owner here)
    by (inr there) later = inr (later there)

pub has_owned : (place : ℕ) (all : List JudgedSays) → Has (owners_of all) (Some place) → list_any (is_of_place place) all ≡ true
has_owned place [] has = absurd has
has_owned place (judged ∷ all) (inl here) =
    ap (λ (b : Bool). b || list_any (is_of_place place) all) (ap (is_place place) here ∙ owned_itself place)
has_owned place (judged ∷ all) (inr there) =
    ap (λ (b : Bool). is_of_place place judged || b) (has_owned place all there) ∙ either (is_of_place place judged)
  where
    either : (b : Bool) → (b || true) ≡ true
    either true = refl
    either false = refl

-- ---- whose it is

pub nobodys_members : {config : ConfigSays} {earlier : List (Option ℕ)} {text : List ℕ} {said : List Said} → Says text said
    → IsOf config.members said None → IsMembers config earlier text None said
nobodys_members says whose = record {
  says = says;
  whose = whose;
  other = λ place is has. let no : None ≡ Some place = is in absurd cc;
}

pub its_members : {config : ConfigSays} {text : List ℕ} {said : List Said} (place : ℕ) (all : List JudgedSays) → Says text said
    → IsOf config.members said (Some place) → false ≡ list_any (is_of_place place) all
    → IsMembers config (owners_of all) text (Some place) said
its_members place all says whose free = record {
  says = says;
  whose = whose;
  other = λ other is has. true≢false (sym (has_owned place all has) ∙ sym free);
}

pub not_one_members : {config : ConfigSays} {earlier : List (Option ℕ)} {text : List ℕ} {said : List Said} → Says text said
    → IsOwner config.members said (Err NotOne) → IsNoMembers config earlier text
not_one_members {said = said} says never = record {
  said = said;
  says = says;
  wrong = λ member is. never member is.whose;
}

pub twice_members : {config : ConfigSays} {text : List ℕ} {said : List Said} (place : ℕ) (all : List JudgedSays) → Says text said
    → IsOf config.members said (Some place) → true ≡ list_any (is_of_place place) all
    → IsNoMembers config (owners_of all) text
twice_members {config} {said = said} place all says whose taken = record {
  said = said;
  says = says;
  wrong = λ member is.
      let alone = owner_alone config.members (opened_in said) place member whose is.whose in
      is.other place alone (subst (Has (owners_of all)) (sym alone) (owned_has place all (sym taken)));
}

-- ---- the journal of nobody

pub nobodys_differ : {config : ConfigSays} {ring : Option Ring} {earlier : List (Option ℕ)} {text : List ℕ} {said : List Said}
    {line : ℕ} → IsMembers config earlier text None said → IsNobodys said (Some line)
    → IsWrong config ring earlier text (wrongs.Differs line)
nobodys_differ {config} {ring} {said = said} is nobodys = record {
  events = [];
  replays = record { said = said; at = None; members = is; replayed = nobodys (node_of config ring None) is.whose };
  kept = tt;
}

pub nobodys_true : {config : ConfigSays} {ring : Option Ring} {earlier : List (Option ℕ)} {text : List ℕ} {said : List Said}
    {tally : Tally} → IsMembers config earlier text None said → IsNobodys said None → tally ≡ nothing_tallied config.tickets
    → IsJudged config ring earlier text (Ok (record { owner = None; tally = tally }))
nobodys_true {config} {ring} {said = said} is nobodys none = record {
  heard = record { member = None; id = id_of config.members None; events = [] };
  is = record {
    said = said;
    members = is;
    id = refl;
    replayed = nobodys (node_of config ring None) is.whose;
    kept = tt;
    sessions = tt;
  };
  tallied = record { owner = refl; tally = none; nobody = λ at. refl };
}

-- ---- the journal of a member

module _ (config : ConfigSays) (ring : Option Ring) {earlier : List (Option ℕ)} {text : List ℕ} {said : List Said}
    (found : AreFound config.tickets) (place : ℕ) (is : IsMembers config earlier text (Some place) said) where
  tells : {strays : Option ℕ} {tally : Tally} (replayed : IsReplayed (member_at config ring (Some place)) said strays tally)
      → TellsFirst replayed.events tally.watched.wrong
  tells {strays} {tally} replayed =
      let own : AllOwn (node_of config ring (Some place)) (deeds_of replayed.events) =
      subst (λ (r : Replayed). AllOwn (node_of config ring (Some place)) (deeds_of r.events)) replayed.is (replays_are_own (node_of config ring (Some place)) said) in
      subst (TellsFirst replayed.events)
      (sym (ap (λ (t : Tally). t.watched.wrong) replayed.tallied
      ∙ ap (λ w. w.wrong) (watched_so (member_at config ring (Some place)) (nothing_tallied config.tickets) replayed.events)))
      (watch_tells_first (member_at config ring (Some place)) found replayed.events replayed.sessions own)

  concludes : {strays : Option ℕ} {tally : Tally} (replayed : IsReplayed (member_at config ring (Some place)) said strays tally) (wrong : Option ℕ)
      → tally.watched.wrong ≡ wrong → (o : Option ℕ) → strays ≡ o
      → IsJudged config ring earlier text (concluded place tally wrong o)
  concludes {strays} replayed (Some line) wrong o is_strays = record {
    events = replayed.events;
    strays = strays;
    replays = record { said = said; at = Some place; members = is; replayed = replayed.is };
    wrong = (tells replayed).first line wrong;
  }
  concludes replayed None wrong (Some line) is_strays = record {
    events = replayed.events;
    replays = record {
      said = said;
      at = Some place;
      members = is;
      replayed = replayed.is
          ∙ ap (λ (s : Option ℕ). record { events = replayed.events; strays = s }) is_strays;
    };
    kept = (tells replayed).none.0 wrong;
  }
  concludes {tally = tally} replayed None wrong None is_strays = record {
    heard = record { member = Some place; id = id_of config.members (Some place); events = replayed.events };
    is = record {
      said = said;
      members = is;
      id = refl;
      replayed = replayed.is
          ∙ ap (λ (s : Option ℕ). record { events = replayed.events; strays = s }) is_strays;
      kept = (tells replayed).none.0 wrong;
      sessions = replayed.sessions;
    };
    tallied = record {
      owner = refl;
      tally = replayed.tallied;
      nobody = λ at. let no : Some place ≡ None = at in absurd cc;
    };
  }

-- the member of a place, by its configuration
same_member : {config : ConfigSays} {ring : Option Ring} {place : ℕ} {member : MemberSays} → IsMember config ring place member
    → member ≡ member_at config ring (Some place)
same_member {config} {ring} {place} is =
    is.same
    ∙ ap (λ (o : Option Member). record {
      node = record { config = config; ring = ring; me = option_map_or (λ (m : Member). m.id) o NO_ONE; second = true };
      place = place;
    }) (sym is.is)

pub members_judged : {config : ConfigSays} {ring : Option Ring} {earlier : List (Option ℕ)} {text : List ℕ} {said : List Said}
    {place : ℕ} {whose : MemberSays} {strays : Option ℕ} {tally : Tally} → AreFound config.tickets
    → IsMember config ring place whose → IsMembers config earlier text (Some place) said → IsReplayed whose said strays tally
    → IsJudged config ring earlier text (concluded place tally tally.watched.wrong strays)
members_judged {config} {ring} {said = said} {place} {strays = strays} {tally} found whose is replayed =
    concludes config ring found place is
    (subst (λ (m : MemberSays). IsReplayed m said strays tally) (same_member whose) replayed) tally.watched.wrong refl strays refl
