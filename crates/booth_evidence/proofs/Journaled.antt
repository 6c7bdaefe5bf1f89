-- The journal of a member among audited journals: there is one at most, and its actions are those that the audit judged.
use Rattle.std.specs.Prelude.{◌&&◌, map, if◌then◌else◌, Option, None, Some}
use Rattle.std.proofs.Common.{◌≡◌, ◌⊎◌, inl, inr, ℕ, Bool, true, false, List, [], ◌∷◌, ◌++◌, refl, sym, ◌∙◌, ap, subst}
use Rattle.booth_base.specs.declared.address.Address.{Address}
use Rattle.booth_conf.specs.Config.{ConfigSays}
use Rattle.booth_conf.specs.declared.tickets.TicketConf.{TicketConf}
use Rattle.booth_journal.specs.Says.{Said}
use Rattle.booth_journal.proofs.OnceLemmas.{one_list_said}
use Rattle.booth_keys.specs.declared.ring.Ring.{Ring}
use Rattle.booth_node.specs.declared.node_config.NodeConfig.{NodeConfig}
use Rattle.booth_node.specs.Jobs.{own_address}
use Rattle.booth_node.specs.Records.{Has}
use Rattle.booth_node.specs.Session.{SessionEntry}
use Rattle.booth_journal.specs.declared.said.Answer.{Answer}
use Rattle.booth_journal.specs.declared.said.Answer.TheVariants as answers
use Rattle.booth_journal.specs.declared.said.Call.{Call}
use Rattle.booth_journal.specs.declared.said.Call.TheVariants as calls
use Rattle.booth_audit.specs.Demand.{is_call}
use Rattle.booth_audit.specs.Audit.{AreTrue, IsTrue, member_places, node_of}
use Rattle.booth_audit.specs.Faults.{Heard, IsOf, opened_by, opened_in}
use Rattle.booth_audit.specs.Replay.{Event, Idle, Passes, Place, Replayed, Starting, Step, Strays, answered, begun, by_step, deeds_of, follows, is_now, line_behind, replay, replayed, start_calls, stepped}
use Rattle.booth_audit.proofs.JudgingLemmas.{owner_alone}
use Rattle.booth_evidence.specs.Journals.{IsJournalOf}

-- ---- texts and what the audit heard of them

-- an audited journal
pub record Audited (config : ConfigSays) (ring : Option Ring) (text : List ℕ) (one : Heard) : Type 0 where
  pub earlier : List (Option ℕ)
  pub is : IsTrue config ring earlier text one

-- what the audit heard of a text
pub record OfText (config : ConfigSays) (ring : Option Ring) (heard : List Heard) (text : List ℕ) : Type 0 where
  pub one : Heard
  pub among : Has heard one
  pub audited : Audited config ring text one

pub of_text : (config : ConfigSays) (ring : Option Ring) (earlier : List Heard) (texts : List (List ℕ)) (heard : List Heard)
    → AreTrue config ring earlier texts heard → (text : List ℕ) → Has texts text → OfText config ring heard text
of_text config ring earlier [] heard are text has = absurd has
of_text config ring earlier (first ∷ texts) [] are text has = absurd are
of_text config ring earlier (first ∷ texts) (one ∷ heard) are text (inl same) = record {
  one = one;
  among = inl refl;
  audited = record {
    earlier = member_places earlier;
    is = subst (λ (t : List ℕ). IsTrue config ring (member_places earlier) t one) same are.0;
  };
}
of_text config ring earlier (first ∷ texts) (one ∷ heard) are text (inr has) =
    let q = of_text config ring (earlier ++ one ∷ []) texts heard are.1 text has in
    record { one = q.one; among = inr q.among; audited = q.audited }

-- the text of which the audit heard this
pub record TextOf (config : ConfigSays) (ring : Option Ring) (texts : List (List ℕ)) (one : Heard) : Type 0 where
  pub text : List ℕ
  pub among : Has texts text
  pub audited : Audited config ring text one

pub text_of : (config : ConfigSays) (ring : Option Ring) (earlier : List Heard) (texts : List (List ℕ)) (heard : List Heard)
    → AreTrue config ring earlier texts heard → (one : Heard) → Has heard one → TextOf config ring texts one
text_of config ring earlier [] [] are one has = absurd has
text_of config ring earlier [] (first ∷ heard) are one has = absurd are
text_of config ring earlier (text ∷ texts) [] are one has = absurd are
text_of config ring earlier (text ∷ texts) (first ∷ heard) are one (inl same) = record {
  text = text;
  among = inl refl;
  audited = record {
    earlier = member_places earlier;
    is = subst (λ (h : Heard). IsTrue config ring (member_places earlier) text h) same are.0;
  };
}
text_of config ring earlier (text ∷ texts) (first ∷ heard) are one (inr has) =
    let q = text_of config ring (earlier ++ first ∷ []) texts heard are.1 one has in
    record { text = q.text; among = inr q.among; audited = q.audited }

-- ---- no member has two journals

places_more : (earlier : List Heard) (one : Heard) (place : Option ℕ) → Has (member_places earlier) place
    → Has (member_places (earlier ++ one ∷ [])) place
places_more [] one place has = absurd has
places_more (first ∷ earlier) one place (inl same) = inl same
places_more (first ∷ earlier) one place (inr has) = inr (places_more earlier one place has)

places_last : (earlier : List Heard) (one : Heard) → Has (member_places (earlier ++ one ∷ [])) one.member
places_last [] one = inl refl
places_last (first ∷ earlier) one = inr (places_last earlier one)

not_again : (config : ConfigSays) (ring : Option Ring) (earlier : List Heard) (texts : List (List ℕ)) (heard : List Heard)
    → AreTrue config ring earlier texts heard → (other : Heard) → Has heard other → (place : ℕ) → other.member ≡ Some place
    → Has (member_places earlier) (Some place) → ⊥
not_again config ring earlier [] [] are other has place of_it before = has
not_again config ring earlier [] (first ∷ heard) are other has place of_it before = are
not_again config ring earlier (text ∷ texts) [] are other has place of_it before = are
not_again config ring earlier (text ∷ texts) (first ∷ heard) are other (inl same) place of_it before =
    let here : first.member ≡ Some place = ap (λ (h : Heard). h.member) same ∙ of_it in
    are.0.members.other place here (subst (Has (member_places earlier)) (sym here) before)
not_again config ring earlier (text ∷ texts) (first ∷ heard) are other (inr has) place of_it before =
    not_again config ring (earlier ++ first ∷ []) texts heard are.1 other has place of_it
    (places_more earlier first (Some place) before)

pub one_journal : (config : ConfigSays) (ring : Option Ring) (earlier : List Heard) (texts : List (List ℕ)) (heard : List Heard)
    → AreTrue config ring earlier texts heard → (one other : Heard) → Has heard one → Has heard other → (place : ℕ)
    → one.member ≡ Some place → other.member ≡ Some place → one ≡ other
one_journal config ring earlier [] [] are one other has then_has place of_it then_of = absurd has
one_journal config ring earlier [] (first ∷ heard) are one other has then_has place of_it then_of = absurd are
one_journal config ring earlier (text ∷ texts) [] are one other has then_has place of_it then_of = absurd are
one_journal config ring earlier (text ∷ texts) (first ∷ heard) are one other (inl same) (inl then_same) place of_it then_of =
    sym same ∙ then_same
one_journal config ring earlier (text ∷ texts) (first ∷ heard) are one other (inl same) (inr then_has) place of_it then_of =
    absurd (not_again config ring (earlier ++ first ∷ []) texts heard are.1 other then_has place then_of
    (subst (Has (member_places (earlier ++ first ∷ []))) (ap (λ (h : Heard). h.member) same ∙ of_it) (places_last earlier first)))
one_journal config ring earlier (text ∷ texts) (first ∷ heard) are one other (inr has) (inl then_same) place of_it then_of =
    absurd (not_again config ring (earlier ++ first ∷ []) texts heard are.1 one has place of_it
    (subst (Has (member_places (earlier ++ first ∷ []))) (ap (λ (h : Heard). h.member) then_same ∙ then_of) (places_last earlier first)))
one_journal config ring earlier (text ∷ texts) (first ∷ heard) are one other (inr has) (inr then_has) place of_it then_of =
    one_journal config ring (earlier ++ first ∷ []) texts heard are.1 one other has then_has place of_it then_of

-- ---- the journal of a member

module _ (config : ConfigSays) (ring : Option Ring) (m : ℕ) (text : List ℕ) (one : Heard) (audited : Audited config ring text one) where
  same_said : (deeds : List SessionEntry) (j : IsJournalOf config ring m text deeds) → j.said ≡ audited.is.said
  same_said deeds j = one_list_said text j.said audited.is.said j.says audited.is.members.says

  -- the audit found the same owner
  pub same_owner : (deeds : List SessionEntry) → IsJournalOf config ring m text deeds → one.member ≡ Some m
  same_owner deeds j =
      owner_alone config.members (opened_in j.said) m one.member j.own
      (subst (λ (l : List Said). IsOf config.members l one.member) (sym (same_said deeds j)) audited.is.members.whose)

  -- and heard of the same actions
  pub same_deeds : (deeds : List SessionEntry) → IsJournalOf config ring m text deeds → deeds ≡ deeds_of one.events
  same_deeds deeds j =
      j.did ∙ ap (λ (l : List Said). deeds_of (replay (node_of config ring (Some m)) l).events) (same_said deeds j)
      ∙ ap (λ (o : Option ℕ). deeds_of (replay (node_of config ring o) audited.is.said).events) (sym (same_owner deeds j))
      ∙ ap (λ (r : Replayed). deeds_of r.events) audited.is.replayed

  pub journal_of : one.member ≡ Some m → IsJournalOf config ring m text (deeds_of one.events)
  journal_of of_it = record {
    said = audited.is.said;
    says = audited.is.members.says;
    own = subst (IsOf config.members audited.is.said) of_it audited.is.members.whose;
    did = sym (ap (λ (o : Option ℕ). deeds_of (replay (node_of config ring o) audited.is.said).events) (sym of_it)
        ∙ ap (λ (r : Replayed). deeds_of r.events) audited.is.replayed);
  }

-- ---- the journal of nobody

-- no start has read its clock and opened its socket
abbrev IsEarly : NodeConfig → Place → Type 0
IsEarly node place = (place ≡ Idle) ⊎ ((reading : ℕ) × (place ≡ Starting reading [] (start_calls node)))

early_by : (node : NodeConfig) (answer : Option Answer) → (after : Place) × (begun node answer ≡ Passes after) × IsEarly node after
early_by node None = (Idle, refl, inl refl)
early_by node (Some (answers.Reading reading)) =
    (Starting reading [] (start_calls node), refl, inr (reading, refl))
early_by node (Some answers.Done) = (Idle, refl, inl refl)
early_by node (Some answers.Fails) = (Idle, refl, inl refl)
early_by node (Some answers.Quiet) = (Idle, refl, inl refl)
early_by node (Some answers.Stop) = (Idle, refl, inl refl)
early_by node (Some (answers.Ended job status)) = (Idle, refl, inl refl)
early_by node (Some (answers.Data from bytes)) = (Idle, refl, inl refl)
early_by node (Some answers.Absent) = (Idle, refl, inl refl)
early_by node (Some (answers.Found kept)) = (Idle, refl, inl refl)

none_opened : (call : Call) (more : List (Option Address)) → opened_by call ++ more ≡ [] → (opened_by call ≡ []) × (more ≡ [])
none_opened call more none = parts (opened_by call) none
  where
    parts : (opened : List (Option Address)) → opened ++ more ≡ [] → (opened ≡ []) × (more ≡ [])
    parts [] e = (refl, e)
    parts (x ∷ xs) e = let no : x ∷ (xs ++ more) ≡ [] = e in absurd cc

-- the first call of a start opens its socket
opens_none : (local : Option Address) (call : Call) → opened_by call ≡ [] → is_call (calls.Open local) call ≡ false
opens_none local calls.Now none = refl
opens_none local (calls.Open other) none = let no : other ∷ [] ≡ [] = none in absurd cc
opens_none local calls.Next none = refl
opens_none local (calls.Send to bytes) none = refl
opens_none local (calls.Kept ticket) none = refl
opens_none local (calls.Keep ticket kept) none = refl
opens_none local (calls.Job number ticket expires) none = refl

abbrev step_at : NodeConfig → Said → Place → Bool → Step
step_at node said place b = if b && true then begun node said.answer else follows node place said

stepped_so : (node : NodeConfig) (said : Said) (more : List Said) (b : Bool) → is_now said.call ≡ b → (place : Place) → IsEarly node place
    → stepped node place said more ≡ step_at node said place b
stepped_so node said more b now place (inl idle) =
    subst (λ (p : Place). stepped node p said more ≡ step_at node said p b) (sym idle) (ap (step_at node said Idle) now)
stepped_so node said more b now place (inr starts) =
    subst (λ (p : Place). stepped node p said more ≡ step_at node said p b) (sym starts.1)
    (ap (step_at node said (Starting starts.0 [] (start_calls node))) now)

strays_so : (node : NodeConfig) (said : Said) → opened_by said.call ≡ [] → (place : Place) → IsEarly node place → follows node place said ≡ Strays
strays_so node said none place (inl idle) = ap (λ (p : Place). follows node p said) idle
strays_so node said none place (inr starts) =
    ap (λ (p : Place). follows node p said) starts.1
    ∙ ap (λ (b : Bool). if b then answered node starts.0 [] (map (λ (ticket : TicketConf). calls.Kept ticket.name) node.config.tickets) said.answer else Strays)
    (opens_none (Some (own_address node)) said.call none)

no_events : (node : NodeConfig) (place : Place) → IsEarly node place → (line : ℕ) (all : List Said) → opened_in all ≡ []
    → (replayed node place line all).events ≡ []
no_events node place early line [] none = refl
no_events node place early line (said ∷ more) none =
    by_test (is_now said.call) refl
    (λ after is. no_events node after is (line_behind line said) more (none_opened said.call (opened_in more) none).1)
  where
    events_by : Step → List Event
    events_by step = (by_step step line (λ after. replayed node after (line_behind line said) more)).events

    by_test : (b : Bool) → is_now said.call ≡ b
        → ((after : Place) → IsEarly node after → (replayed node after (line_behind line said) more).events ≡ [])
        → (replayed node place line (said ∷ more)).events ≡ []
    by_test true now rest =
        let by = early_by node said.answer in
        ap events_by (stepped_so node said more true now place early ∙ by.1) ∙ rest by.0 by.2
    by_test false now rest =
        ap events_by (stepped_so node said more false now place early
        ∙ strays_so node said (none_opened said.call (opened_in more) none).0 place early)

pub nobody_did : (config : ConfigSays) (ring : Option Ring) (text : List ℕ) (one : Heard) → Audited config ring text one
    → one.member ≡ None → one.events ≡ []
nobody_did config ring text one audited nobody =
    ap (λ (r : Replayed). r.events) (sym audited.is.replayed)
    ∙ no_events (node_of config ring one.member) Idle (inl refl) 1 audited.is.said
    (subst (IsOf config.members audited.is.said) nobody audited.is.members.whose)
