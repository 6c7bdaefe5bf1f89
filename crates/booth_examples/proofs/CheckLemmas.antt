-- What the tests of worlds let pass is a world, or one but for a premise; and which members begin free.
use Rattle.std.proofs.Common.{◌≡◌, ◌≢◌, ℕ, zero, suc, ◌+◌, Bool, true, ◌&&◌, ◌||◌, refl, sym, subst, ◌∙◌, inl, inr, arith, ⊎_elim}
use Rattle.std.specs.Prelude.{Option, Some, None}
use Rattle.std.specs.List.{list_all, list_any, range_with_len}
use Rattle.std.specs.Option.{ForSome}
use Rattle.std.proofs.lemmas.Bool.{and_parts, or_cases, leb-true}
use Rattle.std.proofs.lemmas.Option.{none-some, same_Some}
use Rattle.booth_base.specs.declared.address.MemberId.{MemberId}
use Rattle.booth_conf.specs.Sound.{each}
use Rattle.booth_rec.specs.Record.{first_plain, is_second}
use Rattle.booth_rec.specs.declared.record.Record.{Record}
use Rattle.booth_node.specs.Session.{SessionEntry, Starts, Makes, IsCut}
use Rattle.booth_node.specs.World.{World, IsSecondStart, HasForm, BeginsFree, HasTrueClocks, HoldsNothing, IsMemberId, clock_at, id_at, members_of}
use Rattle.booth_examples.specs.Checks.{has_form, same_members, reads_clocks, records_return, versions_rise, members_speak, same_premise, is_met, premises, is_second_start, is_member_id, is_over, holds_nothing}
use Rattle.booth_examples.specs.Laws.{HasGoodClocks, CheckedWorldsAreWorlds, CheckedWorldsLackOne, CheckedBeginningsAreFree, CheckedSecondWorlds}
use Rattle.booth_examples.specs.Premises.{Premise, NothingHeld, SameMembers, TrueClocks, RecordsReturn, VersionsRise, MembersSpeak, OneDaemon, Meets}
use Rattle.booth_examples.specs.Same.{same_id, same_record}
use Rattle.booth_examples.proofs.SameLemmas.{no_test, id_is, record_is}
use Rattle.booth_examples.proofs.WorldLemmas.{at_each, form_is, members_are, readings_are, records_are, versions_are, messages_are, daemons_are}

true_clocks : (w : World) → HasGoodClocks w → reads_clocks w ≡ true → HasTrueClocks w
true_clocks w good e = record {
  ticking = good.ticking;
  some = good.some;
  long = good.long;
  clocks = good.clocks;
  read = readings_are w e;
}

pub worlds_are : CheckedWorldsAreWorlds
worlds_are w free good e =
    let form = and_parts (has_form w) _ e in
    let members = and_parts (same_members w) _ form.1 in
    let clocks = and_parts (reads_clocks w) _ members.1 in
    let records = and_parts (records_return w) _ clocks.1 in
    let versions = and_parts (versions_rise w) _ records.1 in
    let messages = and_parts (members_speak w) _ versions.1 in
    record {
      form = form_is w form.0;
      nothing_held = free;
      same_members = members_are w members.0;
      true_clocks = true_clocks w good clocks.0;
      records_return = records_are w records.0;
      versions_rise = versions_are w versions.0;
      members_speak = messages_are w (form_is w form.0).members messages.0;
      one_daemon = daemons_are w messages.1;
    }

second_start_is : (what : SessionEntry) → is_second_start what ≡ true → IsSecondStart what
second_start_is (Starts node reading records) e = e
second_start_is (Makes call) e = tt
second_start_is (IsCut call) e = tt

pub second_worlds_are : CheckedSecondWorlds
second_worlds_are w e = at_each w (λ before entry. is_second_start entry.what) _ (λ before entry h. second_start_is entry.what h) e

-- ---- but for a premise

pub premise_is : (a b : Premise) → same_premise a b ≡ true → a ≡ b
premise_is NothingHeld NothingHeld e = refl
premise_is SameMembers SameMembers e = refl
premise_is TrueClocks TrueClocks e = refl
premise_is RecordsReturn RecordsReturn e = refl
premise_is VersionsRise VersionsRise e = refl
premise_is MembersSpeak MembersSpeak e = refl
premise_is OneDaemon OneDaemon e = refl
premise_is a b e = no_test e

at_premise : (test : Premise → Bool) → list_all test premises ≡ true → (premise : Premise) → test premise ≡ true
at_premise test e =
    let nothing = and_parts (test NothingHeld) _ e in
    let members = and_parts (test SameMembers) _ nothing.1 in
    let clocks = and_parts (test TrueClocks) _ members.1 in
    let records = and_parts (test RecordsReturn) _ clocks.1 in
    let versions = and_parts (test VersionsRise) _ records.1 in
    let messages = and_parts (test MembersSpeak) _ versions.1 in
    let daemon = and_parts (test OneDaemon) _ messages.1 in
    elim [
      | NothingHeld ↦ nothing.0
      | SameMembers ↦ members.0
      | TrueClocks ↦ clocks.0
      | RecordsReturn ↦ records.0
      | VersionsRise ↦ versions.0
      | MembersSpeak ↦ messages.0
      | OneDaemon ↦ daemon.0
    ]

meets : (w : World) (premise : Premise) → HasForm w → (premise ≡ NothingHeld → BeginsFree w) → (premise ≡ TrueClocks → HasGoodClocks w)
    → is_met w premise ≡ true → Meets w premise
meets w NothingHeld form free good e = free refl
meets w SameMembers form free good e = members_are w e
meets w TrueClocks form free good e = true_clocks w (good refl) e
meets w RecordsReturn form free good e = records_are w e
meets w VersionsRise form free good e = versions_are w e
meets w MembersSpeak form free good e = messages_are w form.members e
meets w OneDaemon form free good e = daemons_are w e

pub lack_one : CheckedWorldsLackOne
lack_one w broken free good e = (form, met)
  where
    parts : (has_form w ≡ true) × (list_all (λ premise. same_premise premise broken || is_met w premise) premises ≡ true)
    parts = and_parts (has_form w) _ e

    form : HasForm w
    form = form_is w parts.0

    met : (premise : Premise) → premise ≢ broken → Meets w premise
    met premise other = meets w premise form (λ same. free (λ b. other (same ∙ b))) (λ same. good (λ b. other (same ∙ b)))
        (⊎_elim (λ (same : same_premise premise broken ≡ true). absurd (other (premise_is premise broken same)))
        (λ (is : is_met w premise ≡ true). is)
        (or_cases (same_premise premise broken) _ (at_premise (λ p. same_premise p broken || is_met w p) parts.1 premise)))

-- ---- beginnings

id_found : (w : World) (id : MemberId) (first n : ℕ) → first + n ≡ members_of w
    → list_any (λ m. same_id (id_at w m) id) (range_with_len first n) ≡ true → IsMemberId w id
id_found w id first zero all e = no_test e
id_found w id first (suc n) all e =
    ⊎_elim (λ (here : same_id (id_at w first) id ≡ true).
    let found : IsMemberId w id = (first, omega (arith, all), id_is (id_at w first) id here) in found)
    (λ (there : list_any (λ m. same_id (id_at w m) id) (range_with_len (first + 1) n) ≡ true).
    id_found w id (first + 1) n (omega (arith, all)) there)
    (or_cases (same_id (id_at w first) id) _ e)

member_id_is : (w : World) (id : MemberId) → is_member_id w id ≡ true → IsMemberId w id
member_id_is w id e = id_found w id 0 (members_of w) (omega arith) e

each_is : {X : Type 0} (test : X → Bool) (o : Option X) → each test o ≡ true → (P : X → Type 0)
    → ((x : X) → test x ≡ true → P x) → ForSome o P
each_is test None e P holds = λ x at. absurd (none-some x at)
each_is test (Some y) e P holds = λ x at. holds x (subst (λ z. test z ≡ true) (same_Some y x at) e)

nothing_is : (w : World) (m reading : ℕ) (kept : Record) → holds_nothing w m reading kept ≡ true → HoldsNothing w m reading kept
nothing_is w m reading kept e =
    let over = and_parts (each (λ lease. is_over lease reading) kept.lease) _ e in
    let version = and_parts (same_record kept (first_plain kept.term kept.lease) || (is_second kept && (w.begins m).second)) _ over.1 in
    let bound = and_parts (each (is_member_id w) kept.bound) _ version.1 in
    record {
      over = each_is _ kept.lease over.0 _ (λ lease h. leb-true lease.until reading h);
      version = ⊎_elim (λ (first : same_record kept (first_plain kept.term kept.lease) ≡ true).
          inl (record_is kept (first_plain kept.term kept.lease) first))
          (λ (second : is_second kept && (w.begins m).second ≡ true). inr (and_parts (is_second kept) _ second))
          (or_cases (same_record kept (first_plain kept.term kept.lease)) _ version.0);
      bound = each_is _ kept.bound bound.0 _ (λ id h. member_id_is w id h);
      promise = each_is _ kept.promise bound.1 _ (λ promise h.
          let to = and_parts (is_member_id w promise.to) _ h in
          let term = and_parts _ _ to.1 in
          (member_id_is w promise.to to.0, leb-true promise.term kept.term term.0, leb-true kept.abstain reading term.1));
    }

pub begin_free : CheckedBeginningsAreFree
begin_free w kept alike holds m name automatic =
    subst (λ (one : Record). HoldsNothing w m (clock_at w m 0) one) (sym (alike m name))
    (nothing_is w m (clock_at w m 0) (kept m) (holds m))
