-- A world in which two hold does not meet all premises.
use Rattle.std.proofs.Common.{◌≡◌, ◌≢◌, Bool, true, false, refl, sym, subst, ◌∙◌}
use Rattle.booth_node.specs.World.{World, IsWorld}
use Rattle.booth_world.proofs.WorldLaws.{worlds_hold_one}
use Rattle.booth_examples.specs.Checks.{same_premise}
use Rattle.booth_examples.specs.Premises.{Premise, SameMembers, TrueClocks, RecordsReturn, VersionsRise, MembersSpeak, OneDaemon, Meets, PremisesAreNeeded, NothingHeld}
use Rattle.booth_examples.proofs.CheckLemmas.{premise_is}
use Rattle.booth_examples.proofs.SameLemmas.{no_test}

same_as_itself : (premise : Premise) → same_premise premise premise ≡ true
same_as_itself NothingHeld = refl
same_as_itself SameMembers = refl
same_as_itself TrueClocks = refl
same_as_itself RecordsReturn = refl
same_as_itself VersionsRise = refl
same_as_itself MembersSpeak = refl
same_as_itself OneDaemon = refl

all_met : (w : World) (broken : Premise) → ((premise : Premise) → premise ≢ broken → Meets w premise) → Meets w broken
    → (premise : Premise) → Meets w premise
all_met w broken others met premise = by (same_premise premise broken) refl
  where
    by : (b : Bool) → same_premise premise broken ≡ b → Meets w premise
    by true e = subst (Meets w) (sym (premise_is premise broken e)) met
    by false e = others premise (λ same. no_test (sym e
        ∙ subst (λ (other : Premise). same_premise premise other ≡ true) same (same_as_itself premise)))

pub premises_are_needed : PremisesAreNeeded
premises_are_needed w broken but two met = two.two (worlds_hold_one w is_world two.ticket two.automatic two.moment two.first two.second two.first_holds two.second_holds)
  where
    met_all : (premise : Premise) → Meets w premise
    met_all = all_met w broken but.1 met

    is_world : IsWorld w
    is_world = record {
      form = but.0;
      nothing_held = met_all NothingHeld;
      same_members = met_all SameMembers;
      true_clocks = met_all TrueClocks;
      records_return = met_all RecordsReturn;
      versions_rise = met_all VersionsRise;
      members_speak = met_all MembersSpeak;
      one_daemon = met_all OneDaemon;
    }
