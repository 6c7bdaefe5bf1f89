-- Journals that are judged one behind the other.
use Rattle.std.specs.Prelude.{length, take, Option, Some, Ok, Err}
use Rattle.std.proofs.Common.{◌≡◌, ◌≤◌, ◌<◌, ◌+◌, ℕ, List, [], ◌∷◌, ◌++◌, append_assoc, append-nil, get_or, refl, sym, ◌∙◌, ap, subst, arith}
use Rattle.std.proofs.lemmas.List.{take_all, take_more}
use Rattle.std.proofs.lemmas.Option.{slice_get-get_or}
use Rattle.booth_conf.specs.Config.{ConfigSays}
use Rattle.booth_keys.specs.declared.ring.Ring.{Ring}
use Rattle.booth_audit.specs.declared.journal_fault.JournalFault.{JournalFault}
use Rattle.booth_audit.specs.declared.journal_fault.JournalFault.TheVariants as wrongs
use Rattle.booth_audit.specs.Audit.{AreTrue, HasFault, HasWrong, IsTrue, IsWrong, member_places}
use Rattle.booth_audit.specs.Faults.{Heard}
use Rattle.booth_audit.specs.Judging.{AreTallied, AreTrueSo, IsJudged, IsTallied, JudgedSays, fault_at, owners_of}

-- ---- one more

true_more : (config : ConfigSays) (ring : Option Ring) (earlier : List Heard) (texts : List (List ℕ)) (heard : List Heard)
    (text : List ℕ) (one : Heard) → AreTrue config ring earlier texts heard
    → IsTrue config ring (member_places (earlier ++ heard)) text one
    → AreTrue config ring earlier (texts ++ text ∷ []) (heard ++ one ∷ [])
true_more config ring earlier [] [] text one are is =
    (subst (λ (l : List Heard). IsTrue config ring (member_places l) text one) (append-nil earlier) is, tt)
true_more config ring earlier [] (heard ∷ more) text one are is = absurd are
true_more config ring earlier (first ∷ texts) [] text one are is = absurd are
true_more config ring earlier (first ∷ texts) (heard ∷ more) text one are is = (
  are.0,
  true_more config ring (earlier ++ heard ∷ []) texts more text one are.1
      (subst (λ (l : List Heard). IsTrue config ring (member_places l) text one)
      (sym (append_assoc earlier (heard ∷ []) more)) is),
)

tallied_more : (config : ConfigSays) (ring : Option Ring) (heard : List Heard) (all : List JudgedSays) (one : Heard)
    (judged : JudgedSays) → AreTallied config ring heard all → IsTallied config ring one judged
    → AreTallied config ring (heard ++ one ∷ []) (all ++ judged ∷ [])
tallied_more config ring [] [] one judged are is = (is, tt)
tallied_more config ring [] (first ∷ all) one judged are is = absurd are
tallied_more config ring (first ∷ heard) [] one judged are is = absurd are
tallied_more config ring (first ∷ heard) (other ∷ all) one judged are is =
    (are.0, tallied_more config ring heard all one judged are.1 is)

-- the members of journals are those that were judged so
pub owners_so : (config : ConfigSays) (ring : Option Ring) (heard : List Heard) (all : List JudgedSays)
    → AreTallied config ring heard all → owners_of all ≡ member_places heard
owners_so config ring [] [] are = refl
owners_so config ring [] (first ∷ all) are = absurd are
owners_so config ring (first ∷ heard) [] are = absurd are
owners_so config ring (first ∷ heard) (judged ∷ all) are =
    ap (λ (o : Option ℕ). o ∷ owners_of all) are.0.owner
    ∙ ap (λ (l : List (Option ℕ)). first.member ∷ l) (owners_so config ring heard all are.1)

-- ---- the next text

module _ (config : ConfigSays) (ring : Option Ring) (texts : List (List ℕ)) (i : ℕ) {all : List JudgedSays} {text : List ℕ}
    (so : AreTrueSo config ring (take i texts) all) (below : i < length texts) (at : text ≡ get_or texts i text) where
  -- one more true journal
  pub so_more : {judged : JudgedSays} → IsJudged config ring (owners_of all) text (Ok judged)
      → AreTrueSo config ring (take (i + 1) texts) (all ++ judged ∷ [])
  so_more {judged} is = record {
    heard = so.heard ++ is.heard ∷ [];
    each = subst (λ (l : List (List ℕ)). AreTrue config ring [] l (so.heard ++ is.heard ∷ []))
        (ap (λ (t : List ℕ). take i texts ++ t ∷ []) at ∙ sym (take_more texts i text below))
        (true_more config ring [] (take i texts) so.heard text is.heard so.each
        (subst (λ (l : List (Option ℕ)). IsTrue config ring l text is.heard) (owners_so config ring so.heard all so.tallied) is.is));
    tallied = tallied_more config ring so.heard all is.heard judged so.tallied is.tallied;
  }

  wrong_here : (fault : JournalFault) → IsWrong config ring (owners_of all) text fault → HasWrong config ring texts i fault
  wrong_here fault wrong = record {
    text = text;
    is = slice_get-get_or texts i text below ∙ ap Some (sym at);
    earlier = so.heard;
    before = so.each;
    wrong = subst (λ (l : List (Option ℕ)). IsWrong config ring l text fault) (owners_so config ring so.heard all so.tallied) wrong;
  }

  -- the first that is wrong
  pub so_wrong : (fault : JournalFault) → IsJudged config ring (owners_of all) text (Err fault)
      → HasFault config ring texts (fault_at fault i)
  so_wrong (wrongs.Line line) wrong = wrong_here (wrongs.Line line) wrong
  so_wrong wrongs.Member wrong = wrong_here wrongs.Member wrong
  so_wrong (wrongs.Differs line) wrong = wrong_here (wrongs.Differs line) wrong
  so_wrong (wrongs.Kept line) wrong = wrong_here (wrongs.Kept line) wrong
  so_wrong wrongs.OutOfMemory wrong = tt

pub so_none : (config : ConfigSays) (ring : Option Ring) (texts : List (List ℕ)) → AreTrueSo config ring (take 0 texts) []
so_none config ring texts = record { heard = []; each = tt; tallied = tt }

pub so_all : {config : ConfigSays} {ring : Option Ring} (texts : List (List ℕ)) (i : ℕ) {all : List JudgedSays}
    → length texts ≤ i → AreTrueSo config ring (take i texts) all → AreTrueSo config ring texts all
so_all {config} {ring} texts i {all} above so =
    subst (λ (l : List (List ℕ)). AreTrueSo config ring l all) (take_all i texts above) so

-- ---- how many there are

true_count : (config : ConfigSays) (ring : Option Ring) (earlier : List Heard) (texts : List (List ℕ)) (heard : List Heard)
    → AreTrue config ring earlier texts heard → length heard ≡ length texts
true_count config ring earlier [] [] are = refl
true_count config ring earlier [] (heard ∷ more) are = absurd are
true_count config ring earlier (text ∷ texts) [] are = absurd are
true_count config ring earlier (text ∷ texts) (heard ∷ more) are =
    let shorter = true_count config ring (earlier ++ heard ∷ []) texts more are.1 in omega (arith, shorter)

tallied_count : (config : ConfigSays) (ring : Option Ring) (heard : List Heard) (all : List JudgedSays)
    → AreTallied config ring heard all → length all ≡ length heard
tallied_count config ring [] [] are = refl
tallied_count config ring [] (judged ∷ all) are = absurd are
tallied_count config ring (one ∷ heard) [] are = absurd are
tallied_count config ring (one ∷ heard) (judged ∷ all) are =
    let shorter = tallied_count config ring heard all are.1 in omega (arith, shorter)

pub so_count : {config : ConfigSays} {ring : Option Ring} {texts : List (List ℕ)} {all : List JudgedSays}
    → AreTrueSo config ring texts all → length all ≡ length texts
so_count {config} {ring} {texts} {all} so =
    tallied_count config ring so.heard all so.tallied ∙ true_count config ring [] texts so.heard so.each
