-- What an audit may answer of journals is one answer.
use Rattle.std.specs.Prelude.{map, slice_get, take, Option, None, Some}
use Rattle.std.specs.List.{All}
use Rattle.std.proofs.Common.{◌≡◌, ◌≤◌, ◌<◌, ◌+◌, inl, inr, ◌⊎◌, ℕ, zero, suc, List, [], ◌∷◌, ◌++◌, append_assoc, append-nil, refl, sym, ◌∙◌, ap, subst, arith}
use Rattle.std.proofs.lemmas.List.Elements.{All-head, All-tail}
use Rattle.booth_conf.specs.Config.{ConfigSays}
use Rattle.booth_journal.specs.Says.{Said}
use Rattle.booth_journal.proofs.OnceLemmas.{one_fault, one_list_said}
use Rattle.booth_keys.specs.declared.ring.Ring.{Ring}
use Rattle.booth_journal.specs.declared.audit_fault.AuditFault.{AuditFault}
use Rattle.booth_journal.specs.declared.audit_fault.AuditFault.TheVariants as faults
use Rattle.booth_audit.specs.declared.holding.Holding.{Holding}
use Rattle.booth_audit.specs.declared.journal_fault.JournalFault.{JournalFault}
use Rattle.booth_audit.specs.declared.journal_fault.JournalFault.TheVariants as wrongs
use Rattle.booth_audit.specs.declared.silent.SilentStart.{SilentStart}
use Rattle.booth_audit.specs.Audit.{AreTrue, AuditSays, HasFault, HasUnsent, HasWrong, IsAudited, IsMembers, IsNoMembers, IsTrue, IsWrong, deeds_by, member_places}
use Rattle.booth_audit.specs.Faults.{AllHearSent, FirstNotKept, FirstUnsent, Heard}
use Rattle.booth_audit.specs.Holdings.{holdings_from}
use Rattle.booth_audit.specs.Judging.{fault_at}
use Rattle.booth_audit.specs.Replay.{Event, Replayed, deeds_of}
use Rattle.booth_audit.specs.Silent.{silent_starts}
use Rattle.booth_audit.specs.Sole.{AuditsHaveOneAnswer}
use Rattle.booth_audit.proofs.FormLemmas.{says_no_fault}
use Rattle.booth_audit.proofs.SoleLemmas.{kept_never, kept_once, one_replay, sent_never, trues_once, unsent_once}

-- ---- one journal

events_of : Replayed → List Event
events_of r = r.events

abbrev Alike : JournalFault → JournalFault → Type 0
Alike f g = (f ≡ g) ⊎ ((f ≡ wrongs.OutOfMemory) ⊎ (g ≡ wrongs.OutOfMemory))

module _ (config : ConfigSays) (ring : Option Ring) (earlier : List (Option ℕ)) (text : List ℕ) where
  no_members : {at : Option ℕ} {said : List Said} → IsNoMembers config earlier text → IsMembers config earlier text at said → ⊥
  no_members {at} {said} wrong is =
      wrong.wrong at
      (subst (λ (l : List Said). IsMembers config earlier text at l) (one_list_said text said wrong.said is.says wrong.says) is)

  true_right : {heard : Heard} → IsTrue config ring earlier text heard → (fault : JournalFault)
      → IsWrong config ring earlier text fault → fault ≡ wrongs.OutOfMemory
  true_right is (wrongs.Line line) wrong = absurd (says_no_fault text is.said line is.members.says wrong)
  true_right is wrongs.Member wrong = absurd (no_members wrong is.members)
  true_right is (wrongs.Differs line) wrong =
      let both : Some line ≡ None = ap (λ (r : Replayed). r.strays)
      (one_replay ring is.members wrong.replays.members is.replayed wrong.replays.replayed) in
      absurd cc
  true_right {heard} is (wrongs.Kept line) wrong =
      absurd
      (kept_never heard.events line is.kept
      (subst (λ (e : List Event). FirstNotKept e line)
      (ap (λ (r : Replayed). r.events) (one_replay ring is.members wrong.replays.members is.replayed wrong.replays.replayed))
      wrong.wrong))
  true_right is wrongs.OutOfMemory wrong = refl

  wrong_once : (f g : JournalFault) → IsWrong config ring earlier text f → IsWrong config ring earlier text g → Alike f g
  wrong_once wrongs.OutOfMemory g one other = inr (inl refl)
  wrong_once (wrongs.Line m) wrongs.OutOfMemory one other = inr (inr refl)
  wrong_once wrongs.Member wrongs.OutOfMemory one other = inr (inr refl)
  wrong_once (wrongs.Differs m) wrongs.OutOfMemory one other = inr (inr refl)
  wrong_once (wrongs.Kept m) wrongs.OutOfMemory one other = inr (inr refl)
  wrong_once (wrongs.Line m) (wrongs.Line n) one other = inl (ap wrongs.Line (one_fault text m n one other))
  wrong_once (wrongs.Line m) wrongs.Member one other = absurd (says_no_fault text other.said m other.says one)
  wrong_once (wrongs.Line m) (wrongs.Differs n) one other =
      absurd (says_no_fault text other.replays.said m other.replays.members.says one)
  wrong_once (wrongs.Line m) (wrongs.Kept n) one other =
      absurd (says_no_fault text other.replays.said m other.replays.members.says one)
  wrong_once wrongs.Member (wrongs.Line n) one other = absurd (says_no_fault text one.said n one.says other)
  wrong_once (wrongs.Differs m) (wrongs.Line n) one other =
      absurd (says_no_fault text one.replays.said n one.replays.members.says other)
  wrong_once (wrongs.Kept m) (wrongs.Line n) one other =
      absurd (says_no_fault text one.replays.said n one.replays.members.says other)
  wrong_once wrongs.Member wrongs.Member one other = inl refl
  wrong_once wrongs.Member (wrongs.Differs n) one other = absurd (no_members one other.replays.members)
  wrong_once wrongs.Member (wrongs.Kept n) one other = absurd (no_members one other.replays.members)
  wrong_once (wrongs.Differs m) wrongs.Member one other = absurd (no_members other one.replays.members)
  wrong_once (wrongs.Kept m) wrongs.Member one other = absurd (no_members other one.replays.members)
  wrong_once (wrongs.Differs m) (wrongs.Differs n) one other =
      let both : Some n ≡ Some m = ap (λ (r : Replayed). r.strays)
      (one_replay ring one.replays.members other.replays.members one.replays.replayed other.replays.replayed) in
      let same : m ≡ n = cc in
      inl (ap wrongs.Differs same)
  wrong_once (wrongs.Differs m) (wrongs.Kept n) one other =
      absurd
      (kept_never one.events n one.kept
      (subst (λ (e : List Event). FirstNotKept e n)
      (ap (λ (r : Replayed). r.events)
      (one_replay ring one.replays.members other.replays.members one.replays.replayed other.replays.replayed)) other.wrong))
  wrong_once (wrongs.Kept m) (wrongs.Differs n) one other =
      absurd
      (kept_never other.events m other.kept
      (subst (λ (e : List Event). FirstNotKept e m)
      (ap (λ (r : Replayed). r.events)
      (one_replay ring other.replays.members one.replays.members other.replays.replayed one.replays.replayed)) one.wrong))
  wrong_once (wrongs.Kept m) (wrongs.Kept n) one other =
      inl
      (ap wrongs.Kept
      (kept_once one.events m n one.wrong
      (subst (λ (e : List Event). FirstNotKept e n)
      (ap (λ (r : Replayed). r.events)
      (one_replay ring one.replays.members other.replays.members one.replays.replayed other.replays.replayed)) other.wrong)))

-- ---- places

all_at : {X : Type 0} (P : X → Type 0) (xs : List X) (i : ℕ) (x : X) → slice_get xs i ≡ Some x → All P xs → P x
all_at P [] i x is all = let no : None ≡ Some x = is in absurd cc
all_at P (y ∷ xs) zero x is all = let both : Some y ≡ Some x = is in let same : y ≡ x = cc in subst P same (All-head P y xs all)
all_at P (y ∷ xs) (suc i) x is all = all_at P xs i x is (All-tail P y xs all)

get_take : {X : Type 0} (xs : List X) (q p : ℕ) → p < q → slice_get (take q xs) p ≡ slice_get xs p
get_take [] zero p below = absurd (omega (arith, below))
get_take [] (suc q) p below = refl
get_take (x ∷ xs) zero p below = absurd (omega (arith, below))
get_take (x ∷ xs) (suc q) zero below = refl
get_take (x ∷ xs) (suc q) (suc p) below = get_take xs q p (omega (arith, below))

take_take : {X : Type 0} (xs : List X) (q p : ℕ) → p ≤ q → take p (take q xs) ≡ take p xs
take_take xs q zero within = refl
take_take [] zero (suc p) within = refl
take_take [] (suc q) (suc p) within = refl
take_take (x ∷ xs) zero (suc p) within = absurd (omega (arith, within))
take_take (x ∷ xs) (suc q) (suc p) within = ap (λ l. x ∷ l) (take_take xs q p (omega (arith, within)))

-- the journal at a place, among true ones
pub record TrueAt (config : ConfigSays) (ring : Option Ring) (earlier : List Heard) (texts : List (List ℕ)) (heard : List Heard)
    (p : ℕ) (text : List ℕ) : Type 0 where
  pub one : Heard
  pub before : AreTrue config ring earlier (take p texts) (take p heard)
  pub is : IsTrue config ring (member_places (earlier ++ take p heard)) text one

true_at : (config : ConfigSays) (ring : Option Ring) (earlier : List Heard) (texts : List (List ℕ)) (heard : List Heard) (p : ℕ)
    (text : List ℕ) → AreTrue config ring earlier texts heard → slice_get texts p ≡ Some text
    → TrueAt config ring earlier texts heard p text
true_at config ring earlier [] [] p text are is = let no : None ≡ Some text = is in absurd cc
true_at config ring earlier [] (one ∷ heard) p text are is = absurd are
true_at config ring earlier (first ∷ texts) [] p text are is = absurd are
true_at config ring earlier (first ∷ texts) (one ∷ heard) zero text are is =
    let both : Some first ≡ Some text = is in
    let same : first ≡ text = cc in
    record {
      one = one;
      before = tt;
      is = subst (λ (l : List Heard). IsTrue config ring (member_places l) text one) (sym (append-nil earlier))
          (subst (λ (t : List ℕ). IsTrue config ring (member_places earlier) t one) same are.0);
    }
true_at config ring earlier (first ∷ texts) (one ∷ heard) (suc p) text are is =
    let there = true_at config ring (earlier ++ one ∷ []) texts heard p text are.1 is in
    record {
      one = there.one;
      before = (are.0, there.before);
      is = subst (λ (l : List Heard). IsTrue config ring (member_places l) text there.one)
          (append_assoc earlier (one ∷ []) (take p heard)) there.is;
    }

module _ (config : ConfigSays) (ring : Option Ring) where
  -- no journal of true ones is wrong
  wrong_never : (texts : List (List ℕ)) (heard : List Heard) (p : ℕ) (fault : JournalFault) → AreTrue config ring [] texts heard
      → HasWrong config ring texts p fault → fault ≡ wrongs.OutOfMemory
  wrong_never texts heard p fault are wrong =
      let there = true_at config ring [] texts heard p wrong.text are wrong.is in
      let same = trues_once config ring [] (take p texts) (take p heard) wrong.earlier there.before wrong.before in
      true_right config ring (member_places wrong.earlier) wrong.text
      (subst (λ (l : List Heard). IsTrue config ring (member_places l) wrong.text there.one) (sym same) there.is) fault wrong.wrong

  earlier_never : (texts : List (List ℕ)) (p q : ℕ) (f g : JournalFault) → p < q → HasWrong config ring texts p f
      → HasWrong config ring texts q g → f ≡ wrongs.OutOfMemory
  earlier_never texts p q f g less one other =
      wrong_never (take q texts) other.earlier p f other.before (record {
        text = one.text;
        is = get_take texts q p less ∙ one.is;
        earlier = one.earlier;
        before = subst (λ (l : List (List ℕ)). AreTrue config ring [] l one.earlier)
            (sym (take_take texts q p (omega (arith, less)))) one.before;
        wrong = one.wrong;
      })

  same_place : (texts : List (List ℕ)) (p : ℕ) (f g : JournalFault) → HasWrong config ring texts p f
      → HasWrong config ring texts p g → Alike f g
  same_place texts p f g one other =
      let both : Some one.text ≡ Some other.text = sym one.is ∙ other.is in
      let same : other.text ≡ one.text = cc in
      let before = trues_once config ring [] (take p texts) one.earlier other.earlier one.before other.before in
      wrong_once config ring (member_places one.earlier) one.text f g one.wrong
      (subst (λ (l : List Heard). IsWrong config ring (member_places l) one.text g) before
      (subst (λ (t : List ℕ). IsWrong config ring (member_places other.earlier) t g) same other.wrong))

-- ---- faults

abbrev IsKind : ConfigSays → Option Ring → List (List ℕ) → AuditFault → Type 0
IsKind config ring texts fault =
    (fault ≡ faults.OutOfMemory)
    ⊎ (((place : ℕ) × (wrong : JournalFault) × (fault ≡ fault_at wrong place) × HasWrong config ring texts place wrong
    × (wrong ≡ wrongs.OutOfMemory → ⊥))
    ⊎ ((place : ℕ) × (line : ℕ) × (fault ≡ faults.Unsent place line) × HasUnsent config ring texts place line))

kind : (config : ConfigSays) (ring : Option Ring) (texts : List (List ℕ)) (fault : AuditFault) → HasFault config ring texts fault
    → IsKind config ring texts fault
kind config ring texts (faults.Line place line) has =
    inr (inl (place, wrongs.Line line, refl, has, (λ no. let never : wrongs.Line line ≡ wrongs.OutOfMemory = no in absurd cc)))
kind config ring texts (faults.Member place) has =
    inr (inl (place, wrongs.Member, refl, has, (λ no. let never : wrongs.Member ≡ wrongs.OutOfMemory = no in absurd cc)))
kind config ring texts (faults.Differs place line) has =
    inr (inl (place, wrongs.Differs line, refl, has, (λ no. let never : wrongs.Differs line ≡ wrongs.OutOfMemory = no in absurd cc)))
kind config ring texts (faults.Kept place line) has =
    inr (inl (place, wrongs.Kept line, refl, has, (λ no. let never : wrongs.Kept line ≡ wrongs.OutOfMemory = no in absurd cc)))
kind config ring texts (faults.Unsent place line) has = inr (inr (place, line, refl, has))
kind config ring texts faults.OutOfMemory has = inl refl

which : (p q : ℕ) → (p < q) ⊎ ((q < p) ⊎ (p ≡ q))
which zero zero = inr (inr refl)
which zero (suc q) = inl (omega arith)
which (suc p) zero = inr (inl (omega arith))
which (suc p) (suc q) = by (which p q)
  where
    by : (p < q) ⊎ ((q < p) ⊎ (p ≡ q)) → (suc p < suc q) ⊎ ((suc q < suc p) ⊎ (suc p ≡ suc q))
    by (inl less) = inl (omega (arith, less))
    by (inr (inl more)) = inr (inl (omega (arith, more)))
    by (inr (inr same)) = inr (inr (ap suc same))

module _ (config : ConfigSays) (ring : Option Ring) (texts : List (List ℕ)) where
  heard_once : (one other : List Heard) → AreTrue config ring [] texts one → AreTrue config ring [] texts other → other ≡ one
  heard_once one other are then_are = trues_once config ring [] texts one other are then_are

  wrongs_once : (p q : ℕ) (f g : JournalFault) → HasWrong config ring texts p f → HasWrong config ring texts q g
      → (f ≡ wrongs.OutOfMemory → ⊥) → (g ≡ wrongs.OutOfMemory → ⊥) → fault_at f p ≡ fault_at g q
  wrongs_once p q f g one other some then_some = by (which p q)
    where
      same : p ≡ q → Alike f g → fault_at f p ≡ fault_at g q
      same place (inl fault) = ap (λ (x : JournalFault). fault_at x p) fault ∙ ap (λ (n : ℕ). fault_at g n) place
      same place (inr (inl none)) = absurd (some none)
      same place (inr (inr none)) = absurd (then_some none)

      by : (p < q) ⊎ ((q < p) ⊎ (p ≡ q)) → fault_at f p ≡ fault_at g q
      by (inl less) = absurd (some (earlier_never config ring texts p q f g less one other))
      by (inr (inl more)) = absurd (then_some (earlier_never config ring texts q p g f more other one))
      by (inr (inr place)) =
          same place (same_place config ring texts q f g (subst (λ (n : ℕ). HasWrong config ring texts n f) place one) other)

  abbrev HearsAll : List Heard → Heard → Type 0
  HearsAll heard one = AllHearSent heard [] (deeds_of one.events)

  -- a message was not sent, and all that is heard before a place was
  unsent_before : (heard : List Heard) (p q : ℕ) (one : Heard) (line : ℕ) → p < q → slice_get heard p ≡ Some one
      → FirstUnsent heard one.events line → All (HearsAll heard) (take q heard) → ⊥
  unsent_before heard p q one line less is wrong all =
      sent_never heard one.events line (all_at (HearsAll heard) (take q heard) p one (get_take heard q p less ∙ is) all) wrong

  unsents_once : (p q m n : ℕ) → HasUnsent config ring texts p m → HasUnsent config ring texts q n
      → faults.Unsent p m ≡ faults.Unsent q n
  unsents_once p q m n first second = by (which p q)
    where
      heard : second.heard ≡ first.heard
      heard = heard_once first.heard second.heard first.each second.each

      second_is : slice_get first.heard q ≡ Some second.one
      second_is = ap (λ (l : List Heard). slice_get l q) (sym heard) ∙ second.is

      second_before : All (HearsAll first.heard) (take q first.heard)
      second_before = subst (λ (l : List Heard). All (HearsAll l) (take q l)) heard second.before

      second_wrong : FirstUnsent first.heard second.one.events n
      second_wrong = subst (λ (l : List Heard). FirstUnsent l second.one.events n) heard second.wrong

      by : (p < q) ⊎ ((q < p) ⊎ (p ≡ q)) → faults.Unsent p m ≡ faults.Unsent q n
      by (inl less) = absurd (unsent_before first.heard p q first.one m less first.is first.wrong second_before)
      by (inr (inl more)) = absurd (unsent_before first.heard q p second.one n more second_is second_wrong first.before)
      by (inr (inr place)) =
          let both : Some second.one ≡ Some first.one =
          sym second_is ∙ ap (λ (k : ℕ). slice_get first.heard k) (sym place) ∙ first.is in
          let same : second.one ≡ first.one = cc in
          ap (λ (k : ℕ). faults.Unsent k m) place
          ∙ ap (faults.Unsent q)
          (unsent_once first.heard first.one.events m n first.wrong
          (subst (λ (h : Heard). FirstUnsent first.heard h.events n) same second_wrong))

-- what is reported follows from who did what
abbrev says_of : ConfigSays → List Heard → AuditSays
says_of config heard = record {
  holdings = holdings_from (map deeds_by heard) 0 config.tickets;
  silent = silent_starts 0 heard;
}

says_so : (config : ConfigSays) (ring : Option Ring) (texts : List (List ℕ)) (says : AuditSays)
    (audited : IsAudited config ring texts says) → says ≡ says_of config audited.heard
says_so config ring texts says audited =
    ap (λ (h : List Holding). record { holdings = h; silent = says.silent }) audited.held
    ∙ ap (λ (s : List SilentStart). record {
      holdings = holdings_from (map deeds_by audited.heard) 0 config.tickets;
      silent = s;
    }) audited.silent

pub audits_have_one_answer : AuditsHaveOneAnswer
audits_have_one_answer config ring texts = record {
  none = λ says fault audited has. none says fault audited (kind config ring texts fault has);
  says = λ one other audited then_audited.
      says_so config ring texts one audited
      ∙ ap (says_of config)
      (sym (heard_once config ring texts audited.heard then_audited.heard audited.each then_audited.each))
      ∙ sym (says_so config ring texts other then_audited);
  fault = λ one other has then_has. both one other (kind config ring texts one has) (kind config ring texts other then_has);
}
  where
    none : (says : AuditSays) (fault : AuditFault) → IsAudited config ring texts says → IsKind config ring texts fault
        → fault ≡ faults.OutOfMemory
    none says fault audited (inl is) = is
    none says fault audited (inr (inl wrong)) =
        absurd (wrong.4 (wrong_never config ring texts audited.heard wrong.0 wrong.1 audited.each wrong.3))
    none says fault audited (inr (inr unsent)) =
        let u = unsent.3 in
        let same = heard_once config ring texts u.heard audited.heard u.each audited.each in
        absurd
        (sent_never u.heard u.one.events unsent.1
        (all_at (HearsAll config ring texts u.heard) u.heard unsent.0 u.one u.is
        (subst (λ (l : List Heard). All (HearsAll config ring texts l) l) same audited.sent)) u.wrong)

    both : (one other : AuditFault) → IsKind config ring texts one → IsKind config ring texts other
        → (one ≡ other) ⊎ ((one ≡ faults.OutOfMemory) ⊎ (other ≡ faults.OutOfMemory))
    both one other (inl is) then_has = inr (inl is)
    both one other (inr has) (inl is) = inr (inr is)
    both one other (inr (inl wrong)) (inr (inl second)) =
        inl
        (wrong.2 ∙ wrongs_once config ring texts wrong.0 second.0 wrong.1 second.1 wrong.3 second.3 wrong.4 second.4
        ∙ sym second.2)
    both one other (inr (inl wrong)) (inr (inr unsent)) =
        absurd (wrong.4 (wrong_never config ring texts unsent.3.heard wrong.0 wrong.1 unsent.3.each wrong.3))
    both one other (inr (inr unsent)) (inr (inl wrong)) =
        absurd (wrong.4 (wrong_never config ring texts unsent.3.heard wrong.0 wrong.1 unsent.3.each wrong.3))
    both one other (inr (inr unsent)) (inr (inr second)) =
        inl (unsent.2 ∙ unsents_once config ring texts unsent.0 second.0 unsent.1 second.1 unsent.3 second.3 ∙ sym second.2)
