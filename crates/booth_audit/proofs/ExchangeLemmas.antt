-- What is told of exchanges is what their journals have.
use Rattle.std.specs.Prelude.{◌<◌, length, slice_get, Option, None, Some, Ok, Err}
use Rattle.std.specs.List.{All, AllByRecursion}
use Rattle.std.proofs.Common.{◌≡◌, ◌+◌, ◌≤◌, ℕ, zero, suc, List, [], ◌∷◌, ◌++◌, take, get_or, refl, sym, ◌∙◌, ap, subst, arith, append-nil}
use Rattle.std.proofs.lemmas.List.{drop_all, take-append-drop, take_more}
use Rattle.std.proofs.lemmas.List.Elements.{All-from_recursion, All-push, recursion_from_All}
use Rattle.booth_journal.specs.declared.audit_fault.AuditFault.TheVariants as faults
use Rattle.booth_audit.specs.declared.exchanges.Exchange.{Exchange}
use Rattle.booth_audit.specs.declared.hearings.Hears.{Hears}
use Rattle.booth_audit.specs.Exchanges.{AllTell, ExchangesTell, HeardWell, HearsAll, IsFirstIn, Tells, sender_in, senders_in}
use Rattle.booth_audit.specs.Faults.{FirstUnsent, Heard}
use Rattle.booth_audit.specs.Sends.{IsFirstUnsent, IsFound, IsHeardOf, KnowsAll, Sender, sender_of, senders_of}
use Rattle.booth_audit.proofs.SendsLemmas.{unsent_is_found}

-- ---- loops

senders_both : (some more : List Exchange) → senders_in (some ++ more) ≡ senders_in some ++ senders_in more
senders_both [] more = refl
senders_both (exchange ∷ some) more = ap (λ (s : List Sender). sender_in exchange ∷ s) (senders_both some more)

pub senders_more : (frames : List (List ℕ)) (exchanges : List Exchange) (i : ℕ) (one : Exchange) → i < length exchanges
    → one ≡ get_or exchanges i one → KnowsAll frames (senders_in (take i exchanges) ++ sender_in one ∷ [])
    → KnowsAll frames (senders_in (take (i + 1) exchanges))
senders_more frames exchanges i one below is knows =
    let whole : take (i + 1) exchanges ≡ take i exchanges ++ one ∷ [] =
    take_more exchanges i one below ∙ ap (λ (e : Exchange). take i exchanges ++ e ∷ []) (sym is) in
    subst (KnowsAll frames) (sym (ap senders_in whole ∙ senders_both (take i exchanges) (one ∷ []))) knows

taken_all : {A : Type 0} (xs : List A) (i : ℕ) → length xs ≤ i → take i xs ≡ xs
taken_all xs i over =
    sym (append-nil (take i xs)) ∙ ap (λ rest. take i xs ++ rest) (sym (drop_all i xs over)) ∙ take-append-drop i xs

pub senders_all : (frames : List (List ℕ)) (exchanges : List Exchange) (i : ℕ) → length exchanges ≤ i
    → KnowsAll frames (senders_in (take i exchanges)) → KnowsAll frames (senders_in exchanges)
senders_all frames exchanges i over knows =
    subst (λ (es : List Exchange). KnowsAll frames (senders_in es)) (taken_all exchanges i over) knows

found_at : {A : Type 0} (xs : List A) (i : ℕ) (x : A) → i < length xs → x ≡ get_or xs i x → slice_get xs i ≡ Some x
found_at [] i x below is = let none : i < 0 = below in absurd (omega (arith, none))
found_at (first ∷ xs) zero x below is = ap Some (sym is)
found_at (first ∷ xs) (suc i) x below is = found_at xs i x (omega (arith, below)) is

module _ (senders : List Sender) (exchanges : List Exchange) (i : ℕ) (one : Exchange) (below : i < length exchanges)
    (is : one ≡ get_or exchanges i one) (well : All (HeardWell senders) (take i exchanges)) where
  pub first_in : (line : ℕ) → IsFirstUnsent senders one.heard.now line → IsFirstIn senders exchanges i line
  first_in line wrong = record { exchange = one; is = found_at exchanges i one below is; earlier = well; wrong = wrong }

  pub well_more : HeardWell senders one → All (HeardWell senders) (take (i + 1) exchanges)
  well_more heard =
      let whole : take (i + 1) exchanges ≡ take i exchanges ++ one ∷ [] =
      take_more exchanges i one below ∙ ap (λ (e : Exchange). take i exchanges ++ e ∷ []) (sym is) in
      subst (All (HeardWell senders)) (sym whole) (All-push (HeardWell senders) (take i exchanges) one well heard)

pub well_all : (senders : List Sender) (exchanges : List Exchange) (i : ℕ) → length exchanges ≤ i
    → All (HeardWell senders) (take i exchanges) → All (HeardWell senders) exchanges
well_all senders exchanges i over well = subst (All (HeardWell senders)) (taken_all exchanges i over) well

pub none_unsent : (senders : List Sender) (heard : List Hears) (found : Option ℕ) → found ≡ None
    → IsFound senders heard found → All (λ (hears : Hears). IsHeardOf senders hears.bytes) heard
none_unsent senders heard found none so = subst (IsFound senders heard) none so

-- ---- journals

same_sender : (one : Heard) (exchange : Exchange) → Tells one exchange → sender_in exchange ≡ sender_of one
same_sender one exchange tells = λ i. record { id = tells.same_id i; sent = tells.sent i }

same_senders : (all : List Heard) (exchanges : List Exchange) → AllTell all exchanges → senders_in exchanges ≡ senders_of all
same_senders [] [] tell = refl
same_senders [] (exchange ∷ exchanges) tell = absurd tell
same_senders (one ∷ all) [] tell = absurd tell
same_senders (one ∷ all) (exchange ∷ exchanges) tell =
    let first = same_sender one exchange tell.0 in
    let rest = same_senders all exchanges tell.1 in
    λ i. first i ∷ rest i

module _ (all : List Heard) where
  one_well : (one : Heard) (exchange : Exchange) → Tells one exchange → HeardWell (senders_of all) exchange → HearsAll all one
  one_well one exchange tells well =
      unsent_is_found tells.member one.events all None tells.sessions tells.own tells.counted
      (subst (λ (heard : List Hears). IsFound (senders_of all) heard None) tells.heard well)

  one_wrong : (one : Heard) (exchange : Exchange) (line : ℕ) → Tells one exchange
      → IsFirstUnsent (senders_of all) exchange.heard.now line → FirstUnsent all one.events line
  one_wrong one exchange line tells wrong =
      unsent_is_found tells.member one.events all (Some line) tells.sessions tells.own tells.counted
      (subst (λ (heard : List Hears). IsFound (senders_of all) heard (Some line)) tells.heard wrong)

  all_well : (some : List Heard) (exchanges : List Exchange) → AllTell some exchanges
      → AllByRecursion (HeardWell (senders_of all)) exchanges → AllByRecursion (HearsAll all) some
  all_well [] [] tell well = tt
  all_well [] (exchange ∷ exchanges) tell well = absurd tell
  all_well (one ∷ some) [] tell well = absurd tell
  all_well (one ∷ some) (exchange ∷ exchanges) tell well =
      (one_well one exchange tell.0 well.0, all_well some exchanges tell.1 well.1)

  all_sent : (some : List Heard) (exchanges : List Exchange) → AllTell some exchanges
      → All (HeardWell (senders_of all)) exchanges → All (HearsAll all) some
  all_sent some exchanges tell well =
      All-from_recursion (HearsAll all) some
      (all_well some exchanges tell (recursion_from_All (HeardWell (senders_of all)) exchanges well))

-- the journal of an exchange, and those before it
record Stands (all : List Heard) (exchanges : List Exchange) (place : ℕ) (exchange : Exchange) : Type 0 where
  pub one : Heard
  pub is : slice_get all place ≡ Some one
  pub tells : Tells one exchange
  pub before : AllTell (take place all) (take place exchanges)

stands_at : (all : List Heard) (exchanges : List Exchange) (place : ℕ) (exchange : Exchange) → AllTell all exchanges
    → slice_get exchanges place ≡ Some exchange → Stands all exchanges place exchange
stands_at [] [] place exchange tell is = let none : None ≡ Some exchange = is in absurd cc
stands_at [] (first ∷ exchanges) place exchange tell is = absurd tell
stands_at (one ∷ all) [] place exchange tell is = absurd tell
stands_at (one ∷ all) (first ∷ exchanges) zero exchange tell is =
    let both : Some first ≡ Some exchange = is in
    let same : first ≡ exchange = cc in
    record { one = one; is = refl; tells = subst (Tells one) same tell.0; before = tt }
stands_at (one ∷ all) (first ∷ exchanges) (suc place) exchange tell is =
    let more = stands_at all exchanges place exchange tell.1 is in
    record { one = more.one; is = more.is; tells = more.tells; before = (tell.0, more.before) }

pub exchanges_tell : ExchangesTell
exchanges_tell all exchanges (Ok done) tell so =
    all_sent all all exchanges tell
    (subst (λ (senders : List Sender). All (HeardWell senders) exchanges) (same_senders all exchanges tell) so)
exchanges_tell all exchanges (Err (faults.Unsent place line)) tell so =
    let first =
    subst (λ (senders : List Sender). IsFirstIn senders exchanges place line) (same_senders all exchanges tell) so in
    let stands = stands_at all exchanges place first.exchange tell first.is in
    record {
      one = stands.one;
      is = stands.is;
      before = all_sent all (take place all) (take place exchanges) stands.before first.earlier;
      wrong = one_wrong all stands.one first.exchange line stands.tells first.wrong;
    }
exchanges_tell all exchanges (Err faults.OutOfMemory) tell so = tt
exchanges_tell all exchanges (Err (faults.Line place line)) tell so = absurd so
exchanges_tell all exchanges (Err (faults.Member place)) tell so = absurd so
exchanges_tell all exchanges (Err (faults.Differs place line)) tell so = absurd so
exchanges_tell all exchanges (Err (faults.Kept place line)) tell so = absurd so
