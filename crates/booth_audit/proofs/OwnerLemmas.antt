-- Whose starts the calls of a journal are, call by call.
use Rattle.std.specs.Prelude.{length, map, codes, bytes_eq, Bool, true, false, not, ◌&&◌, Option, None, Some, Result, Ok, Err, option_map, if◌then◌else◌}
use Rattle.std.specs.List.{All}
use Rattle.std.proofs.lemmas.List.Elements.{All-append, All-cons, All-head, All-nil, All-tail}
use Rattle.std.proofs.Common.{◌≡◌, ◌≤◌, ◌<◌, ◌+◌, inl, inr, ◌⊎◌, ℕ, suc, List, [], ◌∷◌, ◌++◌, append_assoc, append-nil, refl, sym, ◌∙◌, ap, subst, arith}
use Rattle.booth_base.specs.declared.address.Address.{Address}
use Rattle.booth_conf.specs.declared.members.Member.{Member}
use Rattle.booth_conf.specs.declared.tickets.TicketConf.{TicketConf}
use Rattle.booth_journal.specs.declared.said.Answer.{Answer}
use Rattle.booth_journal.specs.declared.said.Answer.TheVariants as answers
use Rattle.booth_journal.specs.declared.said.Call.{Call}
use Rattle.booth_journal.specs.declared.said.Call.TheVariants as calls
use Rattle.booth_journal.specs.Lines.{answer_text, call_text}
use Rattle.booth_journal.specs.Looking.{IsFirstCall, is_open}
use Rattle.booth_journal.specs.Reading.{IsCall, SpellsCall}
use Rattle.booth_journal.specs.Says.{AreWhole, Said, Says, answer_lines}
use Rattle.booth_journal.proofs.OneLemmas.{one_call}
use Rattle.booth_node.specs.declared.node_config.NodeConfig.{NodeConfig}
use Rattle.booth_node.specs.Jobs.{own_address}
use Rattle.booth_audit.specs.declared.owners.OwnerFault.{OwnerFault}
use Rattle.booth_audit.specs.declared.owners.OwnerFault.TheVariants.{NotOne, OutOfMemory}
use Rattle.booth_audit.specs.Demand.{is_call}
use Rattle.booth_audit.specs.Faults.{AreOf, IsOf, opened_by, opened_in, place_of}
use Rattle.booth_audit.specs.Owners.{HasPlace, IsNextOwner, IsOneOwner, IsOwner, lines_of}
use Rattle.booth_audit.specs.Replay.{Idle, Passes, Place, Starting, Step, Strays, answered, begun, by_step, follows, line_behind, replay, replayed, start_calls, stepped}

-- ---- one call

closed_none : (call : Call) → is_open call ≡ false → opened_by call ≡ []
closed_none calls.Now is = refl
closed_none (calls.Open local) is = let no : true ≡ false = is in absurd cc
closed_none calls.Next is = refl
closed_none (calls.Send to bytes) is = refl
closed_none (calls.Kept ticket) is = refl
closed_none (calls.Keep ticket kept) is = refl
closed_none (calls.Job number ticket expires) is = refl

-- a call that opens no socket has no place
pub place_none : (members : List Member) {call : List ℕ} (opens : Bool) → true ≡ not opens
    → ((c : Call) → call ≡ call_text c → opens ≡ is_open c) → (said : Call) → call ≡ call_text said
    → HasPlace members said (Ok None)
place_none members true not_open is said text = let no : true ≡ false = not_open in absurd cc
place_none members false not_open is said text = closed_none said (sym (is said text))

opens_so : {call : List ℕ} {local : Option Address} → SpellsCall call (calls.Open local) → (said : Call) → IsCall said
    → call ≡ call_text said → opened_by said ≡ local ∷ []
opens_so {call} {local} spells said may text = ap opened_by (one_call call said (calls.Open local) (may, text) spells)

-- one that opens a socket has the place of the member that listens there
pub place_some : (members : List Member) (local : Option Address) {call : List ℕ} {place : ℕ} → SpellsCall call (calls.Open local) → Some place ≡ place_of members local → (said : Call) → IsCall said
    → call ≡ call_text said → HasPlace members said (Ok (Some place))
place_some members local spells is said may text = (local, opens_so spells said may text, sym is)

pub place_wrong : (members : List Member) (local : Option Address) {call : List ℕ} → SpellsCall call (calls.Open local)
    → None ≡ place_of members local → (said : Call) → IsCall said → call ≡ call_text said
    → HasPlace members said (Err NotOne)
place_wrong members local spells is said may text = (local, opens_so spells said may text, sym is)

-- ---- one owner

pub owner_first : {owner : Option ℕ} (place : ℕ) → owner ≡ None → IsOneOwner owner place (Ok (Some place))
owner_first place none = (refl, inl none)

pub owner_same : {owner : Option ℕ} {earlier place : ℕ} → owner ≡ Some earlier → earlier ≡ place
    → IsOneOwner owner place (Ok owner)
owner_same some same = let is = some ∙ ap Some same in (is, inr is)

pub owner_other : {owner : Option ℕ} {earlier place : ℕ} → owner ≡ Some earlier → (earlier ≡ place → ⊥)
    → IsOneOwner owner place (Err NotOne)
owner_other {earlier = earlier} some other = (earlier, some, other)

pub next_by : (members : List Member) (owner : Option ℕ) (call : Call) {place : ℕ} (result : Result (Option ℕ) OwnerFault)
    → HasPlace members call (Ok (Some place)) → IsOneOwner owner place result → IsNextOwner members owner call result
next_by members owner call {place} (Ok after) has one = inr (place, has, one)
next_by members owner call {place} (Err fault) has one = inr (place, has, one)

-- ---- the calls so far

opened_then : (one other : List Said) → opened_in (one ++ other) ≡ opened_in one ++ opened_in other
opened_then [] other = refl
opened_then (said ∷ one) other =
    ap (λ (l : List (Option Address)). opened_by said.call ++ l) (opened_then one other)
    ∙ sym (append_assoc (opened_by said.call) (opened_in one) (opened_in other))

all_left : {X : Type 0} (P : X → Type 0) (one other : List X) → All P (one ++ other) → All P one
all_left P [] other all = All-nil P
all_left P (x ∷ one) other all =
    All-cons P x one (All-head P x (one ++ other) all) (all_left P one other (All-tail P x (one ++ other) all))

all_right : {X : Type 0} (P : X → Type 0) (one other : List X) → All P (one ++ other) → All P other
all_right P [] other all = all
all_right P (x ∷ one) other all = all_right P one other (All-tail P x (one ++ other) all)

-- the place of a start's address
abbrev IsAt : List Member → ℕ → Option Address → Type 0
IsAt members place local = place_of members local ≡ Some place

-- Of the calls of a text the first ones are those of this owner, and these bytes are left.
pub record IsSeen (members : List Member) (owner : Option ℕ) (rest : List ℕ) (all : List Said) : Type 0 where
  pub seen : List Said
  pub left : List Said
  pub whole : all ≡ seen ++ left
  pub says : Says rest left
  pub owned : IsOf members seen owner

pub seen_none : (members : List Member) (text : List ℕ) (all : List Said) → Says text all → IsSeen members None text all
seen_none members text all says = record { seen = []; left = all; whole = refl; says = says; owned = refl }

pub seen_all : {members : List Member} {owner : Option ℕ} {rest : List ℕ} {all : List Said}
    (is : IsSeen members owner rest all) → is.left ≡ [] → IsOwner members all (Ok owner)
seen_all {members} {owner} is none =
    subst (λ (l : List Said). IsOf members l owner)
    (sym (is.whole ∙ ap (λ (l : List Said). is.seen ++ l) none ∙ append-nil is.seen)) is.owned

some_there : (l : List (Option Address)) (local : Option Address) (more : List (Option Address)) → l ++ local ∷ more ≡ [] → ⊥
some_there [] local more none = let no : local ∷ more ≡ [] = none in absurd cc
some_there (x ∷ l) local more none = let no : x ∷ (l ++ local ∷ more) ≡ [] = none in absurd cc

one_more : (members : List Member) (owner : Option ℕ) (place : ℕ) (l : List (Option Address)) (local : Option Address)
    → AreOf members l owner → place_of members local ≡ Some place → (owner ≡ None) ⊎ (owner ≡ Some place)
    → AreOf members (l ++ local ∷ []) (Some place)
one_more members None place l local are here how = (
  some_there l local [],
  subst (λ (o : List (Option Address)). All (IsAt members place) (o ++ local ∷ [])) (sym are)
      (All-cons (IsAt members place) local [] here (All-nil (IsAt members place))),
)
one_more members (Some earlier) place l local are here (inl none) = let no : Some earlier ≡ None = none in absurd cc
one_more members (Some earlier) place l local are here (inr some) =
    let same : earlier ≡ place = cc in (
      some_there l local [],
      All-append (IsAt members place) l (local ∷ [])
          (subst (λ (n : ℕ). All (IsAt members n) l) same are.1)
          (All-cons (IsAt members place) local [] here (All-nil (IsAt members place))),
    )

module _ {members : List Member} {owner : Option ℕ} {rest : List ℕ} {all : List Said} {call : List ℕ}
    {answer : Option (List ℕ)} {behind : List ℕ} (is : IsSeen members owner rest all)
    (f : IsFirstCall rest is.left call answer behind) where
  pub call_may : IsCall f.said.call
  call_may = let each : AreWhole (f.said ∷ f.more) = subst AreWhole f.is is.says.each in each.0

  opened_now : opened_in (is.seen ++ f.said ∷ []) ≡ opened_in is.seen ++ opened_by f.said.call
  opened_now =
      opened_then is.seen (f.said ∷ [])
      ∙ ap (λ (l : List (Option Address)). opened_in is.seen ++ l) (append-nil (opened_by f.said.call))

  seen_more : (after : Option ℕ) → AreOf members (opened_in is.seen ++ opened_by f.said.call) after
      → IsSeen members after behind all
  seen_more after are = record {
    seen = is.seen ++ f.said ∷ [];
    left = f.more;
    whole = is.whole ∙ ap (λ (l : List Said). is.seen ++ l) f.is ∙ sym (append_assoc is.seen (f.said ∷ []) f.more);
    says = f.says;
    owned = subst (λ (l : List (Option Address)). AreOf members l after) (sym opened_now) are;
  }

  -- a call that opens no socket
  pub seen_on : HasPlace members f.said.call (Ok None) → IsSeen members owner behind all
  seen_on none =
      seen_more owner
      (subst (λ (l : List (Option Address)). AreOf members l owner)
      (sym (ap (λ (l : List (Option Address)). opened_in is.seen ++ l) none ∙ append-nil (opened_in is.seen))) is.owned)

  -- a start of the same owner
  pub seen_start : {place : ℕ} {after : Option ℕ} → HasPlace members f.said.call (Ok (Some place))
      → IsOneOwner owner place (Ok after) → IsSeen members after behind all
  seen_start {place} {after} has one =
      subst (λ (o : Option ℕ). IsSeen members o behind all) (sym one.0)
      (seen_more (Some place)
      (subst (λ (l : List (Option Address)). AreOf members (opened_in is.seen ++ l) (Some place)) (sym has.1)
      (one_more members owner place (opened_in is.seen) has.0 is.owned has.2 one.1)))

  all_opened : opened_in all ≡ opened_in is.seen ++ (opened_by f.said.call ++ opened_in f.more)
  all_opened =
      ap opened_in (is.whole ∙ ap (λ (l : List Said). is.seen ++ l) f.is)
      ∙ opened_then is.seen (f.said ∷ f.more)

  -- the address of a start, among all
  opened_here : (local : Option Address) → opened_by f.said.call ≡ local ∷ []
      → opened_in all ≡ opened_in is.seen ++ local ∷ opened_in f.more
  opened_here local by =
      all_opened ∙ ap (λ (l : List (Option Address)). opened_in is.seen ++ (l ++ opened_in f.more)) by

  -- the starts so far, this one, and those behind it, where all are of one owner
  all_of : (o : Option ℕ) (local : Option Address) → opened_by f.said.call ≡ local ∷ [] → IsOf members all o
      → AreOf members (opened_in is.seen ++ local ∷ opened_in f.more) o
  all_of o local by are = subst (λ (l : List (Option Address)). AreOf members l o) (opened_here local by) are

  never_nowhere : (o : Option ℕ) (local : Option Address) → place_of members local ≡ None
      → AreOf members (opened_in is.seen ++ local ∷ opened_in f.more) o → ⊥
  never_nowhere None local nowhere none = some_there (opened_in is.seen) local (opened_in f.more) none
  never_nowhere (Some place) local nowhere some =
      let behind = all_right (IsAt members place) (opened_in is.seen) (local ∷ opened_in f.more) some.1 in
      let here = All-head (IsAt members place) local (opened_in f.more) behind in
      let both : None ≡ Some place = sym nowhere ∙ here in absurd cc

  -- an address that is no member's
  pub never_by_place : (fault : OwnerFault) → HasPlace members f.said.call (Err fault) → IsOwner members all (Err fault)
  never_by_place OutOfMemory has = tt
  never_by_place NotOne has = λ o are. never_nowhere o has.0 has.2 (all_of o has.0 has.1 are)

  one_place : (earlier place : ℕ) (l : List (Option Address)) → (l ≡ [] → ⊥) → All (IsAt members earlier) l
      → All (IsAt members place) l → earlier ≡ place
  one_place earlier place [] some all_earlier all_here = absurd (some refl)
  one_place earlier place (x ∷ l) some all_earlier all_here =
      let both : Some earlier ≡ Some place =
      sym (All-head (IsAt members earlier) x l all_earlier) ∙ All-head (IsAt members place) x l all_here in
      cc

  never_two : (o : Option ℕ) (earlier place : ℕ) (local : Option Address) → owner ≡ Some earlier → (earlier ≡ place → ⊥)
      → place_of members local ≡ Some place → AreOf members (opened_in is.seen ++ local ∷ opened_in f.more) o → ⊥
  never_two None earlier place local some other at none =
      some_there (opened_in is.seen) local (opened_in f.more) none
  never_two (Some p) earlier place local some other at all_some =
      let before = subst (λ (o : Option ℕ). AreOf members (opened_in is.seen) o) some is.owned in
      let there = all_left (IsAt members p) (opened_in is.seen) (local ∷ opened_in f.more) all_some.1 in
      let behind = all_right (IsAt members p) (opened_in is.seen) (local ∷ opened_in f.more) all_some.1 in
      let here = All-head (IsAt members p) local (opened_in f.more) behind in
      let both : Some place ≡ Some p = sym at ∙ here in
      let first : earlier ≡ p = one_place earlier p (opened_in is.seen) before.0 before.1 there in
      let later : place ≡ p = cc in
      other (first ∙ sym later)

  -- an address of another member than the starts before it
  pub never_by_owner : {place : ℕ} (fault : OwnerFault) → HasPlace members f.said.call (Ok (Some place))
      → IsOneOwner owner place (Err fault) → IsOwner members all (Err fault)
  never_by_owner OutOfMemory has one = tt
  never_by_owner {place} NotOne has one = λ o are.
      never_two o one.0 place has.0 one.1 one.2 has.2 (all_of o has.0 has.1 are)

  -- one more call
  pub seen_next : {after : Option ℕ} → IsNextOwner members owner f.said.call (Ok after) → IsSeen members after behind all
  seen_next (inl none) = subst (λ (o : Option ℕ). IsSeen members o behind all) (sym none.1) (seen_on none.0)
  seen_next (inr some) = seen_start some.1 some.2

  pub never_next : (fault : OwnerFault) → IsNextOwner members owner f.said.call (Err fault) → IsOwner members all (Err fault)
  never_next fault (inl wrong) = never_by_place fault wrong
  never_next fault (inr other) = never_by_owner fault other.1 other.2

pub seen_shorter : {rest : List ℕ} {left : List Said} {call : List ℕ} {answer : Option (List ℕ)} {behind : List ℕ}
    → IsFirstCall rest left call answer behind → length behind < length rest
seen_shorter f = let long = f.shorter in omega (arith, long)

-- ---- the journal of nobody

-- no session goes on, and no call of a start but its reading was made
abbrev pub IsEarly : NodeConfig → Place → Type 0
IsEarly node place = (place ≡ Idle) ⊎ ((reading : ℕ) × (place ≡ Starting reading [] (start_calls node)))

early_by : (node : NodeConfig) (answer : Option Answer) → (after : Place) × (begun node answer ≡ Passes after) × IsEarly node after
early_by node None = (Idle, refl, inl refl)
early_by node (Some (answers.Reading reading)) =
    (Starting reading [] (start_calls node), refl, inr (reading, refl))
early_by node (Some answers.Done) = (Idle, refl, inl refl)
early_by node (Some answers.Fails) = (Idle, refl, inl refl)
early_by node (Some answers.Quiet) = (Idle, refl, inl refl)
early_by node (Some answers.Stop) = (Idle, refl, inl refl)
early_by node (Some (answers.Ended job status)) = (Idle, refl, inl refl)
early_by node (Some (answers.Data from bytes)) = (Idle, refl, inl refl)
early_by node (Some answers.Absent) = (Idle, refl, inl refl)
early_by node (Some (answers.Found kept)) = (Idle, refl, inl refl)

-- the first call of a start opens its socket
closed_other : (local : Option Address) (call : Call) → opened_by call ≡ [] → is_call (calls.Open local) call ≡ false
closed_other local calls.Now none = refl
closed_other local (calls.Open other) none = let no : other ∷ [] ≡ [] = none in absurd cc
closed_other local calls.Next none = refl
closed_other local (calls.Send to bytes) none = refl
closed_other local (calls.Kept ticket) none = refl
closed_other local (calls.Keep ticket kept) none = refl
closed_other local (calls.Job number ticket expires) none = refl

-- Up to this line nothing was done by nobody: these bytes are left.
pub record IsIdleSo (node : NodeConfig) (text : List ℕ) (all : List Said) (rest : List ℕ) (line : ℕ) : Type 0 where
  pub place : Place
  pub early : IsEarly node place
  pub left : List Said
  pub says : Says rest left
  pub closed : opened_in left ≡ []
  pub is : replay node all ≡ replayed node place line left
  pub within : line + length rest ≤ 1 + length text

pub nobody_none : (node : NodeConfig) (text : List ℕ) (all : List Said) → Says text all → opened_in all ≡ []
    → IsIdleSo node text all text 1
nobody_none node text all says closed = record {
  place = Idle;
  early = inl refl;
  left = all;
  says = says;
  closed = closed;
  is = refl;
  within = omega arith;
}

pub nobody_all : {node : NodeConfig} {text rest : List ℕ} {all : List Said} {line : ℕ}
    (is : IsIdleSo node text all rest line) → is.left ≡ [] → replay node all ≡ record { events = []; strays = None }
nobody_all {node} {line = line} is none = is.is ∙ ap (λ (l : List Said). replayed node is.place line l) none

module _ {node : NodeConfig} {text rest : List ℕ} {all : List Said} {line : ℕ} {call : List ℕ} {answer : Option (List ℕ)}
    {behind : List ℕ} (is : IsIdleSo node text all rest line) (f : IsFirstCall rest is.left call answer behind) where
  abbrev step_at : Place → Bool → Step
  step_at place b = if b && true then begun node f.said.answer else follows node place f.said

  -- what is done with the first call that is left, at either place
  stepped_so : (b : Bool) → bytes_eq (codes "now") call ≡ b → (place : Place) → IsEarly node place
      → stepped node place f.said f.more ≡ step_at place b
  stepped_so b now place (inl idle) =
      subst (λ (p : Place). stepped node p f.said f.more ≡ step_at p b) (sym idle)
      (ap (step_at Idle) (ap (λ (l : List ℕ). bytes_eq (codes "now") l) (sym f.call_is) ∙ now))
  stepped_so b now place (inr starts) =
      subst (λ (p : Place). stepped node p f.said f.more ≡ step_at p b) (sym starts.1)
      (ap (step_at (Starting starts.0 [] (start_calls node)))
      (ap (λ (l : List ℕ). bytes_eq (codes "now") l) (sym f.call_is) ∙ now))

  whole_so : (step : Step) → stepped node is.place f.said f.more ≡ step
      → replay node all ≡ by_step step line (λ after. replayed node after (line_behind line f.said) f.more)
  whole_so step so =
      is.is ∙ ap (λ (l : List Said). replayed node is.place line l) f.is
      ∙ ap (λ (s : Step). by_step s line (λ after. replayed node after (line_behind line f.said) f.more)) so

  closed_both : (opened_by f.said.call ≡ []) × (opened_in f.more ≡ [])
  closed_both = parts (opened_by f.said.call) (opened_in f.more) (sym (ap opened_in f.is) ∙ is.closed)
    where
      parts : (a b : List (Option Address)) → a ++ b ≡ [] → (a ≡ []) × (b ≡ [])
      parts [] b none = (refl, none)
      parts (x ∷ a) b none = let no : x ∷ (a ++ b) ≡ [] = none in absurd cc

  strays_so : (place : Place) → IsEarly node place → follows node place f.said ≡ Strays
  strays_so place (inl idle) = ap (λ (p : Place). follows node p f.said) idle
  strays_so place (inr starts) =
      ap (λ (p : Place). follows node p f.said) starts.1
      ∙ ap (λ (b : Bool). if b then answered node starts.0 [] (map (λ (ticket : TicketConf). calls.Kept ticket.name) node.config.tickets) f.said.answer else Strays)
      (closed_other (Some (own_address node)) f.said.call closed_both.0)

  -- another call than a reading of the clock
  pub nobody_strays_here : false ≡ bytes_eq (codes "now") call
      → replay node all ≡ record { events = []; strays = Some line }
  nobody_strays_here other =
      whole_so Strays (stepped_so false (sym other) is.place is.early ∙ strays_so is.place is.early)

  -- a reading of the clock
  pub nobody_more : {next : ℕ} → true ≡ bytes_eq (codes "now") call → next ≡ line_behind line f.said
      → IsIdleSo node text all behind next
  nobody_more {next} now on =
      let by = early_by node f.said.answer in
      let within = is.within in
      let long = f.shorter in
      record {
        place = by.0;
        early = by.2;
        left = f.more;
        says = f.says;
        closed = closed_both.1;
        is = whole_so (Passes by.0) (stepped_so true (sym now) is.place is.early ∙ by.1)
            ∙ ap (λ (n : ℕ). replayed node by.0 n f.more) (sym on);
        within = omega (arith, within, long, on);
      }

-- ---- lines

pub lines_said : {text : List ℕ} {left : List Said} {call : List ℕ} {answer : Option (List ℕ)} {behind : List ℕ} (line : ℕ)
    → (f : IsFirstCall text left call answer behind) → line + lines_of answer ≡ line_behind line f.said
lines_said line f = ap (λ (o : Option (List ℕ)). line + lines_of o) f.answer_is ∙ go f.said.answer
  where
    go : (o : Option Answer) → line + lines_of (option_map (λ (a : Answer). answer_text a) o) ≡ line + suc (length (answer_lines o))
    go None = refl
    go (Some a) = refl

-- what is left of a text from this line on says calls
pub record IsLeft (text rest : List ℕ) (line : ℕ) : Type 0 where
  pub left : List Said
  pub says : Says rest left
  pub within : line + length rest ≤ 1 + length text

pub left_first : {text : List ℕ} (all : List Said) → Says text all → IsLeft text text 1
left_first all says = record { left = all; says = says; within = omega arith }

pub left_more : {text rest : List ℕ} {line next : ℕ} {call : List ℕ} {answer : Option (List ℕ)} {behind : List ℕ}
    (is : IsLeft text rest line) → (f : IsFirstCall rest is.left call answer behind) → next ≡ line_behind line f.said
    → IsLeft text behind next
left_more {text} is f on =
    let within = is.within in
    let long = f.shorter in
    record { left = f.more; says = f.says; within = omega (arith, within, long, on) }
