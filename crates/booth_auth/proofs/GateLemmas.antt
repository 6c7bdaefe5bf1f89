-- What gets in at the gate.
use Rattle.std.proofs.Common.{◌≡◌, ℕ, ◌+◌, ◌*◌, ◌/◌, ◌^◌, ◌<◌, ◌≤◌, min, Bool, true, false, not, Option, Some, None, List, is_some, cond, Result, Ok, Err, subst, refl, ap, ◌∙◌, arith, ne_eqb, le-ltb, inl, inr}
use Rattle.booth_base.specs.declared.address.MemberId.{MemberId}
use Rattle.booth_conf.specs.Config.{ConfigSays}
use Rattle.booth_wire.specs.declared.message.Head.{Head}
use Rattle.booth_wire.specs.PlainMessage.{PlainMessage}
use Rattle.booth_wire.specs.Reading.{decoded}
use Rattle.booth_auth.specs.Verdict.{lacks_mac, has_wrong_mac, is_too_old, may_come_from, judged, judged_if_read, verdict}
use Rattle.booth_auth.specs.declared.admission.DropFault.{DropFault}
use Rattle.booth_wire.specs.declared.message.FrameFault.{FrameFault}
use Rattle.booth_auth.specs.Sealed.{sealed, stamped, stamped_head}
use Rattle.booth_keys.specs.declared.ring.Ring.{Ring}
use Rattle.booth_auth.specs.Laws.{HasKey, IsTrusted, HasNoFault, GateLetsIn, SealedIsAccepted, KeysChangeOneByOne, Stage, Old, Learning, Changed, New, AreNeighbours}
use Rattle.booth_auth.proofs.SealLemmas.{sealed_read, seal_is_right}

pub gets_in :
    (config : ConfigSays) (ring : Option Ring) (me : MemberId) (now : ℕ) (bytes : List ℕ)
    (l : PlainMessage) →
    HasNoFault config ring me now bytes l → verdict config ring me now bytes ≡ Ok l
gets_in config ring me now bytes l h =
    rw (h.read, h.signed, h.right, h.fresh, h.known, h.other, h.ticket, h.leader) refl

-- a test under which a fault is told, where none is
passed :
    {A : Type 0} (test : Bool) (fault : DropFault) (rest : Result A DropFault) (x : A) →
    cond test (Err fault) rest ≡ Ok x → (test ≡ false) × (rest ≡ Ok x)
passed true fault rest x h = absurd cc
passed false fault rest x h = (refl, h)

-- what is judged was read
was_read :
    (config : ConfigSays) (ring : Option Ring) (me : MemberId) (now : ℕ) (bytes : List ℕ)
    (read : Result PlainMessage FrameFault) (l : PlainMessage) →
    judged_if_read config ring me now bytes read ≡ Ok l →
    (m : PlainMessage) × (read ≡ Ok m) × (judged config ring me now bytes m ≡ Ok l)
was_read config ring me now bytes (Ok m) l h = (m, refl, h)
was_read config ring me now bytes (Err fault) l h = absurd cc

abbrev ok_again : PlainMessage → Result PlainMessage DropFault
ok_again m = Ok m

same_letter : (l m : PlainMessage) → ok_again m ≡ Ok l → m ≡ l
same_letter l m h = cc

no_fault :
    (config : ConfigSays) (ring : Option Ring) (me : MemberId) (now : ℕ) (bytes : List ℕ)
    (l m : PlainMessage) →
    decoded bytes ≡ Ok m → judged config ring me now bytes m ≡ Ok l →
    HasNoFault config ring me now bytes l
no_fault config ring me now bytes l m read h =
    let signed = passed _ _ _ _ h in
    let right = passed _ _ _ _ signed.1 in
    let fresh = passed _ _ _ _ right.1 in
    let known = passed _ _ _ _ fresh.1 in
    let other = passed _ _ _ _ known.1 in
    let ticket = passed _ _ _ _ other.1 in
    let leader = passed _ _ _ _ ticket.1 in
    let is : m ≡ l = same_letter l m leader.1 in
    subst (HasNoFault config ring me now bytes) is (record {
      read = read;
      signed = signed.0;
      right = right.0;
      fresh = fresh.0;
      known = known.0;
      other = other.0;
      ticket = ticket.0;
      leader = leader.0;
    })

has_no_fault :
    (config : ConfigSays) (ring : Option Ring) (me : MemberId) (now : ℕ) (bytes : List ℕ)
    (l : PlainMessage) →
    verdict config ring me now bytes ≡ Ok l → HasNoFault config ring me now bytes l
has_no_fault config ring me now bytes l h =
    let found = was_read config ring me now bytes (decoded bytes) l h in
    no_fault config ring me now bytes l found.0 found.1 found.2

pub lets_in : GateLetsIn
lets_in config ring me now bytes l =
    (has_no_fault config ring me now bytes l, gets_in config ring me now bytes l)

shows_mac : (ring others : Option Ring) (h : Head) → h.auth ≡ is_some ring → IsTrusted ring others
    → lacks_mac others h ≡ false
shows_mac None others h keyed trusted = rw trusted refl
shows_mac (Some ring) None h keyed trusted = refl
shows_mac (Some ring) (Some other) h keyed trusted = ap not keyed

mac_is_right : (ring others : Option Ring) (l : PlainMessage) → IsTrusted ring others
    → has_wrong_mac others (sealed ring l) ≡ false
mac_is_right None others l trusted = rw trusted refl
mac_is_right (Some ring) None l trusted = refl
mac_is_right (Some ring) (Some other) l trusted = seal_is_right ring other l trusted

in_time :
    (skew now later : ℕ) → now < 1000 * 2 ^ 32 → later ≤ now + 1000 * skew →
    later / 1000 ≤ min (now / 1000) 4294967295 + skew
in_time skew now later early soon = omega arith

is_fresh :
    (others : Option Ring) (auth : Bool) (skew now later : ℕ) (h : Head) →
    now < 1000 * 2 ^ 32 → later ≤ now + 1000 * skew →
    is_too_old others skew later (stamped_head auth now h) ≡ false
is_fresh None auth skew now later h early soon = refl
is_fresh (Some ring) auth skew now later h early soon = le-ltb _ _ (in_time skew now later early soon)

pub sealed_accepted : SealedIsAccepted
sealed_accepted config ring others other now later l trusted fits command apart early soon =
    gets_in config others other later _ _ (record {
      read = sealed_read ring (stamped ring now l) fits refl;
      signed = shows_mac ring others (stamped ring now l).head refl trusted;
      right = mac_is_right ring others (stamped ring now l) trusted;
      fresh = is_fresh others (is_some ring) config.skew now later l.head early soon;
      known = ap not (ap (λ d. may_come_from config d l.head.from) command.direction ∙ command.sender);
      other = ne_eqb _ _ apart;
      ticket = command.ticket;
      leader = command.leader;
    })

pub change_one_by_one : KeysChangeOneByOne
change_one_by_one before after Old Old one other beside = inl refl
change_one_by_one before after Old Learning one other beside = inl refl
change_one_by_one before after Learning Old one other beside = inl refl
change_one_by_one before after Learning Learning one other beside = inl refl
change_one_by_one before after Learning Changed one other beside = inr refl
change_one_by_one before after Changed Learning one other beside = inr refl
change_one_by_one before after Changed Changed one other beside = inl refl
change_one_by_one before after Changed New one other beside = inl refl
change_one_by_one before after New Changed one other beside = inl refl
change_one_by_one before after New New one other beside = inl refl
change_one_by_one before after Old Changed one other beside = absurd beside
change_one_by_one before after Old New one other beside = absurd beside
change_one_by_one before after Learning New one other beside = absurd beside
change_one_by_one before after Changed Old one other beside = absurd beside
change_one_by_one before after New Old one other beside = absurd beside
change_one_by_one before after New Learning one other beside = absurd beside
