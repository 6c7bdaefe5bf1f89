-- What follows of what is known of all places.
use Rattle.std.specs.Prelude.{true, Option, None, Some, Result}
use Rattle.std.specs.List.{All, list_all}
use Rattle.std.proofs.Common.{◌≡◌, ◌⊎◌, ℕ, suc, List, [], ◌∷◌, ◌++◌, refl, inl, inr, ◌∙◌, ap, arith, subst}
use Rattle.std.proofs.lemmas.List.Elements.{All-map}
use Rattle.std.proofs.lemmas.List.Sums.{AllPass-from_list_all}
use Rattle.booth_base.specs.declared.address.Peer.{Peer}
use Rattle.booth_stream.specs.Calls.{CallsGrewBy}
use Rattle.booth_host.specs.declared.host.Failed.{Failed}
use Rattle.booth_stream.specs.Places.{OpenLink, NoneWhole, Polls, after_poll, closings, is_free, unbroken, unless_broken}
use Rattle.booth_stream.specs.Slot.{PlainSlot, link_in, IsAtRest, IsDry}
use Rattle.booth_stream.specs.Slots.{IsNotOf, links_in}
use Rattle.booth_stream.specs.declared.link_call.LinkCall.{LinkCall}
use Rattle.booth_stream.specs.declared.link_call.LinkCall.TheVariants.{Poll}
use Rattle.booth_stream.specs.declared.links.LinkEvent.{LinkEvent}
use Rattle.booth_stream.specs.declared.table.Known.{Known}
use Rattle.booth_stream.specs.declared.table.Known.TheVariants.{Empty, AtRest, Nothing}
use Rattle.booth_stream.proofs.CallLemmas.{no_call}
use Rattle.booth_stream.proofs.SlotLemmas.{at_rest}
use Rattle.booth_stream.proofs.SlotsLemmas.{none_whole}

pub is_known : (known : Known) → (known ≡ Empty) ⊎ (known ≡ AtRest) → known ≡ Nothing → ⊥
is_known known (inl is) other = cc
is_known known (inr is) other = cc

pub rest_dry : (slots : List PlainSlot) → All IsAtRest slots → All IsDry slots
rest_dry slots rest k d within =
    let is = rest k d within in record { fed = λ whole. is.0; none = (at_rest _ is.1).0 }

behind : (slot : PlainSlot) (slots : List PlainSlot) → All IsAtRest (slot ∷ slots) → All IsAtRest slots
behind slot slots rest j d less = rest (suc j) d (omega (arith, less))

first : (slot : PlainSlot) (slots : List PlainSlot) → All IsAtRest (slot ∷ slots) → IsAtRest slot
first slot slots rest = rest 0 slot (omega arith)

-- no link leaves
pub rest_unbroken : (slots : List PlainSlot) → All IsAtRest slots → links_in slots ≡ unbroken (links_in slots)
rest_unbroken [] rest = refl
rest_unbroken (slot ∷ slots) rest =
    ap (λ (l : Option OpenLink). l ∷ links_in slots) (at_rest (link_in slot) (first slot slots rest).1).1
    ∙ ap (λ (l : List (Option OpenLink)). unless_broken (link_in slot) ∷ l) (rest_unbroken slots (behind slot slots rest))

-- no link is closed
rest_closings : (slots : List PlainSlot) → All IsAtRest slots → [] ≡ closings (links_in slots)
rest_closings [] rest = refl
rest_closings (slot ∷ slots) rest =
    rest_closings slots (behind slot slots rest)
    ∙ ap (λ (l : List LinkCall). l ++ closings (links_in slots)) (at_rest (link_in slot) (first slot slots rest).1).2

pub rest_calls : (slots : List PlainSlot) {links : Option (List LinkCall)} → All IsAtRest slots
    → CallsGrewBy links links (closings (links_in slots))
rest_calls slots {links} rest = subst (λ (l : List LinkCall). CallsGrewBy links links l) (rest_closings slots rest) no_call

not_of : (peer : Peer) (place : Option OpenLink) → is_free place ≡ true → IsNotOf peer place
not_of peer None free = tt
not_of peer (Some link) free = cc

-- no link is open to this peer
pub none_reached : (slots : List PlainSlot) (peer : Peer) → list_all (λ slot. is_free (link_in slot)) slots ≡ true
    → All (IsNotOf peer) (links_in slots)
none_reached slots peer free =
    let each = AllPass-from_list_all (λ (slot : PlainSlot). is_free (link_in slot)) slots free in
    All-map (IsNotOf peer) link_in slots (λ k d less. not_of peer _ (each k d less))

-- a poll behind the close of broken links
pub polled_behind : (old mid : List (Option OpenLink)) (polled : Result LinkEvent Failed) (bytes : List ℕ)
    (new : List (Option OpenLink)) (first : List LinkCall) → NoneWhole old → first ≡ closings old → mid ≡ unbroken old
    → new ≡ (after_poll polled bytes mid).places
    → Polls old polled (first ++ Poll polled bytes ∷ (after_poll polled bytes mid).calls) new
polled_behind old mid polled bytes new first none closes stay is = record {
  bytes = bytes;
  none = none;
  does = ap (λ (l : List LinkCall). l ++ Poll polled bytes ∷ (after_poll polled bytes mid).calls) closes
      ∙ ap (λ (l : List (Option OpenLink)). closings old ++ Poll polled bytes ∷ (after_poll polled bytes l).calls) stay;
  now = is ∙ ap (λ (l : List (Option OpenLink)). (after_poll polled bytes l).places) stay;
}

-- where no link has a frame, and no call was made
pub rest_settled : (slots : List PlainSlot) → All IsAtRest slots
    → NoneWhole (links_in slots) × ([] ≡ closings (links_in slots)) × (links_in slots ≡ unbroken (links_in slots)) × All IsAtRest slots
rest_settled slots rest = (none_whole slots (rest_dry slots rest), rest_closings slots rest, rest_unbroken slots rest, rest)

-- where none had one, and links in which no frame follows were closed
pub given_settled : (old mid new : List PlainSlot) → links_in mid ≡ links_in old → All IsDry mid
    → links_in new ≡ unbroken (links_in mid) → All IsAtRest new
    → NoneWhole (links_in old) × (closings (links_in mid) ≡ closings (links_in old)) × (links_in new ≡ unbroken (links_in old)) × All IsAtRest new
given_settled old mid new stay dry now rest = (
  subst NoneWhole stay (none_whole mid dry),
  ap closings stay,
  now ∙ ap unbroken stay,
  rest,
)
