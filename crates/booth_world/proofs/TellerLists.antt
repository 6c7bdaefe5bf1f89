-- What a list of tickets says of its own member as a ticket's holder is borne out by a record that may be kept.
use Rattle.std.proofs.Common.{◌≡◌, ◌≢◌, ◌⊎◌, inl, inr, ℕ, zero, suc, ◌<◌, ◌/◌, Bool, true, false, List, [], ◌∷◌, ◌++◌, map, decimal, slice_get, refl, sym, ap, ◌∙◌, subst, arith, if◌then◌else◌}
use Rattle.std.specs.Prelude.{Option, Some, None, ◌==◌, codes, nat_lt, position}
use Rattle.std.proofs.lemmas.Bool.Decides.{nat_tests}
use Rattle.std.proofs.lemmas.List.Quantifiers.{position-Some}
use Rattle.std.proofs.lemmas.Option.{get_or_from_slice_get}
use Rattle.booth_base.specs.declared.address.Address.{Address}
use Rattle.booth_base.specs.declared.address.MemberId.{MemberId}
use Rattle.booth_base.specs.Address.{IsAddress, Spells, id_of, printed}
use Rattle.booth_base.proofs.AddressLemmas.{one_address, printed_spells}
use Rattle.booth_conf.specs.Config.{ConfigSays, has_id}
use Rattle.booth_conf.specs.declared.members.Member.{Member}
use Rattle.booth_rec.specs.declared.record.Record.{Record}
use Rattle.booth_rec.specs.Record.{lease_end}
use Rattle.booth_wire.specs.declared.message.Setup.{Setup}
use Rattle.booth_raft.specs.declared.view.Shown.{Shown}
use Rattle.booth_raft.specs.declared.view.View.{View}
use Rattle.booth_raft.proofs.AnswerLemmas.{is_same-true}
use Rattle.booth_ticket.specs.declared.ticket.Owner.{Owner}
use Rattle.booth_ticket.specs.Ticket.{TicketState, Known, Automatic, Manual, owner, shown_owner}
use Rattle.booth_node.specs.Records.{Has}
use Rattle.booth_node.specs.Replies.{list_line, owner_at, owner_in, owner_text, spaced}
use Rattle.booth_world.specs.Tellers.{IsListed, BearsOut, HasNone}
use Rattle.booth_world.proofs.Lists.{none_is, some_same}
use Rattle.booth_world.proofs.TellerClaims.{IsBacked, IsOwn, IsPlaced, found_or_not, in_lease}
use Rattle.booth_world.proofs.TellerRules.{OwnShown}
use Rattle.booth_world.proofs.TellerSteps.{IsHonest}
use Rattle.booth_world.proofs.TellerTexts.{AllOf, IsLineOf, cut_same, none_in_address, none_in_both, none_in_decimal, none_is_no_address}

-- What a list needs of the configuration: addresses are addresses, and ids are theirs.
pub record AreTheirs (config : ConfigSays) (me : MemberId) (address : Address) : Type 0 where
  pub each : (p : ℕ) (member : Member) → slice_get config.members p ≡ Some member → IsAddress member.address × (member.id.0 ≡ id_of member.address)
  pub whole : IsAddress address
  pub mine : me.0 ≡ id_of address

-- what holds of what each place gives
each_mapped : {A B : Type 0} (P : B → Type 0) (f : A → B) (xs : List A) → ((i : ℕ) (x : A) → slice_get xs i ≡ Some x → P (f x)) → AllOf P (map f xs)
each_mapped P f [] h = tt
each_mapped P f (x ∷ xs) h = (h zero x refl, each_mapped P f xs (λ i y is. h (suc i) y is))

-- a line with a name and a text behind it
spelled : (name text : List ℕ) → name ++ codes " " ++ text ++ codes "\n" ≡ (name ++ 32 ∷ text) ++ 10 ∷ []
spelled [] text = refl
spelled (x ∷ name) text = ap (λ (l : List ℕ). x ∷ l) (spelled name text)

none_in_nobody : HasNone 10 (codes "none 0")
none_in_nobody = ((λ e. omega (arith, e)), ((λ e. omega (arith, e)), ((λ e. omega (arith, e)), ((λ e. omega (arith, e)), ((λ e. omega (arith, e)), ((λ e. omega (arith, e)), tt))))))

module _ (s : Setup) (found_at : Option ℕ) (config : ConfigSays) (address : Address) (theirs : AreTheirs config s.me address) (now : ℕ) where
  -- what a list says with these digits as the end
  abbrev own_line : List ℕ → List ℕ
  own_line digits = s.ticket ++ 32 ∷ (printed address ++ 32 ∷ digits)

  -- ---- the owner's text

  single_at : (o : Option Member) (secs : ℕ) → ((member : Member) → o ≡ Some member → IsAddress member.address) → HasNone 10 (owner_at o secs)
  single_at None secs is = none_in_nobody
  single_at (Some member) secs is =
      none_in_both 10 (printed member.address) (spaced secs) (none_in_address 10 (omega arith) member.address (is member refl))
      ((λ e. omega (arith, e)), none_in_decimal 10 (omega arith) secs)

  single_in : (o : Option ℕ) (secs : ℕ) → HasNone 10 (owner_in config.members o secs)
  single_in None secs = none_in_nobody
  single_in (Some p) secs = single_at (slice_get config.members p) secs (λ member is. (theirs.each p member is).0)

  single_text : (o : Option Owner) → HasNone 10 (owner_text config o)
  single_text None = none_in_nobody
  single_text (Some shown) = single_in (position (has_id shown.site) config.members) shown.until_secs

  -- nobody's text is not this member's
  not_nobody : (digits : List ℕ) → codes "none 0" ≡ printed address ++ 32 ∷ digits → ⊥
  not_nobody digits e =
      none_is_no_address address theirs.whole
      (cut_same 32 (codes "none") (printed address) (codes "0") digits
      ((λ e. omega (arith, e)), ((λ e. omega (arith, e)), ((λ e. omega (arith, e)), ((λ e. omega (arith, e)), tt))))
      (none_in_address 32 (omega arith) address theirs.whole) e).0

  -- where the text is this member's address and these digits, this member is the owner, and they are the end's
  own_at : (o : Option Member) (site : MemberId) (secs : ℕ) (digits : List ℕ)
      → ((member : Member) → o ≡ Some member → IsAddress member.address × (member.id.0 ≡ id_of member.address) × (member.id.0 ≡ site.0))
      → owner_at o secs ≡ printed address ++ 32 ∷ digits → (site.0 ≡ s.me.0) × (decimal secs ≡ digits)
  own_at None site secs digits is e = absurd (not_nobody digits e)
  own_at (Some member) site secs digits is e =
      let q = is member refl in
      let both = cut_same 32 (printed member.address) (printed address) (decimal secs) digits
      (none_in_address 32 (omega arith) member.address q.0) (none_in_address 32 (omega arith) address theirs.whole) e in
      let same : member.address ≡ address =
      one_address (printed address) member.address address
      (subst (λ (text : List ℕ). Spells text member.address) both.0 (printed_spells member.address q.0)) (printed_spells address theirs.whole) in
      (sym q.2 ∙ q.1 ∙ ap id_of same ∙ sym theirs.mine, both.1)

  own_in : (o : Option ℕ) (site : MemberId) (secs : ℕ) (digits : List ℕ) → position (has_id site) config.members ≡ o
      → owner_in config.members o secs ≡ printed address ++ 32 ∷ digits → (site.0 ≡ s.me.0) × (decimal secs ≡ digits)
  own_in None site secs digits at e = absurd (not_nobody digits e)
  own_in (Some p) site secs digits at e =
      own_at (slice_get config.members p) site secs digits
      (λ member is.
      let q = theirs.each p member is in
      let found = position-Some (has_id site) config.members p member at in (
        q.0,
        q.1,
        same_number (subst (λ (m : Member). has_id site m ≡ true) (get_or_from_slice_get config.members p member member is) found.1),
      )) e
    where
      same_number : {a b : ℕ} → a == b ≡ true → a ≡ b
      same_number e = grind (arith, nat_tests)

  own_text : (o : Option Owner) (digits : List ℕ) → owner_text config o ≡ printed address ++ 32 ∷ digits
      → (shown : Owner) × (o ≡ Some shown) × (shown.site ≡ s.me) × (decimal shown.until_secs ≡ digits)
  own_text None digits e = absurd (not_nobody digits e)
  own_text (Some shown) digits e =
      let q = own_in (position (has_id shown.site) config.members) shown.site shown.until_secs digits refl e in
      (shown, refl, same_id shown.site s.me q.0, q.1)
    where
      same_id : (a b : MemberId) → a.0 ≡ b.0 → a ≡ b
      same_id a b e = is_same-true a b (equal a.0 b.0 e)
        where
          equal : (x y : ℕ) → x ≡ y → x == y ≡ true
          equal x y e = grind (arith, nat_tests)

  -- ---- the lines

  -- what this member's line tells is borne out
  abbrev pub IsLineTold : List Record → List ℕ → Type 0
  IsLineTold may line = (digits : List ℕ) → line ≡ own_line digits → IsBacked may (IsListed digits)

  backed : (may : List Record) (view : View) (base : Record) → Has may base → view.kept ≡ base → OwnShown s.me view.kept view.shown
      → (found : Owner) → shown_owner view.shown now ≡ Some found → found.site ≡ s.me → (digits : List ℕ) → decimal found.until_secs ≡ digits
      → IsBacked may (IsListed digits)
  backed may view base has kept own found is mine digits spelled = by_shown view.shown own is
    where
      by_shown : (o : Option Shown) → OwnShown s.me view.kept o → shown_owner o now ≡ Some found → IsBacked may (IsListed digits)
      by_shown None own e = absurd (none_is found e)
      by_shown (Some x) own e = by_time (nat_lt now x.until) refl e
        where
          by_time : (b : Bool) → nat_lt now x.until ≡ b
              → (if b then Some (record { site = x.owner; until_secs = x.until / 1000 }) else None) ≡ Some found → IsBacked may (IsListed digits)
          by_time true live q =
              let same : record { site = x.owner; until_secs = x.until / 1000 } ≡ found = some_same (record { site = x.owner; until_secs = x.until / 1000 }) found q in
              let until : x.until ≡ lease_end base.lease =
              own x refl (ap (λ (o : Owner). o.site) same ∙ mine) ∙ ap (λ (r : Record). lease_end r.lease) kept in
              let early : now < x.until = grind (arith, nat_tests) in (
                base,
                has,
                in_lease (BearsOut (IsListed digits)) base.lease (omega (arith, early, until))
                    (ap (λ (n : ℕ). decimal (n / 1000)) (sym until) ∙ ap (λ (o : Owner). decimal o.until_secs) same ∙ spelled),
              )
          by_time false over q = absurd (none_is found q)

  pub lines_told : (may : List Record) (tickets : List TicketState) → IsPlaced s found_at may tickets
      → AllOf (IsLineOf (IsLineTold may)) (map (list_line config now) tickets)
  lines_told may tickets at = each_mapped (IsLineOf (IsLineTold may)) (list_line config now) tickets one_line
    where
      one_line : (i : ℕ) (t : TicketState) → slice_get tickets i ≡ Some t → IsLineOf (IsLineTold may) (list_line config now t)
      one_line i t is = (
        t.setup.ticket ++ 32 ∷ text,
        spelled t.setup.ticket text,
        none_in_both 10 t.setup.ticket (32 ∷ text) (at.named i t is).0 ((λ e. omega (arith, e)), single_text (owner t.setup t.known now)),
        tells,
      )
        where
          text : List ℕ
          text = owner_text config (owner t.setup t.known now)

          tells : IsLineTold may (t.setup.ticket ++ 32 ∷ text)
          tells digits e = by_place (found_or_not found_at i)
            where
              both : (t.setup.ticket ≡ s.ticket) × (text ≡ printed address ++ 32 ∷ digits)
              both = cut_same 32 t.setup.ticket s.ticket text (printed address ++ 32 ∷ digits) (at.named i t is).1 at.clear e

              by_known : (known : Known) → IsHonest s may known → owner_text config (owner s known now) ≡ printed address ++ 32 ∷ digits
                  → IsBacked may (IsListed digits)
              by_known (Manual known) h q = absurd h
              by_known (Automatic view) h q =
                  let found = own_text (shown_owner view.shown now) digits q in
                  backed may view h.0 h.1 h.2.same h.2.own found.0 found.1 found.2 digits found.3

              by_place : (found_at ≡ Some i) ⊎ (found_at ≢ Some i) → IsBacked may (IsListed digits)
              by_place (inr ne) = absurd (at.others i t is ne both.0)
              by_place (inl same) =
                  let own : IsOwn s found_at i may tickets = at.own i same in
                  let t_is : t ≡ record { setup = s; known = own.known } =
                  some_same t (record { setup = s; known = own.known }) (sym is ∙ own.own) in
                  by_known own.known own.honest
                  (subst (λ (x : TicketState). owner_text config (owner x.setup x.known now) ≡ printed address ++ 32 ∷ digits) t_is both.1)
