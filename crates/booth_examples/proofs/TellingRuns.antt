-- Who tells of itself as the holder in an example world, by what is not over.
use Rattle.std.proofs.Common.{◌≡◌, ℕ, ◌<◌, true, List, ◌∷◌, refl, inl, inr, arith}
use Rattle.std.specs.Prelude.{None, Ok, codes}
use Rattle.std.proofs.lemmas.Bool.{leb-true, ltb-true}
use Rattle.booth_auth.specs.Sealed.{sealed}
use Rattle.booth_conf.specs.declared.members.Member.{Member}
use Rattle.booth_conf.specs.declared.tickets.TicketConf.{TicketConf}
use Rattle.booth_wire.specs.PlainMessage.{PlainMessage}
use Rattle.booth_wire.specs.declared.message.TicketPart.{TicketPart}
use Rattle.booth_host.specs.declared.host.Job.{Job}
use Rattle.booth_node.specs.World.{World, WorldEntry}
use Rattle.booth_world.specs.Tellers.{Claim, EndsIn, HasLeft, IsLive, Tells}
use Rattle.booth_world.proofs.TellerWorlds.{claims_last}
use Rattle.booth_examples.specs.Holding.{is_automatic, later_than}
use Rattle.booth_examples.specs.ManyKindsExample.{of_many_kinds, starts_handler, web_by_handler}
use Rattle.booth_examples.specs.TakeOverExample.{taken_over}
use Rattle.booth_examples.specs.Telling.{TellsAt}
use Rattle.booth_examples.specs.WorldExamples.{at, is_cut_sending, port_of, sends, site_one, site_two, tells_lease, web}
use Rattle.booth_examples.proofs.Computing.{worlds_compute}
use Rattle.booth_examples.proofs.HoldingLemmas.{automatic_is, moment_at}

-- what a site's lease of six seconds is told by
abbrev part_of : Member → ℕ → TicketPart
part_of site number = record { ticket = codes "web"; leader = site.id; term = number; valid_for = 6 }

-- the first entry later than a true time tells so, and the claim is not over then
told_at : (w : World) (ticket : TicketConf) (time : ℕ) (within : time < w.span) (claim : Claim) (entry : WorldEntry) (after : List WorldEntry)
    → is_automatic w ticket ≡ true → later_than time w.entries ≡ entry ∷ after → Tells w ticket entry claim
    → IsLive w entry.member (moment_at w time within) claim → TellsAt w ticket entry.member time claim
told_at w ticket time within claim entry after automatic next tells live = record {
  automatic = automatic_is w ticket automatic;
  moment = moment_at w time within;
  at = refl;
  entry = entry;
  next = (after, next);
  own = refl;
  tells = tells;
  live = live;
}

pub first_tells_it : TellsAt taken_over web 0 7021 (HasLeft (tells_lease site_one 1 7020 6).head 6)
unfolding worlds_compute
first_tells_it =
    let within : 7021 < 60000 = ltb-true 7021 60000 refl in
    let message : PlainMessage = tells_lease site_one 1 7020 6 in
    told_at taken_over web 7021 within (HasLeft message.head 6) (at 7022 0 (sends (port_of site_two) message)) _ refl refl
    (inl (sealed None message, message, refl, refl, inl (part_of site_one 1, refl, (refl, refl, refl, refl, omega arith))))
    (claims_last.has_left taken_over 0 (moment_at taken_over 7021 within) message.head 6
    (ltb-true 7 4294967295 refl) (leb-true 7021 12020 refl))

pub second_tells_it : TellsAt taken_over web 1 20021 (HasLeft (tells_lease site_two 2 20020 6).head 6)
unfolding worlds_compute
second_tells_it =
    let within : 20021 < 60000 = ltb-true 20021 60000 refl in
    let message : PlainMessage = tells_lease site_two 2 20020 6 in
    told_at taken_over web 20021 within (HasLeft message.head 6) (at 20022 1 (is_cut_sending (port_of site_one) message)) _ refl refl
    (inl (sealed None message, message, refl, refl, inl (part_of site_two 2, refl, (refl, refl, refl, refl, omega arith))))
    (claims_last.has_left taken_over 1 (moment_at taken_over 20021 within) message.head 6
    (ltb-true 20 4294967295 refl) (leb-true 20021 25020 refl))

pub handler_is_told : TellsAt of_many_kinds web_by_handler 0 33101 (EndsIn 34)
unfolding worlds_compute
handler_is_told =
    let within : 33101 < 60000 = ltb-true 33101 60000 refl in
    let job : Job = record { number = 2; ticket = codes "web"; handler = codes "/h"; local = site_one.address; expires = 34 } in
    told_at of_many_kinds web_by_handler 33101 within (EndsIn 34) (at 33102 0 (starts_handler 2 34 (Ok tt))) _ refl refl
    (inr (job, refl, (refl, refl, omega arith)))
    (claims_last.ends_in of_many_kinds 0 (moment_at of_many_kinds 33101 within) 34 (ltb-true 33101 34000 refl))
