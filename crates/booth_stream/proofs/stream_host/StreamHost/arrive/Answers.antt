use Rattle.std.specs.Prelude.{Ok, Err}
use Rattle.std.proofs.Common.{refl, [], ◌∷◌, ◌++◌}
use Rattle.booth_host.specs.declared.entry.Entry.TheVariants.{Next}
use Rattle.booth_host.proofs.PastLemmas.{no_entry}
use Rattle.booth_stream.specs.Places.{after_poll}
use Rattle.booth_stream.specs.Table.{places_of}
use Rattle.booth_stream.specs.declared.link_call.LinkCall.TheVariants.{Poll}
use Rattle.booth_stream.proofs.CallLemmas.{calls_joined}
use Rattle.booth_stream.proofs.HostLemmas.{ready_next, arrived_next, passed_next}
use Rattle.booth_stream.proofs.TableLemmas.{polled_behind}
use Rattle.booth_stream.proofs.stream_host.StreamHost.arrive.Goals as goal

pub returns-in-Some-clause-does : goal.returns-in-Some-clause-does
returns-in-Some-clause-does g c =
    let gave = c.in-Some.ensures.does in
    ready_next (places_of c.args.self.now.table) (places_of c.give_or_rest.new.self) c.args.wait_ms c.in-Some.peer
    c.give_or_rest.new.into gave.0 gave.1 gave.2.0 gave.2.1

pub returns-in-Some-give_polled-clause-does : goal.returns-in-Some-give_polled-clause-does
returns-in-Some-give_polled-clause-does g c =
    let old = places_of c.args.self.now.table in
    let start = places_of c.give_or_rest.new.self in
    let mid = places_of c.poll-polled.new.self in
    let polled = c.poll-polled.result in
    let piece = c.poll-polled.new.piece in
    let first = c.in_default.ensures.does in
    let gave = c.in-Some-give_polled.ensures.does in
    arrived_next old mid (places_of c.give_polled.new.self) c.args.wait_ms c.in-Some-give_polled.peer
    c.give_polled.new.into polled (first.0 ++ Poll polled piece ∷ (after_poll polled piece start).calls) gave.0
    (calls_joined first.1 c.poll-polled.ensures.calls)
    (polled_behind old start polled piece mid first.0 first.2.0 first.2.1 first.2.2 c.poll-polled.ensures.places)
    gave.1 gave.2.1 gave.2.0

pub returns-in-Ok-clause-does : goal.returns-in-Ok-clause-does
returns-in-Ok-clause-does g c =
    let old = places_of c.args.self.now.table in
    let start = places_of c.give_or_rest.new.self in
    let mid = places_of c.poll-polled.new.self in
    let polled = Ok c.in-Ok.field-0 in
    let piece = c.poll-polled.new.piece in
    let first = c.in_default.ensures.does in
    let then = c.in_default-give_polled.ensures.does in
    passed_next old mid (places_of c.give_polled.new.self) c.args.wait_ms c.next.result c.next.new.into polled
    (first.0 ++ Poll polled piece ∷ (after_poll polled piece start).calls) then.0
    (Next c.args.wait_ms c.next.result c.next.new.into ∷ []) (calls_joined first.1 c.in-Ok.ensures.calls)
    (polled_behind old start polled piece mid first.0 first.2.0 first.2.1 first.2.2 c.in-Ok.ensures.places)
    then.1 then.2.0 then.2.1 then.2.2 c.next.ensures.past refl

pub returns-in-Err-clause-does : goal.returns-in-Err-clause-does
returns-in-Err-clause-does g c =
    let old = places_of c.args.self.now.table in
    let start = places_of c.give_or_rest.new.self in
    let mid = places_of c.poll-polled.new.self in
    let polled = Err c.in-Err.field-0 in
    let piece = c.poll-polled.new.piece in
    let first = c.in_default.ensures.does in
    let then = c.in_default-give_polled.ensures.does in
    passed_next old mid (places_of c.give_polled.new.self) c.args.wait_ms (Err c.in-Err.field-0) c.give_polled.new.into
    polled (first.0 ++ Poll polled piece ∷ (after_poll polled piece start).calls) then.0 []
    (calls_joined first.1 c.in-Err.ensures.calls)
    (polled_behind old start polled piece mid first.0 first.2.0 first.2.1 first.2.2 c.in-Err.ensures.places)
    then.1 then.2.0 then.2.1 then.2.2 no_entry (refl, refl)
