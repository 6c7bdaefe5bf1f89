-- The example worlds pass the tests.
use Rattle.std.proofs.Common.{refl}
use Rattle.booth_node.specs.World.{IsWorld, IsSecondWorld}
use Rattle.booth_rec.specs.Record.{no_record}
use Rattle.booth_examples.specs.Premises.{HoldsAt}
use Rattle.booth_examples.specs.TakeOverExample.{taken_over}
use Rattle.booth_examples.specs.ManyKindsExample.{of_many_kinds, web_by_handler}
use Rattle.booth_examples.specs.VersionExamples.{promises_kept, one_after_another}
use Rattle.booth_examples.specs.WorldExamples.{one_holds, one_goes_on, lease, web}
use Rattle.booth_examples.proofs.CheckLemmas.{worlds_are, second_worlds_are, begin_free}
use Rattle.booth_examples.proofs.Clocks.{exact_clocks}
use Rattle.booth_examples.proofs.Computing.{worlds_compute}
use Rattle.booth_examples.proofs.HoldingLemmas.{holders_hold}

pub one_is_world : IsWorld one_holds
unfolding worlds_compute
one_is_world =
    worlds_are one_holds (begin_free one_holds (λ m. no_record) (λ m name. refl) (λ m. refl))
    (exact_clocks one_holds refl refl (λ m. refl)) refl

pub one_is_held : HoldsAt one_holds web 0 12999
unfolding worlds_compute
one_is_held = holders_hold one_holds web 0 12999 refl

pub on_is_world : IsWorld one_goes_on
unfolding worlds_compute
on_is_world =
    worlds_are one_goes_on (begin_free one_goes_on (λ m. lease 7 0) (λ m name. refl) (λ m. refl))
    (exact_clocks one_goes_on refl refl (λ m. refl)) refl

pub on_is_held : HoldsAt one_goes_on web 0 12999
unfolding worlds_compute
on_is_held = holders_hold one_goes_on web 0 12999 refl

pub taken_over_is_world : IsWorld taken_over
unfolding worlds_compute
taken_over_is_world =
    worlds_are taken_over (begin_free taken_over (λ m. no_record) (λ m name. refl) (λ m. refl))
    (exact_clocks taken_over refl refl (λ m. refl)) refl

pub first_holds_it : HoldsAt taken_over web 0 12999
unfolding worlds_compute
first_holds_it = holders_hold taken_over web 0 12999 refl

pub second_takes_it : HoldsAt taken_over web 1 25999
unfolding worlds_compute
second_takes_it = holders_hold taken_over web 1 25999 refl

pub kept_is_world : IsWorld promises_kept
unfolding worlds_compute
kept_is_world =
    worlds_are promises_kept (begin_free promises_kept (λ m. no_record) (λ m name. refl) (λ m. refl))
    (exact_clocks promises_kept refl refl (λ m. refl)) refl

pub first_holds_by_it : HoldsAt promises_kept web 0 12999
unfolding worlds_compute
first_holds_by_it = holders_hold promises_kept web 0 12999 refl

pub second_is_voted : HoldsAt promises_kept web 1 25999
unfolding worlds_compute
second_is_voted = holders_hold promises_kept web 1 25999 refl

pub second_is_world : IsWorld one_after_another
unfolding worlds_compute
second_is_world =
    worlds_are one_after_another (begin_free one_after_another (λ m. no_record) (λ m name. refl) (λ m. refl))
    (exact_clocks one_after_another refl refl (λ m. refl)) refl

pub all_are_second : IsSecondWorld one_after_another
all_are_second = second_worlds_are one_after_another refl

pub one_holds_first : HoldsAt one_after_another web 0 12999
unfolding worlds_compute
one_holds_first = holders_hold one_after_another web 0 12999 refl

pub two_holds_then : HoldsAt one_after_another web 1 25999
unfolding worlds_compute
two_holds_then = holders_hold one_after_another web 1 25999 refl

-- ---- many kinds

pub many_is_world : IsWorld of_many_kinds
unfolding worlds_compute
many_is_world =
    worlds_are of_many_kinds (begin_free of_many_kinds (λ m. no_record) (λ m name. refl) (λ m. refl))
    (exact_clocks of_many_kinds refl refl (λ m. refl)) refl

pub all_begin_in_second : IsSecondWorld of_many_kinds
all_begin_in_second = second_worlds_are of_many_kinds refl

pub held_by_coming : HoldsAt of_many_kinds web_by_handler 0 28122
unfolding worlds_compute
held_by_coming = holders_hold of_many_kinds web_by_handler 0 28122 refl

pub held_by_failed : HoldsAt of_many_kinds web_by_handler 0 28130
unfolding worlds_compute
held_by_failed = holders_hold of_many_kinds web_by_handler 0 28130 refl

pub held_by_cut : HoldsAt of_many_kinds web_by_handler 0 33300
unfolding worlds_compute
held_by_cut = holders_hold of_many_kinds web_by_handler 0 33300 refl
