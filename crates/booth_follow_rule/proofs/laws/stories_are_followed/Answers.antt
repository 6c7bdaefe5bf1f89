use Rattle.std.proofs.Common.{refl}
use Rattle.booth_follow_rule.specs.Examples.{StoriesAreFollowed}
use Rattle.booth_follow_rule.specs.Rule.{deeds_from}
use Rattle.booth_follow_rule.proofs.laws.stories_are_followed.Goals as goal

followed : StoriesAreFollowed
unfolding deeds_from
followed = record {
  a_whole_life_is = refl;
  what_fails_is = refl;
  no_start_is = refl;
  a_renewal_fails_is = refl;
  a_short_lease_is = refl;
  no_renewal_is_done_is = refl;
  a_stop_has_longer_is = refl;
  taken_over_is = refl;
  not_running_is = refl;
  nobody_answers_is = refl;
  shown_elsewhere_is = refl;
  begun_late_is = refl;
  begun_too_late_is = refl;
}

pub returns : goal.returns
returns c = followed
