-- A service's calls from their parts.
use Rattle.std.specs.Prelude.{Option, None, Ok, Err}
use Rattle.std.proofs.Common.{◌≡◌, ◌++◌, ℕ, List, [], ◌∷◌, refl, sym, ap, subst}
use Rattle.booth_keys.specs.declared.ring.Ring.{Ring}
use Rattle.booth_conf.specs.Config.{ConfigSays}
use Rattle.booth_follow_rule.specs.declared.margins.Margins.{Margins}
use Rattle.booth_following.specs.declared.choosing.FollowFault.{FollowFault}
use Rattle.booth_following.specs.declared.following.Following.{Following}
use Rattle.booth_following.specs.Choosing.{HasFault, IsChosen}
use Rattle.booth_following.specs.Following.{IsFollowing}
use Rattle.booth_host.specs.declared.entry.Entry.{Entry}
use Rattle.booth_host.specs.declared.entry.Entry.TheVariants.{Open}
use Rattle.booth_host.specs.Past.{GrewBy, GrewSome}
use Rattle.booth_host.proofs.PastLemmas.{no_entry, some_joined, some_of, some_weaker, then_some}
use Rattle.booth_cli.specs.declared.asking.FollowWords.{FollowWords}
use Rattle.booth_outcomes.specs.declared.outcome.Ended.{Ended}
use Rattle.booth_outcomes.specs.declared.outcome.Outcome.{Outcome}
use Rattle.booth_outcomes.specs.declared.outcome.Outcome.TheVariants as outs
use Rattle.booth_outcomes.specs.Configuration.{IsConfigRead, IsUnreadOutcome}
use Rattle.booth_outcomes.specs.Keys.{IsRingRead, IsKeylessOutcome}
use Rattle.booth_outcomes.specs.Texts.{not_followed_text, out_of_memory_text}
use Rattle.booth_followers.specs.Rounds.{IsService}
use Rattle.booth_followers.specs.Service.{FollowsConfig, FollowsKey, FollowsMargins, IsFollowAnswered, IsFollowLog, IsStarted, daemon_of, options_of}
use Rattle.booth_followers.specs.Service.{Fitted, Keyed, Keyless, Read, Roomless, Serving, SetOut, Unfollowed, Unread}

-- ---- outcomes

pub unread_answered : (outcome : Outcome) → IsUnreadOutcome outcome → IsFollowAnswered outcome
unread_answered outs.ConfUnread unread = tt
unread_answered (outs.ConfBad fault) unread = tt
unread_answered outs.OutOfMemory unread = tt
unread_answered outcome unread = absurd unread

pub keyless_answered : (outcome : Outcome) → IsKeylessOutcome outcome → IsFollowAnswered outcome
keyless_answered outs.KeyUnread keyless = tt
keyless_answered (outs.KeyBad fault) keyless = tt
keyless_answered outs.OutOfMemory keyless = tt
keyless_answered outcome keyless = absurd keyless

-- ---- the service and the socket

pub opened : (left : Option ℕ) (conf : List ℕ) (f : Following) (outcome : Outcome) (said : List ℕ) {a b c : Option (List Entry)} →
    GrewBy a b (Open None 0 [] conf (Ok tt) ∷ []) → GrewSome (IsService left conf f outcome said) b c →
    GrewSome (IsStarted left conf f outcome said) a c
opened left conf f outcome said socket serves =
    then_some (IsService left conf f outcome said) (IsStarted left conf f outcome said) socket
    (λ ys h. Serving (record { rest = ys; whole = refl; serves = h })) serves

-- ---- the memory

module _ (left : Option ℕ) (asked : FollowWords) (config : ConfigSays) (ring : Option Ring) (margins : Margins) where
  pub no_room : (ended : Ended) {a : Option (List Entry)} → ended.outcome ≡ outs.OutOfMemory → ended.said ≡ out_of_memory_text →
      GrewSome (FollowsKey left asked config ring margins ended.outcome ended.said) a a
  no_room ended out is =
      some_of (FollowsKey left asked config ring margins ended.outcome ended.said) no_entry
      (subst (λ outcome. FollowsKey left asked config ring margins outcome ended.said []) (sym out) (Roomless (is, refl)))

  pub set_out : (f : Following) (outcome : Outcome) (said : List ℕ) {a b : Option (List Entry)} →
      IsFollowing ring asked.ticket (daemon_of asked config) (options_of asked margins) f →
      GrewSome (IsStarted left asked.conf f outcome said) a b → GrewSome (FollowsKey left asked config ring margins outcome said) a b
  set_out f outcome said is starts =
      some_weaker (IsStarted left asked.conf f outcome said) (FollowsKey left asked config ring margins outcome said)
      (λ es h. SetOut (record { f = f; is = is; starts = h })) starts

-- ---- the key

module _ (left : Option ℕ) (asked : FollowWords) (config : ConfigSays) (margins : Margins) where
  pub with_key : (ring : Option Ring) (outcome : Outcome) (said : List ℕ) {a b c : Option (List Entry)} →
      GrewSome (IsRingRead config (Ok ring)) a b → GrewSome (FollowsKey left asked config ring margins outcome said) b c →
      GrewSome (FollowsMargins left asked config margins outcome said) a c
  with_key ring outcome said read follows =
      some_joined (IsRingRead config (Ok ring)) (FollowsKey left asked config ring margins outcome said) (FollowsMargins left asked config margins outcome said)
      (λ xs ys h k. Keyed (record {
        ring = ring;
        texts = h.0;
        holds = h.1;
        rest = ys;
        whole = ap (λ zs. zs ++ ys) h.2;
        here = k;
      })) read follows

  pub without_key : (ended : Ended) {a b : Option (List Entry)} → GrewSome (IsRingRead config (Err ended)) a b →
      GrewSome (FollowsMargins left asked config margins ended.outcome ended.said) a b
  without_key ended read =
      some_weaker (IsRingRead config (Err ended)) (FollowsMargins left asked config margins ended.outcome ended.said) (λ es h. Keyless h) read

-- ---- the margins and the configuration

module _ (left : Option ℕ) (asked : FollowWords) (config : ConfigSays) where
  pub fitted : (margins : Margins) (outcome : Outcome) (said : List ℕ) {a b : Option (List Entry)} →
      IsChosen config asked.ticket asked.site asked.margin asked.kill margins →
      GrewSome (FollowsMargins left asked config margins outcome said) a b → GrewSome (FollowsConfig left asked config outcome said) a b
  fitted margins outcome said chosen follows =
      some_weaker (FollowsMargins left asked config margins outcome said) (FollowsConfig left asked config outcome said)
      (λ es h. Fitted (record { margins = margins; chosen = chosen; here = h })) follows

  pub unfollowed : (fault : FollowFault) (said : List ℕ) {a : Option (List Entry)} →
      HasFault config asked.ticket asked.site asked.margin asked.kill fault → said ≡ not_followed_text asked.ticket fault →
      GrewSome (FollowsConfig left asked config (outs.NotFollowed fault) said) a a
  unfollowed fault said has is =
      some_of (FollowsConfig left asked config (outs.NotFollowed fault) said) no_entry (Unfollowed (has, is, refl))

  pub read_all : (outcome : Outcome) (said : List ℕ) {a b c : Option (List Entry)} → GrewSome (IsConfigRead asked.conf (Ok config)) a b →
      GrewSome (FollowsConfig left asked config outcome said) b c → GrewSome (IsFollowLog left asked outcome said) a c
  read_all outcome said read follows =
      some_joined (IsConfigRead asked.conf (Ok config)) (FollowsConfig left asked config outcome said) (IsFollowLog left asked outcome said)
      (λ xs ys h k. Read (record {
        text = h.0;
        config = config;
        says = h.1;
        rest = ys;
        whole = ap (λ zs. zs ++ ys) h.2;
        here = k;
      })) read follows

pub not_read : (left : Option ℕ) (asked : FollowWords) (ended : Ended) {a b : Option (List Entry)} → GrewSome (IsConfigRead asked.conf (Err ended)) a b →
    GrewSome (IsFollowLog left asked ended.outcome ended.said) a b
not_read left asked ended read = some_weaker (IsConfigRead asked.conf (Err ended)) (IsFollowLog left asked ended.outcome ended.said) (λ es h. Unread h) read
