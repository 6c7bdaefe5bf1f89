-- Whether a daemon can serve a configuration: the daemon must be one of its members.
use Rattle.std.specs.Prelude.{◌≡◌, ℕ, Bool, true, false, List}
use Rattle.std.specs.Prelude.{Result, Ok, Err}
use Rattle.std.specs.List.{list_any}
use Rattle.booth_base.specs.declared.address.Address.{Address}
use Rattle.booth_conf.specs.Config.{ConfigSays}
use Rattle.booth_conf.specs.Says.{Says}
use Rattle.booth_conf.specs.Rules.{is_at}
use Rattle.booth_outcomes.specs.declared.outcome.Outcome.{Outcome}
use Rattle.booth_outcomes.specs.declared.outcome.Outcome.TheVariants.{NotMember}
use Rattle.booth_outcomes.specs.declared.outcome.Ended.{Ended}
use Rattle.booth_outcomes.specs.Texts.{not_member_text}

-- A member of the configuration has this address.
abbrev pub has_member : ConfigSays → Address → Bool
has_member config address = list_any (is_at address) config.members

-- The text spells a configuration that has this daemon as a member.
pub record IsFit (address : Address) (text : List ℕ) (config : ConfigSays) : Type 0 where
  pub says : Says text config
  pub member : has_member config address ≡ true

-- This daemon does not serve the configuration, because its member is missing.
abbrev pub IsUnserved : Address → ConfigSays → Outcome → List ℕ → Type 0
IsUnserved address config NotMember said = (has_member config address ≡ false)
    × (said ≡ not_member_text address)
IsUnserved address config outcome said = ⊥

-- The daemon serves the configuration, or this is how it ends if it does not.
abbrev pub IsAdmitted : Address → ConfigSays → Result (Unit {0}) Ended → Type 0
IsAdmitted address config (Ok done) = has_member config address ≡ true
IsAdmitted address config (Err ended) = IsUnserved address config ended.outcome ended.said
