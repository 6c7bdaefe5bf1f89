-- The calls of a whole run of booth-follow.
use Rattle.std.specs.Prelude.{◌≡◌, ◌++◌, ℕ, List, Option, Some, None}
use Rattle.booth_host.specs.declared.entry.Entry.{Entry}
use Rattle.booth_cli.specs.declared.asking.FollowWords.{FollowWords}
use Rattle.booth_cli.specs.declared.program.Program.TheVariants.{BoothFollow}
use Rattle.booth_cli.specs.Asking.{AsksFollow, AsksNothing, NamesCommand, IsUntaken, HasBadWord}
use Rattle.booth_outcomes.specs.declared.outcome.Outcome.{Outcome}
use Rattle.booth_outcomes.specs.declared.outcome.Outcome.TheVariants.{Usage, BadWord, PrintFault, OutOfMemory}
use Rattle.booth_outcomes.specs.Texts.{IsText}
use Rattle.booth_outcomes.specs.Unasked.{IsRequest, IsUnasked}
use Rattle.booth_followers.specs.Service.{IsFollowAnswered, IsFollowLog}

-- the calls up to the one that decides the outcome, for these arguments
pub data IsFollowMade (left : Option ℕ) (words : List (List ℕ)) (outcome : Outcome) (said : List ℕ)
    (entries : List Entry) : Type 0 where
  Unasked : IsUnasked BoothFollow words outcome said entries → IsFollowMade left words outcome said entries
  Followed : (asked : FollowWords) → AsksFollow words asked → IsFollowLog left asked outcome said entries →
      IsFollowMade left words outcome said entries

-- All calls of a run with these arguments and an end that an earlier run left, the last of which reports how it
-- ended.
pub record IsFollowRun (left : Option ℕ) (words : List (List ℕ)) (outcome : Outcome)
    (entries : List Entry) : Type 0 where
  pub said : List ℕ
  pub body : List Entry
  pub last : List Entry
  pub whole : entries ≡ body ++ last
  pub made : IsFollowMade left words outcome said body
  pub told : IsText BoothFollow said last

-- the arguments ask for a service that follows its ticket, with any options
pub record AskToFollow (words : List (List ℕ)) : Type 0 where
  pub asked : FollowWords
  pub asks : AsksFollow words asked

-- Usage comes only for invalid arguments, BadWord exactly if that argument is the first invalid one, PrintFault only
-- if help or the version was requested, and out of memory only if there is an argument.
abbrev pub FitsFollowWords : List (List ℕ) → Outcome → Type 0
FitsFollowWords words (Usage None) = AsksNothing BoothFollow words
FitsFollowWords words (Usage (Some kind)) = IsUntaken BoothFollow words kind
FitsFollowWords words (BadWord word) = HasBadWord BoothFollow words word
FitsFollowWords words PrintFault = IsRequest BoothFollow words
FitsFollowWords words OutOfMemory = NamesCommand BoothFollow words
FitsFollowWords words outcome = AskToFollow words × IsFollowAnswered outcome
