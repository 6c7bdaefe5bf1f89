-- The outcomes of a run in which the environment does not fail.
use Rattle.std.specs.Prelude.{◌≡◌, ◌++◌, Contains, ℕ, List, [], ◌∷◌, Option, Result, Ok, Err, Bool, true, false, T}
use Rattle.booth_base.specs.declared.address.Address.{Address}
use Rattle.booth_conf.specs.Config.{ConfigSays}
use Rattle.booth_conf.specs.Says.{Says}
use Rattle.booth_follow_rule.specs.declared.margins.Margins.{Margins}
use Rattle.booth_following.specs.Choosing.{IsChosen}
use Rattle.booth_host.specs.declared.host.Failed.{Failed}
use Rattle.booth_host.specs.declared.host.ReadFault.{ReadFault}
use Rattle.booth_host.specs.declared.host.ReadFault.TheVariants as reads
use Rattle.booth_host.specs.declared.entry.Entry.{Entry}
use Rattle.booth_host.specs.declared.entry.Entry.TheVariants.{Open, ReadFile}
use Rattle.booth_cli.specs.declared.asking.FollowWords.{FollowWords}
use Rattle.booth_cli.specs.declared.command.Verb.TheVariants as verbs
use Rattle.booth_cli.specs.declared.program.Program.TheVariants.{BoothFollow}
use Rattle.booth_cli.specs.Asking.{AsksFollow}
use Rattle.booth_cli.specs.Valid.{AreValid}
use Rattle.booth_outcomes.specs.declared.outcome.Outcome.{Outcome}
use Rattle.booth_outcomes.specs.declared.outcome.Outcome.TheVariants as outs
use Rattle.booth_outcomes.specs.Keys.{IsKeyFile, NamesKeyFile}
use Rattle.booth_followers.specs.Run.{IsFollowRun}

-- calls that read files
unfoldable pub AreReads : List Entry → Type 0
AreReads [] = Unit {0}
AreReads (ReadFile file answer ∷ rest) = AreReads rest
AreReads (entry ∷ rest) = ⊥

-- A file was read with this answer before the turns: only files were read before it.
pub record IsReadFirst (entries : List Entry) (file : List ℕ) (answer : Result (List ℕ) ReadFault) : Type 0 where
  pub before : List Entry
  pub after : List Entry
  pub whole : entries ≡ before ++ ReadFile file answer ∷ after
  pub reads : AreReads before

-- No call before the turns failed for another reason than out of memory, and what was read then is valid: each text
-- of the configuration spells one in which the ticket can be followed with these arguments, and each key file that it
-- names holds a key.
pub record IsUnhindered (asked : FollowWords) (entries : List Entry) : Type 0 where
  pub read : (file : List ℕ) → IsReadFirst entries file (Err reads.Failed) → ⊥
  pub valid : (text : List ℕ) → IsReadFirst entries asked.conf (Ok text)
      → (config : ConfigSays) × Says text config
  pub fits : (text : List ℕ) (config : ConfigSays) → IsReadFirst entries asked.conf (Ok text) → Says text config
      → (margins : Margins) × IsChosen config asked.ticket asked.site asked.margin asked.kill margins
  pub keyed : (text file key_text : List ℕ) (config : ConfigSays) → IsReadFirst entries asked.conf (Ok text)
      → Says text config → NamesKeyFile config file → IsReadFirst entries file (Ok key_text) → IsKeyFile key_text
  pub opened : (local : Option Address) (port : ℕ) (records conf_path : List ℕ) (failed : Failed)
      → Contains entries (Open local port records conf_path (Err failed)) → ⊥

-- the outcomes without a fault
abbrev pub is_followed_through : Outcome → Bool
is_followed_through outs.Done = true
is_followed_through outs.TurnsSpent = true
is_followed_through outs.OutOfMemory = true
is_followed_through outcome = false

abbrev pub IsFollowedThrough : Outcome → Type 0
IsFollowedThrough outcome = T (is_followed_through outcome)

-- Valid arguments, a valid file and keys, a ticket that can be followed with them, and an environment that does not
-- fail before the turns give Done, TurnsSpent or OutOfMemory, and no other outcome.
abbrev pub FaultlessServices : Type 0
FaultlessServices =
    (left : Option ℕ) (words : List (List ℕ)) (outcome : Outcome) (entries : List Entry)
    → AreValid BoothFollow words verbs.Follow
    → IsFollowRun left words outcome entries
    → ((asked : FollowWords) → AsksFollow words asked → IsUnhindered asked entries) → IsFollowedThrough outcome
