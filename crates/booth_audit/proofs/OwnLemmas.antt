-- All starts of a replay are those of its member.
use Rattle.std.specs.Prelude.{Bool, true, false, Option, None, Some, if◌then◌else◌}
use Rattle.std.proofs.Common.{◌≡◌, ◌+◌, ℕ, List, [], ◌∷◌, ◌++◌, refl}
use Rattle.booth_host.specs.declared.entry.Entry.{Entry}
use Rattle.booth_journal.specs.declared.said.Answer.{Answer}
use Rattle.booth_journal.specs.declared.said.Answer.TheVariants as answers
use Rattle.booth_journal.specs.declared.said.Call.{Call}
use Rattle.booth_journal.specs.Says.{Said}
use Rattle.booth_node.specs.declared.node_config.NodeConfig.{NodeConfig}
use Rattle.booth_node.specs.Session.{CutCall, Stand}
use Rattle.booth_rec.specs.declared.record.Record.{Record}
use Rattle.booth_audit.specs.Demand.{cut, is_call, is_demanded, made}
use Rattle.booth_audit.specs.Own.{AllOwn, IsOwn, ReplaysAreOwn}
use Rattle.booth_audit.specs.Replay.{Did, Going, Idle, Passes, Place, Replayed, Starting, Step, Strays, answered, begins_start, begun, by_step, deeds_of, follows, goes_on, is_cut_short, line_behind, makes, makes_with, replayed, starts_with, stepped}

abbrev IsOwnStep : NodeConfig → Step → Type 0
IsOwnStep node (Passes place) = Unit {0}
IsOwnStep node (Did what place) = IsOwn node what
IsOwnStep node Strays = Unit {0}

module _ (node : NodeConfig) where
  either : (b : Bool) (one other : Step) → IsOwnStep node one → IsOwnStep node other → IsOwnStep node (if b then one else other)
  either true one other is then_is = is
  either false one other is then_is = then_is

  begun_own : (answer : Option Answer) → IsOwnStep node (begun node answer)
  begun_own None = tt
  begun_own (Some (answers.Reading reading)) = tt
  begun_own (Some answers.Done) = tt
  begun_own (Some answers.Fails) = tt
  begun_own (Some answers.Quiet) = tt
  begun_own (Some answers.Stop) = tt
  begun_own (Some (answers.Ended job status)) = tt
  begun_own (Some (answers.Data from bytes)) = tt
  begun_own (Some answers.Absent) = tt
  begun_own (Some (answers.Found kept)) = tt

  goes_own : (reading : ℕ) (records : List (Option Record)) (calls : List Call) → IsOwnStep node (goes_on node reading records calls)
  goes_own reading records [] = refl
  goes_own reading records (call ∷ more) = tt

  answered_own : (reading : ℕ) (records : List (Option Record)) (more : List Call) (answer : Option Answer)
      → IsOwnStep node (answered node reading records more answer)
  answered_own reading records more None = tt
  answered_own reading records more (Some (answers.Reading other)) = tt
  answered_own reading records more (Some answers.Done) = goes_own reading records more
  answered_own reading records more (Some answers.Fails) = tt
  answered_own reading records more (Some answers.Quiet) = tt
  answered_own reading records more (Some answers.Stop) = tt
  answered_own reading records more (Some (answers.Ended job status)) = tt
  answered_own reading records more (Some (answers.Data from bytes)) = tt
  answered_own reading records more (Some answers.Absent) = goes_own reading (records ++ None ∷ []) more
  answered_own reading records more (Some (answers.Found kept)) = goes_own reading (records ++ Some kept ∷ []) more

  starts_own : (reading : ℕ) (records : List (Option Record)) (calls : List Call) (said : Said)
      → IsOwnStep node (starts_with node reading records calls said)
  starts_own reading records [] said = tt
  starts_own reading records (call ∷ more) said =
      either (is_call call said.call) (answered node reading records more said.answer) Strays
      (answered_own reading records more said.answer) tt

  makes_own : (stand : Stand) (entry : Option Entry) → IsOwnStep node (makes stand entry)
  makes_own stand None = tt
  makes_own stand (Some entry) = tt

  cut_own : (call : Option CutCall) → IsOwnStep node (is_cut_short call)
  cut_own None = tt
  cut_own (Some call) = tt

  with_own : (stand : Stand) (answer : Option Answer) → IsOwnStep node (makes_with stand answer)
  with_own stand None = cut_own (cut stand)
  with_own stand (Some answer) = makes_own stand (made stand answer)

  follows_own : (place : Place) (said : Said) → IsOwnStep node (follows node place said)
  follows_own Idle said = tt
  follows_own (Starting reading records demands) said = starts_own reading records demands said
  follows_own (Going stand) said =
      either (is_demanded stand said.call) (makes_with stand said.answer) Strays (with_own stand said.answer) tt

  stepped_own : (place : Place) (said : Said) (more : List Said) → IsOwnStep node (stepped node place said more)
  stepped_own place said more =
      either (begins_start place said more) (begun node said.answer) (follows node place said) (begun_own said.answer)
      (follows_own place said)

  by_own : (step : Step) (line : ℕ) (rest : Place → Replayed) → IsOwnStep node step
      → ((place : Place) → AllOwn node (deeds_of (rest place).events)) → AllOwn node (deeds_of (by_step step line rest).events)
  by_own (Passes place) line rest is others = others place
  by_own (Did what place) line rest is others = (is, others place)
  by_own Strays line rest is others = tt

  pub replayed_own : (place : Place) (line : ℕ) (all : List Said) → AllOwn node (deeds_of (replayed node place line all).events)
  replayed_own place line [] = tt
  replayed_own place line (said ∷ more) =
      by_own (stepped node place said more) line (λ after. replayed node after (line_behind line said) more)
      (stepped_own place said more) (λ after. replayed_own after (line_behind line said) more)

pub replays_are_own : ReplaysAreOwn
replays_are_own node all = replayed_own node Idle 1 all
