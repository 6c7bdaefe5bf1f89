-- One call of a start in the replay of its journal.
use Rattle.std.specs.Prelude.{◌≡◌, ◌+◌, ℕ, false, List, [], ◌∷◌, Option, Some, Result, Ok, Err}
use Rattle.booth_rec.specs.declared.record.Record.{Record}
use Rattle.booth_journal.specs.declared.said.Answer.{Answer}
use Rattle.booth_journal.specs.declared.said.Call.{Call}
use Rattle.booth_journal.specs.Lines.{call_text}
use Rattle.booth_journal.specs.Says.{Said}
use Rattle.booth_node.specs.declared.node_config.NodeConfig.{NodeConfig}
use Rattle.booth_audit.specs.declared.end.End.{End}
use Rattle.booth_audit.specs.declared.end.End.TheVariants.{Over, Cut, Differs}
use Rattle.booth_audit.specs.Judged.{is_now_text, judged}
use Rattle.booth_audit.specs.Replay.{Idle, Replayed, Starting, answered, by_step, replayed}

-- The replay of a start, by the lines for its next call. The next call is requested, and the start has these further
-- calls to make. If the lines end here, the start has no session.
abbrev pub StartGoesOn : NodeConfig → ℕ → List (Option Record) → List Call → ℕ → List Said → Replayed
    → Result Answer End → Type 0
StartGoesOn node reading records more line left whole (Ok answer) =
    (said : Said) × (rest : List Said) × (left ≡ said ∷ rest)
    × (whole
    ≡ by_step (answered node reading records more (Some answer)) line (λ after. replayed node after (line + 2) rest))
StartGoesOn node reading records more line left whole (Err Over) = whole ≡ replayed node Idle line left
StartGoesOn node reading records more line left whole (Err Cut) =
    (said : Said) × (rest : List Said) × (left ≡ said ∷ rest) × (whole ≡ replayed node Idle (line + 1) rest)
StartGoesOn node reading records more line left whole (Err Differs) =
    whole ≡ record { events = []; strays = Some line }

-- Each call of a start continues in this way.
abbrev pub StartsAreReplayed : Type 0
StartsAreReplayed =
    (node : NodeConfig) (reading : ℕ) (records : List (Option Record)) (call : Call) (more : List Call) (line : ℕ)
    (left : List Said) → is_now_text (call_text call) ≡ false
    → StartGoesOn node reading records more line left
    (replayed node (Starting reading records (call ∷ more)) line left)
    (judged (call_text call) left)
