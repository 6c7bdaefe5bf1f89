-- One call of a start, in the replay of its journal.
use Rattle.std.specs.Prelude.{Bool, true, false, not, ◌&&◌, Option, None, Some, Err, if◌then◌else◌}
use Rattle.std.proofs.Common.{◌≡◌, ◌+◌, ℕ, suc, List, [], ◌∷◌, refl, sym, ◌∙◌, ap, subst}
use Rattle.std.specs.Prelude.{Result, bytes_eq, length}
use Rattle.booth_rec.specs.declared.record.Record.{Record}
use Rattle.booth_journal.specs.declared.said.Answer.{Answer}
use Rattle.booth_journal.specs.declared.said.Call.{Call}
use Rattle.booth_journal.specs.Lines.{call_text}
use Rattle.booth_journal.specs.Looking.{begins_with_open}
use Rattle.booth_journal.specs.Says.{Said, answer_lines}
use Rattle.booth_node.specs.declared.node_config.NodeConfig.{NodeConfig}
use Rattle.booth_audit.specs.declared.end.End.{End}
use Rattle.booth_audit.specs.declared.end.End.TheVariants.{Over, Differs}
use Rattle.booth_audit.specs.Demand.{is_call}
use Rattle.booth_audit.specs.Judged.{by_answer}
use Rattle.booth_audit.specs.Replay.{Idle, Starting, Step, Strays, answered, begun, by_step, is_now, line_behind, replayed}
use Rattle.booth_audit.specs.Starts.{StartGoesOn, StartsAreReplayed}
use Rattle.booth_audit.proofs.TurnLemmas.{idle_so}

start_by : (node : NodeConfig) (reading : ℕ) (records : List (Option Record)) (more : List Call) (line : ℕ) (said : Said)
    (rest : List Said) (begins same : Bool) (answer : Option Answer) → is_now said.call ≡ begins → said.answer ≡ answer
    → StartGoesOn node reading records more line (said ∷ rest)
    (by_step (if begins && true then begun node answer else (if same then answered node reading records more answer else Strays)) line
    (λ after. replayed node after (line_behind line said) rest))
    (if begins && true then Err Over else (if same then by_answer answer else Err Differs))
start_by node reading records more line said rest true same answer now is =
    sym
    (ap (λ (s : Step). by_step s line (λ after. replayed node after (line_behind line said) rest))
    (idle_so node said rest now ∙ ap (begun node) is))
start_by node reading records more line said rest false true (Some answer) now is =
    let two : line_behind line said ≡ line + 2 = ap (λ (o : Option Answer). line + suc (length (answer_lines o))) is in (
      said,
      rest,
      refl,
      ap (λ (n : ℕ). by_step (answered node reading records more (Some answer)) line (λ after. replayed node after n rest)) two,
    )
start_by node reading records more line said rest false true None now is =
    let one : line_behind line said ≡ line + 1 = ap (λ (o : Option Answer). line + suc (length (answer_lines o))) is in
    (said, rest, refl, ap (λ (n : ℕ). replayed node Idle n rest) one)
start_by node reading records more line said rest false false answer now is = refl

pub starts_are_replayed : StartsAreReplayed
starts_are_replayed node reading records call more line [] other = refl
starts_are_replayed node reading records call more line (said ∷ rest) other =
    let asked : Bool → Result Answer End = λ x.
    if is_now said.call && not (x && not (begins_with_open rest)) then Err Over else
    (if bytes_eq (call_text call) (call_text said.call) then by_answer said.answer else Err Differs) in
    subst
    (λ (r : Result Answer End). StartGoesOn node reading records more line (said ∷ rest)
    (replayed node (Starting reading records (call ∷ more)) line (said ∷ rest)) r)
    (ap asked (sym other))
    (start_by node reading records more line said rest (is_now said.call) (is_call call said.call) said.answer refl refl)
