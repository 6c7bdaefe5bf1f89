-- The lines in which a start read its records.
use Rattle.std.specs.Prelude.{bytes_eq, codes, length, map, slice_get, ◌&&◌, Bool, true, false, Option, None, Some, Ok, if◌then◌else◌}
use Rattle.std.specs.List.{flat_map}
use Rattle.std.proofs.Common.{◌≡◌, ◌<◌, ◌+◌, ◌-◌, ◌*◌, ℕ, zero, suc, List, [], ◌∷◌, ◌++◌, append-nil, append_assoc, refl, sym, ◌∙◌, ap, arith}
use Rattle.std.proofs.lemmas.Option.{slice_get_within}
use Rattle.std.proofs.lemmas.Slice.Eq.{bytes_eq-Decides}
use Rattle.booth_conf.specs.declared.tickets.TicketConf.{TicketConf}
use Rattle.booth_rec.specs.declared.record.Record.{Record}
use Rattle.booth_journal.specs.declared.said.Answer.{Answer}
use Rattle.booth_journal.specs.declared.said.Call.{Call}
use Rattle.booth_journal.specs.declared.said.Call.TheVariants as calls
use Rattle.booth_journal.specs.Lines.{answer_text, call_text}
use Rattle.booth_journal.specs.Says.{Said, answer_lines, lines_saying}
use Rattle.booth_node.specs.declared.node_config.NodeConfig.{NodeConfig}
use Rattle.booth_audit.specs.Course.{kept_calls, start_on}
use Rattle.booth_audit.specs.Demand.{is_call}
use Rattle.booth_audit.specs.Faults.{answer_line}
use Rattle.booth_audit.specs.Left.{found_answer}
use Rattle.booth_audit.specs.ReadLines.{AreRead, StartsHaveLines, last_read}
use Rattle.booth_audit.specs.Replay.{Starting, Step, Strays, answered, begun, by_step, goes_on, is_now, line_behind, replayed, stepped}
use Rattle.booth_audit.proofs.RecordLemmas.{goes_on_is}

-- ---- numbers

-- the line of the answer to the read at a place
pub answer_here : (count first place : ℕ) → place < count
    → answer_line count place (last_read count first) ≡ first + 2 * place + 1
answer_here count first place below = omega (arith, below)

-- ---- the reads, in the replay

answered_so : (node : NodeConfig) (reading : ℕ) (records : List (Option Record)) (more : List Call)
    (found : Option Record) → answered node reading records more (Some (found_answer (Ok found)))
    ≡ goes_on node reading (records ++ found ∷ []) more
answered_so node reading records more None = refl
answered_so node reading records more (Some kept) = refl

-- one read
read_on : (node : NodeConfig) (reading line : ℕ) (records : List (Option Record)) (name : List ℕ) (more : List Call)
    (found : Option Record) (said : Said) (others : List Said) → is_call (calls.Kept name) said.call ≡ true
    → said.answer ≡ Some (found_answer (Ok found))
    → start_on node reading records (calls.Kept name ∷ more) line (said ∷ others)
    ≡ start_on node reading (records ++ found ∷ []) more (line + 2) others
read_on node reading line records name more found said others is answer =
    let same : call_text (calls.Kept name) ≡ call_text said.call =
    (bytes_eq-Decides (call_text (calls.Kept name)) (call_text said.call)).0 is in
    let other : is_now said.call ≡ false = ap (λ (t : List ℕ). bytes_eq (codes "now") t) (sym same) in
    let goes : stepped node (Starting reading records (calls.Kept name ∷ more)) said others
    ≡ goes_on node reading (records ++ found ∷ []) more =
    ap (λ (b : Bool). if b && true then begun node said.answer else
    (if is_call (calls.Kept name) said.call then answered node reading records more said.answer else Strays)) other
    ∙ ap (λ (b : Bool). if b then answered node reading records more said.answer else Strays) is
    ∙ ap (λ (o : Option Answer). answered node reading records more o) answer
    ∙ answered_so node reading records more found in
    let two : line_behind line said ≡ line + 2 =
    ap (λ (o : Option Answer). line + suc (length (answer_lines o))) answer in
    ap (λ (s : Step). by_step s line (λ after. replayed node after (line_behind line said) others)) goes
    ∙ goes_on_is node reading (records ++ found ∷ []) more line (line_behind line said) others two
    ∙ ap (λ (n : ℕ). start_on node reading (records ++ found ∷ []) more n others) two

-- all reads
reads_on : (node : NodeConfig) (reading line : ℕ) (before : List (Option Record)) (tickets : List TicketConf)
    (records : List (Option Record)) (left more : List Said) → AreRead tickets records left more
    → start_on node reading before (kept_calls tickets) line left
    ≡ start_on node reading (before ++ records) [] (line + 2 * length tickets) more
reads_on node reading line before [] [] left more are =
    let none : line ≡ line + 2 * 0 = omega arith in
    ap (λ (l : List Said). start_on node reading before [] line l) are
    ∙ ap (λ (l : List (Option Record)). start_on node reading l [] line more) (sym (append-nil before))
    ∙ ap (λ (n : ℕ). start_on node reading (before ++ []) [] n more) none
reads_on node reading line before (ticket ∷ tickets) (found ∷ records) left more are =
    let next : line + 2 + 2 * length tickets ≡ line + 2 * suc (length tickets) = omega arith in
    ap (λ (l : List Said). start_on node reading before (kept_calls (ticket ∷ tickets)) line l) are.2
    ∙ read_on node reading line before ticket.name (kept_calls tickets) found are.0 are.1 are.3 are.4
    ∙ reads_on node reading (line + 2) (before ++ found ∷ []) tickets records are.1 more are.5
    ∙ ap (λ (l : List (Option Record)). start_on node reading l [] (line + 2 + 2 * length tickets) more)
    (append_assoc before (found ∷ []) records)
    ∙ ap (λ (n : ℕ). start_on node reading (before ++ found ∷ records) [] n more) next
reads_on node reading line before [] (found ∷ records) left more are = absurd are
reads_on node reading line before (ticket ∷ tickets) [] left more are = absurd are

-- ---- the reads, in the lines

reads_count : (tickets : List TicketConf) (records : List (Option Record)) (left more : List Said)
    → AreRead tickets records left more → length records ≡ length tickets
reads_count [] [] left more are = refl
reads_count (ticket ∷ tickets) (found ∷ records) left more are =
    ap suc (reads_count tickets records are.1 more are.5)
reads_count [] (found ∷ records) left more are = absurd are
reads_count (ticket ∷ tickets) [] left more are = absurd are

read_line : (tickets : List TicketConf) (records : List (Option Record)) (left more : List Said) (place : ℕ)
    (found : Option Record) → AreRead tickets records left more → slice_get records place ≡ Some found
    → slice_get (flat_map lines_saying left) (2 * place + 1) ≡ Some (answer_text (found_answer (Ok found)))
read_line [] [] left more place found are at = let none : None ≡ Some found = at in absurd cc
read_line (ticket ∷ tickets) (first ∷ records) left more zero found are at =
    let here : Some first ≡ Some found = at in
    let same : first ≡ found = cc in
    ap (λ (l : List Said). slice_get (flat_map lines_saying l) 1) are.2
    ∙ ap (λ (o : Option Answer). slice_get (call_text are.0.call ∷ (answer_lines o ++ flat_map lines_saying are.1)) 1)
    are.4
    ∙ ap (λ (f : Option Record). Some (answer_text (found_answer (Ok f)))) same
read_line (ticket ∷ tickets) (first ∷ records) left more (suc place) found are at =
    let two : 2 * suc place + 1 ≡ suc (suc (2 * place + 1)) = omega arith in
    ap (λ (l : List Said). slice_get (flat_map lines_saying l) (2 * suc place + 1)) are.2
    ∙ ap (λ (o : Option Answer). slice_get (call_text are.0.call ∷ (answer_lines o ++ flat_map lines_saying are.1))
    (2 * suc place + 1)) are.4
    ∙ ap
    (λ (n : ℕ). slice_get
    (call_text are.0.call ∷ (answer_text (found_answer (Ok first)) ∷ flat_map lines_saying are.1)) n) two
    ∙ read_line tickets records are.1 more place found are.5 at
read_line [] (first ∷ records) left more place found are at = absurd are
read_line (ticket ∷ tickets) [] left more place found are at = absurd are

pub starts_have_lines : StartsHaveLines
starts_have_lines node reading first records left more are = (
  reads_on node reading first [] node.config.tickets records left more are,
  λ place found at.
      let count = reads_count node.config.tickets records left more are in
      let within = slice_get_within records place found at in
      let here = answer_here (length node.config.tickets) first place (omega (arith, count, within)) in
      let there : answer_line (length node.config.tickets) place (last_read (length node.config.tickets) first) - first
      ≡ 2 * place + 1 = omega (arith, here) in
      ap (λ (n : ℕ). slice_get (flat_map lines_saying left) n) there
      ∙ read_line node.config.tickets records left more place found are at,
)
