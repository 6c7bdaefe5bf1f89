use Rattle.std.proofs.Common.{◌≡◌, ◌∙◌, List, [], sym, ap, subst, arith}
use Rattle.std.proofs.lemmas.Result.{IfOk-weaker}
use Rattle.std.specs.Prelude.{Some}
use Rattle.booth_base.specs.declared.address.Address.{Address}
use Rattle.booth_conf.specs.Config.{ConfigSays}
use Rattle.booth_conf.specs.declared.tickets.TicketConf.{TicketConf}
use Rattle.booth_journal.specs.declared.said.Call.TheVariants as calls
use Rattle.booth_journal.specs.Lines.{call_text}
use Rattle.booth_audit.specs.Course.{kept_calls, started_at}
use Rattle.booth_audit.proofs.BeginLemmas.{ReadsOn}
use Rattle.booth_audit.proofs.RecordLemmas.{open_ended, open_failed, opened_here, started_then}
use Rattle.booth_audit.proofs.starting.read_start.Goals as goal

pub returns-in-Some-end : goal.returns-in-Some-end
returns-in-Some-end c reading left says =
    open_ended c.args.whose.now.node reading c.args.lines.now c.done.new.self left c.bytes.result.now c.in-Some.opened says
    c.requires.short c.requires.running
    (c.bytes.ensures.value ∙ c.spell_open.ensures.bytes
    ∙ ap (λ (a : Address). call_text (calls.Open (Some a))) c.address.ensures)
    (λ l s. c.in-Some.ensures l s) c.in-Some-end.field-0 (sym c.in-Some-end.is ∙ c.end.ensures)

pub returns-in-Err : goal.returns-in-Err
returns-in-Err c reading left says =
    open_failed c.args.whose.now.node reading c.args.lines.now c.done.new.self left c.bytes.result.now c.in-Some.opened says
    c.requires.short c.requires.running
    (c.bytes.ensures.value ∙ c.spell_open.ensures.bytes
    ∙ ap (λ (a : Address). call_text (calls.Open (Some a))) c.address.ensures)
    (λ l s. c.in-Some.ensures l s) c.in-Err.field-0 c.in-Err.is (sym c.in-None.is ∙ c.end.ensures)

pub read_records-requires : goal.read_records-requires
read_records-requires c =
    let on =
    opened_here c.args.whose.now.node 0 c.args.lines.now c.done.new.self c.requires.says.0 c.bytes.result.now c.in-Some.opened
    c.requires.says.1 c.requires.short c.requires.running
    (c.bytes.ensures.value ∙ c.spell_open.ensures.bytes
    ∙ ap (λ (a : Address). call_text (calls.Open (Some a))) c.address.ensures)
    (λ l s. c.in-Some.ensures l s) c.in-Ok.field-0 c.in-Ok.is (sym c.in-None.is ∙ c.end.ensures) in
    let within = on.left.within in
    record {
      running = sym c.end.ensures ∙ c.in-None.is;
      short = omega (arith, within, c.requires.short);
      says = (on.then_left, on.left.says);
    }

pub returns-in-Ok : goal.returns-in-Ok
returns-in-Ok c reading left says =
    let node = c.args.whose.now.node in
    let same : node.config.tickets ≡ c.tickets.result.now =
    sym (c.tickets.ensures.value ∙ ap (λ (config : ConfigSays). config.tickets) c.config.ensures) in
    let on =
    subst
    (λ (l : List TicketConf). ReadsOn node reading (started_at node reading c.args.lines.now.line left) [] (kept_calls l)
    c.args.lines.now c.done.new.self)
    same
    (opened_here node reading c.args.lines.now c.done.new.self left c.bytes.result.now c.in-Some.opened says
    c.requires.short c.requires.running
    (c.bytes.ensures.value ∙ c.spell_open.ensures.bytes
    ∙ ap (λ (a : Address). call_text (calls.Open (Some a))) c.address.ensures)
    (λ l s. c.in-Some.ensures l s) c.in-Ok.field-0 c.in-Ok.is (sym c.in-None.is ∙ c.end.ensures)) in
    IfOk-weaker c.read_records.result _ _ (λ found has. started_then _ on has)
    (c.read_records.ensures node reading on.then_left same on.left.says)
