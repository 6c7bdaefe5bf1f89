use Rattle.std.proofs.Common.{map, rules, string_bytes}
use Rattle.booth_daemon.proofs.RunLemmas.{about_asked, asks_audit, asks_daemon, asks_simulation, asks_status, audited_made, fits_about, fits_asked, fits_audited, fits_summed}
use Rattle.booth_daemon.proofs.RunLemmas.{looked_made, served_made, summed_made, told_asked}
use Rattle.booth_daemon.proofs.run.run_words.Goals as goal

pub returns-in-Ok-Daemon-clause-past : goal.returns-in-Ok-Daemon-clause-past
returns-in-Ok-Daemon-clause-past g c =
    served_made (map string_bytes c.args.words.now) c.in-Ok-Daemon.asked c.serve.result.outcome c.serve.result.said
    (asks_daemon (map string_bytes c.args.words.now) c.in-Ok-Daemon.asked c.in-Ok-Daemon.field-0 c.in-Ok-Daemon.ensures (search rules)) c.serve.ensures.past

pub returns-in-Ok-Status-clause-past : goal.returns-in-Ok-Status-clause-past
returns-in-Ok-Status-clause-past g c =
    looked_made (map string_bytes c.args.words.now) c.in-Ok-Status.lock c.status.result.outcome c.status.result.said
    (asks_status (map string_bytes c.args.words.now) c.in-Ok-Status.lock c.in-Ok-Status.field-0 c.in-Ok-Status.ensures (search rules)) c.status.ensures.past

pub returns-in-Ok-Simulation-clause-past : goal.returns-in-Ok-Simulation-clause-past
returns-in-Ok-Simulation-clause-past g c =
    summed_made (map string_bytes c.args.words.now) c.in-Ok-Simulation.asked c.simulate.result.outcome c.simulate.result.said
    (asks_simulation (map string_bytes c.args.words.now) c.in-Ok-Simulation.asked c.in-Ok-Simulation.field-0 c.in-Ok-Simulation.ensures (search rules)) c.simulate.ensures.past

pub returns-in-Ok-Simulation-clause-words : goal.returns-in-Ok-Simulation-clause-words
returns-in-Ok-Simulation-clause-words g c =
    fits_summed (map string_bytes c.args.words.now) c.in-Ok-Simulation.asked c.simulate.result.outcome
    (asks_simulation (map string_bytes c.args.words.now) c.in-Ok-Simulation.asked c.in-Ok-Simulation.field-0 c.in-Ok-Simulation.ensures (search rules)) c.simulate.ensures.outcome

pub returns-in-Ok-Audit-clause-past : goal.returns-in-Ok-Audit-clause-past
returns-in-Ok-Audit-clause-past g c =
    audited_made (map string_bytes c.args.words.now) c.in-Ok-Audit.asked c.audit.result.outcome c.audit.result.said
    (asks_audit (map string_bytes c.args.words.now) c.in-Ok-Audit.asked c.in-Ok-Audit.field-0 c.in-Ok-Audit.ensures (search rules)) c.audit.ensures.past

pub returns-in-Ok-Audit-clause-words : goal.returns-in-Ok-Audit-clause-words
returns-in-Ok-Audit-clause-words g c =
    fits_audited (map string_bytes c.args.words.now) c.in-Ok-Audit.asked c.audit.result.outcome
    (asks_audit (map string_bytes c.args.words.now) c.in-Ok-Audit.asked c.in-Ok-Audit.field-0 c.in-Ok-Audit.ensures (search rules)) c.audit.ensures.outcome

pub returns-in-Err-Untaken-clause-past : goal.returns-in-Err-Untaken-clause-past
returns-in-Err-Untaken-clause-past g c =
    told_asked (map string_bytes c.args.words.now) c.in-Err-Untaken.error c.in-Err-Untaken.field-0 c.tell_error.result.outcome c.tell_error.result.said
    c.in-Err-Untaken.ensures (search rules) c.tell_error.ensures.outcome c.tell_error.ensures.past

pub returns-in-Err-About-clause-past : goal.returns-in-Err-About-clause-past
returns-in-Err-About-clause-past g c =
    about_asked (map string_bytes c.args.words.now) c.in-Err-About.page c.in-Err-About.field-0 c.tell_page.result.outcome c.tell_page.result.said
    c.in-Err-About.ensures (search rules) c.tell_page.ensures.past

pub returns-in-Err-About-clause-words : goal.returns-in-Err-About-clause-words
returns-in-Err-About-clause-words g c =
    fits_about (map string_bytes c.args.words.now) c.in-Err-About.page c.in-Err-About.field-0 c.tell_page.result.outcome
    c.in-Err-About.ensures (search rules) c.tell_page.ensures.outcome

pub returns-in-Err-Untaken-clause-words : goal.returns-in-Err-Untaken-clause-words
returns-in-Err-Untaken-clause-words g c =
    fits_asked (map string_bytes c.args.words.now) c.in-Err-Untaken.error c.in-Err-Untaken.field-0 c.tell_error.result.outcome
    c.in-Err-Untaken.ensures (search rules) c.tell_error.ensures.outcome
