use Rattle.std.proofs.Common.{map, rules, string_bytes, subst}
use Rattle.booth_host.specs.Past.{GrewSome}
use Rattle.booth_tools.specs.Client.{IsClientLog}
use Rattle.booth_cli.specs.declared.asking.ClientWords.{ClientWords}
use Rattle.booth_cli.specs.declared.asking.MoveWords.{MoveWords}
use Rattle.booth_tools.specs.MoveRun.{IsMoveLog}
use Rattle.booth_tools.proofs.ClientLemmas.{about_asked, asks_client, fits_about, fits_answered, fits_asked, no_follow_asked, talked_made, told_asked}
use Rattle.booth_tools.proofs.MoveLemmas.{asks_move, fits_moved, moved_made}
use Rattle.booth_tools.proofs.client_run.run_words.Goals as goal

pub returns-in-Ok-Client-clause-past : goal.returns-in-Ok-Client-clause-past
returns-in-Ok-Client-clause-past g c =
    talked_made c.args.program (map string_bytes c.args.words.now) c.in-Ok-Client.asked c.ask_daemon.result.outcome c.ask_daemon.result.said
    (asks_client c.args.program (map string_bytes c.args.words.now) c.in-Ok-Client.asked c.in-Ok-Client.field-0 c.in-Ok-Client.ensures (search rules))
    (subst (λ (a : ClientWords). GrewSome (IsClientLog a c.ask_daemon.result.outcome c.ask_daemon.result.said) (g.H.Host.past c.args.host.now) (g.H.Host.past c.ask_daemon.new.host))
    (search rules) c.ask_daemon.ensures.past)

pub returns-in-Ok-Client-clause-words : goal.returns-in-Ok-Client-clause-words
returns-in-Ok-Client-clause-words g c =
    fits_answered c.args.program (map string_bytes c.args.words.now) c.in-Ok-Client.asked c.ask_daemon.result.outcome
    (asks_client c.args.program (map string_bytes c.args.words.now) c.in-Ok-Client.asked c.in-Ok-Client.field-0 c.in-Ok-Client.ensures (search rules)) c.ask_daemon.ensures.served

pub returns-in-Ok-Move-clause-past : goal.returns-in-Ok-Move-clause-past
returns-in-Ok-Move-clause-past g c =
    moved_made c.args.program (map string_bytes c.args.words.now) c.in-Ok-Move.asked c.move_ticket.result.outcome c.move_ticket.result.said
    (asks_move c.args.program (map string_bytes c.args.words.now) c.in-Ok-Move.asked c.in-Ok-Move.field-0 c.in-Ok-Move.ensures (search rules))
    (subst (λ (a : MoveWords). GrewSome (IsMoveLog a c.move_ticket.result.outcome c.move_ticket.result.said) (g.H.Host.past c.args.host.now) (g.H.Host.past c.move_ticket.new.host))
    (search rules) c.move_ticket.ensures.past)

pub returns-in-Ok-Move-clause-words : goal.returns-in-Ok-Move-clause-words
returns-in-Ok-Move-clause-words g c =
    fits_moved c.args.program (map string_bytes c.args.words.now) c.in-Ok-Move.asked c.move_ticket.result.outcome
    (asks_move c.args.program (map string_bytes c.args.words.now) c.in-Ok-Move.asked c.in-Ok-Move.field-0 c.in-Ok-Move.ensures (search rules)) c.move_ticket.ensures.served

pub returns-in-Err-Untaken-clause-past : goal.returns-in-Err-Untaken-clause-past
returns-in-Err-Untaken-clause-past g c =
    told_asked c.args.program (map string_bytes c.args.words.now) c.in-Err-Untaken.error c.in-Err-Untaken.field-0 c.tell_error.result.outcome c.tell_error.result.said
    c.in-Err-Untaken.ensures (search rules) c.tell_error.ensures.outcome c.tell_error.ensures.past

pub tell_page-requires : goal.tell_page-requires
tell_page-requires g c = no_follow_asked c.args.program c.requires.client

pub returns-in-Err-About-clause-past : goal.returns-in-Err-About-clause-past
returns-in-Err-About-clause-past g c =
    about_asked c.args.program (map string_bytes c.args.words.now) c.in-Err-About.page c.in-Err-About.field-0 c.tell_page.result.outcome c.tell_page.result.said
    c.in-Err-About.ensures (search rules) c.tell_page.ensures.past

pub returns-in-Err-About-clause-words : goal.returns-in-Err-About-clause-words
returns-in-Err-About-clause-words g c =
    fits_about c.args.program (map string_bytes c.args.words.now) c.in-Err-About.page c.in-Err-About.field-0 c.tell_page.result.outcome
    c.in-Err-About.ensures (search rules) c.tell_page.ensures.outcome

pub returns-in-Err-Untaken-clause-words : goal.returns-in-Err-Untaken-clause-words
returns-in-Err-Untaken-clause-words g c =
    fits_asked c.args.program (map string_bytes c.args.words.now) c.in-Err-Untaken.error c.in-Err-Untaken.field-0 c.tell_error.result.outcome
    c.in-Err-Untaken.ensures (search rules) c.tell_error.ensures.outcome
