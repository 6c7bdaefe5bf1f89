use Rattle.std.proofs.Common.{map, rules, string_bytes, subst}
use Rattle.booth_host.specs.Past.{GrewSome}
use Rattle.booth_cli.specs.declared.asking.FollowWords.{FollowWords}
use Rattle.booth_followers.specs.Service.{IsFollowLog}
use Rattle.booth_followers.proofs.RunLemmas.{asks_follow, fits_asked, followed_made, told_asked}
use Rattle.booth_followers.proofs.run.run_words.Goals as goal

pub returns-in-Ok-Follow-clause-past : goal.returns-in-Ok-Follow-clause-past
returns-in-Ok-Follow-clause-past g c =
    followed_made c.args.setting.now.left (map string_bytes c.args.words.now) c.in-Ok-Follow.asked c.follow_ticket.result.outcome c.follow_ticket.result.said
    (asks_follow (map string_bytes c.args.words.now) c.in-Ok-Follow.asked c.in-Ok-Follow.field-0 c.in-Ok-Follow.ensures (search rules))
    (subst (λ (a : FollowWords). GrewSome (IsFollowLog c.args.setting.now.left a c.follow_ticket.result.outcome c.follow_ticket.result.said) (g.H.Host.past c.args.host.now) (g.H.Host.past c.follow_ticket.new.host))
    (search rules) c.follow_ticket.ensures.past)

pub returns-in-Err-Untaken-clause-past : goal.returns-in-Err-Untaken-clause-past
returns-in-Err-Untaken-clause-past g c =
    told_asked c.args.setting.now.left (map string_bytes c.args.words.now) c.in-Err-Untaken.error c.in-Err-Untaken.field-0 c.tell_error.result.outcome c.tell_error.result.said
    c.in-Err-Untaken.ensures (search rules) c.tell_error.ensures.outcome c.tell_error.ensures.past

pub returns-in-Err-Untaken-clause-words : goal.returns-in-Err-Untaken-clause-words
returns-in-Err-Untaken-clause-words g c =
    fits_asked (map string_bytes c.args.words.now) c.in-Err-Untaken.error c.in-Err-Untaken.field-0 c.tell_error.result.outcome
    c.in-Err-Untaken.ensures (search rules) c.tell_error.ensures.outcome
