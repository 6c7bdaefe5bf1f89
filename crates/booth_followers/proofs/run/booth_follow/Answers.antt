use Rattle.std.proofs.Common.{map, string_bytes}
use Rattle.booth_followers.proofs.RunLemmas.{follow_run_of}
use Rattle.booth_followers.proofs.run.booth_follow.Goals as goal

pub returns-clause-past : goal.returns-clause-past
returns-clause-past g c =
    follow_run_of c.args.setting.now.left (map string_bytes c.args.words.now) c.run_words-ended.result.outcome c.run_words-ended.result.said
    c.run_words-ended.ensures.past c.tell.ensures.past
