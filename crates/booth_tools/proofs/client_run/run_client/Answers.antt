use Rattle.std.proofs.Common.{map, string_bytes}
use Rattle.booth_tools.proofs.ClientLemmas.{client_run_of}
use Rattle.booth_tools.proofs.client_run.run_client.Goals as goal

pub returns-clause-past : goal.returns-clause-past
returns-clause-past g c =
    client_run_of c.args.program (map string_bytes c.args.words.now) c.run_words-ended.result.outcome
    c.run_words-ended.result.said c.run_words-ended.ensures.past c.tell.ensures.past
