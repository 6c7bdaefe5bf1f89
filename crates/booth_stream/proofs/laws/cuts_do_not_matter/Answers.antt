use Rattle.booth_stream.proofs.FeedLemmas.{cuts_do_not_matter}
use Rattle.booth_stream.proofs.laws.cuts_do_not_matter.Goals as goal

pub returns : goal.returns
returns c = cuts_do_not_matter
