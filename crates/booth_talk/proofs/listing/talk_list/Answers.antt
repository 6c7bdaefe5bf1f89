use Rattle.booth_talk.specs.Parts.{text_of}
use Rattle.std.proofs.Common.{◌∙◌}
use Rattle.booth_talk.proofs.ListLemmas.{list_asked}
use Rattle.booth_talk.proofs.listing.talk_list.Goals as goal

pub returns-in-Ok-clause-past : goal.returns-in-Ok-clause-past
returns-in-Ok-clause-past g c =
    list_asked c.args.asking.now c.args.to.now c.args.start c.bytes.result.now c.wait_list.result (text_of c.wait_list.new.parts)
    c.in-Ok.ensures.past (c.bytes.ensures.value ∙ c.put_request.ensures) c.wait_list.ensures.past
