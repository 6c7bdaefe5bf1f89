use Rattle.std.proofs.Common.{map, string_bytes, sym}
use Rattle.booth_cli.specs.Given.{texts_of}
use Rattle.booth_cli.proofs.AskingLemmas.{asks, has_words}
use Rattle.booth_cli.proofs.asking.ask.Goals as goal

pub returns-in-Ok-read_words : goal.returns-in-Ok-read_words
returns-in-Ok-read_words c =
    asks c.args.program (map string_bytes c.args.words.now) c.in-Some.verb (texts_of c.in-Ok.given) c.in-Ok-read_words.read c.asked_of.result
    (sym c.in-Some.ensures) c.in-Ok.ensures.kinds c.in-Ok.ensures.given c.in-Ok-read_words.ensures c.asked_of.ensures

pub asked_of-requires : goal.asked_of-requires
asked_of-requires c =
    has_words c.in-Some.verb (texts_of c.in-Ok.given) c.in-Ok-read_words.read c.in-Ok.ensures.needed c.in-Ok-read_words.ensures
