use Rattle.std.proofs.Common.{sym, subst}
use Rattle.booth_wire.specs.PlainMessage.{PlainMessage, plain_of}
use Rattle.booth_wire.specs.Spelling.{blank_auth, Fits, HasAuth}
use Rattle.booth_wire.proofs.AgainLemmas.{len_blank}
use Rattle.booth_wire.proofs.FrameLemmas.{spelling_has_auth}
use Rattle.booth_wire.proofs.writing.encode.Goals as goal

pub returns-clause-auth : goal.returns-clause-auth
returns-clause-auth c = λ keyed.
    let l : PlainMessage = plain_of c.args.message.now in
    let fits : Fits l = record { head = c.put_frame.ensures.head; part = c.put_frame.ensures.part; kind = c.requires.kind; named = c.requires.named; text = c.requires.text } in
    subst HasAuth (sym c.put_frame.ensures.bytes) (spelling_has_auth l (blank_auth l.head.auth) fits (len_blank l.head.auth) keyed)
