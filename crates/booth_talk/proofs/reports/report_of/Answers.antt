use Rattle.std.proofs.Common.{◌∙◌, sym}
use Rattle.booth_talk.proofs.ReplyLemmas.{replies}
use Rattle.booth_talk.proofs.reports.report_of.Goals as goal

pub unreachable-requires : goal.unreachable-requires
unreachable-requires c =
    let heard = replies.only c.args.asking.now c.requires.0 c.args.bytes.now c.args.reply.now c.requires.1 in
    let bad = sym c.in-Err.ensures.exact ∙ heard.1.read in
    cc
