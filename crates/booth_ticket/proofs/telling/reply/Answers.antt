use Rattle.std.proofs.Common.{◌∙◌, ap}
use Rattle.booth_wire.specs.declared.command.Cmd.{Cmd}
use Rattle.booth_wire.specs.declared.message.Setup.{Setup}
use Rattle.booth_raft.specs.declared.view.View.{View}
use Rattle.booth_raft.specs.Messages.{head_of, state_part}
use Rattle.booth_ticket.specs.Requests.{reply}
use Rattle.booth_ticket.proofs.SayLemmas.{did_said}
use Rattle.booth_ticket.proofs.telling.reply.Goals as goal

pub returns : goal.returns
unfolding reply
returns g c =
    let setup = c.args.core.now.setup in
    let request = c.args.request.now in
    record {
      did = did_said _ _ _ _ _
          (c.reply_head-head.ensures
          ∙ ap (λ (s : Setup). head_of s c.reply_cmd-cmd.result request.number 0 0 c.args.answer)
          c.setup.ensures.value
          ∙ ap (λ (m : Cmd). head_of setup m request.number 0 0 c.args.answer)
          c.reply_cmd-cmd.ensures.cmd)
          (c.reply_part-part.ensures
          ∙ ap (λ (s : Setup). state_part s c.view.result.now c.args.now) c.setup-2.ensures.value
          ∙ ap (λ (v : View). state_part setup v c.args.now) c.view.ensures.value)
          c.say.ensures.did;
    }
