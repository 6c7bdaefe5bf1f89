use Rattle.std.proofs.Common.{◌∙◌, ap}
use Rattle.booth_wire.specs.declared.command.Cmd.{Cmd}
use Rattle.booth_wire.specs.declared.message.Setup.{Setup}
use Rattle.booth_manual.specs.declared.view.ManualView.{ManualView}
use Rattle.booth_raft.specs.Messages.{head_of}
use Rattle.booth_ticket.specs.Manual.{manual_state}
use Rattle.booth_ticket.specs.ManualRequests.{manual_reply}
use Rattle.booth_ticket.proofs.SayLemmas.{did_said}
use Rattle.booth_ticket.proofs.manual_requests.manual_reply.Goals as goal

pub returns : goal.returns
unfolding manual_reply
returns g c =
    let setup = c.args.rules.now.setup in
    let request = c.args.request.now in
    record {
      did = did_said _ _ _ _ _
          (c.reply_head-head.ensures
          ∙ ap (λ (s : Setup). head_of s c.reply_cmd-cmd.result request.number 0 0 c.args.answer) c.setup.ensures
          ∙ ap (λ (m : Cmd). head_of setup m request.number 0 0 c.args.answer) c.reply_cmd-cmd.ensures.cmd)
          (c.client_part-part.ensures
          ∙ ap (λ (s : Setup). manual_state s c.view.result.now) c.setup-2.ensures
          ∙ ap (λ (v : ManualView). manual_state setup v) c.view.ensures.value)
          c.say.ensures.did;
    }
