use Rattle.std.proofs.Common.{refl, sym}
use Rattle.booth_cli.specs.declared.command.Verb.TheVariants as verbs
use Rattle.booth_cli.proofs.AskingLemmas.{asks_client}
use Rattle.booth_cli.proofs.asking.asked_of.Goals as goal

pub returns-in-List : goal.returns-in-List
returns-in-List c = asks_client c.args.verb verbs.List c.args.read _ _ c.in-List.is tt c.client_of.ensures

pub returns-in-Peers : goal.returns-in-Peers
returns-in-Peers c = asks_client c.args.verb verbs.Peers c.args.read _ _ c.in-Peers.is tt c.client_of-in-Peers.ensures

pub returns-in-Show : goal.returns-in-Show
returns-in-Show c =
    asks_client c.args.verb verbs.Show c.args.read _ _ c.in-Show.is c.show.ensures c.client_of-in-Show.ensures

pub returns-in-DaemonStatus : goal.returns-in-DaemonStatus
returns-in-DaemonStatus c =
    asks_client c.args.verb verbs.DaemonStatus c.args.read _ _ c.in-DaemonStatus.is tt c.client_of-in-DaemonStatus.ensures

pub returns-in-Grant : goal.returns-in-Grant
returns-in-Grant c =
    asks_client c.args.verb verbs.Grant c.args.read _ _ c.in-Grant.is
    (sym c.named_ticket-ticket.ensures, refl) c.client_of-in-Grant.ensures

pub returns-in-Revoke : goal.returns-in-Revoke
returns-in-Revoke c =
    asks_client c.args.verb verbs.Revoke c.args.read _ _ c.in-Revoke.is
    (sym c.named_ticket-ticket-in-Revoke.ensures, refl) c.client_of-in-Revoke.ensures

pub returns-in-SetAttribute : goal.returns-in-SetAttribute
returns-in-SetAttribute c =
    asks_client c.args.verb verbs.SetAttribute c.args.read _ _ c.in-SetAttribute.is
    c.set_attribute.ensures c.client_of-in-SetAttribute.ensures

pub returns-in-ListAttributes : goal.returns-in-ListAttributes
returns-in-ListAttributes c =
    asks_client c.args.verb verbs.ListAttributes c.args.read _ _ c.in-ListAttributes.is
    (sym c.named_ticket-ticket-in-ListAttributes.ensures) c.client_of-in-ListAttributes.ensures
