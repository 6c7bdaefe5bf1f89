-- A renewal is heard as a round, from the view that has seen its term.
use Rattle.std.proofs.Common.{◌∙◌, ap}
use Rattle.std.proofs.lemmas.Bool.{ne_eqb}
use Rattle.booth_raft.specs.declared.view.RoundKind.TheVariants.{Renewal}
use Rattle.booth_raft.specs.declared.view.View.{View}
use Rattle.booth_raft.specs.RoundsAndAnswers.{hear_round}
use Rattle.booth_raft.proofs.other_messages.hear_renewal.Goals as goal

pub returns-else-head-eq0-clause-view : goal.returns-else-head-eq0-clause-view
returns-else-head-eq0-clause-view c =
    rw (ne_eqb c.args.head.now.options 0 c.if-head-eq0.false) (c.hear_round.ensures.view
    ∙ ap (λ (v : View). (hear_round c.args.setup.now v Renewal c.args.head.now c.args.part.now c.args.now).view) c.with_seen.ensures)

pub returns-else-head-eq0-clause-deed : goal.returns-else-head-eq0-clause-deed
returns-else-head-eq0-clause-deed c =
    rw (ne_eqb c.args.head.now.options 0 c.if-head-eq0.false) (c.hear_round.ensures.deed
    ∙ ap (λ (v : View). (hear_round c.args.setup.now v Renewal c.args.head.now c.args.part.now c.args.now).deed) c.with_seen.ensures)
