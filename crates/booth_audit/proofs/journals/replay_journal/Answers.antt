use Rattle.std.proofs.Common.{◌∙◌, ap, arith}
use Rattle.booth_conf.specs.Config.{ConfigSays}
use Rattle.booth_audit.specs.Tally.{nothing_tallied}
use Rattle.booth_audit.proofs.JournalLemmas.{idle_more, idle_none, replayed_all, replayed_strays}
use Rattle.booth_audit.proofs.journals.replay_journal.Goals as goal

pub runs-init : goal.runs-init
runs-init c = record {
  idle = λ all says. idle_none c.args.whose.now c.args.text.now all c.in_ok-tally.tally
      (c.in_ok-tally.ensures ∙ ap nothing_tallied (c.tickets.ensures.value ∙ ap (λ (k : ConfigSays). k.tickets) c.config.ensures)) says;
}

pub replay_next-requires : goal.replay_next-requires
replay_next-requires c =
    let idle = c.runs.invariant.idle c.requires.says.0 c.requires.says.1 in
    let within = idle.still.within in
    let short = c.requires.short in
    record { short = omega (arith, within, short); says = (idle.then_left, idle.still.says) }

pub returns-in_default : goal.returns-in_default
returns-in_default c all says =
    let idle = c.runs.invariant.idle all says in
    let found = c.in_ok-behind.ensures idle.then_left idle.still.says in
    let none = rw c.in_default.is at found in
    replayed_all idle none.0 none.1

pub returns-then-behind : goal.returns-then-behind
returns-then-behind c all says =
    let idle = c.runs.invariant.idle all says in
    let found = c.in_ok-behind.ensures idle.then_left idle.still.says in
    let next = rw c.in-Some.is at found in
    replayed_strays idle next c.if-behind.true

pub runs-preserved : goal.runs-preserved
runs-preserved c = record {
  idle = λ all says.
      let idle = c.runs.invariant.idle all says in
      let found = c.in_ok-behind.ensures idle.then_left idle.still.says in
      let next = rw c.in-Some.is at found in
      idle_more idle next c.if-behind.false;
}

pub runs-smaller : goal.runs-smaller
runs-smaller c =
    let idle = c.runs.invariant.idle c.requires.says.0 c.requires.says.1 in
    let found = c.in_ok-behind.ensures idle.then_left idle.still.says in
    let next = rw c.in-Some.is at found in
    next.shorter c.if-behind.false
