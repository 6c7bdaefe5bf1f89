-- A keep that answered Ok changes a record, a send to a member a frame, and no other deed changes anything.
use Rattle.std.proofs.Common.{◌∙◌, ap, refl, sym}
use Rattle.booth_host.specs.declared.entry.Entry.TheVariants.{Keep, Send}
use Rattle.booth_sim.proofs.Seen.{idle_deed, kept_seen, no_member, sent_seen}
use Rattle.booth_sim.proofs.counting.count.Goals as goal

pub returns-in-Ok-clause-seen : goal.returns-in-Ok-clause-seen
returns-in-Ok-clause-seen c =
    λ before time none seen. kept_seen c.args.config.now before c.args.from time c.args.deed.now c.bytes.result.now c.in-Keep.record c.in-Keep.answer
    c.args.kept.now c.keep.new.kept c.args.frames.now c.args.summary.now c.keep.new.summary
    (c.in-Keep.is ∙ ap (λ name. Keep name c.in-Keep.record c.in-Keep.answer) (sym c.bytes.ensures)) c.in-Ok.field-0 c.in-Ok.is seen
    (c.keep.ensures.kept before c.args.from time seen.records) (c.keep.ensures.counted before c.args.from time seen.records seen.counted)

pub returns-in-Err-answer-clause-seen : goal.returns-in-Err-answer-clause-seen
returns-in-Err-answer-clause-seen c =
    λ before time none seen. idle_deed c.args.config.now before c.args.from time c.args.deed.now _ c.args.kept.now c.args.frames.now
    c.args.summary.now (c.in-Keep.is ∙ ap (λ a. Keep c.in-Keep.ticket c.in-Keep.record a) c.in-Err-answer.is) tt refl none seen

pub returns-in_ok-push-in-Send-clause-seen : goal.returns-in_ok-push-in-Send-clause-seen
returns-in_ok-push-in-Send-clause-seen c =
    λ before time none seen. sent_seen c.args.config.now before c.args.from time c.args.deed.now c.in-Send.to c.bytes-in-Some.result.now c.in-Send.answer
    c.in-Some.to c.args.kept.now c.args.frames.now c.push.new.self c.args.summary.now
    (c.in-Send.is ∙ ap (λ bytes. Send c.in-Send.to bytes c.in-Send.answer) (sym c.bytes-in-Some.ensures)) (cc) c.in_ok-push-in-Send.ensures.ok seen

pub returns-in_default-clause-seen : goal.returns-in_default-clause-seen
returns-in_default-clause-seen c =
    λ before time none seen. idle_deed c.args.config.now before c.args.from time c.args.deed.now _ c.args.kept.now c.args.frames.now
    c.args.summary.now c.in-Send.is tt (no_member c.args.config.now c.args.from c.in-Send.to c.in-Send.bytes c.in-Send.answer (cc)) none seen

pub returns-in-Start-clause-seen : goal.returns-in-Start-clause-seen
returns-in-Start-clause-seen c =
    λ before time none seen. idle_deed c.args.config.now before c.args.from time c.args.deed.now _ c.args.kept.now c.args.frames.now
    c.args.summary.now c.in-Start.is tt refl none seen

pub returns-in-Next-clause-seen : goal.returns-in-Next-clause-seen
returns-in-Next-clause-seen c =
    λ before time none seen. idle_deed c.args.config.now before c.args.from time c.args.deed.now _ c.args.kept.now c.args.frames.now
    c.args.summary.now c.in-Next.is tt refl none seen

pub returns-in-Now-clause-seen : goal.returns-in-Now-clause-seen
returns-in-Now-clause-seen c =
    λ before time none seen. idle_deed c.args.config.now before c.args.from time c.args.deed.now _ c.args.kept.now c.args.frames.now
    c.args.summary.now c.in-Now.is tt refl none seen

pub returns-in-Open-clause-seen : goal.returns-in-Open-clause-seen
returns-in-Open-clause-seen c =
    λ before time none seen. idle_deed c.args.config.now before c.args.from time c.args.deed.now _ c.args.kept.now c.args.frames.now
    c.args.summary.now c.in-Open.is tt refl none seen

pub returns-in-ReadFile-clause-seen : goal.returns-in-ReadFile-clause-seen
returns-in-ReadFile-clause-seen c =
    λ before time none seen. idle_deed c.args.config.now before c.args.from time c.args.deed.now _ c.args.kept.now c.args.frames.now
    c.args.summary.now c.in-ReadFile.is tt refl none seen

pub returns-in-Lock-clause-seen : goal.returns-in-Lock-clause-seen
returns-in-Lock-clause-seen c =
    λ before time none seen. idle_deed c.args.config.now before c.args.from time c.args.deed.now _ c.args.kept.now c.args.frames.now
    c.args.summary.now c.in-Lock.is tt refl none seen

pub returns-in-Kept-clause-seen : goal.returns-in-Kept-clause-seen
returns-in-Kept-clause-seen c =
    λ before time none seen. idle_deed c.args.config.now before c.args.from time c.args.deed.now _ c.args.kept.now c.args.frames.now
    c.args.summary.now c.in-Kept.is tt refl none seen

pub returns-in-Out-clause-seen : goal.returns-in-Out-clause-seen
returns-in-Out-clause-seen c =
    λ before time none seen. idle_deed c.args.config.now before c.args.from time c.args.deed.now _ c.args.kept.now c.args.frames.now
    c.args.summary.now c.in-Out.is tt refl none seen

pub returns-in-Err-clause-seen : goal.returns-in-Err-clause-seen
returns-in-Err-clause-seen c =
    λ before time none seen. idle_deed c.args.config.now before c.args.from time c.args.deed.now _ c.args.kept.now c.args.frames.now
    c.args.summary.now c.in-Err.is tt refl none seen
