use Rattle.std.proofs.Common.{◌∙◌}
use Rattle.booth_talk.proofs.FieldLemmas.{is_shown, never_shown}
use Rattle.booth_talk.proofs.fields.is_printed.Goals as goal

pub returns-in-Ok : goal.returns-in-Ok
returns-in-Ok c =
    is_shown c.args.text.now c.as_bytes.result.now c.in-Ok.address c.eq.result c.is_whole.ensures c.in-Ok.ensures
    (c.as_bytes.ensures.value ∙ c.deref.ensures.0 ∙ c.print.ensures) c.eq.ensures

pub returns-in-Err : goal.returns-in-Err
returns-in-Err c = never_shown c.args.text.now c.in-Err.ensures
