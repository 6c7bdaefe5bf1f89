use Rattle.std.proofs.Common.{◌≡◌, ◌∙◌, ◌++◌, ◌/◌, ◌%◌, Bool, ℕ, codes, cond, decimal, le-ltb, subst, sym}
use Rattle.booth_talk.specs.declared.date.TheConstants.{LAST}
use Rattle.booth_talk.specs.Civil.{civil_of, day_text, time_text}
use Rattle.booth_talk.proofs.CivilLemmas.{shown}
use Rattle.booth_talk.proofs.date.date_text.Goals as goal

pub returns-else-seconds-gt-LAST : goal.returns-else-seconds-gt-LAST
returns-else-seconds-gt-LAST c =
    let s : ℕ = c.args.seconds in
    subst (λ (b : Bool). c.put_moment.new.text.bytes
    ≡ cond b (codes "@" ++ decimal s) (day_text (civil_of (s / 86400)) ++ codes " " ++ time_text (s % 86400)))
    (sym (le-ltb LAST s c.if-seconds-gt-LAST.false))
    (c.put_moment.ensures ∙ shown c.moment.result s c.if-seconds-gt-LAST.false c.moment.ensures)
