use Rattle.std.specs.Str.Parse.{digits_value}
use Rattle.std.proofs.Common.{◌≡◌, ◌++◌, ◌∙◌, List, ℕ, ap, codes}
use Rattle.std.proofs.lemmas.Result.{IfOk-weaker}
use Rattle.booth_talk.specs.Fields.{first, rest}
use Rattle.booth_talk.specs.Forms.{labelled, last_text, member_labels}
use Rattle.booth_talk.proofs.LineLemmas.{three_shown}
use Rattle.booth_talk.proofs.lines.put_member.Goals as goal

pub returns : goal.returns
returns c =
    let line : List ℕ = c.args.line.now in
    let numbers = c.rest-numbers.ensures ∙ ap rest c.rest.ensures in
    let seconds : c.number_in.result ≡ digits_value 10 (first (rest (rest line))) =
    c.number_in.ensures ∙ ap (digits_value 10) (c.first.ensures ∙ ap first numbers) in
    let counts = c.rest-2.ensures ∙ ap rest numbers in
    IfOk-weaker c.put.result _ _
    (λ x put.
    three_shown c.args.shown.now.items _ (labelled member_labels c.rest-2.result.now) (codes "\n") _ _ _
    c.in_ok-put_member_head.ensures c.in_ok-put_labelled.ensures put
    ∙ ap (λ n. c.args.shown.now.items
    ++ (((first line ++ codes " " ++ first (rest line) ++ codes ", last: " ++ last_text n) ++ labelled member_labels c.rest-2.result.now) ++ codes "\n")) seconds
    ∙ ap (λ t. c.args.shown.now.items
    ++ (((first line ++ codes " " ++ first (rest line) ++ codes ", last: " ++ last_text (digits_value 10 (first (rest (rest line)))))
    ++ labelled member_labels t) ++ codes "\n")) counts)
    c.put.ensures
