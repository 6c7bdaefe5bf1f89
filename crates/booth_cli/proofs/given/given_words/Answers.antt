use Rattle.std.proofs.Common.{◌∙◌, ap, ◌≡◌, map, string_bytes, List, [], refl, subst, true}
use Rattle.clap.specs.Words.{App, Row, HasKind, fault_of, found_of, is_simple, is_simple_and_free, kind_of, matches_of, takes}
use Rattle.clap.specs.declared.error.kind.ErrorKind.TheVariants.{OutOfMemory}
use Rattle.clap.specs.Words.{rows_of}
use Rattle.booth_cli.specs.Commands.{app_for}
use Rattle.booth_cli.proofs.GivenLemmas.{has_needed, texts_are, simple, simple_and_free}
use Rattle.booth_cli.proofs.given.given_words.Goals as goal

pub returns-in-Err-try_get_matches_from-clause-kinds :
    goal.returns-in-Err-try_get_matches_from-clause-kinds
returns-in-Err-try_get_matches_from-clause-kinds c =
    let is = c.in-Ok.ensures in
    subst (λ (a : App). HasKind (fault_of a (map string_bytes c.args.words.now)) c.in-Err-try_get_matches_from.error) is
    (c.in-Err-try_get_matches_from.ensures.kinds (ap is_simple_and_free is ∙ simple_and_free c.args.verb))

pub returns-clause-kinds : goal.returns-clause-kinds
returns-clause-kinds c =
    let is = c.in-Ok.ensures in
    subst (λ (a : App). fault_of a (map string_bytes c.args.words.now) ≡ []) is
    (c.in-Ok-try_get_matches_from.ensures.kinds (ap is_simple_and_free is ∙ simple_and_free c.args.verb))

pub returns-clause-given : goal.returns-clause-given
returns-clause-given c =
    let is = c.in-Ok.ensures in
    let rows : List Row = matches_of (app_for c.args.verb) (map string_bytes c.args.words.now) in
    let m = c.in-Ok-try_get_matches_from.matches in
    let same : rows_of (found_of m) ≡ rows =
    (c.in-Ok-try_get_matches_from.ensures.matches (ap is_simple is ∙ simple c.args.verb)).0
    ∙ ap (λ (a : App). matches_of a (map string_bytes c.args.words.now)) is in
    texts_are m rows _ same c.get_str.ensures c.get_str-2.ensures c.get_str-3.ensures c.get_str-4.ensures c.get_str-5.ensures
    c.get_str-6.ensures c.get_str-7.ensures c.get_str-8.ensures c.get_str-9.ensures c.get_str-10.ensures c.get_str-11.ensures c.get_str-12.ensures c.get_str-13.ensures c.get_str-14.ensures c.has_flag.ensures c.has_flag-2.ensures c.has_flag-3.ensures c.has_flag-4.ensures c.has_flag-5.ensures c.has_flag-6.ensures refl

pub returns-clause-needed : goal.returns-clause-needed
returns-clause-needed c =
    has_needed c.in-Ok.command c.in-Ok-try_get_matches_from.matches c.in-Ok-try_get_matches_from.ensures.parsed c.args.verb _ c.in-Ok.ensures
    c.get_str.ensures c.get_str-2.ensures c.get_str-3.ensures c.get_str-4.ensures c.get_str-11.ensures c.get_str-12.ensures

pub returns-in-Err-clause-given : goal.returns-in-Err-clause-given
returns-in-Err-clause-given c = tt

pub returns-in-Err-clause-needed : goal.returns-in-Err-clause-needed
returns-in-Err-clause-needed c = tt

pub returns-in-Err-clause-passes : goal.returns-in-Err-clause-passes
returns-in-Err-clause-passes c = λ taken. c.from.ensures

pub returns-in-Err-try_get_matches_from-clause-given :
    goal.returns-in-Err-try_get_matches_from-clause-given
returns-in-Err-try_get_matches_from-clause-given c = tt

pub returns-in-Err-try_get_matches_from-clause-needed :
    goal.returns-in-Err-try_get_matches_from-clause-needed
returns-in-Err-try_get_matches_from-clause-needed c = tt

pub returns-in-Err-try_get_matches_from-clause-passes :
    goal.returns-in-Err-try_get_matches_from-clause-passes
returns-in-Err-try_get_matches_from-clause-passes c =
    subst (λ (a : App). takes a (map string_bytes c.args.words.now) ≡ true → kind_of c.in-Err-try_get_matches_from.error ≡ OutOfMemory)
    c.in-Ok.ensures c.in-Err-try_get_matches_from.ensures.passes

pub returns-clause-passes : goal.returns-clause-passes
returns-clause-passes c = tt
