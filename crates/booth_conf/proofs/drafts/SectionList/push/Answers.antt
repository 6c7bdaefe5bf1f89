use Rattle.std.proofs.Common.{◌≡◌, false, ap, ◌∙◌, sym, ◌++◌, ◌∷◌, [], List, ℕ, map}
use Rattle.std.specs.List.{list_any}
use Rattle.booth_conf.specs.Rules.{has_name, name_of}
use Rattle.booth_conf.specs.declared.sections.NamedSection.{NamedSection}
use Rattle.booth_conf.proofs.LastLemmas.{name_pushed}
use Rattle.booth_conf.proofs.drafts.SectionList.push.Goals as goal

pub invariant_of-self-2 : goal.invariant_of-self-2
invariant_of-self-2 c =
    let old : List NamedSection = c.self.inside.sections.items in
    let named : NamedSection = record { name = c.args.name; section = c.args.section } in
    let new : list_any (has_name c.args.name) old ≡ false = rw c.self.view_is c.requires in
    let added : c.push.new.self.items ≡ old ++ named ∷ [] =
    rw c.unwrap.ensures at c.push.ensures.items ∙ ap (λ (ts : List NamedSection). ts ++ (record { name = c.copy.result; section = c.args.section }) ∷ []) c.reserve.ensures.items
    ∙ ap (λ (n : List ℕ). old ++ (record { name = n; section = c.args.section }) ∷ []) c.copy.ensures in
    c.in_ok-insert.ensures.keys
    ∙ name_pushed named c.self.inside.names.keys old c.self.invariant new
    ∙ ap (map name_of) (sym added)
