use Rattle.std.proofs.Common.{◌≡◌, false, ap, ◌∙◌, sym, ◌++◌, ◌∷◌, [], List}
use Rattle.std.specs.List.{list_any}
use Rattle.booth_conf.specs.Rules.{is_at}
use Rattle.booth_conf.specs.declared.members.Member.{Member}
use Rattle.booth_conf.proofs.MemberLemmas.{address_pushed, addresses}
use Rattle.booth_conf.proofs.members.MemberList.push.Goals as goal

pub invariant_of-self-2 : goal.invariant_of-self-2
invariant_of-self-2 c =
    let old : List Member = c.self.inside.members.items in
    let new : list_any (is_at c.args.member.address) old ≡ false = rw c.self.view_is c.requires in
    let added : c.push.new.self.items ≡ old ++ c.args.member ∷ [] =
    rw c.unwrap.ensures at c.push.ensures.items
    ∙ ap (λ ms. ms ++ c.args.member ∷ []) c.reserve.ensures.items in
    c.in_ok-insert.ensures.keys
    ∙ address_pushed c.args.member c.self.inside.addresses.keys old c.self.invariant new
    ∙ ap addresses (sym added)
