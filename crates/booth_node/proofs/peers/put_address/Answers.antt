use Rattle.std.proofs.Common.{ℕ, true, List, ◌≡◌, sym, ◌∙◌, subst}
use Rattle.std.specs.List.{list_all}
use Rattle.booth_base.specs.Name.{is_line_byte}
use Rattle.booth_node.proofs.PeerLemmas.{address_is_line}
use Rattle.booth_node.proofs.peers.put_address.Goals as goal

pub put-requires-clause-form : goal.put-requires-clause-form
put-requires-clause-form c =
    let P : List ℕ → Type 0 = λ bytes. list_all is_line_byte bytes ≡ true in
    subst P (sym (c.as_bytes.ensures.value ∙ c.deref.ensures.0 ∙ c.print.ensures))
    (address_is_line c.args.address c.is_whole.ensures)
