use Rattle.std.proofs.Common.{ℕ, true, List, ◌≡◌, sym, ◌∙◌, subst}
use Rattle.std.specs.List.{list_all}
use Rattle.booth_base.specs.Name.{is_line_byte}
use Rattle.booth_node.proofs.PeerLemmas.{number_is_line}
use Rattle.booth_node.proofs.peers.put_number.Goals as goal

pub put-requires-2-clause-form : goal.put-requires-2-clause-form
put-requires-2-clause-form c =
    let P : List ℕ → Type 0 = λ bytes. list_all is_line_byte bytes ≡ true in
    subst P (sym (c.as_bytes.ensures.value ∙ c.format.ensures.text))
    (number_is_line c.args.number c.ranges.number.fits)
