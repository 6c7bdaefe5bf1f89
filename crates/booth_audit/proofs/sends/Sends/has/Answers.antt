use Rattle.std.proofs.Common.{◌≡◌, ◌∙◌, List, map, subst, ℕ}
use Rattle.std.specs.Prelude.{◌↔◌, IsTrue}
use Rattle.booth_node.specs.Records.{Has}
use Rattle.booth_wire.specs.PlainMessage.{plain_of}
use Rattle.booth_wire.specs.Spelling.{spelling}
use Rattle.booth_audit.proofs.FrameLemmas.{found_so}
use Rattle.booth_audit.proofs.sends.Sends.has.Goals as goal

pub returns-clause-known : goal.returns-clause-known
returns-clause-known c =
    let spelled : c.bytes.result.now ≡ spelling (plain_of c.args.message.now) =
    c.bytes.ensures.value ∙ c.encode.ensures.bytes in
    let found =
    found_so c.self.inside.frames.keys (λ key. key.items) c.bytes.result.now c.contains.result c.contains.ensures in
    subst
    (λ (frames : List (List ℕ)). IsTrue c.contains.result ↔ Has frames (spelling (plain_of c.args.message.now)))
    c.self.view_is
    (subst
    (λ (frame : List ℕ). IsTrue c.contains.result ↔ Has (map (λ key. key.items) c.self.inside.frames.keys) frame)
    spelled found)
