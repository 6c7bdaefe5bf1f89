use Rattle.std.proofs.Common.{rules, ◌≡◌, ◌∙◌, List, map, subst, ℕ}
use Rattle.booth_wire.specs.PlainMessage.{plain_of}
use Rattle.booth_wire.specs.Spelling.{spelling}
use Rattle.booth_audit.specs.Sends.{HasOneMore}
use Rattle.booth_audit.proofs.FrameLemmas.{put_so}
use Rattle.booth_audit.proofs.sends.Sends.keep.Goals as goal

pub returns : goal.returns
returns c =
    let copied : c.in_ok-frame.frame.items ≡ c.bytes.result.now = search rules in
    let spelled : c.in_ok-frame.frame.items ≡ spelling (plain_of c.args.message.now) =
    copied ∙ c.bytes.ensures.value ∙ c.encode.ensures.bytes in
    let put =
    put_so c.self.inside.frames.keys c.insert.new.self.keys (λ key. key.items) c.in_ok-frame.frame
    c.in_ok-insert.field-0 c.in_ok-insert.ensures.keys c.in_ok-insert.ensures.added in
    subst
    (λ (old : List (List ℕ)). HasOneMore old (spelling (plain_of c.args.message.now))
    (map (λ key. key.items) c.insert.new.self.keys))
    c.self.view_is
    (subst
    (λ (one : List ℕ). HasOneMore (map (λ key. key.items) c.self.inside.frames.keys) one
    (map (λ key. key.items) c.insert.new.self.keys))
    spelled put)
