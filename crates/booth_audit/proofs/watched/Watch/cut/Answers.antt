use Rattle.std.proofs.Common.{◌≡◌, OnOk, sym, subst}
use Rattle.booth_host.specs.declared.entry.Entry.{Entry}
use Rattle.booth_node.specs.Session.{IsCut}
use Rattle.booth_audit.specs.Turns.{cut_of}
use Rattle.booth_audit.specs.Watched.{watched}
use Rattle.booth_audit.proofs.watched.Watch.cut.Goals as goal

pub returns-in-Keep : goal.returns-in-Keep
returns-in-Keep c = λ line.
    subst (λ (entry : Entry). OnOk c.keep.result
    (c.keep.new.self ≡ watched c.args.whose.now c.args.self.now (record { what = IsCut (cut_of entry); line = line })))
    (sym c.in-Keep.is) (c.keep.ensures line)
