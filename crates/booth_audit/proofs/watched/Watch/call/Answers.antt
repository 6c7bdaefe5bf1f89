use Rattle.std.proofs.Common.{◌≡◌, OnOk, sym, subst}
use Rattle.booth_host.specs.declared.entry.Entry.{Entry}
use Rattle.booth_node.specs.Session.{Makes}
use Rattle.booth_audit.specs.Watched.{watched}
use Rattle.booth_audit.proofs.watched.Watch.call.Goals as goal

pub returns-in-Keep : goal.returns-in-Keep
returns-in-Keep c = λ line.
    subst (λ (entry : Entry). OnOk c.keep.result
    (c.keep.new.self ≡ watched c.args.whose.now c.args.self.now (record { what = Makes entry; line = line })))
    (sym c.in-Keep.is) (c.keep.ensures line)
