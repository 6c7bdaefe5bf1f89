-- What a rule returns: the view after it, and the record to write or the message to send.
use Rattle.booth_rec.specs.declared.record.Record.{Record}
use Rattle.booth_wire.specs.declared.message.Say.{Say}
use Rattle.booth_wire.specs.declared.message.Say.TheVariants as says
use Rattle.booth_manual.specs.declared.view.ManualView.{ManualView}

-- a call that writes: the view while the write waits, and the record
pub record Keep : Type 0 where
  pub view : ManualView
  pub tried : Record

-- a call that sends a message
pub record Outcome : Type 0 where
  pub view : ManualView
  pub say : Say

-- the view changes, and no message is sent
abbrev pub quiet : ManualView → Outcome
quiet view = record { view = view; say = says.Nothing }

abbrev pub saying : ManualView → Say → Outcome
saying view say = record { view = view; say = say }
