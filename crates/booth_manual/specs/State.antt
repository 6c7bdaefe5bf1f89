-- The part of a manual ticket that contracts see.
use Rattle.booth_wire.specs.declared.message.Setup.{Setup}
use Rattle.booth_manual.specs.declared.view.ManualView.{ManualView}

pub record State : Type 0 where
  pub setup : Setup
  pub view : ManualView

-- the same setup with another view
abbrev pub with_view : State → ManualView → State
with_view state view = record { setup = state.setup; view = view }
