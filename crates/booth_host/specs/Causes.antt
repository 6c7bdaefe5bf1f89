-- When a call may return that a device failed.
use Rattle.std.specs.Prelude.{◌≡◌, ℕ, ◌+◌, ◌-◌, ◌^◌, ◌≤◌, min, Result, OnOk, OnErr, IsErrOf}
use Rattle.booth_host.specs.declared.host.ReadFault.{ReadFault}
use Rattle.booth_host.specs.declared.host.ReadFault.TheVariants.{Failed as ReadFailed}

-- one more, up to the greatest value
abbrev pub raised : ℕ → ℕ
raised before = min (before + 1) (2 ^ 64 - 1)

-- the count is greater, or at its greatest value
abbrev pub Rose : ℕ → ℕ → Type 0
Rose before now = raised before ≤ now

-- the count has not fallen, and rose if the answer is Failed
pub record HasCause {T E : Type 0} (before now : ℕ) (result : Result T E) : Type 0 where
  pub later : before ≤ now
  pub failed : OnErr result (Rose before now)

-- the count rose by one if the answer is an error, and is otherwise unchanged
pub record IsCounted {T E : Type 0} (before now : ℕ) (result : Result T E) : Type 0 where
  pub same : OnOk result (now ≡ before)
  pub one : OnErr result (now ≡ raised before)

-- the same for a read, which may also fail because memory is short
pub record HasReadCause {T : Type 0} (before now : ℕ) (result : Result T ReadFault) : Type 0 where
  pub later : before ≤ now
  pub failed : IsErrOf result ReadFailed → Rose before now
