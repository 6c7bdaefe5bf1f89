-- A configuration that did not come.
use Rattle.std.specs.Prelude.{Ok}
use Rattle.std.proofs.Common.{◌≡◌, ℕ, List, [], ◌∷◌, refl, sym, subst, inl, inr, ◌⊎◌}
use Rattle.booth_conf.specs.Says.{IsFault}
use Rattle.booth_conf.specs.declared.faults.ConfFault.{ConfFault}
use Rattle.booth_conf.specs.declared.faults.ConfFault.TheVariants as confs
use Rattle.booth_host.specs.declared.entry.Entry.TheVariants.{ReadFile}
use Rattle.booth_outcomes.specs.declared.outcome.Outcome.{Outcome}
use Rattle.booth_outcomes.specs.Texts.{IsFaultText}
use Rattle.booth_outcomes.specs.Configuration.{IsUnread, refusal}

-- how a run ends at a text with a fault
pub faulty : (path text said : List ℕ) (fault : ConfFault) → (fault ≡ confs.OutOfMemory) ⊎ IsFault text fault → IsFaultText path text fault said →
    IsUnread path (refusal fault) said (ReadFile path (Ok text) ∷ [])
faulty path text said confs.OutOfMemory why is = (is, inr (text, refl))
faulty path text said fault (inl memory) is = cc
faulty path text said fault (inr wrong) is = (text, wrong, is, refl)

pub faulty_end : (path text said : List ℕ) (fault : ConfFault) (outcome : Outcome) → (fault ≡ confs.OutOfMemory) ⊎ IsFault text fault → outcome ≡ refusal fault →
    IsFaultText path text fault said → IsUnread path outcome said (ReadFile path (Ok text) ∷ [])
faulty_end path text said fault outcome why out is =
    let P : Outcome → Type 0 = λ o. IsUnread path o said (ReadFile path (Ok text) ∷ []) in
    subst P (sym out) (faulty path text said fault why is)
