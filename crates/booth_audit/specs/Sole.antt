-- An audit of given journals has one answer.
use Rattle.std.specs.Prelude.{◌≡◌, ◌⊎◌, List, ℕ, Option}
use Rattle.booth_conf.specs.Config.{ConfigSays}
use Rattle.booth_keys.specs.declared.ring.Ring.{Ring}
use Rattle.booth_journal.specs.declared.audit_fault.AuditFault.{AuditFault}
use Rattle.booth_journal.specs.declared.audit_fault.AuditFault.TheVariants.{OutOfMemory}
use Rattle.booth_audit.specs.Audit.{AuditSays, HasFault, IsAudited}

-- If journals have no fault, their only other answer is out of memory, and they have one list of holdings and one of
-- silent starts. Two faults of the same journals are equal, or one of them is out of memory.
pub record HasOneAnswer (config : ConfigSays) (ring : Option Ring) (texts : List (List ℕ)) : Type 0 where
  pub none : (says : AuditSays) (fault : AuditFault) → IsAudited config ring texts says
      → HasFault config ring texts fault → fault ≡ OutOfMemory
  pub says : (one other : AuditSays) → IsAudited config ring texts one → IsAudited config ring texts other
      → one ≡ other
  pub fault : (one other : AuditFault) → HasFault config ring texts one → HasFault config ring texts other
      → (one ≡ other) ⊎ ((one ≡ OutOfMemory) ⊎ (other ≡ OutOfMemory))

abbrev pub AuditsHaveOneAnswer : Type 0
AuditsHaveOneAnswer =
    (config : ConfigSays) (ring : Option Ring) (texts : List (List ℕ)) → HasOneAnswer config ring texts
