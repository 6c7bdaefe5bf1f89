-- What an audit that finds no fault says.
use Rattle.std.specs.Prelude.{length, map, Option, Ok}
use Rattle.std.specs.List.{All}
use Rattle.std.proofs.Common.{◌≡◌, ◌<◌, ℕ, List, [], sym, ◌∙◌, subst}
use Rattle.booth_conf.specs.Config.{ConfigSays}
use Rattle.booth_keys.specs.declared.ring.Ring.{Ring}
use Rattle.booth_audit.specs.declared.holding.Holding.{Holding}
use Rattle.booth_audit.specs.declared.silent.SilentStart.{SilentStart}
use Rattle.booth_audit.specs.Audit.{IsAudited, deeds_by}
use Rattle.booth_audit.specs.Holdings.{Covers}
use Rattle.booth_audit.specs.Judging.{AreTrueSo, IsToldOf, JudgedSays, held_by, silent_by}
use Rattle.booth_audit.specs.Order.{by_tickets}
use Rattle.booth_audit.specs.Watched.{AreFound}
use Rattle.booth_audit.proofs.HeardLemmas.{all_hear_sent}
use Rattle.booth_audit.proofs.HeldLemmas.{covers_so, held_below, held_so}
use Rattle.booth_audit.proofs.SilentLemmas.{silent_so}

pub audited_so : {config : ConfigSays} {ring : Option Ring} {texts : List (List ℕ)} {all : List JudgedSays} {holdings : List Holding}
    {silent : List SilentStart}
    → AreFound config.tickets → AreTrueSo config ring texts all → IsToldOf config.members all (Ok tt)
    → ((count : ℕ) → All (λ (holding : Holding). holding.ticket < count) (held_by all) → holdings ≡ by_tickets (held_by all) 0 count)
    → silent ≡ silent_by 0 all → IsAudited config ring texts (record { holdings = holdings; silent = silent })
audited_so {config} {ring} {texts} {all} {holdings} found so sent sorted silent_is =
    let held = sorted (length config.tickets) (held_below config ring [] texts so.heard all so.each so.tallied)
    ∙ held_so config ring found so.heard all so.tallied in
    record {
      heard = so.heard;
      each = so.each;
      sent = all_hear_sent so sent;
      held = held;
      covers = subst (Covers config.tickets (map deeds_by so.heard)) (sym held)
          (covers_so config ring found texts so.heard all so.each so.tallied);
      silent = silent_is ∙ silent_so config ring found 0 [] texts so.heard all so.each so.tallied;
    }
