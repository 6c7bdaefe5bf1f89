-- What an audit without a fault says about each world that fits the journals.
use Rattle.booth_world.proofs.WorldLaws.{worlds_hold_one}
use Rattle.booth_evidence.specs.Evidence.{AuditedJournalsAreWorlds}
use Rattle.booth_evidence.proofs.Fitting.{is_second, is_world}
use Rattle.booth_evidence.proofs.Reported.{reported}

pub journals_are_worlds : AuditedJournalsAreWorlds
journals_are_worlds config sound ring texts says audited w fits = record {
  world = is_world config sound ring texts says audited w fits;
  second = is_second config sound ring texts says audited w fits;
  holds_one = worlds_hold_one w (is_world config sound ring texts says audited w fits);
  reported = reported config sound ring texts says audited w fits;
}
