-- The first fault of the whole file.
use Rattle.std.proofs.Common.{◌≡◌, ◌<◌, ◌++◌, true, List, [], ◌∷◌, Option, length, refl, arith, sym}
use Rattle.std.specs.List.{list_any, filter_map, enumerate_from}
use Rattle.std.specs.Option.{option_or}
use Rattle.booth_conf.specs.Sections.{first}
use Rattle.booth_conf.specs.Config.{is_site, reserved_id, same_id, time_fault, file_fault}
use Rattle.booth_conf.specs.declared.members.Member.{Member}
use Rattle.booth_conf.specs.declared.tickets.TicketConf.{TicketConf}
use Rattle.booth_conf.specs.declared.faults.ConfFault.{ConfFault}
use Rattle.booth_conf.proofs.FirstLemmas.{given, first_append}

three : {Y : Type 0} (xs ys zs : List Y) →
    first (xs ++ (ys ++ zs)) ≡ option_or (option_or (first xs) (first ys)) (first zs)
three [] ys zs = first_append ys zs
three (x ∷ xs) ys zs = refl

-- with a site and a ticket, the first fault is one of ids or of times
pub later_faults : (members : List Member) (tickets : List TicketConf) (ids same times : Option ConfFault) →
    list_any is_site members ≡ true → 0 < length tickets → ids ≡ given reserved_id 0 members →
    same ≡ given (same_id members) 0 members → times ≡ given time_fault 0 tickets →
    option_or (option_or ids same) times ≡ file_fault members tickets
later_faults members [] ids same times site some e f g = absurd (omega arith)
later_faults members (t ∷ ts) ids same times site some e f g =
    rw (site, e, f, g) (sym (three (filter_map reserved_id (enumerate_from 0 members)) (filter_map (same_id members) (enumerate_from 0 members)) (filter_map time_fault (enumerate_from 0 (t ∷ ts)))))
