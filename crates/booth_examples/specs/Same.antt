-- Tests of whether two values are equal.
use Rattle.std.specs.Prelude.{Bool, true, false, not, ◌&&◌, ◌==◌, List, [], ◌∷◌, Option, Some, None, bytes_eq}
use Rattle.booth_base.specs.declared.address.Address.{Address}
use Rattle.booth_base.specs.declared.address.Address.TheVariants.{V4, V6}
use Rattle.booth_base.specs.declared.address.MemberId.{MemberId}
use Rattle.booth_base.specs.declared.address.Peer.{Peer}
use Rattle.booth_base.specs.declared.times.Times.{Times}
use Rattle.booth_conf.specs.declared.members.Member.{Member}
use Rattle.booth_host.specs.declared.host.Job.{Job}
use Rattle.booth_rec.specs.declared.record.Lease.{Lease}
use Rattle.booth_rec.specs.declared.record.Promise.{Promise}
use Rattle.booth_rec.specs.declared.record.Record.{Record}

abbrev pub same_bool : Bool → Bool → Bool
same_bool true b = b
same_bool false b = not b

abbrev pub same_option : {A : Type 0} → (A → A → Bool) → Option A → Option A → Bool
same_option same None None = true
same_option same (Some a) (Some b) = same a b
same_option same a b = false

abbrev pub same_list : {A : Type 0} → (A → A → Bool) → List A → List A → Bool
same_list same [] [] = true
same_list same (a ∷ xs) (b ∷ ys) = same a b && same_list same xs ys
same_list same xs ys = false

-- ---- names and addresses

abbrev pub same_id : MemberId → MemberId → Bool
same_id a b = a.0 == b.0

abbrev pub same_address : Address → Address → Bool
same_address (V4 a) (V4 b) = bytes_eq a b
same_address (V6 a) (V6 b) = bytes_eq a b
same_address a b = false

abbrev pub same_peer : Peer → Peer → Bool
same_peer a b = same_address a.address b.address && a.port == b.port

abbrev pub same_member : Member → Member → Bool
same_member a b = same_bool a.site b.site && (same_address a.address b.address && same_id a.id b.id)

-- ---- records, times and jobs

abbrev pub same_lease : Lease → Lease → Bool
same_lease a b = a.term == b.term && a.until == b.until

abbrev pub same_promise : Promise → Promise → Bool
same_promise a b = same_id a.to b.to && (a.term == b.term && a.until == b.until)

abbrev pub same_record : Record → Record → Bool
same_record a b =
    a.version == b.version && (a.term == b.term && (same_option same_lease a.lease b.lease
    && (same_option same_id a.bound b.bound && (same_option same_promise a.promise b.promise
    && a.abstain == b.abstain))))

abbrev pub same_times : Times → Times → Bool
same_times a b =
    a.expire == b.expire && (a.after == b.after && (a.timeout == b.timeout
    && (a.retries == b.retries && a.renewal == b.renewal)))

abbrev pub same_job : Job → Job → Bool
same_job a b =
    a.number == b.number && (bytes_eq a.ticket b.ticket && (bytes_eq a.handler b.handler
    && (same_address a.local b.local && a.expires == b.expires)))
