-- A run of boothd, call by call, and a world that consists of it.
use Rattle.std.specs.Prelude.{◌++◌, ℕ, true, List, [], ◌∷◌, codes, map, Some, None, Ok}
use Rattle.booth_conf.specs.Print.{printed}
use Rattle.booth_host.specs.declared.entry.Entry.{Entry}
use Rattle.booth_host.specs.declared.entry.Entry.TheVariants as calls
use Rattle.booth_host.specs.declared.host.Arrival.TheVariants as arrivals
use Rattle.booth_wire.specs.declared.codes.results.TheConstants.{SUCCESS}
use Rattle.booth_wire.specs.declared.command.Cmd.TheVariants.{RGnt}
use Rattle.booth_wire.specs.PlainMessage.{PlainMessage}
use Rattle.booth_auth.specs.Sealed.{sealed}
use Rattle.booth_node.specs.declared.node_config.NodeConfig.{NodeConfig}
use Rattle.booth_node.specs.Session.{Starts, Makes}
use Rattle.booth_node.specs.World.{World}
use Rattle.booth_cli.specs.declared.asking.DaemonWords.{DaemonWords}
use Rattle.booth_examples.specs.VersionExamples.{leased, promised}
use Rattle.booth_examples.specs.WorldExamples.{alone, at, client, config_with, grant_it, says, site_one, world_with}

-- ---- the arguments and the request

abbrev pub run_words : List (List ℕ)
run_words = codes "daemon" ∷ codes "-s" ∷ codes "192.0.2.1" ∷ codes "-n" ∷ codes "1" ∷ []

abbrev pub asked_for : DaemonWords
asked_for = record {
  site = site_one.address;
  turns = Some 1;
  lock = codes "/var/run/booth.lock";
  records = codes "/var/lib/booth";
  conf = codes "/etc/booth/booth.conf";
}

-- ---- its calls

abbrev pub node_alone : NodeConfig
node_alone = record { config = config_with alone; ring = None; me = site_one.id; second = true }

abbrev pub opening_calls : List Entry
opening_calls =
    calls.ReadFile asked_for.conf (Ok (printed (config_with alone)))
    ∷ calls.Lock asked_for.lock (Ok true)
    ∷ calls.Now 0
    ∷ calls.Open (Some asked_for.site) 9929 asked_for.records asked_for.conf (Ok tt)
    ∷ calls.Kept (codes "web") (Ok None)
    ∷ []

abbrev pub told_success : PlainMessage
told_success = says site_one.id 7000 RGnt 1 0 SUCCESS site_one.id 1 6

-- The calls for the writes and messages of its turn.
abbrev pub deed_calls : List Entry
deed_calls =
    calls.Keep (codes "web") (promised 1 site_one 13014 6014) (Ok tt)
    ∷ calls.Keep (codes "web") (leased 1 site_one 13014 13000) (Ok tt)
    ∷ calls.Send client (sealed None told_success) (Ok tt)
    ∷ []

abbrev pub turn_calls : List Entry
turn_calls =
    calls.Next 100 (Ok (arrivals.Datagram client)) (sealed None grant_it) ∷ calls.Now 7000 ∷ deed_calls

abbrev pub run_calls : List Entry
run_calls = opening_calls ++ turn_calls

-- ---- a world with it

abbrev pub with_a_run : World
with_a_run = world_with alone (
    at 0 0 (Starts node_alone 0 (None ∷ []))
    ∷ map (λ call. at 7000 0 (Makes call)) turn_calls)
