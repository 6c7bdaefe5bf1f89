-- The opening of a daemon, in the order of its stages. Each stage is given by its calls, or by how the daemon ends at
-- it.
use Rattle.std.specs.Prelude.{◌≡◌, ◌++◌, ℕ, true, false, List, [], ◌∷◌, Option, Some}
use Rattle.std.specs.Prelude.{Result, Ok, Err, codes}
use Rattle.booth_keys.specs.declared.ring.Ring.{Ring}
use Rattle.booth_base.specs.declared.address.Address.{Address}
use Rattle.booth_base.specs.Address.{id_of}
use Rattle.booth_conf.specs.Config.{ConfigSays}
use Rattle.booth_rec.specs.declared.record.Record.{Record}
use Rattle.booth_host.specs.declared.host.Failed.{Failed}
use Rattle.booth_host.specs.declared.entry.Entry.{Entry}
use Rattle.booth_host.specs.declared.entry.Entry.TheVariants.{Open, Now, ReadFile, Lock}
use Rattle.booth_node.specs.declared.node_config.NodeConfig.{NodeConfig}
use Rattle.booth_node.specs.declared.node.Node.{Node}
use Rattle.booth_node.specs.View.{node_config, state_of}
use Rattle.booth_node.specs.Opening.{opened as start_state}
use Rattle.booth_outcomes.specs.declared.outcome.Outcome.{Outcome}
use Rattle.booth_outcomes.specs.declared.outcome.Outcome.TheVariants.{LockFault, Running, OpenFault, RecordUnread}
use Rattle.booth_outcomes.specs.declared.outcome.Outcome.TheVariants.{OutOfMemory}
use Rattle.booth_outcomes.specs.declared.outcome.Ended.{Ended}
use Rattle.booth_cli.specs.declared.asking.DaemonWords.{DaemonWords}
use Rattle.booth_outcomes.specs.Texts.{unlocked_text, unopened_text, out_of_memory_text}
use Rattle.booth_outcomes.specs.Keys.{HasRing, KeyTexts, key_calls}
use Rattle.booth_daemon.specs.Fitness.{IsFit}
use Rattle.booth_daemon.specs.Records.{AreKept, AreNoneOrAll, IsRecordUnread}

-- ---- configuration and ring

-- The configuration and the ring, with the texts from which they were read.
pub record IsReady (address : Address) (config : ConfigSays) (ring : Option Ring) : Type 0 where
  pub text : List ℕ
  pub fit : IsFit address text config
  pub key_texts : KeyTexts
  pub holds : HasRing config key_texts ring

-- The calls up to the ring.
abbrev pub reads_of : {address : Address} {config : ConfigSays} {ring : Option Ring} → List ℕ →
    IsReady address config ring → List Entry
reads_of {address} {config} path ready = ReadFile path
    (Ok ready.text) ∷ key_calls config ready.key_texts

-- ---- the lock

-- Another process has the lock, or the lock failed.
abbrev pub IsLockless : List ℕ → Outcome → List ℕ → List Entry → Type 0
IsLockless lock Running said entries = (said ≡ codes "already running")
    × (entries ≡ Lock lock (Ok false) ∷ [])
IsLockless lock LockFault said entries = (said ≡ unlocked_text lock)
    × (failed : Failed) × (entries ≡ Lock lock (Err failed) ∷ [])
IsLockless lock outcome said entries = ⊥

-- The one call for the lock.
abbrev pub IsLocked : List ℕ → Result (Unit {0}) Ended → List Entry → Type 0
IsLocked lock (Ok done) entries = entries ≡ Lock lock (Ok true) ∷ []
IsLocked lock (Err ended) entries = IsLockless lock ended.outcome ended.said entries

-- ---- the clock, the socket, the records and the node

-- The calls after the reads. The last is the call for the socket, with its answer.
abbrev pub opened : DaemonWords → ConfigSays → ℕ → Result (Unit {0}) Failed → List Entry
opened asked config reading answer = Lock asked.lock (Ok true) ∷ Now reading
    ∷ Open (Some asked.site) config.port asked.records asked.conf answer ∷ []

-- The socket was opened, and then these calls were made.
pub record IsBehindSocket (asked : DaemonWords) (config : ConfigSays) (after : List Entry → Type 0)
    (entries : List Entry) : Type 0 where
  pub reading : ℕ
  pub rest : List Entry
  pub whole : entries ≡ opened asked config reading (Ok tt) ++ rest
  pub here : after rest

-- The socket failed, or a record could not be read, or the memory ran out for the records or for the node.
abbrev pub IsUnopened : DaemonWords → ConfigSays → Outcome → List ℕ → List Entry → Type 0
IsUnopened asked config OpenFault said entries = (said ≡ unopened_text)
    × (reading : ℕ) × (failed : Failed) × (entries ≡ opened asked config reading (Err failed))
IsUnopened asked config RecordUnread said entries =
    IsBehindSocket asked config (IsRecordUnread config.tickets said) entries
IsUnopened asked config OutOfMemory said entries = (said ≡ out_of_memory_text)
    × IsBehindSocket asked config (AreNoneOrAll config.tickets) entries
IsUnopened asked config outcome said entries = ⊥

-- The node of this member, which follows the rules of version 2.
abbrev pub member_config : Address → ConfigSays → Option Ring → NodeConfig
member_config address config ring =
    record { config = config; ring = ring; me = record { 0 = id_of address }; second = true }

-- This node has just been opened, with these records, at this reading.
pub record IsFresh (address : Address) (config : ConfigSays) (ring : Option Ring)
    (records : List (Option Record)) (reading : ℕ) (node : Node) : Type 0 where
  pub own : node_config node ≡ member_config address config ring
  pub state : state_of node ≡ start_state (member_config address config ring) records reading

-- The calls after the reads, up to the last record, and the node.
pub record IsStarted (asked : DaemonWords) (config : ConfigSays) (ring : Option Ring) (node : Node)
    (entries : List Entry) : Type 0 where
  pub reading : ℕ
  pub records : List (Option Record)
  pub kept : List Entry
  pub read : AreKept config.tickets records kept
  pub fresh : IsFresh asked.site config ring records reading node
  pub whole : entries ≡ opened asked config reading (Ok tt) ++ kept

-- The calls after the lock, and the node; or this is how the daemon ends without a node.
abbrev pub IsNodeOpened : DaemonWords → ConfigSays → Option Ring → Result Node Ended →
    List Entry → Type 0
IsNodeOpened asked config ring (Ok node) entries =
    IsStarted asked config ring node (Lock asked.lock (Ok true) ∷ entries)
IsNodeOpened asked config ring (Err ended) entries =
    IsUnopened asked config ended.outcome ended.said (Lock asked.lock (Ok true) ∷ entries)
