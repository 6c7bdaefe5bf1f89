-- The calls of a daemon, up to the call that decides its outcome, and the text that it then prints.
use Rattle.std.specs.Prelude.{◌≡◌, ◌<◌, ◌++◌, ◌⊎◌, ℕ, List, [], ◌∷◌}
use Rattle.std.specs.Prelude.{Option, Some, None, unwrap_or, Result, Ok, Err, codes, IsSomeAnd}
use Rattle.booth_keys.specs.declared.ring.Ring.{Ring}
use Rattle.booth_conf.specs.Config.{ConfigSays}
use Rattle.booth_conf.specs.Says.{Says}
use Rattle.booth_rec.specs.declared.record.Record.{Record}
use Rattle.booth_host.specs.declared.entry.Entry.{Entry}
use Rattle.booth_host.specs.declared.entry.Entry.TheVariants.{ReadFile}
use Rattle.booth_node.specs.declared.node_config.NodeConfig.{NodeConfig}
use Rattle.booth_node.specs.State.{State}
use Rattle.booth_node.specs.declared.node.Node.{Node}
use Rattle.booth_node.specs.Opening.{opened as start_state}
use Rattle.booth_node.specs.Log.{IsNodeLog, IsStoppedLog}
use Rattle.booth_outcomes.specs.declared.outcome.Outcome.{Outcome}
use Rattle.booth_outcomes.specs.declared.outcome.Outcome.TheVariants.{Done}
use Rattle.booth_outcomes.specs.declared.outcome.Outcome.TheVariants.{TurnsSpent}
use Rattle.booth_outcomes.specs.declared.outcome.Ended.{Ended}
use Rattle.booth_cli.specs.declared.reading.TheConstants.{MOST_TURNS}
use Rattle.booth_cli.specs.declared.asking.DaemonWords.{DaemonWords}
use Rattle.booth_daemon.specs.Fitness.{IsFit, IsUnserved}
use Rattle.booth_daemon.specs.Records.{AreKept}
use Rattle.booth_outcomes.specs.Configuration.{IsUnread}
use Rattle.booth_outcomes.specs.Keys.{IsKeyless}
use Rattle.booth_daemon.specs.Opening.{IsReady, reads_of, IsLockless, opened, IsUnopened}
use Rattle.booth_daemon.specs.Opening.{IsStarted, member_config}

-- ---- the stages that the daemon reached

-- A configuration was read, and this daemon does not serve it.
pub record IsRefused (asked : DaemonWords) (outcome : Outcome) (said : List ℕ)
    (entries : List Entry) : Type 0 where
  pub text : List ℕ
  pub config : ConfigSays
  pub says : Says text config
  pub whole : entries ≡ ReadFile asked.conf (Ok text) ∷ []
  pub here : IsUnserved asked.site config outcome said

-- A configuration that the daemon serves was read, and a key could not be read.
pub record IsUnkeyed (asked : DaemonWords) (outcome : Outcome) (said : List ℕ)
    (entries : List Entry) : Type 0 where
  pub text : List ℕ
  pub config : ConfigSays
  pub fit : IsFit asked.site text config
  pub rest : List Entry
  pub whole : entries ≡ ReadFile asked.conf (Ok text) ∷ rest
  pub here : IsKeyless config outcome said rest

-- Configuration and ring were read, and then these calls were made.
pub record IsStuck (asked : DaemonWords) (after : ConfigSays → List Entry → Type 0)
    (entries : List Entry) : Type 0 where
  pub config : ConfigSays
  pub ring : Option Ring
  pub ready : IsReady asked.site config ring
  pub rest : List Entry
  pub whole : entries ≡ reads_of asked.conf ready ++ rest
  pub here : after config rest

-- The node made fewer turns than the limit, and one more turn, which stopped.
pub record IsStoppedWithin (node : NodeConfig) (old : State) (limit : ℕ) (new : State)
    (entries : List Entry) : Type 0 where
  pub stopped : IsStoppedLog node old new entries
  pub within : stopped.count < limit

-- The node made as many turns as the arguments state.
abbrev pub AreAllTurns : NodeConfig → State → Option ℕ → State → List Entry → Type 0
AreAllTurns node old turns new entries = IsSomeAnd turns (λ count. IsNodeLog node old count new entries)

-- The turns of a node, from one state to another, by the outcome of the daemon after them. Without a number in the
-- arguments there are at most `MOST_TURNS` turns.
abbrev pub IsNodeRun : NodeConfig → Option ℕ → State → State → Outcome → List ℕ →
    List Entry → Type 0
IsNodeRun node turns old new Done said entries = (said ≡ [])
    × (IsStoppedWithin node old (unwrap_or turns MOST_TURNS) new entries
    ⊎ AreAllTurns node old turns new entries)
IsNodeRun node turns old new TurnsSpent said entries = (turns ≡ None)
    × (said ≡ codes "turns spent") × IsNodeLog node old MOST_TURNS new entries
IsNodeRun node turns old new outcome said entries = ⊥

-- In the code: the end of a daemon after all its turns.
abbrev pub AreSpent : Option ℕ → Outcome → List ℕ → Type 0
AreSpent (Some count) Done said = said ≡ []
AreSpent None TurnsSpent said = said ≡ codes "turns spent"
AreSpent turns outcome said = ⊥

-- The whole opening, and then turns with this configuration, ring and member, from the records that were read.
pub record IsTurning (asked : DaemonWords) (outcome : Outcome) (said : List ℕ)
    (entries : List Entry) : Type 0 where
  pub config : ConfigSays
  pub ring : Option Ring
  pub ready : IsReady asked.site config ring
  pub reading : ℕ
  pub records : List (Option Record)
  pub kept : List Entry
  pub read : AreKept config.tickets records kept
  pub turns : List Entry
  pub last : State
  pub whole : entries ≡ reads_of asked.conf ready
      ++ (opened asked config reading (Ok tt) ++ (kept ++ turns))
  pub log : IsNodeRun (member_config asked.site config ring) asked.turns
      (start_state (member_config asked.site config ring) records reading) last outcome said turns

-- The first stage of the opening that failed, or the turns after all stages.
pub data IsServing (asked : DaemonWords) (outcome : Outcome) (said : List ℕ)
    (entries : List Entry) : Type 0 where
  Unread : IsUnread asked.conf outcome said entries → IsServing asked outcome said entries
  Refused : IsRefused asked outcome said entries → IsServing asked outcome said entries
  Unkeyed : IsUnkeyed asked outcome said entries → IsServing asked outcome said entries
  Unlocked : IsStuck asked (λ config es. IsLockless asked.lock outcome said es) entries →
      IsServing asked outcome said entries
  Unopened : IsStuck asked (λ config es. IsUnopened asked config outcome said es) entries →
      IsServing asked outcome said entries
  Turning : IsTurning asked outcome said entries → IsServing asked outcome said entries

-- The whole opening, and its node.
pub record IsOpen (asked : DaemonWords) (node : Node) (entries : List Entry) : Type 0 where
  pub config : ConfigSays
  pub ring : Option Ring
  pub ready : IsReady asked.site config ring
  pub rest : List Entry
  pub whole : entries ≡ reads_of asked.conf ready ++ rest
  pub started : IsStarted asked config ring node rest

-- The calls of the opening, and the node; or this is how the daemon ends without a node.
abbrev pub IsOpened : DaemonWords → Result Node Ended → List Entry → Type 0
IsOpened asked (Ok node) entries = IsOpen asked node entries
IsOpened asked (Err ended) entries = IsServing asked ended.outcome ended.said entries
