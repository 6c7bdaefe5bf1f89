-- The commands of the programs as `clap` has them: the options of each.
use Rattle.std.specs.Prelude.{ℕ, true, List, [], ◌∷◌, Option, Some, None, codes, if◌then◌else◌}
use Rattle.std.specs.Str.{bytes_eq}
use Rattle.clap.specs.Words.{App, Rule, new_app, new_rule, with_rule}
use Rattle.clap.specs.declared.builder.action.ArgAction.TheVariants.{Set, SetTrue}
use Rattle.booth_cli.specs.declared.argument.TheConstants.{MOST_JOURNALS}
use Rattle.booth_cli.specs.declared.command.Verb.{Verb}
use Rattle.booth_cli.specs.declared.command.Verb.TheVariants as verbs
use Rattle.booth_cli.specs.declared.program.Program.{Program}
use Rattle.booth_cli.specs.declared.program.Program.TheVariants.{Boothd, Booth, Geostore, BoothFollow}

-- an option with this letter and one value
abbrev pub option : List ℕ → ℕ → Rule
option id letter = record (new_rule id) { short = Some letter; action = Some Set; value_names = 1 }

-- an option that is required
abbrev pub needed : Rule → Rule
needed rule = record rule { required = true }

-- an option with this letter, without a value
abbrev pub flag : List ℕ → ℕ → Rule
flag id letter = record (new_rule id) { short = Some letter; action = Some SetTrue }

-- the flag with which a move continues although a follower runs here
abbrev pub force : Rule
force = record (flag (codes "force") 102) { long = Some (codes "force") }

-- the flag for output as a JSON object
abbrev pub json : Rule
json = record (flag (codes "json") 106) { long = Some (codes "json") }

-- the flag with which a service is restarted for a new term
abbrev pub restart : Rule
restart = record (flag (codes "restart-on-term") 114) { long = Some (codes "restart-on-term") }

-- an argument by its place, which is required
abbrev pub word : List ℕ → Rule
word id = needed (record (new_rule id) { action = Some Set; value_names = 1 })

-- the journals of an audit: arguments by their places, at least 1
abbrev pub journals : Rule
journals = record (word (codes "journal")) {
  range = Some (record { start_inclusive = 1; end_inclusive = MOST_JOURNALS });
}

-- the ticket as an option, which is required
abbrev pub ticket_option : Rule
ticket_option = needed (option (codes "ticket") 116)

abbrev pub conf : Rule
conf = option (codes "conf") 99

-- the daemon that receives a client's request
abbrev pub asked_site : Rule
asked_site = option (codes "site") 115

-- the member that a daemon is, or whose daemon a follower asks
abbrev pub own_site : Rule
own_site = needed asked_site

abbrev pub wait : Rule
wait = flag (codes "wait") 119

abbrev pub name_for : Verb → List ℕ
name_for verbs.Daemon = codes "daemon"
name_for verbs.Status = codes "status"
name_for verbs.Simulate = codes "sim"
name_for verbs.Audit = codes "audit"
name_for verbs.List = codes "list"
name_for verbs.Show = codes "show"
name_for verbs.Peers = codes "peers"
name_for verbs.DaemonStatus = codes "status"
name_for verbs.Grant = codes "grant"
name_for verbs.Revoke = codes "revoke"
name_for verbs.Move = codes "move"
name_for verbs.SetAttribute = codes "set"
name_for verbs.GetAttribute = codes "get"
name_for verbs.DeleteAttribute = codes "delete"
name_for verbs.ListAttributes = codes "list"
name_for verbs.Follow = codes "booth-follow"

-- the options and arguments of a command, in their order
abbrev pub rules_for : Verb → List Rule
rules_for verbs.Daemon =
    conf ∷ own_site ∷ option (codes "lock") 108 ∷ option (codes "records") 100 ∷ option (codes "turns") 110 ∷ []
rules_for verbs.Status = option (codes "lock") 108 ∷ []
rules_for verbs.Simulate = conf ∷ option (codes "events") 101 ∷ option (codes "number") 114 ∷ []
rules_for verbs.Audit = conf ∷ journals ∷ []
rules_for verbs.List = conf ∷ asked_site ∷ []
rules_for verbs.Show = conf ∷ asked_site ∷ word (codes "ticket") ∷ json ∷ []
rules_for verbs.Peers = conf ∷ asked_site ∷ []
rules_for verbs.DaemonStatus = conf ∷ asked_site ∷ []
rules_for verbs.Grant =
    conf ∷ asked_site ∷ word (codes "ticket") ∷ wait ∷ flag (codes "commit") 67 ∷ flag (codes "immediate") 70 ∷ []
rules_for verbs.Revoke = conf ∷ asked_site ∷ word (codes "ticket") ∷ wait ∷ []
rules_for verbs.Move = conf ∷ asked_site ∷ word (codes "ticket") ∷ word (codes "target") ∷ wait ∷ force ∷ []
rules_for verbs.SetAttribute =
    conf ∷ asked_site ∷ ticket_option ∷ word (codes "name") ∷ word (codes "value") ∷ []
rules_for verbs.GetAttribute = conf ∷ asked_site ∷ ticket_option ∷ word (codes "name") ∷ []
rules_for verbs.DeleteAttribute = conf ∷ asked_site ∷ ticket_option ∷ word (codes "name") ∷ []
rules_for verbs.ListAttributes = conf ∷ asked_site ∷ ticket_option ∷ []
rules_for verbs.Follow =
    conf ∷ own_site ∷ option (codes "records") 100 ∷ option (codes "margin") 109 ∷ option (codes "kill") 107
    ∷ word (codes "ticket") ∷ word (codes "program") ∷ restart ∷ []

-- a command with these rules too, in their order
abbrev pub with_rules : App → List Rule → App
with_rules app [] = app
with_rules app (rule ∷ rules) = with_rules (with_rule app rule) rules

-- a command, which also takes `--version`
abbrev pub app_for : Verb → App
app_for verb =
    with_rules (record (new_app (name_for verb)) { top = record (new_app (name_for verb)).top { has_version = true } })
    (rules_for verb)

-- the version of the programs
abbrev pub version : List ℕ
version = codes "0.2.0"

-- the name of a program, at the start of each of its lines
abbrev pub name_of : Program → List ℕ
name_of Boothd = codes "boothd"
name_of Booth = codes "booth"
name_of Geostore = codes "geostore"
name_of BoothFollow = codes "booth-follow"

abbrev pub daemon_verb : List ℕ → Option Verb
daemon_verb word =
    if bytes_eq word (codes "daemon") then Some verbs.Daemon else
    if bytes_eq word (codes "status") then Some verbs.Status else
    if bytes_eq word (codes "sim") then Some verbs.Simulate else
    if bytes_eq word (codes "audit") then Some verbs.Audit else None

abbrev pub client_verb : List ℕ → Option Verb
client_verb word =
    if bytes_eq word (codes "list") then Some verbs.List else
    if bytes_eq word (codes "show") then Some verbs.Show else
    if bytes_eq word (codes "peers") then Some verbs.Peers else
    if bytes_eq word (codes "status") then Some verbs.DaemonStatus else
    if bytes_eq word (codes "grant") then Some verbs.Grant else
    if bytes_eq word (codes "revoke") then Some verbs.Revoke else
    if bytes_eq word (codes "move") then Some verbs.Move else None

abbrev pub attribute_verb : List ℕ → Option Verb
attribute_verb word =
    if bytes_eq word (codes "set") then Some verbs.SetAttribute else
    if bytes_eq word (codes "get") then Some verbs.GetAttribute else
    if bytes_eq word (codes "delete") then Some verbs.DeleteAttribute else
    if bytes_eq word (codes "list") then Some verbs.ListAttributes else None

abbrev pub verb_named : Program → List ℕ → Option Verb
verb_named Boothd word = daemon_verb word
verb_named Booth word = client_verb word
verb_named Geostore word = attribute_verb word
verb_named BoothFollow word = Some verbs.Follow

-- The program's command with the name in the first argument. `booth-follow` has only one, so its own name stands for
-- it.
abbrev pub verb_in : Program → List (List ℕ) → Option Verb
verb_in program [] = None
verb_in program (word ∷ words) = verb_named program word
