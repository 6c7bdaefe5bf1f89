-- The result of `clap` for the arguments: the text of each option and argument, and the flags.
use Rattle.std.specs.Prelude.{◌≡◌, ℕ, Bool, true, false, List, [], Option, option_map, codes, is_some, unwrap_or}
use Rattle.std.specs.Option.{option_map_or}
use Rattle.std.specs.Str.{bytes_eq}
use Rattle.clap.specs.Words.{Row, all_of, first_of, found_of, matched_of, matches_of, raw_values}
use Rattle.booth_cli.specs.declared.command.Verb.{Verb}
use Rattle.booth_cli.specs.declared.command.Verb.TheVariants as verbs
use Rattle.booth_cli.specs.declared.given.Given.{Given}
use Rattle.booth_cli.specs.Commands.{app_for}

-- the texts of all options and arguments, and the flags; none if the command does not have one, or it was left out
pub record Texts : Type 0 where
  pub ticket : Option (List ℕ)
  pub name : Option (List ℕ)
  pub value : Option (List ℕ)
  pub site : Option (List ℕ)
  pub turns : Option (List ℕ)
  pub events : Option (List ℕ)
  pub number : Option (List ℕ)
  pub lock : Option (List ℕ)
  pub records : Option (List ℕ)
  pub conf : Option (List ℕ)
  pub target : Option (List ℕ)
  pub program : Option (List ℕ)
  pub margin : Option (List ℕ)
  pub kill : Option (List ℕ)
  pub journals : List (List ℕ)
  pub wait : Bool
  pub commit : Bool
  pub immediate : Bool
  pub force : Bool
  pub json : Bool
  pub restart : Bool

-- the flag was given
abbrev pub is_set : Option (List ℕ) → Bool
is_set text = option_map_or (λ t. bytes_eq t (codes "true")) text false

-- the texts in what a parse found
abbrev pub texts_in : List Row → Texts
texts_in rows = record {
  ticket = first_of (codes "ticket") rows;
  name = first_of (codes "name") rows;
  value = first_of (codes "value") rows;
  site = first_of (codes "site") rows;
  turns = first_of (codes "turns") rows;
  events = first_of (codes "events") rows;
  number = first_of (codes "number") rows;
  lock = first_of (codes "lock") rows;
  records = first_of (codes "records") rows;
  conf = first_of (codes "conf") rows;
  target = first_of (codes "target") rows;
  program = first_of (codes "program") rows;
  margin = first_of (codes "margin") rows;
  kill = first_of (codes "kill") rows;
  journals = unwrap_or (all_of (codes "journal") rows) [];
  wait = is_set (first_of (codes "wait") rows);
  commit = is_set (first_of (codes "commit") rows);
  immediate = is_set (first_of (codes "immediate") rows);
  force = is_set (first_of (codes "force") rows);
  json = is_set (first_of (codes "json") rows);
  restart = is_set (first_of (codes "restart-on-term") rows);
}

-- the texts in arguments that begin with this command
abbrev pub found_in : Verb → List (List ℕ) → Texts
found_in verb words = texts_in (matches_of (app_for verb) words)

abbrev pub texts_of : Given → Texts
texts_of g = record {
  ticket = option_map (λ t. t.now) g.ticket;
  name = option_map (λ t. t.now) g.name;
  value = option_map (λ t. t.now) g.value;
  site = option_map (λ t. t.now) g.site;
  turns = option_map (λ t. t.now) g.turns;
  events = option_map (λ t. t.now) g.events;
  number = option_map (λ t. t.now) g.number;
  lock = option_map (λ t. t.now) g.lock;
  records = option_map (λ t. t.now) g.records;
  conf = option_map (λ t. t.now) g.conf;
  target = option_map (λ t. t.now) g.target;
  program = option_map (λ t. t.now) g.program;
  margin = option_map (λ t. t.now) g.margin;
  kill = option_map (λ t. t.now) g.kill;
  journals = unwrap_or (option_map raw_values (matched_of (found_of g.matches) (codes "journal"))) [];
  wait = g.wait;
  commit = g.commit;
  immediate = g.immediate;
  force = g.force;
  json = g.json;
  restart = g.restart;
}

-- the ticket of an attribute, and its name
pub record HasAttribute (t : Texts) : Type 0 where
  pub ticket : is_some t.ticket ≡ true
  pub name : is_some t.name ≡ true

-- the ticket, this site and the program of a service
pub record HasService (t : Texts) : Type 0 where
  pub ticket : is_some t.ticket ≡ true
  pub site : is_some t.site ≡ true
  pub program : is_some t.program ≡ true

-- the options that a command requires are there
abbrev pub HasNeeded : Verb → Texts → Type 0
HasNeeded verbs.Daemon t = is_some t.site ≡ true
HasNeeded verbs.Show t = is_some t.ticket ≡ true
HasNeeded verbs.Grant t = is_some t.ticket ≡ true
HasNeeded verbs.Revoke t = is_some t.ticket ≡ true
HasNeeded verbs.Move t = (is_some t.ticket ≡ true) × (is_some t.target ≡ true)
HasNeeded verbs.SetAttribute t = HasAttribute t × (is_some t.value ≡ true)
HasNeeded verbs.GetAttribute t = HasAttribute t
HasNeeded verbs.DeleteAttribute t = HasAttribute t
HasNeeded verbs.ListAttributes t = is_some t.ticket ≡ true
HasNeeded verbs.Follow t = HasService t
HasNeeded verb t = Unit {0}
