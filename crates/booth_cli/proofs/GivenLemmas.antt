-- What `clap` gives, in the words of this crate.
use Rattle.std.specs.Prelude.{codes}
use Rattle.std.specs.Option.{option_map}
use Rattle.std.specs.List.{list_all}
use Rattle.std.specs.Borrow.{Bor}
use Rattle.std.proofs.Common.{◌≡◌, ◌∙◌, ap, ℕ, true, false, List, is_some, refl, sym, subst}
use Rattle.std.proofs.Common.{arith}
use Rattle.clap.specs.Built.{IsParsedFrom}
use Rattle.clap.specs.Matches.{found_of, first_value, matched_of, raw_values}
use Rattle.clap.specs.Walk.{Row, all_of, first_of, rows_of}
use Rattle.clap.specs.Simple.{App, app_of, is_simple}
use Rattle.clap.specs.Faults.{is_simple_and_free}
use Rattle.clap.specs.declared.builder.command.Command.{Command}
use Rattle.clap.specs.declared.parser.matches.ArgMatches.{ArgMatches}
use Rattle.clap.proofs.WalkLemmas.{first_value-rows, raw_values-rows}
use Rattle.booth_cli.specs.declared.command.Verb.{Verb}
use Rattle.booth_cli.specs.declared.command.Verb.TheVariants as verbs
use Rattle.booth_cli.specs.declared.given.Given.{Given}
use Rattle.booth_cli.specs.Commands.{app_for}
use Rattle.booth_cli.specs.Given.{HasNeeded, is_set, texts_in, texts_of}
use Rattle.booth_cli.proofs.RequiredLemmas.{IsNeeded, is_only_at, is_plain_rule, needed_value}

pub simple : (verb : Verb) → is_simple (app_for verb) ≡ true
simple verbs.Daemon = refl
simple verbs.Status = refl
simple verbs.Simulate = refl
simple verbs.Audit = refl
simple verbs.List = refl
simple verbs.Show = refl
simple verbs.Peers = refl
simple verbs.DaemonStatus = refl
simple verbs.Grant = refl
simple verbs.Revoke = refl
simple verbs.Move = refl
simple verbs.SetAttribute = refl
simple verbs.GetAttribute = refl
simple verbs.DeleteAttribute = refl
simple verbs.ListAttributes = refl
simple verbs.Follow = refl

pub simple_and_free : (verb : Verb) → is_simple_and_free (app_for verb) ≡ true
simple_and_free verbs.Daemon = refl
simple_and_free verbs.Status = refl
simple_and_free verbs.Simulate = refl
simple_and_free verbs.Audit = refl
simple_and_free verbs.List = refl
simple_and_free verbs.Show = refl
simple_and_free verbs.Peers = refl
simple_and_free verbs.DaemonStatus = refl
simple_and_free verbs.Grant = refl
simple_and_free verbs.Revoke = refl
simple_and_free verbs.Move = refl
simple_and_free verbs.SetAttribute = refl
simple_and_free verbs.GetAttribute = refl
simple_and_free verbs.DeleteAttribute = refl
simple_and_free verbs.ListAttributes = refl
simple_and_free verbs.Follow = refl

-- a getter's value, by the rows
value_is : (m : ArgMatches) (rows : List Row) (id : List ℕ) → rows_of (found_of m) ≡ rows → first_value (found_of m) id ≡ first_of id rows
value_is m rows id same = first_value-rows (found_of m) id ∙ ap (first_of id) same

-- all values of an id, by the rows
values_are : (m : ArgMatches) (rows : List Row) (id : List ℕ) → rows_of (found_of m) ≡ rows →
    option_map raw_values (matched_of (found_of m) id) ≡ all_of id rows
values_are m rows id same = raw_values-rows (found_of m) id ∙ ap (all_of id) same

-- all getters' values, by the rows
pub texts_are : (m : ArgMatches) (rows : List Row) (g : Given) → rows_of (found_of m) ≡ rows →
    option_map (λ (t : Bor (List ℕ)). t.now) g.ticket ≡ first_value (found_of m) (codes "ticket") →
    option_map (λ (t : Bor (List ℕ)). t.now) g.name ≡ first_value (found_of m) (codes "name") →
    option_map (λ (t : Bor (List ℕ)). t.now) g.value ≡ first_value (found_of m) (codes "value") →
    option_map (λ (t : Bor (List ℕ)). t.now) g.site ≡ first_value (found_of m) (codes "site") →
    option_map (λ (t : Bor (List ℕ)). t.now) g.turns ≡ first_value (found_of m) (codes "turns") →
    option_map (λ (t : Bor (List ℕ)). t.now) g.events ≡ first_value (found_of m) (codes "events") →
    option_map (λ (t : Bor (List ℕ)). t.now) g.number ≡ first_value (found_of m) (codes "number") →
    option_map (λ (t : Bor (List ℕ)). t.now) g.lock ≡ first_value (found_of m) (codes "lock") →
    option_map (λ (t : Bor (List ℕ)). t.now) g.records ≡ first_value (found_of m) (codes "records") →
    option_map (λ (t : Bor (List ℕ)). t.now) g.conf ≡ first_value (found_of m) (codes "conf") →
    option_map (λ (t : Bor (List ℕ)). t.now) g.target ≡ first_value (found_of m) (codes "target") →
    option_map (λ (t : Bor (List ℕ)). t.now) g.program ≡ first_value (found_of m) (codes "program") →
    option_map (λ (t : Bor (List ℕ)). t.now) g.margin ≡ first_value (found_of m) (codes "margin") →
    option_map (λ (t : Bor (List ℕ)). t.now) g.kill ≡ first_value (found_of m) (codes "kill") →
    g.wait ≡ is_set (first_value (found_of m) (codes "wait")) → g.commit ≡ is_set (first_value (found_of m) (codes "commit")) →
    g.immediate ≡ is_set (first_value (found_of m) (codes "immediate")) → g.force ≡ is_set (first_value (found_of m) (codes "force")) →
    g.json ≡ is_set (first_value (found_of m) (codes "json")) → g.restart ≡ is_set (first_value (found_of m) (codes "restart-on-term")) →
    g.matches ≡ m → texts_of g ≡ texts_in rows
texts_are m rows g same ticket name value site turns events number lock records conf target program margin kill wait commit immediate force json restart matches =
    rw (
      ticket,
      name,
      value,
      site,
      turns,
      events,
      number,
      lock,
      records,
      conf,
      target,
      program,
      margin,
      kill,
      wait,
      commit,
      immediate,
      force,
      json,
      restart,
      matches,
      values_are m rows (codes "journal") same,
      value_is m rows (codes "ticket") same,
      value_is m rows (codes "name") same,
      value_is m rows (codes "value") same,
      value_is m rows (codes "site") same,
      value_is m rows (codes "turns") same,
      value_is m rows (codes "events") same,
      value_is m rows (codes "number") same,
      value_is m rows (codes "lock") same,
      value_is m rows (codes "records") same,
      value_is m rows (codes "conf") same,
      value_is m rows (codes "target") same,
      value_is m rows (codes "program") same,
      value_is m rows (codes "margin") same,
      value_is m rows (codes "kill") same,
      value_is m rows (codes "wait") same,
      value_is m rows (codes "commit") same,
      value_is m rows (codes "immediate") same,
      value_is m rows (codes "force") same,
      value_is m rows (codes "json") same,
      value_is m rows (codes "restart-on-term") same,
    ) refl

module _ (cmd : Command) (m : ArgMatches) (parsed : IsParsedFrom cmd m) where
  value_of : (app : App) (k : ℕ) (id : List ℕ) → app_of cmd ≡ app → list_all is_plain_rule app.top.rules ≡ true →
      app.top.is_plain ≡ true → app.top.subcommand_negates_reqs ≡ false → IsNeeded app.top.rules k id →
      is_some (first_value (found_of m) id) ≡ true
  value_of app k id is plain settings negates needed =
      needed_value cmd m k id
      (ap (λ (a : App). list_all is_plain_rule a.top.rules) is ∙ plain)
      (ap (λ (a : App). a.top.is_plain) is ∙ settings)
      (ap (λ (a : App). a.top.subcommand_negates_reqs) is ∙ negates)
      (subst (λ (a : App). IsNeeded a.top.rules k id) (sym is) needed) parsed

  daemon_site : app_of cmd ≡ app_for verbs.Daemon → is_some (first_value (found_of m) (codes "site")) ≡ true
  unfolding is_only_at
  daemon_site is = value_of (app_for verbs.Daemon) 1 (codes "site") is refl refl refl (record {
    there = omega arith;
    named = λ e. refl;
    required = λ e. refl;
    set = λ e. refl;
    least = λ e. omega arith;
    only = refl;
    own = refl;
  })

  show_ticket : app_of cmd ≡ app_for verbs.Show → is_some (first_value (found_of m) (codes "ticket")) ≡ true
  unfolding is_only_at
  show_ticket is = value_of (app_for verbs.Show) 2 (codes "ticket") is refl refl refl (record {
    there = omega arith;
    named = λ e. refl;
    required = λ e. refl;
    set = λ e. refl;
    least = λ e. omega arith;
    only = refl;
    own = refl;
  })

  grant_ticket : app_of cmd ≡ app_for verbs.Grant → is_some (first_value (found_of m) (codes "ticket")) ≡ true
  unfolding is_only_at
  grant_ticket is = value_of (app_for verbs.Grant) 2 (codes "ticket") is refl refl refl (record {
    there = omega arith;
    named = λ e. refl;
    required = λ e. refl;
    set = λ e. refl;
    least = λ e. omega arith;
    only = refl;
    own = refl;
  })

  revoke_ticket : app_of cmd ≡ app_for verbs.Revoke → is_some (first_value (found_of m) (codes "ticket")) ≡ true
  unfolding is_only_at
  revoke_ticket is = value_of (app_for verbs.Revoke) 2 (codes "ticket") is refl refl refl (record {
    there = omega arith;
    named = λ e. refl;
    required = λ e. refl;
    set = λ e. refl;
    least = λ e. omega arith;
    only = refl;
    own = refl;
  })

  move_ticket : app_of cmd ≡ app_for verbs.Move → is_some (first_value (found_of m) (codes "ticket")) ≡ true
  unfolding is_only_at
  move_ticket is = value_of (app_for verbs.Move) 2 (codes "ticket") is refl refl refl (record {
    there = omega arith;
    named = λ e. refl;
    required = λ e. refl;
    set = λ e. refl;
    least = λ e. omega arith;
    only = refl;
    own = refl;
  })

  move_target : app_of cmd ≡ app_for verbs.Move → is_some (first_value (found_of m) (codes "target")) ≡ true
  unfolding is_only_at
  move_target is = value_of (app_for verbs.Move) 3 (codes "target") is refl refl refl (record {
    there = omega arith;
    named = λ e. refl;
    required = λ e. refl;
    set = λ e. refl;
    least = λ e. omega arith;
    only = refl;
    own = refl;
  })

  set_ticket : app_of cmd ≡ app_for verbs.SetAttribute → is_some (first_value (found_of m) (codes "ticket")) ≡ true
  unfolding is_only_at
  set_ticket is = value_of (app_for verbs.SetAttribute) 2 (codes "ticket") is refl refl refl (record {
    there = omega arith;
    named = λ e. refl;
    required = λ e. refl;
    set = λ e. refl;
    least = λ e. omega arith;
    only = refl;
    own = refl;
  })

  set_name : app_of cmd ≡ app_for verbs.SetAttribute → is_some (first_value (found_of m) (codes "name")) ≡ true
  unfolding is_only_at
  set_name is = value_of (app_for verbs.SetAttribute) 3 (codes "name") is refl refl refl (record {
    there = omega arith;
    named = λ e. refl;
    required = λ e. refl;
    set = λ e. refl;
    least = λ e. omega arith;
    only = refl;
    own = refl;
  })

  set_value : app_of cmd ≡ app_for verbs.SetAttribute → is_some (first_value (found_of m) (codes "value")) ≡ true
  unfolding is_only_at
  set_value is = value_of (app_for verbs.SetAttribute) 4 (codes "value") is refl refl refl (record {
    there = omega arith;
    named = λ e. refl;
    required = λ e. refl;
    set = λ e. refl;
    least = λ e. omega arith;
    only = refl;
    own = refl;
  })

  get_ticket : app_of cmd ≡ app_for verbs.GetAttribute → is_some (first_value (found_of m) (codes "ticket")) ≡ true
  unfolding is_only_at
  get_ticket is = value_of (app_for verbs.GetAttribute) 2 (codes "ticket") is refl refl refl (record {
    there = omega arith;
    named = λ e. refl;
    required = λ e. refl;
    set = λ e. refl;
    least = λ e. omega arith;
    only = refl;
    own = refl;
  })

  get_name : app_of cmd ≡ app_for verbs.GetAttribute → is_some (first_value (found_of m) (codes "name")) ≡ true
  unfolding is_only_at
  get_name is = value_of (app_for verbs.GetAttribute) 3 (codes "name") is refl refl refl (record {
    there = omega arith;
    named = λ e. refl;
    required = λ e. refl;
    set = λ e. refl;
    least = λ e. omega arith;
    only = refl;
    own = refl;
  })

  delete_ticket : app_of cmd ≡ app_for verbs.DeleteAttribute → is_some (first_value (found_of m) (codes "ticket")) ≡ true
  unfolding is_only_at
  delete_ticket is = value_of (app_for verbs.DeleteAttribute) 2 (codes "ticket") is refl refl refl (record {
    there = omega arith;
    named = λ e. refl;
    required = λ e. refl;
    set = λ e. refl;
    least = λ e. omega arith;
    only = refl;
    own = refl;
  })

  delete_name : app_of cmd ≡ app_for verbs.DeleteAttribute → is_some (first_value (found_of m) (codes "name")) ≡ true
  unfolding is_only_at
  delete_name is = value_of (app_for verbs.DeleteAttribute) 3 (codes "name") is refl refl refl (record {
    there = omega arith;
    named = λ e. refl;
    required = λ e. refl;
    set = λ e. refl;
    least = λ e. omega arith;
    only = refl;
    own = refl;
  })

  list_ticket : app_of cmd ≡ app_for verbs.ListAttributes → is_some (first_value (found_of m) (codes "ticket")) ≡ true
  unfolding is_only_at
  list_ticket is = value_of (app_for verbs.ListAttributes) 2 (codes "ticket") is refl refl refl (record {
    there = omega arith;
    named = λ e. refl;
    required = λ e. refl;
    set = λ e. refl;
    least = λ e. omega arith;
    only = refl;
    own = refl;
  })

  follow_site : app_of cmd ≡ app_for verbs.Follow → is_some (first_value (found_of m) (codes "site")) ≡ true
  unfolding is_only_at
  follow_site is = value_of (app_for verbs.Follow) 1 (codes "site") is refl refl refl (record {
    there = omega arith;
    named = λ e. refl;
    required = λ e. refl;
    set = λ e. refl;
    least = λ e. omega arith;
    only = refl;
    own = refl;
  })

  follow_ticket : app_of cmd ≡ app_for verbs.Follow → is_some (first_value (found_of m) (codes "ticket")) ≡ true
  unfolding is_only_at
  follow_ticket is = value_of (app_for verbs.Follow) 5 (codes "ticket") is refl refl refl (record {
    there = omega arith;
    named = λ e. refl;
    required = λ e. refl;
    set = λ e. refl;
    least = λ e. omega arith;
    only = refl;
    own = refl;
  })

  follow_program : app_of cmd ≡ app_for verbs.Follow → is_some (first_value (found_of m) (codes "program")) ≡ true
  unfolding is_only_at
  follow_program is = value_of (app_for verbs.Follow) 6 (codes "program") is refl refl refl (record {
    there = omega arith;
    named = λ e. refl;
    required = λ e. refl;
    set = λ e. refl;
    least = λ e. omega arith;
    only = refl;
    own = refl;
  })

  -- the words that a command has to have are there
  pub has_needed : (verb : Verb) (g : Given) → app_of cmd ≡ app_for verb →
      option_map (λ (t : Bor (List ℕ)). t.now) g.ticket ≡ first_value (found_of m) (codes "ticket") →
      option_map (λ (t : Bor (List ℕ)). t.now) g.name ≡ first_value (found_of m) (codes "name") →
      option_map (λ (t : Bor (List ℕ)). t.now) g.value ≡ first_value (found_of m) (codes "value") →
      option_map (λ (t : Bor (List ℕ)). t.now) g.site ≡ first_value (found_of m) (codes "site") →
      option_map (λ (t : Bor (List ℕ)). t.now) g.target ≡ first_value (found_of m) (codes "target") →
      option_map (λ (t : Bor (List ℕ)). t.now) g.program ≡ first_value (found_of m) (codes "program") → HasNeeded verb (texts_of g)
  has_needed verbs.Daemon g is ticket name value site target program = ap is_some site ∙ daemon_site is
  has_needed verbs.Show g is ticket name value site target program = ap is_some ticket ∙ show_ticket is
  has_needed verbs.Grant g is ticket name value site target program = ap is_some ticket ∙ grant_ticket is
  has_needed verbs.Revoke g is ticket name value site target program = ap is_some ticket ∙ revoke_ticket is
  has_needed verbs.Move g is ticket name value site target program = (ap is_some ticket ∙ move_ticket is, ap is_some target ∙ move_target is)
  has_needed verbs.SetAttribute g is ticket name value site target program =
      (record { ticket = ap is_some ticket ∙ set_ticket is; name = ap is_some name ∙ set_name is }, ap is_some value ∙ set_value is)
  has_needed verbs.GetAttribute g is ticket name value site target program =
      record { ticket = ap is_some ticket ∙ get_ticket is; name = ap is_some name ∙ get_name is }
  has_needed verbs.DeleteAttribute g is ticket name value site target program =
      record { ticket = ap is_some ticket ∙ delete_ticket is; name = ap is_some name ∙ delete_name is }
  has_needed verbs.ListAttributes g is ticket name value site target program = ap is_some ticket ∙ list_ticket is
  has_needed verbs.Status g is ticket name value site target program = tt
  has_needed verbs.Simulate g is ticket name value site target program = tt
  has_needed verbs.Audit g is ticket name value site target program = tt
  has_needed verbs.List g is ticket name value site target program = tt
  has_needed verbs.Peers g is ticket name value site target program = tt
  has_needed verbs.DaemonStatus g is ticket name value site target program = tt
  has_needed verbs.Follow g is ticket name value site target program =
      record { ticket = ap is_some ticket ∙ follow_ticket is; site = ap is_some site ∙ follow_site is; program = ap is_some program ∙ follow_program is }
