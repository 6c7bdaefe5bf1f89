use Rattle.std.proofs.Common.{◌≡◌, drop, map}
use Rattle.clap.specs.Words.{app_of}
use Rattle.booth_cli.specs.Arguments.{rule_for}
use Rattle.booth_cli.specs.Commands.{with_rules}
use Rattle.booth_cli.proofs.argument.with_arguments.Given as goal

-- what the command takes, and what it is still to take
abbrev pub invariant-loop-argument : goal.invariant-loop-argument
invariant-loop-argument l = record {
  whole : with_rules (app_of l.command) (map rule_for (drop l.argument-index l.arguments))
      ≡ with_rules (app_of l.fn.command) (map rule_for l.arguments);
}
