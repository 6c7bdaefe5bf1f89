use Rattle.std.proofs.Common.{◌≡◌, true, map, take}
use Rattle.std.specs.List.{list_all}
use Rattle.booth_cli.specs.Reading.{is_path}
use Rattle.booth_cli.proofs.paths.copy_paths.Given as goal

abbrev pub invariant-loop-word : goal.invariant-loop-word
invariant-loop-word l = record {
  copied : l.paths.items ≡ map (λ w. w.now) (take l.word-index l.words);
  accepted : list_all is_path (map (λ w. w.now) (take l.word-index l.words)) ≡ true;
}
