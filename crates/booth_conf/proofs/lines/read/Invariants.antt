use Rattle.std.proofs.Common.{◌≡◌, ℕ, ◌<◌, length, take, None, slice_index_or}
use Rattle.booth_conf.specs.Rules.{summary, settings, line_fault}
use Rattle.booth_conf.specs.Reads.{said_lines}
use Rattle.booth_conf.specs.declared.line_meaning.Said.TheVariants.{Empty}
use Rattle.booth_conf.proofs.lines.read.Given as goal

-- the lines so far are fine, and the draft is what they set
abbrev pub invariant-loop-line : goal.invariant-loop-line
invariant-loop-line l = record {
  count : l.number ≡ length l.yielded;
  draft : l.draft ≡ summary (settings (take (length l.yielded) (said_lines l.text)));
  fine : (m : ℕ) → m < length l.yielded →
      line_fault (take m (said_lines l.text)) (slice_index_or (said_lines l.text) m Empty) ≡ None;
}
