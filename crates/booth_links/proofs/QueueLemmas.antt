-- What stays in order when bytes go to the system, and when bytes are queued.
use Rattle.std.specs.Prelude.{take, drop}
use Rattle.std.proofs.Common.{◌≡◌, ℕ, ◌+◌, ◌≤◌, List, [], ◌++◌, length, refl, sym, ◌∙◌, ap, append-nil, drop-drop}
use Rattle.std.proofs.lemmas.List.{drop-append-le, drop-take}
use Rattle.booth_links.specs.Queue.{KeepsOrder}

-- a write that takes nothing
pub nothing_taken : (queue bytes : List ℕ) → KeepsOrder queue bytes 0 queue
nothing_taken queue bytes = record { gone = 0; left = sym (append-nil queue) }

-- all that is taken is queued
pub all_queued : (queue bytes : List ℕ) (taken : ℕ) → KeepsOrder queue bytes taken (queue ++ take taken bytes)
all_queued queue bytes taken = record { gone = 0; left = refl }

-- nothing was queued, some of what is taken goes to the system, and what is behind it is queued
pub some_given : (queue bytes rest after : List ℕ) (given taken : ℕ) → queue ≡ [] → rest ≡ drop given bytes
    → after ≡ queue ++ take taken rest → KeepsOrder queue bytes (given + taken) after
some_given queue bytes rest after given taken empty behind queued = record {
  gone = given;
  left = queued ∙ ap (λ q. q ++ take taken rest) empty ∙ ap (λ r. take taken r) behind ∙ sym (drop-take given taken bytes)
      ∙ sym (ap (λ q. drop given (q ++ take (given + taken) bytes)) empty);
}

-- before a write, some of what was queued goes to the system
pub first_passed : (before bytes : List ℕ) (count taken : ℕ) (after : List ℕ) → count ≤ length before
    → KeepsOrder (drop count before) bytes taken after → KeepsOrder before bytes taken after
first_passed before bytes count taken after fits keeps = record {
  gone = count + keeps.gone;
  left = keeps.left ∙ ap (λ l. drop keeps.gone l) (sym (drop-append-le count before (take taken bytes) fits))
      ∙ drop-drop keeps.gone count (before ++ take taken bytes);
}
