-- What members of a world begin with where none kept anything before.
use Rattle.std.proofs.Common.{◌≡◌, inl, ℕ, List, refl, sym, subst}
use Rattle.booth_rec.specs.declared.record.Record.{Record}
use Rattle.booth_rec.specs.Record.{no_record}
use Rattle.booth_node.specs.World.{World, clock_at, begins_with, HoldsNothing, BeginsFree}
use Rattle.booth_world.proofs.Lists.{none_is}

-- where no member kept anything before, none holds
pub none_holds : (w : World) → ((m : ℕ) (name : List ℕ) → begins_with w m name ≡ no_record) → BeginsFree w
none_holds w bare m name automatic =
    subst (λ (kept : Record). HoldsNothing w m (clock_at w m 0) kept) (sym (bare m name)) (record {
      over = λ l e. absurd (none_is l e);
      version = inl refl;
      bound = λ id e. absurd (none_is id e);
      promise = λ p e. absurd (none_is p e);
    })
