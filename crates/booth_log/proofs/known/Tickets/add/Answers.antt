use Rattle.std.proofs.Common.{◌≡◌, ◌≤◌, ◌<◌, ◌+◌, ◌∙◌, ℕ, Option, None, Some, cond, false, true≢false, refl, ap, arith}
use Rattle.std.specs.Prelude.{bytes_eq, is_some}
use Rattle.indexmap.proofs.CallerLemmas.{insert_entry-new}
use Rattle.booth_conf.specs.declared.limits.TheConstants.{TICKETS}
use Rattle.booth_log.specs.declared.known.Known.{Known}
use Rattle.booth_log.proofs.known.Tickets.add.Goals as goal

nothing : (found : Option Known) → is_some found ≡ false → found ≡ None
nothing None h = refl
nothing (Some known) h = absurd (true≢false h)

-- one more takes one place of the room
room_left : (len more spare left : ℕ) (old : Option Known) → is_some old ≡ false →
    more ≡ len + cond (is_some old) 0 1 → spare ≤ left + 1 → TICKETS ≤ len + spare → len < TICKETS →
    (TICKETS ≤ more + left) × (more ≤ TICKETS)
room_left len more spare left None h e s r l = (omega (arith, e, s, r, l), omega (arith, e, s, r, l))
room_left len more spare left (Some known) h e s r l = absurd (true≢false h)

pub invariant_of-self : goal.invariant_of-self
invariant_of-self c =
    let unmet : is_some c.unwrap.result ≡ false =
    ap is_some (rw c.unwrap.ensures at c.insert.ensures.old) ∙ rw c.self.view_is c.requires.unmet in
    room_left _ _ _ _ c.unwrap.result unmet (rw c.unwrap.ensures at c.insert.ensures.len) c.insert.ensures.spare c.self.invariant.0 (rw c.self.view_is c.requires.room)

pub returns : goal.returns
returns c =
    rw (← c.self.view_is) (rw c.unwrap.ensures at c.insert.ensures.entries ∙ insert_entry-new bytes_eq c.self.inside.known c.args.ticket c.args.known (nothing _ (rw c.self.view_is c.requires.unmet)))
