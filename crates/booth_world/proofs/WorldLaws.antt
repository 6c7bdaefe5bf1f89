-- The laws of worlds, for each ticket of their configuration.
use Rattle.booth_world.specs.Worlds.{WorldsHoldOne, WorldsAreApart, WorldTermsNeverFall, LaterHoldersHaveLaterTerms}
use Rattle.std.proofs.Common.{◌≡◌, ◌≤◌, Bool, true, false, refl, inl, inr, ⊎_elim}
use Rattle.booth_node.specs.Opening.{is_site_at}
use Rattle.booth_node.specs.World.{RecordsGoOn}
use Rattle.booth_world.proofs.Configured.{going_on, setting_of}
use Rattle.booth_world.proofs.Stays.{not_up}
use Rattle.booth_world.proofs.ManualTerms.{manual_terms_hold}
use Rattle.booth_world.proofs.WorldRuns.{one_holds, are_apart, terms_hold, terms_rise}
use Rattle.booth_world.proofs.Untimed.{untimed, timed}

pub worlds_hold_one : WorldsHoldOne
worlds_hold_one w is_world ticket automatic moment s t by_s by_t =
    one_holds w (untimed w is_world) ticket (going_on w ticket false (λ going. absurd (not_up going)) (setting_of w is_world.form ticket automatic.0 automatic.1)) (timed w false ticket is_world) moment s t by_s by_t

pub worlds_are_apart : WorldsAreApart
worlds_are_apart w is_world ticket automatic early late between later s t ne kept by_s by_t =
    are_apart w (untimed w is_world) ticket (going_on w ticket false (λ going. absurd (not_up going)) (setting_of w is_world.form ticket automatic.0 automatic.1)) (timed w false ticket is_world) early late between later s t ne kept by_s by_t

pub later_holders : LaterHoldersHaveLaterTerms
later_holders w is_world all on ticket automatic early late between later s t ne kept other first second is_first is_second by_s by_t =
    terms_rise w (untimed w is_world) ticket (going_on w ticket true (λ going. on) (setting_of w is_world.form ticket automatic.0 automatic.1)) (timed w true ticket is_world) refl all early late between later s t ne
    kept other first second is_first is_second by_s by_t

pub world_terms : WorldTermsNeverFall
world_terms w is_world ticket there early late between later s term below on least kept h =
    by_kind ticket.manual refl
  where
    by_kind : (manual : Bool) → ticket.manual ≡ manual → term ≤ kept.term
    by_kind false automatic =
        ⊎_elim
        (λ (site : is_site_at w.members s ≡ true).
        terms_hold w is_world ticket (setting_of w is_world.form ticket there automatic) early late between later s term below (inl site) least
        kept h)
        (λ (going : RecordsGoOn w).
        terms_hold w is_world ticket (going_on w ticket true (λ goes. going) (setting_of w is_world.form ticket there automatic)) early late between later s term below (inr refl) least
        kept h)
        on
    by_kind true by_hand =
        manual_terms_hold w is_world ticket there by_hand s below early late between later term on least kept h
