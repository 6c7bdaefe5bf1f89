use Rattle.std.proofs.Common.{rules, ◌≡◌, None, map, ap, ◌∙◌, sym, subst}
use Rattle.booth_conf.specs.Config.{ConfigSays, config_of, ticket_of, file_fault}
use Rattle.booth_conf.specs.Lookups.{ticket_name}
use Rattle.booth_conf.specs.Sound.{IsSound}
use Rattle.booth_conf.proofs.DefaultLemmas.{config_sound, names_of}
use Rattle.booth_conf.proofs.configuration.complete.Goals as goal

pub invariant_of-result : goal.invariant_of-result
invariant_of-result c =
    let made : ConfigSays = record {
      port = c.port.result;
      authfile = c.text.result;
      skew = c.from.result;
      authfile_old = c.text-in-None.result;
      auth_hash = c.hash.result;
      extras = c.in-Ok.extras.items;
      members = c.into_vec-members.result.items;
      tickets = c.in-Ok-tickets.tickets.items;
    } in
    let same : made ≡ config_of c.args.draft = search rules in
    let fine : file_fault made.members made.tickets ≡ None = search rules in
    let items : c.in-Ok-tickets.tickets.items ≡ map (ticket_of c.defaults-defaults.result) c.draft.inside.tickets = search rules in (
      c.into_sections-names.ensures.names
          ∙ names_of c.defaults-defaults.result c.draft.inside.tickets
          ∙ ap (map ticket_name) (sym items),
      subst IsSound (sym same) (config_sound c.args.draft c.requires (ap (λ (x : ConfigSays). file_fault x.members x.tickets) (sym same) ∙ fine)),
    )
