-- The words of the example ask for its daemon.
use Rattle.std.specs.Prelude.{◌^◌, ◌<◌, ◌≤◌, Some, None, codes}
use Rattle.std.specs.Fmt.{digits}
use Rattle.std.specs.Net.Grammar.{IsDotted}
use Rattle.std.proofs.Common.{◌≡◌, false, [], ◌∷◌, refl, sym, subst, inl, inr, arith}
use Rattle.std.proofs.lemmas.Bool.{leb-true, ltb-true}
use denote.RawPtr.{null_ptr}
use Rattle.clap.proofs.OnLiterals.{clap_on_literals}
use Rattle.clap.specs.Words.{fault_of}
use Rattle.booth_cli.specs.declared.command.Verb.TheVariants as verbs
use Rattle.booth_cli.specs.declared.program.Program.TheVariants.{Boothd}
use Rattle.booth_cli.specs.declared.word.Word.{Word}
use Rattle.booth_cli.specs.declared.word.Word.TheVariants as words
use Rattle.booth_cli.specs.Asking.{AsksDaemon, IsDaemonOf}
use Rattle.booth_cli.specs.Commands.{app_for, verb_in}
use Rattle.booth_cli.specs.Given.{Texts, found_in}
use Rattle.booth_cli.specs.Reading.{IsNumber, IsRead, Refuses}
use Rattle.booth_services.specs.RunExample.{asked_for, run_words}

-- ---- what is found in them

verb_is : verb_in Boothd run_words ≡ Some verbs.Daemon
verb_is = refl

none_at_fault : fault_of (app_for verbs.Daemon) run_words ≡ []
unfolding clap_on_literals
none_at_fault = refl

abbrev texts : Texts
texts = record {
  ticket = None;
  name = None;
  value = None;
  site = Some (codes "192.0.2.1");
  turns = Some (codes "1");
  events = None;
  number = None;
  lock = None;
  records = None;
  conf = None;
  target = None;
  program = None;
  margin = None;
  kill = None;
  journals = [];
  wait = false;
  commit = false;
  immediate = false;
  force = false;
  json = false;
  restart = false;
}

found_is : found_in verbs.Daemon run_words ≡ texts
unfolding clap_on_literals
found_is = refl

-- ---- what they say

site_spelled : IsDotted (codes "192.0.2.1") (192 ∷ 0 ∷ 2 ∷ 1 ∷ [])
unfolding digits
site_spelled = record {
  a = 192;
  b = 0;
  c = 2;
  d = 1;
  fit = (ltb-true 192 256 refl, ltb-true 0 256 refl, ltb-true 2 256 refl, ltb-true 1 256 refl);
  value = refl;
  spelled = refl;
}

one_turn : IsNumber 1 (2 ^ 62) (codes "1") 1
unfolding digits
one_turn = record { spelled = refl; least = leb-true 1 1 refl; most = leb-true 1 (2 ^ 62) refl }

short_path : 21 ≤ 255
short_path = leb-true 21 255 refl

none_refused : (word : Word) → Refuses texts word → ⊥
none_refused words.Ticket r = r
none_refused words.Name r = r
none_refused words.Value r = r
none_refused words.Site (inl r) = r
none_refused words.Site (inr r) = r asked_for.site site_spelled
none_refused words.Number (inl (inl r)) = r 1 one_turn
none_refused words.Number (inl (inr (inl r))) = r
none_refused words.Number (inl (inr (inr r))) = r
none_refused words.Number (inr (inl r)) = r
none_refused words.Number (inr (inr r)) = r
none_refused words.Path (inl r) = r
none_refused words.Path (inr (inl r)) = r
none_refused words.Path (inr (inr r)) = absurd cc
none_refused words.Program r = r
none_refused words.Configuration r = let long : 255 < 21 = r in absurd (omega (arith, long, short_path))

reads_it : (all : _) × IsRead texts all × IsDaemonOf all asked_for
reads_it = (
  record {
    ticket = None;
    name = None;
    value = None;
    options = record { immediate = false; wait = false; commit = false };
    force = false;
    json = false;
    restart = false;
    target = None;
    site = Some asked_for.site;
    turns = Some 1;
    events = 100000;
    number = 1;
    margin = None;
    kill = None;
    program = None;
    journals = record {
      ptr = null_ptr;
      len = 0;
      cap = 0;
      alloc = record { memory = record { seal = tt } };
      items = [];
      ok = (refl, omega arith);
      small = omega arith;
    };
    lock = asked_for.lock;
    records = asked_for.records;
    names_conf = false;
    conf = asked_for.conf;
  },
  record {
    accepted = none_refused;
    ticket = refl;
    name = refl;
    value = refl;
    options = refl;
    force = refl;
    json = refl;
    restart = refl;
    target = refl;
    site = site_spelled;
    turns = one_turn;
    events = refl;
    number = refl;
    margin = refl;
    kill = refl;
    program = refl;
    journals = refl;
    names_conf = refl;
    lock = refl;
    records = refl;
    conf = refl;
  },
  record { site = refl; turns = refl; lock = refl; records = refl; conf = refl },
)

pub asks_it : AsksDaemon run_words asked_for
asks_it = record {
  all = reads_it.0;
  asks = record {
    named = verb_is;
    taken = none_at_fault;
    says = subst (λ (t : Texts). IsRead t reads_it.0) (sym found_is) reads_it.1;
  };
  same = reads_it.2;
}
