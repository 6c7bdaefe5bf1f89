-- The reads of two key files from the reads of each.
use Rattle.std.specs.Prelude.{Option, Some, None, Result, Ok, Err}
use Rattle.std.proofs.Common.{◌≡◌, ◌∙◌, ◌++◌, ℕ, List, [], ◌∷◌, sym, ap, subst}
use Rattle.booth_conf.specs.Config.{ConfigSays}
use Rattle.booth_keys.specs.declared.ring.Ring.{Ring}
use Rattle.booth_host.specs.declared.entry.Entry.{Entry}
use Rattle.booth_host.specs.declared.entry.Entry.TheVariants.{ReadFile}
use Rattle.booth_host.specs.Past.{GrewSome}
use Rattle.booth_host.proofs.PastLemmas.{no_entry, some_joined, some_of}
use Rattle.booth_outcomes.specs.declared.outcome.Ended.{Ended}
use Rattle.booth_outcomes.specs.Keys.{HasKey, IsFromFile, IsKeyRead, IsRingRead, KeyTexts, key_call, key_calls, old_file}
use Rattle.booth_outcomes.specs.Keys.{OldKeyless}
use Rattle.booth_outcomes.proofs.EndedLemmas.{ErrIs, err_has}

module _ (config : ConfigSays) where
  -- without the first file nothing is read
  pub no_ring : {a : Option (List Entry)} → config.authfile ≡ None → GrewSome (IsRingRead config (Ok None)) a a
  no_ring none =
      let texts : KeyTexts = record { first = []; old = [] } in
      some_of (IsRingRead config (Ok None)) no_entry
      (texts, none, sym (ap (λ file. key_call file [] ++ key_call (old_file file config.authfile_old) []) none))

  module _ (file : List ℕ) (set : config.authfile ≡ Some file) (named : Option (List ℕ)) (is : named ≡ config.authfile_old) where
    -- behind the first key there was no old one
    pub old_keyless : (first : List ℕ) (r : Result (Option Ring) Ended) (ended : Ended) {a b c : Option (List Entry)} → ErrIs r ended →
        GrewSome (IsFromFile file (Ok first)) a b → GrewSome (IsKeyRead named (Err ended)) b c → GrewSome (IsRingRead config r) a c
    old_keyless first r ended {a} {b} {c} same read old =
        err_has (λ r. GrewSome (IsRingRead config r) a c) r ended same
        (some_joined (IsFromFile file (Ok first)) (IsKeyRead named (Err ended)) (IsRingRead config (Err ended))
        (λ xs ys h k. OldKeyless (record {
          file = file;
          set = set;
          text = h.0;
          key = first;
          reads = h.1;
          old = k.0;
          old_set = sym is ∙ k.1;
          rest = ys;
          whole = ap (λ zs. zs ++ ys) h.2;
          here = k.2;
        })) read old)

    both_calls : (texts : KeyTexts) → ReadFile file (Ok texts.first) ∷ key_call config.authfile_old texts.old ≡ key_calls config texts
    both_calls texts = sym (ap (λ first. key_call first texts.first ++ key_call (old_file first config.authfile_old) texts.old) set)

    pub ring_read : (ring : Ring) {a b c : Option (List Entry)} → ring.hash ≡ config.auth_hash →
        GrewSome (IsFromFile file (Ok ring.first)) a b → GrewSome (IsKeyRead named (Ok ring.old)) b c →
        GrewSome (IsRingRead config (Ok (Some ring))) a c
    ring_read ring hash read old =
        some_joined (IsFromFile file (Ok ring.first)) (IsKeyRead named (Ok ring.old)) (IsRingRead config (Ok (Some ring)))
        (λ xs ys h k. (
          record { first = h.0; old = k.0 },
          record { file = file; set = set; first = h.1; old = subst (λ n. HasKey n k.0 ring.old) is k.1; hash = hash },
          ap (λ zs. zs ++ ys) h.2 ∙ ap (λ zs. ReadFile file (Ok h.0) ∷ zs) (k.2 ∙ ap (λ n. key_call n k.0) is)
              ∙ both_calls (record { first = h.0; old = k.0 }),
        )) read old
