-- The section that a ticket's key goes to.
use Rattle.std.proofs.Common.{◌≡◌, ℕ, false, ◌++◌, map, suc, ◌-◌, ◌<◌, List, [], ◌∷◌, length, get_or, set, Option, Some, None, Result, Ok, Err, true, nat_lt, ◌||◌, refl, arith, ap, ◌∙◌, sym}
use Rattle.std.proofs.lemmas.Bool.Decides.{nat_tests}
use Rattle.std.proofs.lemmas.List.{set-get_or}
use Rattle.std.proofs.lemmas.List.{map-append}
use Rattle.std.specs.Prelude.{is_some, bytes_eq}
use Rattle.std.specs.List.{list_any}
use Rattle.indexmap.specs.IndexSet.{insert_key}
use Rattle.booth_conf.specs.Answers.{Answers}
use Rattle.booth_conf.specs.Sections.{entry_clash}
use Rattle.booth_conf.specs.Rules.{Summary, open_section, placed_clash, clash, has_name, name_of}
use Rattle.booth_conf.specs.Steps.{last_added, with_entry, placed}
use Rattle.booth_conf.specs.declared.faults.LineFault.{LineFault}
use Rattle.booth_conf.specs.declared.faults.Stop.{Stop}
use Rattle.booth_conf.specs.declared.faults.Stop.TheVariants as stops
use Rattle.booth_conf.specs.declared.sections.NamedSection.{NamedSection}
use Rattle.booth_conf.specs.declared.settings.Entry.{Entry}
use Rattle.booth_conf.specs.declared.settings.Setting.TheVariants.{Of}

pub open_last : (d : Option (List Entry)) (ts : List NamedSection) (e : NamedSection) →
    0 < length ts → open_section d ts ≡ Some (get_or ts (length ts - 1) e).section
open_last d [] e h = absurd (omega arith)
open_last d (t ∷ []) e h = refl
open_last d (t ∷ u ∷ us) e h =
    let k : suc (suc (length us)) - 1 ≡ suc (suc (length us) - 1) = omega arith in
    let l : 0 < suc (length us) = omega arith in
    rw k (open_last d (u ∷ us) e l)

pub added_last : (ts : List NamedSection) (p : Entry) (e : NamedSection) → 0 < length ts →
    last_added ts p ≡ set ts (length ts - 1) (with_entry (get_or ts (length ts - 1) e) p)
added_last [] p e h = absurd (omega arith)
added_last (t ∷ []) p e h = refl
added_last (t ∷ u ∷ us) p e h =
    let k : suc (suc (length us)) - 1 ≡ suc (suc (length us) - 1) = omega arith in
    let l : 0 < suc (length us) = omega arith in
    rw k (ap (λ xs. t ∷ xs) (added_last (u ∷ us) p e l))

pub place_answer : (r : Result (Unit {0}) Stop) (ts : List NamedSection) (t : NamedSection) (new : List Entry) (p : Entry) (i : ℕ) →
    0 < length ts → i ≡ length ts - 1 → t ≡ get_or ts i t →
    Answers r new (entry_clash t.section p) t.section (t.section ++ p ∷ []) →
    Answers r (set ts i (record t { section = new })) (placed_clash (open_section None ts) p) ts (last_added ts p)
place_answer (Ok done) ts t new p i l e g a =
    let here : t ≡ get_or ts (length ts - 1) t = g ∙ ap (λ k. get_or ts k t) e in (
      ap (λ o. placed_clash o p) (open_last None ts t l ∙ ap (λ x. Some x.section) (sym here))
          ∙ a.0,
      ap (λ q. set ts i (record t { section = q })) a.1 ∙ ap (λ k. set ts k (with_entry t p)) e ∙ ap (λ x. set ts (length ts - 1) (with_entry x p)) here ∙ sym (added_last ts p t l),
    )
place_answer (Err stops.Memory) ts t new p i l e g a =
    ap (λ q. set ts i (record t { section = q })) a ∙ ap (λ x. set ts i x) g ∙ set-get_or ts i t
place_answer (Err (stops.Line kind)) ts t new p i l e g a =
    let here : t ≡ get_or ts (length ts - 1) t = g ∙ ap (λ k. get_or ts k t) e in (
      ap (λ o. placed_clash o p) (open_last None ts t l ∙ ap (λ x. Some x.section) (sym here))
          ∙ a.0,
      ap (λ q. set ts i (record t { section = q })) a.1 ∙ ap (λ x. set ts i x) g ∙ set-get_or ts i t,
    )

open_any : (d : Option (List Entry)) (ts : List NamedSection) → 0 < length ts →
    open_section d ts ≡ open_section None ts
open_any d [] h = absurd (omega arith)
open_any d (t ∷ []) h = refl
open_any d (t ∷ u ∷ us) h = open_any d (u ∷ us) (omega arith)

placed_some : (d : Summary) (p : Entry) → 0 < length d.tickets →
    placed d p ≡ record d { tickets = last_added d.tickets p }
placed_some d p h = let t : nat_lt 0 (length d.tickets) ≡ true = grind (arith, nat_tests) in rw t refl

pub placed_answer : (r : Result (Unit {0}) Stop) (d : Summary) (new : List NamedSection) (p : Entry) →
    0 < length d.tickets →
    Answers r new (placed_clash (open_section None d.tickets) p) d.tickets (last_added d.tickets p) →
    Answers r (record d { tickets = new }) (clash d (Of p)) d (placed d p)
placed_answer (Ok done) d new p l a =
    (ap (λ o. placed_clash o p) (open_any d.defaults d.tickets l) ∙ a.0, ap (λ xs. record d { tickets = xs }) a.1 ∙ sym (placed_some d p l))
placed_answer (Err stops.Memory) d new p l a = ap (λ xs. record d { tickets = xs }) a
placed_answer (Err (stops.Line kind)) d new p l a =
    (ap (λ o. placed_clash o p) (open_any d.defaults d.tickets l) ∙ a.0, ap (λ xs. record d { tickets = xs }) a.1)

pub open_is : (d : Option (List Entry)) (ts : List NamedSection) →
    is_some (open_section d ts) ≡ (nat_lt 0 (length ts) || is_some d)
open_is d [] = grind (arith, nat_tests)
open_is d (t ∷ []) = grind (arith, nat_tests)
open_is d (t ∷ u ∷ us) = open_is d (u ∷ us) ∙ grind (arith, nat_tests)

-- NAMES

any_at : (name : List ℕ) (ts : List NamedSection) →
    list_any (bytes_eq name) (map name_of ts) ≡ list_any (has_name name) ts
any_at name [] = refl
any_at name (t ∷ ts) = rw (any_at name ts) refl

pub any_name : (name : List ℕ) (keys : List (List ℕ)) (ts : List NamedSection) →
    keys ≡ map name_of ts → list_any (bytes_eq name) keys ≡ list_any (has_name name) ts
any_name name keys ts e = ap (list_any (bytes_eq name)) e ∙ any_at name ts

pub name_pushed : (t : NamedSection) (keys : List (List ℕ)) (ts : List NamedSection) →
    keys ≡ map name_of ts → list_any (has_name t.name) ts ≡ false →
    insert_key bytes_eq keys t.name ≡ map name_of (ts ++ t ∷ [])
name_pushed t keys ts e new =
    let absent : list_any (bytes_eq t.name) keys ≡ false = any_name t.name keys ts e ∙ new in
    rw absent (ap (λ xs. xs ++ t.name ∷ []) e ∙ sym (map-append name_of ts (t ∷ [])))

last_names : (ts : List NamedSection) (p : Entry) →
    map name_of (last_added ts p) ≡ map name_of ts
last_names [] p = refl
last_names (t ∷ []) p = refl
last_names (t ∷ u ∷ us) p = ap (λ ns. t.name ∷ ns) (last_names (u ∷ us) p)

pub names_kept : (r : Result (Unit {0}) Stop) (fault : Option LineFault) (ts new : List NamedSection) (p : Entry) →
    Answers r new fault ts (last_added ts p) → map name_of new ≡ map name_of ts
names_kept (Ok done) fault ts new p a = ap (map name_of) a.1 ∙ last_names ts p
names_kept (Err stops.Memory) fault ts new p a = ap (map name_of) a
names_kept (Err (stops.Line kind)) fault ts new p a = ap (map name_of) a.1
