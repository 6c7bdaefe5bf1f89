-- A word that a command has to have has a value, by the command's rules alone.
use Rattle.std.specs.Prelude.{codes}
use Rattle.std.specs.List.{slice_index_or, list_all}
use Rattle.std.specs.Str.{bytes_eq}
use Rattle.std.proofs.Common.{zero, suc, ◌≡◌, ◌∙◌, ◌<◌, ◌≤◌, ap, ◌&&◌, ℕ, Bool}
use Rattle.std.proofs.Common.{true, false, not, List, [], ◌∷◌, length, is_some, Option, Some, None}
use Rattle.std.proofs.Common.{refl, sym, subst, inl, inr, arith, map, true≢false}
use Rattle.std.proofs.lemmas.Slice.Eq.{bytes_eq-Decides}
use Rattle.clap.specs.Facts.{args_of, groups_of, unwrap_or_range}
use Rattle.clap.specs.Built.{IsPlainArg, IsParsedFrom}
use Rattle.clap.specs.Matches.{found_of, first_value}
use Rattle.clap.specs.Walk.{Rule, rule_of, is_empty}
use Rattle.clap.specs.Simple.{app_of}
use Rattle.clap.specs.declared.builder.action.ArgAction.TheVariants.{Set}
use Rattle.clap.specs.declared.builder.arg.Arg.{Arg}
use Rattle.clap.specs.declared.builder.command.Command.{Command}
use Rattle.clap.specs.declared.builder.command.Command.TheViews.{out-Command}
use Rattle.clap.specs.declared.parser.matches.ArgMatches.{ArgMatches}
use Rattle.clap.proofs.CallerLemmas.{required_has_value}
use Rattle.clap.proofs.SimpleLemmas.{is_nil}

first : (a b : Bool) → (a && b) ≡ true → a ≡ true
first true b e = refl
first false b e = cc

second : (a b : Bool) → (a && b) ≡ true → b ≡ true
second true b e = e
second false b e = cc

is_false : (a : Bool) → not a ≡ true → a ≡ false
is_false true e = cc
is_false false e = refl

is_none : {X : Type 0} (o : Option X) → not (is_some o) ≡ true → o ≡ None
is_none None e = refl
is_none (Some x) e = cc

-- the rule of an argument stands at its place among the rules
rule_at : (xs : List Arg) (k : ℕ) (d : Arg) → rule_of (slice_index_or xs k d) ≡ slice_index_or (map rule_of xs) k (rule_of d)
rule_at [] k d = refl
rule_at (x ∷ xs) zero d = refl
rule_at (x ∷ xs) (suc k) d = rule_at xs k d

same_length : (xs : List Arg) → length (map rule_of xs) ≡ length xs
same_length [] = refl
same_length (x ∷ xs) = ap suc (same_length xs)

all_at : {X : Type 0} (p : X → Bool) (xs : List X) (k : ℕ) (d : X) → list_all p xs ≡ true → k < length xs → p (slice_index_or xs k d) ≡ true
all_at p [] k d all lt = absurd (omega arith)
all_at p (x ∷ xs) zero d all lt = first (p x) (list_all p xs) all
all_at p (x ∷ xs) (suc k) d all lt = all_at p xs k d (second (p x) (list_all p xs) all) (omega arith)

-- the rule says nothing of other arguments, and reads its values in no way of its own
abbrev pub is_plain_rule : Rule → Bool
is_plain_rule r = r.is_simple && r.is_free

-- no rule has this id, or only the one at this place
abbrev pub is_absent : List ℕ → List Rule → Bool
is_absent id rs = list_all (λ r. not (bytes_eq r.id id)) rs

unfoldable pub is_only_at : ℕ → List ℕ → List Rule → Bool
is_only_at k id [] = true
is_only_at zero id (r ∷ rs) = is_absent id rs
is_only_at (suc k) id (r ∷ rs) = not (bytes_eq r.id id) && is_only_at k id rs

only_place : (k : ℕ) (id : List ℕ) (rs : List Rule) (j : ℕ) (d : Rule) → is_only_at k id rs ≡ true → j < length rs →
    bytes_eq (slice_index_or rs j d).id id ≡ true → j ≡ k
unfolding is_only_at
only_place k id [] j d only lt same = absurd (omega arith)
only_place zero id (r ∷ rs) zero d only lt same = refl
only_place zero id (r ∷ rs) (suc j) d only lt same =
    let other = all_at (λ r. not (bytes_eq r.id id)) rs j d only (omega arith) in
    let no = is_false (bytes_eq (slice_index_or rs j d).id id) other in
    cc
only_place (suc k) id (r ∷ rs) zero d only lt same =
    let no = is_false (bytes_eq r.id id) (first (not (bytes_eq r.id id)) (is_only_at k id rs) only) in
    cc
only_place (suc k) id (r ∷ rs) (suc j) d only lt same =
    ap suc (only_place k id rs j d (second (not (bytes_eq r.id id)) (is_only_at k id rs) only) (omega arith) same)

-- an id that building gives to no argument of its own
abbrev pub is_own : List ℕ → Bool
is_own id = not (bytes_eq id []) && (not (bytes_eq id (codes "help")) && not (bytes_eq id (codes "version")))

apart : (a b : List ℕ) → not (bytes_eq a b) ≡ true → a ≡ b → ⊥
apart a b other e =
    let no = is_false (bytes_eq a b) other in
    let yes : bytes_eq a b ≡ true = (bytes_eq-Decides a b).1 e in
    absurd (true≢false (sym yes ∙ no))

-- what the rules of a command say of an argument that has to have a value
pub record IsNeeded (rules : List Rule) (k : ℕ) (id : List ℕ) : Type 0 where
  pub there : k < length rules
  pub named : (d : Rule) → (slice_index_or rules k d).id ≡ id
  pub required : (d : Rule) → (slice_index_or rules k d).required ≡ true
  pub set : (d : Rule) → (slice_index_or rules k d).action ≡ Some Set
  pub least : (d : Rule) → 1 ≤ (unwrap_or_range (slice_index_or rules k d).range).start_inclusive
  pub only : is_only_at k id rules ≡ true
  pub own : is_own id ≡ true

plain_arg : (a : Arg) → is_plain_rule (rule_of a) ≡ true → IsPlainArg a
plain_arg a e =
    let simple = first (rule_of a).is_simple (rule_of a).is_free e in
    let free = second (rule_of a).is_simple (rule_of a).is_free e in
    let overrides = first (is_empty a.overrides.items) _ simple in
    let groups = first (is_empty a.groups.items) _ (second (is_empty a.default_vals_ifs.items) _ (second (is_empty a.overrides.items) _ simple)) in
    let exclusive = first (not a.exclusive) _ free in
    let conflicts = first (is_empty a.conflicts.items) _ (second (not a.exclusive) _ free) in
    (is_false a.exclusive exclusive, is_nil a.conflicts.items conflicts, is_nil a.overrides.items overrides, is_nil a.groups.items groups)

no_delimiter : (a : Arg) → is_plain_rule (rule_of a) ≡ true → a.val_delim ≡ None
no_delimiter a e =
    let simple = first (rule_of a).is_simple (rule_of a).is_free e in
    let rest = second (is_empty a.groups.items) _ (second (is_empty a.default_vals_ifs.items) _ (second (is_empty a.overrides.items) _ simple)) in
    is_none a.val_delim (first (not (is_some a.val_delim)) _ rest)

-- a parse that succeeds gives a value to each argument that has to have one
value_by : (cmd : Command) (m : ArgMatches) (k : ℕ) (id : List ℕ) (d : Arg) →
    list_all is_plain_rule (app_of cmd).top.rules ≡ true → (app_of cmd).top.is_plain ≡ true →
    (app_of cmd).top.subcommand_negates_reqs ≡ false → IsNeeded (app_of cmd).top.rules k id → IsParsedFrom cmd m →
    is_some (first_value (found_of m) id) ≡ true
value_by cmd m k id d plain settings negates needed parsed =
    let xs : List Arg = args_of cmd in
    let a : Arg = slice_index_or xs k d in
    let at : rule_of a ≡ slice_index_or (map rule_of xs) k (rule_of d) = rule_at xs k d in
    let len = same_length xs in
    let lt : k < length xs = omega (arith, needed.there) in
    let plain_at : (j : ℕ) (e : Arg) → j < length xs → is_plain_rule (rule_of (slice_index_or xs j e)) ≡ true = λ j e low.
    let there : j < length (map rule_of xs) = omega arith in
    ap is_plain_rule (rule_at xs j e) ∙ all_at is_plain_rule (map rule_of xs) j (rule_of e) plain there in
    let groups : groups_of cmd ≡ [] = is_nil (groups_of cmd) (first (is_empty (groups_of cmd)) _ settings) in
    let globals : (out-Command cmd).has_globals ≡ false =
    is_false (out-Command cmd).has_globals (first (not (out-Command cmd).has_globals) _
    (second (not (out-Command cmd).allow_external_subcommands) _ (second (is_empty (groups_of cmd)) _ settings))) in
    let same_id : a.id.now ≡ id = ap (λ (r : Rule). r.id) at ∙ needed.named (rule_of d) in
    let required : a.required ≡ true = ap (λ (r : Rule). r.required) at ∙ needed.required (rule_of d) in
    let set : a.action ≡ Some Set = ap (λ (r : Rule). r.action) at ∙ needed.set (rule_of d) in
    let least : 1 ≤ (unwrap_or_range a.num_vals).start_inclusive =
    subst (λ (r : Rule). 1 ≤ (unwrap_or_range r.range).start_inclusive) (sym at) (needed.least (rule_of d)) in
    let only : (j : ℕ) (e : Arg) → j < length xs → bytes_eq (slice_index_or xs j e).id.now a.id.now ≡ true → j ≡ k = λ j e low same.
    let there : j < length (map rule_of xs) = omega arith in
    let ids : bytes_eq (slice_index_or (map rule_of xs) j (rule_of e)).id id ≡ true =
    rw (← ap (λ (r : Rule). r.id) (rule_at xs j e), ← same_id) same in
    only_place k id (map rule_of xs) j (rule_of e) needed.only there ids in
    let has : is_some (first_value (found_of m) a.id.now) ≡ true =
    required_has_value cmd m parsed ((λ j e low. plain_arg (slice_index_or xs j e) (plain_at j e low)), groups) globals negates k d lt
    required set (no_delimiter a (plain_at k d lt)) least only
    (λ e. apart id [] (first (not (bytes_eq id [])) _ needed.own) (sym same_id ∙ e))
    (λ auto. elim auto [
      | inl h ↦ apart id (codes "help") (first (not (bytes_eq id (codes "help"))) _ (second (not (bytes_eq id [])) _ needed.own)) (sym same_id ∙ h)
      | inr h ↦ apart id (codes "version") (second (not (bytes_eq id (codes "help"))) _ (second (not (bytes_eq id [])) _ needed.own)) (sym same_id ∙ h)
    ]) in
    subst (λ (t : List ℕ). is_some (first_value (found_of m) t) ≡ true) same_id has

pub needed_value : (cmd : Command) (m : ArgMatches) (k : ℕ) (id : List ℕ) →
    list_all is_plain_rule (app_of cmd).top.rules ≡ true → (app_of cmd).top.is_plain ≡ true →
    (app_of cmd).top.subcommand_negates_reqs ≡ false → IsNeeded (app_of cmd).top.rules k id → IsParsedFrom cmd m →
    is_some (first_value (found_of m) id) ≡ true
needed_value cmd m k id plain settings negates needed parsed = go (args_of cmd) refl
  where
    go : (xs : List Arg) → args_of cmd ≡ xs → is_some (first_value (found_of m) id) ≡ true
    go [] e =
        let none : length (map rule_of (args_of cmd)) ≡ 0 = ap (λ (ys : List Arg). length (map rule_of ys)) e in
        absurd (omega (arith, needed.there, none))
    go (x ∷ xs) e = value_by cmd m k id x plain settings negates needed parsed
