-- How the calls of links grow.
use Rattle.std.specs.Prelude.{Option, None, Some, IsSome}
use Rattle.std.proofs.Common.{◌≡◌, List, [], ◌∷◌, ◌++◌, refl, sym, ◌∙◌, ap, append_assoc, append-nil, subst}
use Rattle.booth_stream.specs.declared.link_call.LinkCall.{LinkCall}
use Rattle.booth_stream.specs.Calls.{with_calls, CallsGrewBy}

with_calls-twice : (a : Option (List LinkCall)) (xs ys : List LinkCall) → with_calls (with_calls a xs) ys ≡ with_calls a (xs ++ ys)
with_calls-twice None xs ys = refl
with_calls-twice (Some past) xs ys = ap Some (append_assoc past xs ys)

IsSome-with_calls : (a : Option (List LinkCall)) (xs : List LinkCall) → IsSome (with_calls a xs) → IsSome a
IsSome-with_calls None xs told = told
IsSome-with_calls (Some past) xs told = refl

with_calls-nil : (a : Option (List LinkCall)) → a ≡ with_calls a []
with_calls-nil None = refl
with_calls-nil (Some past) = ap Some (sym (append-nil past))

-- no call
pub no_call : {a : Option (List LinkCall)} → CallsGrewBy a a []
no_call {a} = record { grew = λ told. with_calls-nil a }

-- one part after another
pub calls_joined : {a b c : Option (List LinkCall)} {xs ys : List LinkCall} → CallsGrewBy a b xs → CallsGrewBy b c ys → CallsGrewBy a c (xs ++ ys)
calls_joined {a} {b} {c} {xs} {ys} first second = record {
  grew = λ told.
      let last : c ≡ with_calls b ys = second.grew told in
      let told_b : IsSome b = IsSome-with_calls b ys (subst IsSome last told) in
      last ∙ ap (λ p. with_calls p ys) (first.grew told_b) ∙ with_calls-twice a xs ys;
}

-- one call behind no call
pub one_behind_none : {a b c : Option (List LinkCall)} {x : LinkCall} → CallsGrewBy a b [] → CallsGrewBy b c (x ∷ []) → CallsGrewBy a c (x ∷ [])
one_behind_none none one = calls_joined none one
