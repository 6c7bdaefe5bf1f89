-- What holds of each entry of a world, shown along its list.
use Rattle.std.proofs.Common.{◌≡◌, List, [], ◌∷◌, ◌++◌, sym, ap, subst, ◌∙◌}
use Rattle.std.proofs.lemmas.List.{append-nil, append_assoc}
use Rattle.booth_node.specs.World.{WorldEntry, World, AtEach}

-- of each entry of the list, with those before it
abbrev pub Along : (List WorldEntry → WorldEntry → Type 0) → List WorldEntry → List WorldEntry → Type 0
Along P done [] = Unit {0}
Along P done (entry ∷ entries) = P done entry × Along P (done ++ entry ∷ []) entries

same_head : (x y : WorldEntry) (xs ys : List WorldEntry) → x ∷ xs ≡ y ∷ ys → x ≡ y
same_head x y xs ys e = cc

same_tail : (x y : WorldEntry) (xs ys : List WorldEntry) → x ∷ xs ≡ y ∷ ys → xs ≡ ys
same_tail x y xs ys e = cc

along : (P : List WorldEntry → WorldEntry → Type 0) (done entries : List WorldEntry) → Along P done entries
    → (before after : List WorldEntry) (entry : WorldEntry) → entries ≡ before ++ entry ∷ after → P (done ++ before) entry
along P done [] h [] after entry e = absurd (cc)
along P done [] h (b ∷ before) after entry e = absurd (cc)
along P done (x ∷ xs) h [] after entry e =
    subst (λ (d : List WorldEntry). P d entry) (sym (append-nil done))
    (subst (λ (y : WorldEntry). P done y) (same_head x entry xs after e) h.0)
along P done (x ∷ xs) h (b ∷ before) after entry e =
    subst (λ (d : List WorldEntry). P d entry)
    (append_assoc done (x ∷ []) before ∙ ap (λ (y : WorldEntry). done ++ y ∷ before) (same_head x b xs _ e))
    (along P (done ++ x ∷ []) xs h.1 before after entry (same_tail x b xs _ e))

pub at_each : (w : World) (P : List WorldEntry → WorldEntry → Type 0) → Along P [] w.entries → AtEach w P
at_each w P h before after entry e = along P [] w.entries h before after entry e
