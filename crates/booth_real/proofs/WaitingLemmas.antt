-- Datagrams that wait, one put behind the others and the first given.
use Rattle.std.proofs.Common.{◌≡◌, ◌≤◌, ◌+◌, ℕ, zero, suc, List, [], ◌∷◌, ◌++◌, length, take, drop, refl, ◌∙◌, ap, arith}
use Rattle.std.proofs.lemmas.List.{length-drop, take_all}
use Rattle.std.specs.List.{All}
use Rattle.booth_base.specs.declared.address.Peer.{Peer}
use Rattle.booth_real.specs.Waiting.{cut_by, total, waits}
use Rattle.booth_real.specs.declared.backlog.Held.{Held}

take_within : {A : Type 0} (n : ℕ) (xs ys : List A) → n ≤ length xs → take n (xs ++ ys) ≡ take n xs
take_within zero xs ys low = refl
take_within (suc n) [] ys low = absurd (omega (arith, low))
take_within (suc n) (x ∷ xs) ys low = ap (λ (l : List _). x ∷ l) (take_within n xs ys (omega (arith, low)))

pub drop_within : {A : Type 0} (n : ℕ) (xs ys : List A) → n ≤ length xs → drop n (xs ++ ys) ≡ drop n xs ++ ys
drop_within zero xs ys low = refl
drop_within (suc n) [] ys low = absurd (omega (arith, low))
drop_within (suc n) (x ∷ xs) ys low = drop_within n xs ys (omega (arith, low))

pub cut_behind : (held : List Held) (one : Held) (bytes new : List ℕ) → total held ≡ length bytes → one.length ≡ length new
    → cut_by (held ++ one ∷ []) (bytes ++ new) ≡ cut_by held bytes ++ (one.from, new) ∷ []
cut_behind [] one [] new all size =
    let whole : take one.length new ≡ new = take_all one.length new (omega (arith, size)) in
    ap (λ (bs : List ℕ). (one.from, bs) ∷ []) whole
cut_behind [] one (b ∷ bytes) new all size = absurd (omega (arith, all))
cut_behind (first ∷ held) one bytes new all size =
    let low : first.length ≤ length bytes = omega (arith, all) in
    let left = length-drop first.length bytes in
    let rest : total held ≡ length (drop first.length bytes) = omega (arith, all, left, low) in
    ap (λ (bs : List ℕ). (first.from, bs) ∷ cut_by (held ++ one ∷ []) (drop first.length (bytes ++ new)))
    (take_within first.length bytes new low)
    ∙ ap (λ (bs : List ℕ). (first.from, take first.length bytes) ∷ cut_by (held ++ one ∷ []) bs)
    (drop_within first.length bytes new low)
    ∙ ap (λ (ds : List (Peer × List ℕ)). (first.from, take first.length bytes) ∷ ds)
    (cut_behind held one (drop first.length bytes) new rest size)

-- as many wait as are held
pub as_many : (held : List Held) (bytes : List ℕ) → length (cut_by held bytes) ≡ length held
as_many [] bytes = refl
as_many (first ∷ held) bytes = ap suc (as_many held (drop first.length bytes))

pub waits_behind : (held : List Held) (one : Held) (given : ℕ) (bytes new : List ℕ) → given + total held ≡ length bytes
    → one.length ≡ length new → waits (held ++ one ∷ []) given (bytes ++ new) ≡ waits held given bytes ++ (one.from, new) ∷ []
waits_behind held one given bytes new all size =
    let low : given ≤ length bytes = omega (arith, all) in
    let left = length-drop given bytes in
    ap (λ (bs : List ℕ). cut_by (held ++ one ∷ []) bs) (drop_within given bytes new low)
    ∙ cut_behind held one (drop given bytes) new (omega (arith, all, left, low)) size

pub total_behind : (held : List Held) (one : Held) → total (held ++ one ∷ []) ≡ total held + one.length
total_behind [] one = omega arith
total_behind (first ∷ held) one = let more = total_behind held one in omega (arith, more)

-- ---- what holds of each

pub all_behind : {A : Type 0} (P : A → Type 0) (xs : List A) (x : A) → All P xs → P x → All P (xs ++ x ∷ [])
all_behind P [] x all is zero d below = is
all_behind P [] x all is (suc k) d below = absurd (omega (arith, below))
all_behind P (y ∷ xs) x all is zero d below = all 0 y (omega arith)
all_behind P (y ∷ xs) x all is (suc k) d below =
    all_behind P xs x (λ j e low. all (suc j) e (omega (arith, low))) is k d (omega (arith, below))

pub all_after : {A : Type 0} (P : A → Type 0) (x : A) (xs : List A) → All P (x ∷ xs) → All P xs
all_after P x xs all k d below = all (suc k) d (omega (arith, below))
