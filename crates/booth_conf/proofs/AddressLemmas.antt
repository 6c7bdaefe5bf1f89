-- The address of a text.
use Rattle.std.proofs.Common.{◌≡◌, ◌<◌, ◌^◌, ℕ, zero, suc, Bool, true, false, cond, List, [], ◌∷◌, Option, Some, None, Result, Ok, Err, length, get_or, refl, arith, lit≤, ap, ◌∙◌, sym, subst, append-nil}
use Rattle.std.specs.List.{list_all}
use Rattle.std.specs.Net.Addr.{segments_of, octets_of}
use Rattle.std.specs.Net.Grammar.{IsDotted, IsColonHex}
use Rattle.std.specs.Net.Reader.{Read, whole_value, read_ipv4, read_ipv6}
use Rattle.std.proofs.NetLemmas.Ipv4.{read_ipv4_complete, read_ipv4_sound}
use Rattle.std.proofs.NetLemmas.Ipv6.{read_ipv6_complete, read_ipv6_sound, EndsGroups-nil, IsDotted-not_colon_hex}
use Rattle.std.proofs.lemmas.Bool.Decides.{nat_tests}
use Rattle.booth_base.specs.Address.{ReadsAddress, Spells}
use Rattle.booth_base.specs.declared.address.Address.{Address}
use Rattle.booth_base.specs.declared.address.Address.TheVariants.{V4, V6}
use Rattle.booth_base.specs.declared.address.AddressFault.{AddressFault}
use Rattle.booth_conf.proofs.SegmentLemmas.{octets_again, segments_again, octets_below, octets_len, segments_below, segments_len}
use Rattle.booth_conf.specs.ValueReader.{address_in, address_by, are_segments, is_segment}

-- a whole text that is read leaves nothing
whole_at : {A : Type 0} (a : A) (rest : List ℕ) (x : A) → whole_value (Some (a, rest)) ≡ Some x →
    ◌≡◌ {A = Read A} (Some (a, rest)) (Some (x, []))
whole_at a [] x e = cc
whole_at a (b ∷ rest) x e = grind (arith, nat_tests)

whole_found : {A : Type 0} (r : Read A) (x : A) → whole_value r ≡ Some x → r ≡ Some (x, [])
whole_found None x e = cc
whole_found (Some p) x e = whole_at p.0 p.1 x e

dotted_found : (text octets : List ℕ) → whole_value (read_ipv4 text) ≡ Some octets →
    IsDotted text octets
dotted_found text octets e =
    let (front, split, dotted) =
    read_ipv4_sound text octets [] (whole_found (read_ipv4 text) octets e) in
    subst (λ t. IsDotted t octets) (sym (split ∙ append-nil front)) dotted

colons_found : (text segments : List ℕ) → whole_value (read_ipv6 text) ≡ Some segments →
    IsColonHex text segments
colons_found text segments e =
    let (front, split, groups) =
    read_ipv6_sound text segments [] (whole_found (read_ipv6 text) segments e) in
    subst (λ t. IsColonHex t segments) (sym (split ∙ append-nil front)) groups

dotted_only : (text octets : List ℕ) → IsDotted text octets →
    whole_value (read_ipv4 text) ≡ Some octets
dotted_only text octets h =
    ap whole_value (ap read_ipv4 (sym (append-nil text)) ∙ read_ipv4_complete text octets [] h (lit≤ tt))

colons_only : (text segments : List ℕ) → IsColonHex text segments →
    whole_value (read_ipv6 text) ≡ Some segments
colons_only text segments h =
    ap whole_value (ap read_ipv6 (sym (append-nil text)) ∙ read_ipv6_complete text segments [] h EndsGroups-nil)

-- SEGMENTS

tested_below : (xs : List ℕ) → list_all is_segment xs ≡ true → (k : ℕ) → get_or xs k 0 < 2 ^ 16
tested_below [] h k = omega arith
tested_below (x ∷ xs) h zero = grind (arith, nat_tests)
tested_below (x ∷ xs) h (suc k) = tested_below xs (grind (arith, nat_tests)) k

below_segments : (xs : List ℕ) → ((k : ℕ) → get_or xs k 0 < 2 ^ 16) → list_all is_segment xs ≡ true
below_segments [] h = refl
below_segments (x ∷ xs) h =
    let here : x < 2 ^ 16 = h 0 in
    let rest : list_all is_segment xs ≡ true = below_segments xs (λ k. h (suc k)) in
    grind (arith, nat_tests)

v6_spelled : (text segments : List ℕ) → are_segments segments ≡ true → IsColonHex text segments →
    Spells text (V6 (octets_of segments))
v6_spelled text segments h groups =
    let eight : length segments ≡ 8 = grind (arith, nat_tests) in
    let small : list_all is_segment segments ≡ true = grind (arith, nat_tests) in (
      (omega (arith, octets_len segments), octets_below segments (tested_below segments small)),
      subst (λ xs. IsColonHex text xs) (sym (segments_again segments)) groups,
    )

-- BOTH WAYS

v6_found : (text segments : List ℕ) (b : Bool) (a : Address) → are_segments segments ≡ b →
    IsColonHex text segments → cond b (Some (V6 (octets_of segments))) None ≡ Some a → Spells text a
v6_found text segments true a h groups e = let same : V6 (octets_of segments) ≡ a = cc in subst (λ x. Spells text x) same (v6_spelled text segments h groups)
v6_found text segments false a h groups e = cc

by_found : (text : List ℕ) (v4 v6 : Option (List ℕ)) (a : Address) →
    whole_value (read_ipv4 text) ≡ v4 → whole_value (read_ipv6 text) ≡ v6 →
    address_by v4 v6 ≡ Some a → Spells text a
by_found text (Some octets) v6 a e f h = let same : V4 octets ≡ a = cc in subst (λ x. Spells text x) same (dotted_found text octets e)
by_found text None (Some segments) a e f h =
    v6_found text segments (are_segments segments) a refl (colons_found text segments f) h
by_found text None None a e f h = cc

pub address_found : (text : List ℕ) (a : Address) → address_in text ≡ Some a → Spells text a
address_found text a h =
    by_found text (whole_value (read_ipv4 text)) (whole_value (read_ipv6 text)) a refl refl h

v6_only : (text octets : List ℕ) (v4 : Option (List ℕ)) → Spells text (V6 octets) →
    whole_value (read_ipv4 text) ≡ v4 →
    address_by v4 (whole_value (read_ipv6 text)) ≡ Some (V6 octets)
v6_only text octets (Some other) h e =
    absurd (IsDotted-not_colon_hex text other (segments_of octets) (dotted_found text other e) h.1)
v6_only text octets None h e =
    let eight : length (segments_of octets) ≡ 8 = segments_len octets h.0.0 in
    let small : list_all is_segment (segments_of octets) ≡ true =
    below_segments (segments_of octets) (segments_below octets h.0.1) in
    let good : are_segments (segments_of octets) ≡ true = grind (arith, nat_tests) in
    rw (colons_only text (segments_of octets) h.1, good, octets_again octets h.0.0 h.0.1) refl

pub address_only : (text : List ℕ) (a : Address) → Spells text a → address_in text ≡ Some a
address_only text (V4 octets) h = rw (dotted_only text octets h) refl
address_only text (V6 octets) h = v6_only text octets (whole_value (read_ipv4 text)) h refl

-- THE READER

abbrev pub ok_of : {A E : Type 0} → Result A E → Option A
ok_of (Ok a) = Some a
ok_of (Err e) = None

none_in : (text : List ℕ) (o : Option Address) → address_in text ≡ o →
    ((a : Address) → Spells text a → ⊥) → None ≡ o
none_in text None e none = refl
none_in text (Some a) e none = absurd (none a (address_found text a e))

pub address_read : (text : List ℕ) (result : Result Address AddressFault) →
    ReadsAddress text result → ok_of result ≡ address_in text
address_read text (Ok a) h = sym (address_only text a h)
address_read text (Err e) h = none_in text (address_in text) refl h
