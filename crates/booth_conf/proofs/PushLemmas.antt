-- Pieces put one after the other.
use Rattle.std.proofs.Common.{◌≡◌, ℕ, List, ◌++◌, ap, ◌∙◌, append_assoc}

pub two_pushed : (t u v a b : List ℕ) → u ≡ t ++ a → v ≡ u ++ b → v ≡ t ++ (a ++ b)
two_pushed t u v a b e f = f ∙ ap (λ xs. xs ++ b) e ∙ append_assoc t a b

pub three_pushed : (t u v w a b c : List ℕ) → u ≡ t ++ a → v ≡ u ++ b → w ≡ v ++ c →
    w ≡ t ++ (a ++ (b ++ c))
three_pushed t u v w a b c e f g = two_pushed t u w a (b ++ c) e (two_pushed u v w b c f g)

pub four_pushed : (t u v w x a b c d : List ℕ) → u ≡ t ++ a → v ≡ u ++ b → w ≡ v ++ c → x ≡ w ++ d →
    x ≡ t ++ (a ++ (b ++ (c ++ d)))
four_pushed t u v w x a b c d e f g h =
    two_pushed t u x a (b ++ (c ++ d)) e (three_pushed u v w x b c d f g h)

pub five_pushed : (t u v w x y a b c d e : List ℕ) → u ≡ t ++ a → v ≡ u ++ b → w ≡ v ++ c →
    x ≡ w ++ d → y ≡ x ++ e → y ≡ t ++ (a ++ (b ++ (c ++ (d ++ e))))
five_pushed t u v w x y a b c d e f g h i j =
    two_pushed t u y a (b ++ (c ++ (d ++ e))) f (four_pushed u v w x y b c d e g h i j)

pub line_pushed : (t u v w x a b c d : List ℕ) → u ≡ t ++ a → v ≡ u ++ b → w ≡ v ++ c → x ≡ w ++ d →
    x ≡ t ++ ((a ++ (b ++ c)) ++ d)
line_pushed t u v w x a b c d e f g h =
    two_pushed t w x (a ++ (b ++ c)) d (three_pushed t u v w a b c e f g) h
