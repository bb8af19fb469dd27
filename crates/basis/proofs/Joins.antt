-- Laws of joined lookahead strings: what is cut off early is cut off anyway, so joins associate.
-- Assumes nothing.
use Prim.Native.Nat.{ℕ, zero, suc, ◌+◌, ◌≤◌, min}
use mathlib.Core.Path.{◌≡◌, refl, sym, ap, ◌∙◌}
use mathlib.Core.List.{[], ◌∷◌, ◌++◌, append_assoc, append-nil}
use native.Mathlib.Omega.{arith}
use lib.ListN.{length, take, length-take, length-append}
use lib.Seq.{take_all, take-append-le}
use Rattle.basis.specs.Bits.{Bits}
use Rattle.basis.specs.Lookahead.{lookahead, join}

take_front : (n : ℕ) (a b : Bits) → take n (take n a ++ b) ≡ take n (a ++ b)
take_front zero a b = refl
take_front (suc n) [] b = refl
take_front (suc n) (x ∷ a) b = ap (λ (s : Bits). x ∷ s) (take_front n a b)

take_back : (n : ℕ) (a b : Bits) (m : ℕ) → n ≤ m → take n (a ++ take m b) ≡ take n (a ++ b)
take_back zero a b m h = refl
take_back (suc n) [] b zero h = absurd (omega arith)
take_back (suc n) [] [] (suc m) h = refl
take_back (suc n) [] (x ∷ b) (suc m) h = ap (λ (s : Bits). x ∷ s) (take_back n [] b m (omega arith))
take_back (suc n) (x ∷ a) b m h = ap (λ (s : Bits). x ∷ s) (take_back n a b m (omega arith))

-- a join takes its first string cut, or its second
pub join_front : (a b : Bits) → join (lookahead a) b ≡ join a b
join_front a b = take_front 8 a b

pub join_back : (a b : Bits) → join a (lookahead b) ≡ join a b
join_back a b = take_back 8 a b 8 (omega arith)

pub join_assoc : (a b c : Bits) → join (join a b) c ≡ join a (join b c)
join_assoc a b c = join_front (a ++ b) c ∙ ap (take 8) (append_assoc a b c) ∙ sym (join_back a (b ++ c))

-- a lookahead string has at most 8 bits, and one that has so few is its own
pub lookahead_length : (s : Bits) → length (lookahead s) ≤ 8
lookahead_length s = rw length-take (omega arith)

pub lookahead_short : (s : Bits) → length s ≤ 8 → lookahead s ≡ s
lookahead_short s h = take_all 8 s h

-- the empty string is the unit
pub join_empty_left : (s : Bits) → length s ≤ 8 → join [] s ≡ s
join_empty_left s h = lookahead_short s h

pub join_empty_right : (s : Bits) → length s ≤ 8 → join s [] ≡ s
join_empty_right s h = ap (take 8) (append-nil s) ∙ lookahead_short s h

-- a string of 8 bits hides whatever follows it
pub join_full : (s t : Bits) → length s ≡ 8 → join s t ≡ s
join_full s t h = sym (join_front_nil) ∙ lookahead_short s (omega arith)
  where
    join_front_nil : take 8 s ≡ take 8 (s ++ t)
    join_front_nil = sym (take-append-le 8 s t (omega arith))

pub join_length : (a b : Bits) → length (join a b) ≡ min 8 (length a + length b)
join_length a b = length-take 8 (a ++ b) ∙ ap (min 8) (length-append a b)

-- what comes next, where a comes before b, is the join of what comes next in each
pub lookahead_append : (a b : Bits) → lookahead (a ++ b) ≡ join (lookahead a) (lookahead b)
lookahead_append a b = sym (join_front a (lookahead b) ∙ join_back a b)
