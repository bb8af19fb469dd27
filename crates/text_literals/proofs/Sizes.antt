-- What a right literal gives: 1 to 32 characters, each below 80.
-- Assumes nothing.
use Prim.Native.Nat.{ℕ, zero, suc, ◌+◌, ◌*◌, ◌≤◌, ◌<◌}
use mathlib.Core.Path.{◌≡◌}
use mathlib.Core.Logic.{⊎_elim}
use mathlib.Core.Bool.{true, false, ◌||◌}
use mathlib.Core.List.{List, [], ◌∷◌}
use native.Mathlib.Omega.{arith}
use borrow.Author.Tests.{leb-true, eqb-true}
use lib.Dec.{leb, eqb}
use lib.ListN.{length, get_or, drop}
use Rattle.basis.specs.Limits.{max_literal_bytes}
use Rattle.basis.proofs.Booleans.{both_first, both_second, which, picked}
use Rattle.text_header.specs.Bytes.{is_printable, digit_of, in_radix}
use Rattle.text_header.proofs.Tests.{within_high}
use Rattle.text_literals.specs.Literals.{is_quote, between, escaped, widened, part_after, stops, counted, literal_reach, literal_at, is_closed, is_right, with_character, characters, characters_at}
use Rattle.text_literals.specs.declared.Part.{Part}
use Rattle.text_literals.specs.declared.Part.TheVariants.{Start, Escape, Bracket, Digits, Character, Closed, Wrong}
use Rattle.text_literals.proofs.Reaches.{reach_on, reach_off, characters_on, characters_off, reach_count}

-- ---- each character is below 80

abbrev Small : Part → Type 0
Small Start = Unit {0}
Small Escape = Unit {0}
Small Bracket = Unit {0}
Small (Digits n) = n < 128
Small (Character c) = c < 128
Small Closed = Unit {0}
Small Wrong = Unit {0}

between_small : (quote b : ℕ) → Small (between quote b)
between_small quote b =
    picked Small (eqb b quote) (λ e. tt) (λ e.
    picked Small (eqb b 92) (λ e. tt) (λ e. picked Small (is_printable b) (λ p. let h : b ≤ 126 = within_high 32 b 126 p in omega arith) (λ e. tt)))

named_small : (b : ℕ) → (eqb b 92 || is_quote b) ≡ true → b < 128
named_small b e =
    ⊎_elim (λ (t : eqb b 92 ≡ true). rw (eqb-true b 92 t) (omega arith))
    (λ (t : eqb b 92 ≡ false).
    ⊎_elim (λ (u : eqb b 34 ≡ true). rw (eqb-true b 34 u) (omega arith))
    (λ (u : eqb b 34 ≡ false). let n : eqb b 39 ≡ true = rw (t, u) at e in rw (eqb-true b 39 n) (omega arith))
    (which (eqb b 34)))
    (which (eqb b 92))

escaped_small : (b : ℕ) → Small (escaped b)
escaped_small b = picked Small (eqb b 91) (λ e. tt) (λ e. picked Small (eqb b 92 || is_quote b) (λ n. named_small b n) (λ e. tt))

widened_small : (n b : ℕ) → Small (widened n b)
widened_small n b =
    picked Small (leb (16 * n + digit_of b) 127) (λ e. let h : 16 * n + digit_of b ≤ 127 = leb-true (16 * n + digit_of b) 127 e in omega arith) (λ e. tt)

after_small : (p : Part) (quote b : ℕ) → Small p → Small (part_after p quote b)
after_small Start quote b h = picked Small (eqb b quote) (λ e. tt) (λ e. between_small quote b)
after_small Escape quote b h = escaped_small b
after_small Bracket quote b h = picked Small (in_radix 16 b) (λ e. widened_small 0 b) (λ e. tt)
after_small (Digits n) quote b h = picked Small (in_radix 16 b) (λ e. widened_small n b) (λ e. picked Small (eqb b 93) (λ e. h) (λ e. tt))
after_small (Character c) quote b h = between_small quote b
after_small Closed quote b h = tt
after_small Wrong quote b h = tt

with_small : (p : Part) (cs : List ℕ) → Small p → ((k : ℕ) → get_or cs k 0 < 128) → (k : ℕ) → get_or (with_character p cs) k 0 < 128
with_small Start cs h f k = f k
with_small Escape cs h f k = f k
with_small Bracket cs h f k = f k
with_small (Digits n) cs h f k = f k
with_small (Character c) cs h f zero = h
with_small (Character c) cs h f (suc k) = f k
with_small Closed cs h f k = f k
with_small Wrong cs h f k = f k

all_small : (quote : ℕ) (p : Part) (bs : List ℕ) → Small p → (k : ℕ) → get_or (characters quote p bs) k 0 < 128
unfolding characters
all_small quote p [] h k = omega arith
all_small quote p (b ∷ bs) h k =
    ⊎_elim (λ (e : stops (part_after p quote b) ≡ true). rw (characters_off quote p b bs e) (omega arith))
    (λ (e : stops (part_after p quote b) ≡ false).
    rw (characters_on quote p b bs e)
    (with_small (part_after p quote b) (characters quote (part_after p quote b) bs) (after_small p quote b h) (λ j. all_small quote (part_after p quote b) bs (after_small p quote b h) j) k))
    (which (stops (part_after p quote b)))

pub character_small : (xs : List ℕ) (i k : ℕ) → get_or (characters_at xs i) k 0 < 128
character_small xs i k = all_small (get_or xs i 0) Start (drop (i + 1) xs) tt k

-- ---- a closed literal has a character

-- after n characters: whoever has read a whole one has read one at least
abbrev Counts : ℕ → Part → Type 0
Counts n Start = Unit {0}
Counts n Escape = Unit {0}
Counts n Bracket = Unit {0}
Counts n (Digits v) = Unit {0}
Counts n (Character c) = 1 ≤ n
Counts n Closed = 1 ≤ n
Counts n Wrong = Unit {0}

-- the part after n characters, its own counted
abbrev Then : ℕ → Part → Type 0
Then n p = Counts (counted n p) p

between_then : (n quote b : ℕ) → 1 ≤ n → Then n (between quote b)
between_then n quote b h =
    picked (Then n) (eqb b quote) (λ e. h) (λ e. picked (Then n) (eqb b 92) (λ e. tt) (λ e. picked (Then n) (is_printable b) (λ p. omega arith) (λ e. tt)))

first_then : (n quote b : ℕ) → eqb b quote ≡ false → Then n (between quote b)
first_then n quote b e = rw e (picked (Then n) (eqb b 92) (λ e. tt) (λ e. picked (Then n) (is_printable b) (λ p. omega arith) (λ e. tt)))

escaped_then : (n b : ℕ) → Then n (escaped b)
escaped_then n b = picked (Then n) (eqb b 91) (λ e. tt) (λ e. picked (Then n) (eqb b 92 || is_quote b) (λ p. omega arith) (λ e. tt))

widened_then : (n v b : ℕ) → Then n (widened v b)
widened_then n v b = picked (Then n) (leb (16 * v + digit_of b) 127) (λ e. tt) (λ e. tt)

after_then : (n : ℕ) (p : Part) (quote b : ℕ) → Counts n p → Then n (part_after p quote b)
after_then n Start quote b h = picked (Then n) (eqb b quote) (λ e. tt) (λ e. first_then n quote b e)
after_then n Escape quote b h = escaped_then n b
after_then n Bracket quote b h = picked (Then n) (in_radix 16 b) (λ e. widened_then n 0 b) (λ e. tt)
after_then n (Digits v) quote b h = picked (Then n) (in_radix 16 b) (λ e. widened_then n v b) (λ e. picked (Then n) (eqb b 93) (λ e. omega arith) (λ e. tt))
after_then n (Character c) quote b h = between_then n quote b h
after_then n Closed quote b h = tt
after_then n Wrong quote b h = tt

stopped : (n : ℕ) (p : Part) → stops p ≡ true → Then n p → Counts n p
stopped n Start e h = tt
stopped n Escape e h = tt
stopped n Bracket e h = tt
stopped n (Digits v) e h = tt
stopped n (Character c) e h = let z : ◌≡◌ {A = ℕ} 0 1 = cc in absurd (omega arith)
stopped n Closed e h = h
stopped n Wrong e h = tt

reach_counts : (quote : ℕ) (p : Part) (n i : ℕ) (bs : List ℕ) → Counts n p → Counts (literal_reach quote p n i bs).count (literal_reach quote p n i bs).part
unfolding literal_reach
reach_counts quote p n i [] h = h
reach_counts quote p n i (b ∷ bs) h =
    ⊎_elim (λ (e : stops (part_after p quote b) ≡ true). rw (reach_off quote p b bs n i e) (stopped n (part_after p quote b) e (after_then n p quote b h)))
    (λ (e : stops (part_after p quote b) ≡ false).
    rw (reach_on quote p b bs n i e) (reach_counts quote (part_after p quote b) (counted n (part_after p quote b)) (i + 1) bs (after_then n p quote b h)))
    (which (stops (part_after p quote b)))

closed_one : (n : ℕ) (p : Part) → is_closed p ≡ true → Counts n p → 1 ≤ n
closed_one n Start e h = let z : ◌≡◌ {A = ℕ} 0 1 = cc in absurd (omega arith)
closed_one n Escape e h = let z : ◌≡◌ {A = ℕ} 0 1 = cc in absurd (omega arith)
closed_one n Bracket e h = let z : ◌≡◌ {A = ℕ} 0 1 = cc in absurd (omega arith)
closed_one n (Digits v) e h = let z : ◌≡◌ {A = ℕ} 0 1 = cc in absurd (omega arith)
closed_one n (Character c) e h = h
closed_one n Closed e h = h
closed_one n Wrong e h = let z : ◌≡◌ {A = ℕ} 0 1 = cc in absurd (omega arith)

-- "1 to 32 characters"
pub right_sized : (xs : List ℕ) (i : ℕ) → is_right (literal_at xs i) ≡ true → (1 ≤ length (characters_at xs i)) × (length (characters_at xs i) ≤ max_literal_bytes)
right_sized xs i e =
    let n : (literal_at xs i).count ≡ 0 + length (characters_at xs i) = reach_count (get_or xs i 0) Start 0 (i + 1) (drop (i + 1) xs)
    in let low : 1 ≤ (literal_at xs i).count = closed_one (literal_at xs i).count (literal_at xs i).part (both_first (is_closed (literal_at xs i).part) (leb (literal_at xs i).count max_literal_bytes) e) (reach_counts (get_or xs i 0) Start 0 (i + 1) (drop (i + 1) xs) tt)
    in let high : (literal_at xs i).count ≤ max_literal_bytes = leb-true (literal_at xs i).count max_literal_bytes (both_second (is_closed (literal_at xs i).part) (leb (literal_at xs i).count max_literal_bytes) e)
    in (omega arith, omega arith)
