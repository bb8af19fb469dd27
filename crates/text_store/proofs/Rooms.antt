-- Room for a node: where each word is afterwards, and that words moved within the list make it.
-- Assumes nothing.
use Prim.Native.Nat.{ℕ, zero, suc, ◌+◌, ◌*◌, ◌-◌, ◌≤◌, ◌<◌}
use mathlib.Core.Path.{◌≡◌, refl, sym, ap, ◌∙◌}
use mathlib.Core.List.{List, [], ◌∷◌, ◌++◌, append_assoc}
use native.Mathlib.Omega.{arith}
use lib.ListN.{length, get_or, take, drop, length-append, length-take, length-drop, get_or-append}
use lib.Seq.{drop-drop, get_or-take, get_or-drop, get_or-append-add}
use Rattle.std.specs.List.{copy_within}
use Rattle.text_store.specs.Words.{nodes_room}
use Rattle.basis.specs.Limits.{max_constructs}
use Rattle.text_store.specs.Store.{over, room}

-- ---- words written over others

length_over : (n : ℕ) (olds news : List ℕ) → length (over n olds news) ≡ length news
unfolding over
length_over zero olds news = refl
length_over (suc n) [] news = refl
length_over (suc n) (a ∷ olds) [] = refl
length_over (suc n) (a ∷ olds) (b ∷ news) = ap suc (length_over n olds news)

over_written : (n : ℕ) (olds news : List ℕ) (j : ℕ) → j < n → j < length news → length news ≤ length olds → get_or (over n olds news) j 0 ≡ get_or olds j 0
unfolding over
over_written zero olds news j h l e = absurd (omega arith)
over_written (suc n) [] news j h l e = absurd (omega arith)
over_written (suc n) (a ∷ olds) [] j h l e = absurd (omega arith)
over_written (suc n) (a ∷ olds) (b ∷ news) zero h l e = refl
over_written (suc n) (a ∷ olds) (b ∷ news) (suc j) h l e = over_written n olds news j (omega arith) (omega arith) (omega arith)

over_left : (n : ℕ) (olds news : List ℕ) (j : ℕ) → n ≤ j → get_or (over n olds news) j 0 ≡ get_or news j 0
unfolding over
over_left zero olds news j h = refl
over_left (suc n) [] news j h = refl
over_left (suc n) (a ∷ olds) [] j h = refl
over_left (suc n) (a ∷ olds) (b ∷ news) zero h = absurd (omega arith)
over_left (suc n) (a ∷ olds) (b ∷ news) (suc j) h = over_left n olds news j (omega arith)

-- ---- where each word is

module _ (ns : List ℕ) (i : ℕ) where
  abbrev k : ℕ
  k = 10 * i

  abbrev kept : List ℕ
  kept = take (k + 10) ns

  abbrev moving : List ℕ
  moving = over (nodes_room - 10 - k) (drop k ns) (drop (k + 10) ns)

  pub length_room : length (room ns i) ≡ length ns
  unfolding room
  length_room =
      omega (arith, length-append kept moving, length-take (k + 10) ns, length_over (nodes_room - 10 - k) (drop k ns) (drop (k + 10) ns), length-drop (k + 10) ns)

  pub room_below : (j : ℕ) → j < k + 10 → j < length ns → get_or (room ns i) j 0 ≡ get_or ns j 0
  unfolding room
  room_below j h l = get_or-append kept moving 0 j (omega (arith, length-take (k + 10) ns)) ∙ get_or-take (k + 10) ns j 0 h

  past : (q : ℕ) → k + 10 ≤ q → q < length ns → get_or (room ns i) q 0 ≡ get_or moving (q - (k + 10)) 0
  unfolding room
  past q h l =
      let e : q ≡ length kept + (q - (k + 10)) = omega (arith, length-take (k + 10) ns) in
      ap (λ (x : ℕ). get_or (kept ++ moving) x 0) e ∙ get_or-append-add kept moving (q - (k + 10)) 0

  pub room_above : (q : ℕ) → k + 10 ≤ q → q < nodes_room → q < length ns → get_or (room ns i) q 0 ≡ get_or ns (q - 10) 0
  room_above q h g l =
      past q h l
      ∙ over_written (nodes_room - 10 - k) (drop k ns) (drop (k + 10) ns) (q - (k + 10)) (omega arith) (omega (arith, length-drop (k + 10) ns)) (omega (arith, length-drop (k + 10) ns, length-drop k ns))
      ∙ get_or-drop k ns (q - (k + 10)) 0
      ∙ ap (λ (x : ℕ). get_or ns x 0) (let z : k + (q - (k + 10)) ≡ q - 10 = omega arith in z)

  pub room_beyond : (q : ℕ) → k + 10 ≤ q → nodes_room ≤ q → q < length ns → get_or (room ns i) q 0 ≡ get_or ns q 0
  room_beyond q h g l =
      past q h l
      ∙ over_left (nodes_room - 10 - k) (drop k ns) (drop (k + 10) ns) (q - (k + 10)) (omega arith)
      ∙ get_or-drop (k + 10) ns (q - (k + 10)) 0
      ∙ ap (λ (x : ℕ). get_or ns x 0) (let z : k + 10 + (q - (k + 10)) ≡ q = omega arith in z)

-- ---- words moved within a list

over_parts : (n : ℕ) (olds news : List ℕ) → n ≤ length news → length news ≤ length olds → over n olds news ≡ take n olds ++ drop n news
unfolding over
over_parts zero olds news h l = refl
over_parts (suc n) [] news h l = absurd (omega arith)
over_parts (suc n) (a ∷ olds) [] h l = absurd (omega arith)
over_parts (suc n) (a ∷ olds) (b ∷ news) h l = ap (λ (xs : List ℕ). a ∷ xs) (over_parts n olds news (omega arith) (omega arith))

pub room_copied : (ns : List ℕ) (i : ℕ) → length ns ≡ nodes_room → i < max_constructs → copy_within ns (10 * i) (nodes_room - 10) (10 * i + 10) ≡ room ns i
unfolding room
room_copied ns i l h =
    let parts : over (nodes_room - 10 - 10 * i) (drop (10 * i) ns) (drop (10 * i + 10) ns) ≡ take (nodes_room - 10 - 10 * i) (drop (10 * i) ns) ++ drop (nodes_room - 10 - 10 * i) (drop (10 * i + 10) ns) = over_parts (nodes_room - 10 - 10 * i) (drop (10 * i) ns) (drop (10 * i + 10) ns) (omega (arith, length-drop (10 * i + 10) ns)) (omega (arith, length-drop (10 * i + 10) ns, length-drop (10 * i) ns)) in
    let behind : drop (nodes_room - 10 - 10 * i) (drop (10 * i + 10) ns) ≡ drop (10 * i + 10 + (nodes_room - 10 - 10 * i)) ns = drop-drop (nodes_room - 10 - 10 * i) (10 * i + 10) ns in
    append_assoc (take (10 * i + 10) ns) (take (nodes_room - 10 - 10 * i) (drop (10 * i) ns)) (drop (10 * i + 10 + (nodes_room - 10 - 10 * i)) ns)
    ∙ sym (ap (λ (xs : List ℕ). take (10 * i + 10) ns ++ xs) (parts ∙ ap (λ (xs : List ℕ). take (nodes_room - 10 - 10 * i) (drop (10 * i) ns) ++ xs) behind))
