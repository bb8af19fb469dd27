-- Laws of the parts of a construct and of the loops over them.
-- Assumes nothing.
use Prim.Native.Nat.{ℕ, zero, suc, ◌+◌, ◌*◌, ◌≤◌, ◌<◌, max}
use native.Mathlib.Decide.{dec_lt}
use native.Mathlib.Omega.{arith}
use native.Mathlib.Numerals.{add-one}
use mathlib.Core.Path.{◌≡◌, refl, sym, ap, ◌∙◌}
use mathlib.Core.Bool.{Bool, true, false}
use mathlib.Core.List.{List, [], ◌∷◌}
use borrow.Author.Tests.{lt-ltb, le-ltb, eq-eqb, ne_eqb}
use lib.ListN.{get_or}
use Rattle.basis.specs.Limits.{max_weight}
use Rattle.theory.specs.Weight.{weigh}
use Rattle.table_layout.specs.Constructs.{construct_at}
use Rattle.table_layout.specs.Attributes.{attributes_of}
use Rattle.table_layout.specs.Held.{first_context, parts, node_of}
use Rattle.table_layout.specs.declared.Construct.{Construct}
use Rattle.table_layout.specs.declared.Below.{Below}
use Rattle.table_layout.specs.declared.Attributes.{Attributes}
use Rattle.table_layout.proofs.Views.{Parted, parted, leaf_node}
use Rattle.table_reach.specs.Reaching.{body_of}
use Rattle.table_weights.specs.Ruled.{size_at}
use Rattle.table_weights.specs.Sweeps.{capped, joined, weighed, gathered}

module _ (ws : List ℕ) (end : ℕ) where
  pub parts_past : (n j : ℕ) → end ≤ j → parts n ws j end ≡ []
  unfolding parts
  parts_past zero j h = refl
  parts_past (suc n) j h = rw (le-ltb j end h, parts)

  -- a part, and those after it
  parts_missing : (n j : ℕ) → j < end → size_at ws j ≡ 0 → parts (suc n) ws j end ≡ j ∷ []
  unfolding parts
  parts_missing n j h e = rw (lt-ltb j end h, eq-eqb (size_at ws j) 0 e, parts)

  pub parts_more : (n j : ℕ) → j < end → (size_at ws j ≡ 0 → ⊥) → parts (suc n) ws j end ≡ j ∷ parts n ws (j + size_at ws j) end
  unfolding parts
  parts_more n j h e = rw (lt-ltb j end h, ne_eqb (size_at ws j) 0 e, parts)

  -- the number of the part after part j; the end after the last
  pub next_missing : (n j : ℕ) → j < end → size_at ws j ≡ 0 → parts (n + 1) ws j end ≡ j ∷ parts n ws end end
  next_missing n j h e = ap (λ (m : ℕ). parts m ws j end) (add-one n) ∙ parts_missing n j h e ∙ ap (λ (is : List ℕ). j ∷ is) (sym (parts_past n end (omega arith)))

  pub next_last : (n j : ℕ) → j < end → end ≤ j + size_at ws j → parts (n + 1) ws j end ≡ j ∷ parts n ws end end
  next_last n j h l =
      ap (λ (m : ℕ). parts m ws j end) (add-one n) ∙ parts_more n j h (λ e. omega arith)
      ∙ ap (λ (is : List ℕ). j ∷ is) (parts_past n (j + size_at ws j) l ∙ sym (parts_past n end (omega arith)))

  pub next_more : (n j : ℕ) → j < end → (size_at ws j ≡ 0 → ⊥) → parts (n + 1) ws j end ≡ j ∷ parts n ws (j + size_at ws j) end
  next_more n j h e = ap (λ (m : ℕ). parts m ws j end) (add-one n) ∙ parts_more n j h e

  -- any fuel that is enough gives the same parts
  pub parts_fuel : (n m j : ℕ) → end ≤ j + n → end ≤ j + m → parts n ws j end ≡ parts m ws j end
  parts_fuel zero m j h l = parts_past zero j (omega arith) ∙ sym (parts_past m j (omega arith))
  parts_fuel (suc n) zero j h l = parts_past (suc n) j (omega arith) ∙ sym (parts_past zero j (omega arith))
  parts_fuel (suc n) (suc m) j h l = go (dec_lt j end) (dec_lt 0 (size_at ws j)) (λ k. parts_fuel n m k)
    where
      go : Dec (j < end) → Dec (0 < size_at ws j) → ((k : ℕ) → end ≤ k + n → end ≤ k + m → parts n ws k end ≡ parts m ws k end) → parts (suc n) ws j end ≡ parts (suc m) ws j end
      go (no a) b ih = parts_past (suc n) j (omega arith) ∙ sym (parts_past (suc m) j (omega arith))
      go (yes a) (no b) ih = parts_missing n j a (omega arith) ∙ sym (parts_missing m j a (omega arith))
      go (yes a) (yes b) ih =
          parts_more n j a (λ e. omega arith) ∙ ap (λ (is : List ℕ). j ∷ is) (ih (j + size_at ws j) (omega arith) (omega arith)) ∙ sym (parts_more m j a (λ e. omega arith))

-- weights gathered one after the other
joined_none : (adds : Bool) (a : ℕ) → joined adds a 0 ≡ a
joined_none true a = omega arith
joined_none false a = omega arith

none_joined : (adds : Bool) (a : ℕ) → joined adds 0 a ≡ a
none_joined true a = omega arith
none_joined false a = omega arith

capped_max : (x c : ℕ) → capped (max (capped x) c) ≡ capped (max x c)
capped_max x c = omega arith

max_regroup : (a b c : ℕ) → max (max a b) c ≡ max a (max b c)
max_regroup a b c = omega arith

joined_capped : (adds : Bool) (a b c : ℕ) → capped (joined adds (capped (joined adds a b)) c) ≡ capped (joined adds a (joined adds b c))
joined_capped true a b c = omega arith
joined_capped false a b c = capped_max (max a b) c ∙ ap capped (max_regroup a b c)

gathered_none : (adds : Bool) (f : ℕ → ℕ) → gathered adds f [] ≡ 0
unfolding gathered
gathered_none true f = refl
gathered_none false f = refl

gathered_more : (adds : Bool) (f : ℕ → ℕ) (j : ℕ) (is : List ℕ) → gathered adds f (j ∷ is) ≡ joined adds (f j) (gathered adds f is)
unfolding gathered
gathered_more true f j is = refl
gathered_more false f j is = refl

module _ (ws : List ℕ) (f : ℕ → ℕ) (adds : Bool) (first end : ℕ) where
  -- the loop: what is gathered, and what is left to gather, come to the whole
  abbrev pub Gathering : ℕ → ℕ → Type 0
  Gathering j s = capped (joined adds s (gathered adds f (parts end ws j end))) ≡ capped (gathered adds f (parts end ws first end))

  pub gathering_none : Gathering first 0
  gathering_none = ap capped (none_joined adds (gathered adds f (parts end ws first end)))

  pub gathering_more : (j s k t : ℕ) → Gathering j s → j < k → parts (end + 1) ws j end ≡ j ∷ parts end ws k end → t ≡ capped (joined adds s (f j)) → Gathering k t
  gathering_more j s k t g h e d =
      ap (λ (x : ℕ). capped (joined adds x (gathered adds f (parts end ws k end)))) d
      ∙ joined_capped adds s (f j) (gathered adds f (parts end ws k end))
      ∙ ap (λ (x : ℕ). capped (joined adds s x)) (sym (gathered_more adds f j (parts end ws k end)) ∙ ap (gathered adds f) (sym e ∙ parts_fuel ws end (end + 1) end j (omega arith) (omega arith)))
      ∙ g

  pub gathering_all : (j s : ℕ) → Gathering j s → end ≤ j → s ≤ (max_weight + 1) → (n : ℕ) → end ≤ first + n → s ≡ capped (gathered adds f (parts n ws first end))
  gathering_all j s g h l n m =
      (let e : s ≡ capped s = omega arith in e)
      ∙ ap capped (sym (joined_none adds s) ∙ ap (joined adds s) (sym (gathered_none adds f) ∙ ap (gathered adds f) (sym (parts_past ws end end j h))))
      ∙ g
      ∙ ap (λ (is : List ℕ). capped (gathered adds f is)) (parts_fuel ws end end n first (omega arith) m)

-- the weight of construct i of a size, by what stands below it
abbrev pub by_below : List ℕ → (ℕ → ℕ) → ℕ → ℕ → ℕ → Below → ℕ
by_below ws f i size rule Below.Nothing = 1
by_below ws f i size rule Below.Branches = 1 + gathered false f (parts size ws (i + 1) (i + size))
by_below ws f i size rule Below.Members = 1 + gathered true f (parts size ws (i + 1) (i + size))
by_below ws f i size rule (Below.Body passes) = 2 * f (i + 1) + 1
by_below ws f i size rule Below.Cases = 1 + gathered false f (parts size ws (i + 1) (i + size))
by_below ws f i size rule Below.Rule = 1 + f (body_of ws rule)

below_weight : (ws : List ℕ) (f : ℕ → ℕ) (i : ℕ) {x : Construct} → Parted x
    → weigh (λ c j. f j) first_context (node_of ws i x) ≡ by_below ws f i (attributes_of x).size (attributes_of x).rule (attributes_of x).below
unfolding weigh node_of gathered
below_weight ws f i Parted.missing = refl
below_weight ws f i (Parted.branches size) = refl
below_weight ws f i (Parted.members size) = refl
below_weight ws f i (Parted.body size passes) = refl
below_weight ws f i (Parted.cases size) = refl
below_weight ws f i (Parted.opens rule) = refl
below_weight ws f i (Parted.leaf l) = rw l.below (leaf_node ws i (λ n. weigh (λ c j. f j) first_context n ≡ 1) (λ w a s b. refl) refl _ l)

-- a weight, from what was read
pub weighed_as : (ws xs : List ℕ) (i : ℕ) (a : Attributes) → a ≡ attributes_of (construct_at ws i) → (b : Below) → a.below ≡ b
    → capped (by_below ws (λ j. get_or xs j 0) i a.size a.rule b) ≡ weighed ws xs i
weighed_as ws xs i a e b h =
    ap (λ (x : Below). capped (by_below ws (λ j. get_or xs j 0) i a.size a.rule x)) (sym h)
    ∙ ap (λ (x : Attributes). capped (by_below ws (λ j. get_or xs j 0) i x.size x.rule x.below)) e
    ∙ ap capped (sym (below_weight ws (λ j. get_or xs j 0) i (parted (construct_at ws i))))

-- a construct with parts
pub parts_weighed : (ws xs : List ℕ) (i : ℕ) (a : Attributes) → a ≡ attributes_of (construct_at ws i) → (b : Below) → a.below ≡ b → (adds : Bool) (g r : ℕ)
    → by_below ws (λ j. get_or xs j 0) i a.size a.rule b ≡ 1 + gathered adds (λ j. get_or xs j 0) (parts a.size ws (i + 1) (i + a.size))
    → ((n : ℕ) → i + a.size ≤ i + 1 + n → g ≡ capped (gathered adds (λ j. get_or xs j 0) (parts n ws (i + 1) (i + a.size)))) → r ≡ capped (1 + g) → r ≡ weighed ws xs i
parts_weighed ws xs i a e b h adds g r k f o =
    let z : g ≡ capped (gathered adds (λ j. get_or xs j 0) (parts a.size ws (i + 1) (i + a.size))) = f a.size (omega arith) in
    let y : r ≡ capped (by_below ws (λ j. get_or xs j 0) i a.size a.rule b) = omega arith in
    y ∙ weighed_as ws xs i a e b h

pub twice : (a b r : ℕ) → a ≡ b → r ≡ capped (1 + 2 * a) → r ≡ capped (2 * b + 1)
twice a b r e f = omega arith
