-- Laws of reaching: a rule that no rule uses is not reached, and where each use falls in rank no rule reaches itself.
-- Assumes nothing.
use Prim.Native.Nat.{ℕ, ◌≤◌, ◌<◌}
use mathlib.Core.Path.{◌≡◌, refl, sym, subst, ◌∙◌}
use mathlib.Core.Logic.{◌⊎◌, ⊎_elim}
use mathlib.Core.Bool.{Bool, true, false, not, ◌&&◌, ◌||◌}
use mathlib.Core.List.{List, [], ◌∷◌, Memᴰ}
use native.Mathlib.Omega.{arith}
use borrow.Author.Tests.{leb-true, ltb-true}
use lib.Dec.{leb, ltb}
use Rattle.basis.proofs.Booleans.{both_first, both_second, either_first, either_second, either_cases, not_true}
use Rattle.text_header.proofs.Runs.{word_equal, word_self}
use Rattle.text_tokens.specs.Names.{is_same}
use Rattle.tree.specs.Tree.{Rule, Rules}
use Rattle.tree_meaning.specs.Pieces.{rules_of, rule_name, rule_pieces}
use Rattle.tree_meaning.specs.Reaching.{used_in, Uses, Reaches, directly, through, RecursiveAt, Acyclic}

-- a rule that is reached is used
pub last_use : {t : Rules} {x y : List ℕ} → Reaches t x y → (z : List ℕ) × Uses t z y
last_use (directly {x} u) = (x, u)
last_use (through u more) = last_use more

-- each use leads to a rule of less rank
pub below : {t : Rules} (rank : List ℕ → ℕ) → ((x y : List ℕ) → Uses t x y → rank y < rank x) → {x y : List ℕ} → Reaches t x y → rank y < rank x
below rank falls (directly {x} {y} u) = falls x y u
below rank falls (through {x} {y} u more) = let a = falls x y u in let b = below rank falls more in omega arith

pub acyclic : {t : Rules} (rank : List ℕ → ℕ) → ((x y : List ℕ) → Uses t x y → rank y < rank x) → Acyclic t
acyclic rank falls p r = let a = below rank falls r.reaches in absurd (omega arith)

-- ---- a test of use

unfoldable pub is_in : List (List ℕ) → List ℕ → Bool
is_in [] y = false
is_in (z ∷ more) y = is_same z y || is_in more y

unfoldable pub is_used : List Rule → List ℕ → Bool
unfolding is_in
is_used [] y = false
is_used (r ∷ more) y = is_in (used_in (rule_pieces r)) y || is_used more y

found : {y : List ℕ} {zs : List (List ℕ)} → Memᴰ y zs → is_in zs y ≡ true
unfolding is_in
found {y} (Memᴰ.head {x = z} {xs} e) = either_first (is_same z y) (is_in xs y) (rw (← e) (word_self y))
found {y} (Memᴰ.tail {x = z} {xs} m) = either_second (is_same z y) (is_in xs y) (found m)

used_there : {y : List ℕ} {r : Rule} {rs : List Rule} → Memᴰ r rs → Memᴰ y (used_in (rule_pieces r)) → is_used rs y ≡ true
unfolding is_used
used_there {y} (Memᴰ.head {x} {xs} e) m = either_first (is_in (used_in (rule_pieces x)) y) (is_used xs y) (subst (λ (q : Rule). is_in (used_in (rule_pieces q)) y ≡ true) e (found m))
used_there {y} (Memᴰ.tail {x} {xs} t) m = either_second (is_in (used_in (rule_pieces x)) y) (is_used xs y) (used_there t m)

-- no rule uses it, so it is not reached
pub unreached : {t : Rules} {x y : List ℕ} → is_used (rules_of t) y ≡ false → Reaches t x y → ⊥
unreached e r =
    let u = last_use r in let s = used_there u.1.there u.1.used in let f : true ≡ false = sym s ∙ e in let z : ◌≡◌ {A = ℕ} 0 1 = cc in absurd (omega arith)

-- ---- a test of a use, and of a rule's place

member : (zs : List (List ℕ)) (y : List ℕ) → is_in zs y ≡ true → Memᴰ y zs
unfolding is_in
member [] y e = let z : ◌≡◌ {A = ℕ} 0 1 = cc in absurd (omega arith)
member (z ∷ more) y e =
    ⊎_elim (λ f. Memᴰ.head (sym (word_equal z y f))) (λ f. Memᴰ.tail (member more y f)) (either_cases (is_same z y) (is_in more y) e)

-- one of these rules, of the name x, uses y
unfoldable pub uses_in : List Rule → (x y : List ℕ) → Bool
unfolding is_in
uses_in [] x y = false
uses_in (r ∷ more) x y = (is_same (rule_name r).letters x && is_in (used_in (rule_pieces r)) y) || uses_in more x y

abbrev User : List Rule → (x y : List ℕ) → Type 0
User rs x y = (r : Rule) × Memᴰ r rs × ((rule_name r).letters ≡ x) × Memᴰ y (used_in (rule_pieces r))

user : (rs : List Rule) (x y : List ℕ) → uses_in rs x y ≡ true → User rs x y
unfolding uses_in
user [] x y e = let z : ◌≡◌ {A = ℕ} 0 1 = cc in absurd (omega arith)
user (r ∷ more) x y e =
    ⊎_elim
    (λ f. (r, Memᴰ.head refl, word_equal _ _ (both_first (is_same (rule_name r).letters x) (is_in (used_in (rule_pieces r)) y) f), member _ y (both_second (is_same (rule_name r).letters x) (is_in (used_in (rule_pieces r)) y) f)))
    (λ f. let u = user more x y f in (u.0, Memᴰ.tail u.1, u.2, u.3))
    (either_cases (is_same (rule_name r).letters x && is_in (used_in (rule_pieces r)) y) (uses_in more x y) e)

pub uses : {t : Rules} {x y : List ℕ} → uses_in (rules_of t) x y ≡ true → Uses t x y
uses {t} {x} {y} e = let u = user (rules_of t) x y e in record { by = u.0; there = u.1; named = u.2; used = u.3 }

pub recursive_at : (t : Rules) (r : Rule) → Memᴰ r (rules_of t) → Reaches t (rule_name r).letters (rule_name r).letters → RecursiveAt t (rule_name r).start
recursive_at t r m e = record { itself = r; there = m; place = refl; reaches = e }

-- ---- which is the first: every rule before p is used by none of all rules

unfoldable pub unused_before : (all : List Rule) (p : ℕ) → List Rule → Bool
unfolding is_used
unused_before all p [] = true
unused_before all p (r ∷ more) = (leb p (rule_name r).start || not (is_used all (rule_name r).letters)) && unused_before all p more

module _ (t : Rules) (p : ℕ) where
  here : (r : Rule) → (leb p (rule_name r).start || not (is_used (rules_of t) (rule_name r).letters)) ≡ true → Reaches t (rule_name r).letters (rule_name r).letters
      → p ≤ (rule_name r).start
  here r e h =
      ⊎_elim (λ f. leb-true p (rule_name r).start f) (λ f. absurd (unreached {t = t} (not_true _ f) h))
      (either_cases (leb p (rule_name r).start) (not (is_used (rules_of t) (rule_name r).letters)) e)

  among : {r : Rule} {rs : List Rule} → Memᴰ r rs → unused_before (rules_of t) p rs ≡ true → Reaches t (rule_name r).letters (rule_name r).letters
      → p ≤ (rule_name r).start
  unfolding unused_before
  among {r} (Memᴰ.head {x} {xs} e) h k =
      here r (subst (λ (q : Rule). (leb p (rule_name q).start || not (is_used (rules_of t) (rule_name q).letters)) ≡ true) (sym e) (both_first _ (unused_before (rules_of t) p xs) h)) k
  among (Memᴰ.tail {x} {xs} m) h k = among m (both_second (leb p (rule_name x).start || not (is_used (rules_of t) (rule_name x).letters)) (unused_before (rules_of t) p xs) h) k

  pub none_before : unused_before (rules_of t) p (rules_of t) ≡ true → (q : ℕ) → RecursiveAt t q → p ≤ q
  none_before e q h = subst (λ (n : ℕ). p ≤ n) h.place (among h.there e h.reaches)

-- ---- a test of ranks

unfoldable pub all_below : (rank : List ℕ → ℕ) → ℕ → List (List ℕ) → Bool
all_below rank n [] = true
all_below rank n (y ∷ more) = ltb (rank y) n && all_below rank n more

unfoldable pub falling : (rank : List ℕ → ℕ) → List Rule → Bool
unfolding all_below
falling rank [] = true
falling rank (r ∷ more) = all_below rank (rank (rule_name r).letters) (used_in (rule_pieces r)) && falling rank more

module _ (rank : List ℕ → ℕ) where
  each_below : {y : List ℕ} {zs : List (List ℕ)} (n : ℕ) → Memᴰ y zs → all_below rank n zs ≡ true → rank y < n
  unfolding all_below
  each_below n (Memᴰ.head {x} {xs} e) h = rw e (ltb-true (rank x) n (both_first (ltb (rank x) n) (all_below rank n xs) h))
  each_below n (Memᴰ.tail {x} {xs} m) h = each_below n m (both_second (ltb (rank x) n) (all_below rank n xs) h)

  each_falls : {y : List ℕ} {r : Rule} {rs : List Rule} → Memᴰ r rs → Memᴰ y (used_in (rule_pieces r)) → falling rank rs ≡ true → rank y < rank (rule_name r).letters
  unfolding falling
  each_falls {y} (Memᴰ.head {x} {xs} e) m h =
      each_below _ m (subst (λ (q : Rule). all_below rank (rank (rule_name q).letters) (used_in (rule_pieces q)) ≡ true) (sym e) (both_first _ (falling rank xs) h))
  each_falls (Memᴰ.tail {x} {xs} t) m h = each_falls t m (both_second (all_below rank (rank (rule_name x).letters) (used_in (rule_pieces x))) (falling rank xs) h)

  pub ranked : (t : Rules) → falling rank (rules_of t) ≡ true → Acyclic t
  ranked t e = acyclic rank (λ x y u. subst (λ (z : List ℕ). rank y < rank z) u.named (each_falls u.there u.used e))
