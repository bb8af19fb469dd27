-- Laws of joined sets of strings, whatever names the sets: joins associate, have the empty string's set as unit and go over unions;
-- and from 8 passes on, more passes have the same strings.
-- Assumes nothing.
use Prim.Native.Nat.{ℕ, zero, suc, ◌+◌, ◌≤◌, min}
use mathlib.Core.Path.{◌≡◌, refl, sym, ap, ◌∙◌, subst}
use mathlib.Core.Logic.{◌⊎◌, inl, inr, ◌↔◌}
use mathlib.Core.List.{[], ◌∷◌, ◌++◌, append-nil}
use native.Mathlib.Decide.{le_ind}
use native.Mathlib.Omega.{arith}
use lib.ListN.{length, take}
use Rattle.basis.specs.Bits.{Bits}
use Rattle.basis.specs.Lookahead.{join}
use Rattle.basis.proofs.Joins.{join_assoc, join_empty_left, join_empty_right, join_full, join_length, lookahead_length}
use Rattle.lookahead.specs.Sets.{Union, Joined, Passes}

-- a set of strings
abbrev pub Strings : Type 1
Strings = Bits → Type 0

-- its strings have at most 8 bits
abbrev pub Short : Strings → Type 0
Short A = (s : Bits) → A s → length s ≤ 8

-- the set of the empty string
abbrev pub Unit-set : Strings
Unit-set s = s ≡ []

pub joined_short : (A B : Strings) → Short (Joined A B)
joined_short A B s j = rw j.whole (lookahead_length (j.left ++ j.right))

-- sets with more strings have more joins
pub joined_map : (A B C D : Strings) → ((s : Bits) → A s → C s) → ((s : Bits) → B s → D s) → (s : Bits) → Joined A B s → Joined C D s
joined_map A B C D f g s j =
    record { left = j.left; right = j.right; in_left = f j.left j.in_left; in_right = g j.right j.in_right; whole = j.whole }

pub joined_assoc : (A B C : Strings) (s : Bits) → Joined (Joined A B) C s ↔ Joined A (Joined B C) s
joined_assoc A B C s = (to, back)
  where
    to : Joined (Joined A B) C s → Joined A (Joined B C) s
    to j =
        let i = j.in_left in
        record {
          left = i.left;
          right = join i.right j.right;
          in_left = i.in_left;
          in_right = record { left = i.right; right = j.right; in_left = i.in_right; in_right = j.in_right; whole = refl };
          whole = j.whole ∙ ap (λ (t : Bits). join t j.right) i.whole ∙ join_assoc i.left i.right j.right;
        }

    back : Joined A (Joined B C) s → Joined (Joined A B) C s
    back j =
        let i = j.in_right in
        record {
          left = join j.left i.left;
          right = i.right;
          in_left = record { left = j.left; right = i.left; in_left = j.in_left; in_right = i.in_left; whole = refl };
          in_right = i.in_right;
          whole = j.whole ∙ ap (join j.left) i.whole ∙ sym (join_assoc j.left i.left i.right);
        }

pub joined_unit_left : (A : Strings) → Short A → (s : Bits) → Joined Unit-set A s ↔ A s
joined_unit_left A h s = (
  (λ j. subst A (sym (j.whole ∙ ap (λ (t : Bits). join t j.right) j.in_left ∙ join_empty_left j.right (h j.right j.in_right))) j.in_right),
  (λ a. record { left = []; right = s; in_left = refl; in_right = a; whole = sym (join_empty_left s (h s a)) }),
)

pub joined_unit_right : (A : Strings) → Short A → (s : Bits) → Joined A Unit-set s ↔ A s
joined_unit_right A h s = (
  (λ j. subst A (sym (j.whole ∙ ap (join j.left) j.in_right ∙ join_empty_right j.left (h j.left j.in_left))) j.in_left),
  (λ a. record { left = s; right = []; in_left = a; in_right = refl; whole = sym (join_empty_right s (h s a)) }),
)

pub joined_union_left : (A B C : Strings) (s : Bits) → Joined (Union A B) C s ↔ Union (Joined A C) (Joined B C) s
joined_union_left A B C s = (to, back)
  where
    sort : (j : Joined (Union A B) C s) → Union A B j.left → Union (Joined A C) (Joined B C) s
    sort j (inl a) = inl record { left = j.left; right = j.right; in_left = a; in_right = j.in_right; whole = j.whole }
    sort j (inr b) = inr record { left = j.left; right = j.right; in_left = b; in_right = j.in_right; whole = j.whole }

    to : Joined (Union A B) C s → Union (Joined A C) (Joined B C) s
    to j = sort j j.in_left

    back : Union (Joined A C) (Joined B C) s → Joined (Union A B) C s
    back (inl j) = joined_map A C (Union A B) C (λ t a. inl a) (λ t c. c) s j
    back (inr j) = joined_map B C (Union A B) C (λ t b. inr b) (λ t c. c) s j

pub joined_union_right : (A B C : Strings) (s : Bits) → Joined A (Union B C) s ↔ Union (Joined A B) (Joined A C) s
joined_union_right A B C s = (to, back)
  where
    sort : (j : Joined A (Union B C) s) → Union B C j.right → Union (Joined A B) (Joined A C) s
    sort j (inl b) = inl record { left = j.left; right = j.right; in_left = j.in_left; in_right = b; whole = j.whole }
    sort j (inr c) = inr record { left = j.left; right = j.right; in_left = j.in_left; in_right = c; whole = j.whole }

    to : Joined A (Union B C) s → Union (Joined A B) (Joined A C) s
    to j = sort j j.in_right

    back : Union (Joined A B) (Joined A C) s → Joined A (Union B C) s
    back (inl j) = joined_map A B A (Union B C) (λ t a. a) (λ t b. inl b) s j
    back (inr j) = joined_map A C A (Union B C) (λ t a. a) (λ t c. inr c) s j

-- ---- passes

module _ (A : Strings) where
  pub passes_short : (k : ℕ) → Short (Passes A k)
  passes_short zero s e = rw e (omega arith)
  passes_short (suc k) s j = joined_short A (Passes A k) s j

  pass : (k : ℕ) (x t : Bits) → A x → Passes A k t → Passes A (suc k) (join x t)
  pass k x t a p = record { left = x; right = t; in_left = a; in_right = p; whole = refl }

  -- one more pass at the end
  pub passes_more : (k : ℕ) (s y : Bits) → Passes A k s → A y → Passes A (suc k) (join s y)
  passes_more zero s y e a =
      record { left = y; right = []; in_left = a; in_right = refl; whole = ap (λ (t : Bits). join t y) e ∙ sym (ap (take 8) (append-nil y)) }
  passes_more (suc k) s y j a =
      subst (Passes A (suc (suc k))) (sym (ap (λ (t : Bits). join t y) j.whole ∙ join_assoc j.left j.right y))
      (pass (suc k) j.left (join j.right y) j.in_left (passes_more k j.right y j.in_right a))

  -- a string of k passes, none of them empty, followed by a pass
  record Last (k : ℕ) (s : Bits) : Type 0 where
    front : Bits
    end : Bits
    passes : Passes A k front
    long : min k 8 ≤ length front
    whole : s ≡ join front end

  -- a pass too many is empty, or the others are not
  shrink : (k : ℕ) (s : Bits) → Passes A (suc k) s → Passes A k s ⊎ Last k s
  shrink zero s j = inr record {
    front = [];
    end = j.left;
    passes = refl;
    long = omega arith;
    whole = j.whole ∙ ap (join j.left) j.in_right ∙ ap (take 8) (append-nil j.left);
  }
  shrink (suc k) s j = go j.left j.in_left j.whole (shrink k j.right j.in_right)
    where
      go : (x : Bits) → A x → s ≡ join x j.right → Passes A k j.right ⊎ Last k j.right → Passes A (suc k) s ⊎ Last (suc k) s
      go x a e (inl p) = inl record { left = x; right = j.right; in_left = a; in_right = p; whole = e }
      go [] a e (inr l) = inl (subst (Passes A (suc k)) (sym (e ∙ join_empty_left j.right (passes_short (suc k) j.right j.in_right))) j.in_right)
      go (c ∷ x) a e (inr l) = inr record {
        front = join (c ∷ x) l.front;
        end = l.end;
        passes = pass k (c ∷ x) l.front a l.passes;
        long = (let n : length (join (c ∷ x) l.front) ≡ min 8 (suc (length x) + length l.front) = join_length (c ∷ x) l.front in omega (arith, l.long));
        whole = e ∙ ap (join (c ∷ x)) l.whole ∙ sym (join_assoc (c ∷ x) l.front l.end);
      }

  -- an empty pass may be made again, or none is empty
  grow : (k : ℕ) (s : Bits) → Passes A k s → Passes A (suc k) s ⊎ (min k 8 ≤ length s)
  grow zero s e = inr (omega arith)
  grow (suc k) s j = go j.left j.in_left j.whole (grow k j.right j.in_right)
    where
      go : (x : Bits) → A x → s ≡ join x j.right → Passes A (suc k) j.right ⊎ (min k 8 ≤ length j.right) → Passes A (suc (suc k)) s ⊎ (min (suc k) 8 ≤ length s)
      go x a e (inl p) = inl record { left = x; right = j.right; in_left = a; in_right = p; whole = e }
      go [] a e (inr l) = inl record { left = []; right = s; in_left = a; in_right = j; whole = sym (join_empty_left s (passes_short (suc k) s j)) }
      go (c ∷ x) a e (inr l) =
          inr (let n : length s ≡ min 8 (suc (length x) + length j.right) = ap length e ∙ join_length (c ∷ x) j.right in omega arith)

  past_step : (k : ℕ) → 8 ≤ k → (s : Bits) → Passes A (suc k) s ↔ Passes A k s
  past_step zero h s = absurd (omega arith)
  past_step (suc k) h s = (λ p. to (shrink (suc k) s p), λ p. back p (grow (suc k) s p))
    where
      to : Passes A (suc k) s ⊎ Last (suc k) s → Passes A (suc k) s
      to (inl p) = p
      to (inr l) =
          let b : length l.front ≤ 8 = passes_short (suc k) l.front l.passes in
          subst (Passes A (suc k)) (sym (l.whole ∙ join_full l.front l.end (omega (arith, l.long)))) l.passes

      back : Passes A (suc k) s → Passes A (suc (suc k)) s ⊎ (min (suc k) 8 ≤ length s) → Passes A (suc (suc k)) s
      back p (inl q) = q
      back p (inr l) =
          let b : length s ≤ 8 = passes_short (suc k) s p in
          subst (Passes A (suc (suc k))) (join_full s p.left (omega arith)) (passes_more (suc k) s p.left p p.in_left)

  -- "the join of k passes": from 8 on they are all the same
  pub passes_past : (k : ℕ) → 8 ≤ k → (s : Bits) → Passes A k s ↔ Passes A 8 s
  passes_past k h = le_ind (λ (m : ℕ). (s : Bits) → Passes A m s ↔ Passes A 8 s) (λ s. ((λ p. p), (λ p. p)))
      (λ m l f s. ((λ p. (f s).0 ((past_step m l s).0 p)), (λ p. (past_step m l s).1 ((f s).1 p)))) k h
