-- Laws of the stack of constructs still to be read.
-- Assumes nothing.
use Prim.Native.Nat.{ℕ, zero, suc, ◌+◌, ◌-◌, ◌<◌}
use mathlib.Core.Path.{◌≡◌, refl, sym, ap, ap₂, ◌∙◌}
use mathlib.Core.List.{List, [], ◌∷◌, ◌++◌, append_assoc}
use native.Mathlib.Omega.{arith}
use borrow.Author.Tests.{lt-ltb, le-ltb, eq-eqb, ne_eqb}
use lib.ListN.{length, get_or, set, replicate, replicate-append-replicate}
use lib.Seq.{get_or-set_same, get_or-set_other}
use Rattle.basis.specs.Limits.{max_constructs}
use Rattle.table_layout.specs.Constructs.{construct_at}
use Rattle.report_chain_steps.specs.Replayed.{row, stack, past_eight, least_count, counts_at, passes_of}

row_one : (ws : List ℕ) (v : ℕ) → v < max_constructs → row ws v ≡ v ∷ []
unfolding row
row_one ws v h = rw (lt-ltb v max_constructs h)

row_past : (ws : List ℕ) (v i : ℕ) → v ≡ 512 + i → row ws v ≡ past_eight ws i
unfolding row
row_past ws v i e = let q : v - 512 ≡ i = omega arith in rw (le-ltb v max_constructs (omega arith)) (ap (past_eight ws) q)

stack_top : (ws items : List ℕ) (depth : ℕ) → 0 < depth → stack ws items depth ≡ row ws (get_or items depth 0) ++ stack ws items (depth - 1)
unfolding stack
stack_top ws items zero h = absurd (omega arith)
stack_top ws items (suc d) h = let e : d ≡ suc d - 1 = omega arith in ap (λ (k : ℕ). row ws (get_or items (suc d) 0) ++ stack ws items k) e

-- the topmost row is a construct, or passes past the eighth
pub top_is : (ws items : List ℕ) (depth b : ℕ) → 0 < depth → b < max_constructs → get_or items depth 0 ≡ b → stack ws items depth ≡ b ∷ stack ws items (depth - 1)
top_is ws items depth b h l e = stack_top ws items depth h ∙ ap (λ (is : List ℕ). is ++ stack ws items (depth - 1)) (ap (row ws) e ∙ row_one ws b l)

pub top_past : (ws items : List ℕ) (depth i : ℕ) → 0 < depth → get_or items depth 0 ≡ 512 + i → stack ws items depth ≡ past_eight ws i ++ stack ws items (depth - 1)
top_past ws items depth i h e = stack_top ws items depth h ∙ ap (λ (is : List ℕ). is ++ stack ws items (depth - 1)) (row_past ws (get_or items depth 0) i e)

-- a row above changes nothing
stack_set : (ws items : List ℕ) (d k v : ℕ) → d < k → stack ws (set items k v) d ≡ stack ws items d
unfolding stack
stack_set ws items zero k v h = refl
stack_set ws items (suc d) k v h = ap₂ (λ (a : ℕ) (is : List ℕ). row ws a ++ is) (get_or-set_other items k (suc d) v 0 (λ e. omega arith)) (stack_set ws items d k v (omega arith))

pub put_on : (ws items : List ℕ) (depth i : ℕ) → i < max_constructs → depth + 1 < length items → stack ws (set items (depth + 1) i) (depth + 1) ≡ i ∷ stack ws items depth
put_on ws items depth i h l =
    let e : depth + 1 - 1 ≡ depth = omega arith in
    top_is ws (set items (depth + 1) i) (depth + 1) i (omega arith) h (get_or-set_same items (depth + 1) i 0 l)
    ∙ ap (λ (is : List ℕ). i ∷ is) (ap (stack ws (set items (depth + 1) i)) e ∙ stack_set ws items depth (depth + 1) i (omega arith))

-- one more of a number of passes
pub one_more : (k m b : ℕ) (is : List ℕ) → m ≡ k + 1 → b ∷ (replicate k b ++ is) ≡ replicate m b ++ is
one_more k zero b is e = absurd (omega arith)
one_more k (suc m) b is e = let q : k ≡ m = omega arith in ap (λ (n : ℕ). b ∷ (replicate n b ++ is)) q

-- so many passes as n stands for
pub passes_few : (ws : List ℕ) (i n : ℕ) (is js : List ℕ) → (n ≡ 8 → ⊥) → is ≡ replicate n (i + 1) ++ js → is ≡ replicate (passes_of (counts_at ws (construct_at ws i)) n) (i + 1) ++ js
passes_few ws i n is js h e = rw (ne_eqb n 8 h) e

pub passes_many : (ws : List ℕ) (i n : ℕ) (is js ks : List ℕ) → n ≡ 8 → is ≡ replicate n (i + 1) ++ js → js ≡ past_eight ws i ++ ks → is ≡ replicate (passes_of (counts_at ws (construct_at ws i)) n) (i + 1) ++ ks
unfolding past_eight
passes_many ws i n is js ks h e f =
    let m : ℕ = least_count (counts_at ws (construct_at ws i)) - 8 in
    rw (eq-eqb n 8 h) (
    e ∙ ap (λ (k : ℕ). replicate k (i + 1) ++ js) h ∙ ap (λ (l : List ℕ). replicate 8 (i + 1) ++ l) f
    ∙ sym (append_assoc (replicate 8 (i + 1)) (replicate m (i + 1)) ks) ∙ ap (λ (l : List ℕ). l ++ ks) (replicate-append-replicate 8 m (i + 1))
    )
