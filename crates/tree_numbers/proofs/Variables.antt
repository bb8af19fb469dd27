-- The number of a variable: what is stored counts the binders before its first binder, the tree the names before its first name.
-- Assumes nothing.
use Prim.Native.Nat.{ℕ, zero, suc, ◌+◌, ◌-◌, ◌≤◌, ◌<◌}
use mathlib.Core.Path.{◌≡◌, refl, sym, ap, ap₂, ◌∙◌}
use mathlib.Core.Logic.{⊎_elim}
use mathlib.Core.Bool.{Bool, true, false, cond, not, ◌&&◌, ◌||◌}
use mathlib.Core.List.{List}
use native.Mathlib.Omega.{arith}
use lib.Dec.{eqb}
use lib.ListN.{length}
use Rattle.basis.proofs.Booleans.{which, neither_first, neither_second}
use Rattle.text_tokens.specs.Names.{is_same}
use Rattle.text_store.specs.Words.{is_binder, bound_at}
use Rattle.text_names.specs.Counting.{any_of}
use Rattle.text_names.specs.Names.{same_name, binds, bound_between}
use Rattle.text_encoding.specs.Lists.{sum, first_of}
use Rattle.text_encoding.specs.Numbers.{binds_one, binders_before, variable_of}
use Rattle.tree.specs.Lexemes.{Name}
use Rattle.tree_meaning.specs.Pieces.{Piece, bound_in}
use Rattle.tree_meaning.specs.Names.{is_among}
use Rattle.tree_meaning.specs.Grammar.{variable_of as number-among}
use Rattle.tree_store.proofs.Rows.{NodeRow}
use Rattle.tree_store.proofs.Holding.{compared}
use Rattle.tree_store.proofs.Low.{any_suc, any_append, any_true}
use Rattle.tree_store.proofs.Storing.{NodeIs}
use Rattle.tree_store.proofs.Uses.{Here}
use Rattle.tree_store.proofs.Binding.{same_here}
use Rattle.tree_store.proofs.Rowed.{NodesAt, no_nodes, node_then}
use Rattle.tree_store.proofs.Steps.{row_binds, InStep, no_step, a_formula, a_use, a_field, a_binder, another}
use Rattle.tree_numbers.proofs.Rules.{first_here, first_later}

-- ---- sums and firsts

sum_append : (m n i : ℕ) (f : ℕ → ℕ) → sum (m + n) i f ≡ sum m i f + sum n (i + m) f
unfolding sum
sum_append zero n i f = ap₂ (λ (k j : ℕ). sum k j f) (let q : 0 + n ≡ n = omega arith in q) (let q : i ≡ i + 0 = omega arith in q) ∙ (let q : sum n (i + 0) f ≡ 0 + sum n (i + 0) f = omega arith in q)
sum_append (suc m) n i f =
    ap (λ (k : ℕ). sum k i f) (let q : suc m + n ≡ suc (m + n) = omega arith in q)
    ∙ (let e : sum (m + n) (i + 1) f ≡ sum m (i + 1) f + sum n (i + suc m) f = sum_append m n (i + 1) f ∙ ap (λ (j : ℕ). sum m (i + 1) f + sum n j f) (let q : i + 1 + m ≡ i + suc m = omega arith in q)
    in let q : f i + sum (m + n) (i + 1) f ≡ f i + sum m (i + 1) f + sum n (i + suc m) f = omega arith in q)

pub first_from : (n i : ℕ) (f : ℕ → Bool) → i ≤ first_of n i f
unfolding first_of
first_from zero i f = omega arith
first_from (suc n) i f =
    ⊎_elim (λ (z : f i ≡ true). omega (arith, first_here n i f z)) (λ (z : f i ≡ false). omega (arith, first_later n i f z, first_from n (i + 1) f)) (which (f i))

-- where one of the first m passes, it is the first of more too
pub first_prefix : (m n i : ℕ) (f : ℕ → Bool) → m ≤ n → any_of m i f ≡ true → first_of m i f ≡ first_of n i f
unfolding any_of
first_prefix zero n i f h e = let z : ◌≡◌ {A = ℕ} 0 1 = cc in absurd (omega arith)
first_prefix (suc m) zero i f h e = absurd (omega arith)
first_prefix (suc m) (suc n) i f h e =
    ⊎_elim (λ (z : f i ≡ true). first_here m i f z ∙ sym (first_here n i f z))
    (λ (z : f i ≡ false). first_later m i f z ∙ first_prefix m n (i + 1) f (omega arith) (ap (λ (b : Bool). b || any_of m (i + 1) f) (sym z) ∙ sym (any_suc m i f) ∙ e) ∙ sym (first_later n i f z))
    (which (f i))

-- ---- one node

module _ {ns : List ℕ} {a : ℕ} {r : NodeRow} (h : NodeIs ns a r) where
  binder_is : is_binder ns a ≡ row_binds r
  binder_is = rw (h.kind_is, h.how_is) refl

  binds_none : (xs : List ℕ) (p : ℕ) → row_binds r ≡ false → binds xs ns p a ≡ false
  binds_none xs p e = ap (λ (b : Bool). b && same_name xs (bound_at ns a) p) (binder_is ∙ e)

  counts_none : row_binds r ≡ false → binds_one ns a ≡ 0
  counts_none e = ap (λ (b : Bool). cond b 1 0) (binder_is ∙ e)

  counts_one : row_binds r ≡ true → binds_one ns a ≡ 1
  counts_one e = ap (λ (b : Bool). cond b 1 0) (binder_is ∙ e)

  binds_here : {xs : List ℕ} {x y : Name} → row_binds r ≡ true → r.second ≡ x.start → Here xs x → Here xs y → binds xs ns y.start a ≡ is_same x.letters y.letters
  binds_here {xs} {x} {y} e s g k = ap₂ (λ (b : Bool) (p : ℕ). b && same_name xs p y.start) (binder_is ∙ e) (h.second_is ∙ s) ∙ same_here g k

use_binds_none : (r : NodeRow) → r.kind ≡ 5 → row_binds r ≡ false
use_binds_none r e = ap (λ (k : ℕ). eqb k 8 && not (eqb r.how 0)) e

other_binds_none : (r : NodeRow) → eqb r.kind 8 ≡ false → row_binds r ≡ false
other_binds_none r e = ap (λ (b : Bool). b && not (eqb r.how 0)) e

-- ---- many

sum_step : (F a : ℕ) (g : ℕ → ℕ) → a + 1 ≤ F → sum (F - a) a g ≡ g a + sum (F - (a + 1)) (a + 1) g
unfolding sum
sum_step F a g h = ap (λ (k : ℕ). sum k a g) (let q : F - a ≡ suc (F - (a + 1)) = omega arith in q)

sum_none : (a : ℕ) (g : ℕ → ℕ) → sum (a - a) a g ≡ 0
unfolding sum
sum_none a g = ap (λ (k : ℕ). sum k a g) (let q : a - a ≡ 0 = omega arith in q)

-- how many are bound
bound_many : {xs ns : List ℕ} {a : ℕ} {M : List NodeRow} {l : List Piece} → InStep xs M l → NodesAt ns a M → sum (length M) a (binds_one ns) ≡ length (bound_in l)
unfolding sum bound_in
bound_many no_step no_nodes = refl
bound_many (a_formula s) h = bound_many s h
bound_many {a = a} (a_use {r = r} e p g s) (node_then h more) = omega (arith, counts_none h (use_binds_none r e), bound_many {a = a + 1} s more)
bound_many (a_field e b f v s) (node_then h more) = omega (arith, counts_none h b, bound_many s more)
bound_many (a_binder e b f v w z g s) (node_then h more) = omega (arith, counts_one h b, bound_many s more)
bound_many (another {r = r} e b s) (node_then h more) = omega (arith, counts_none h (other_binds_none r b), bound_many s more)

-- those before the nodes of a rule, and after them
pub binders_after : {xs ns : List ℕ} {a : ℕ} {M : List NodeRow} {l : List Piece} {b : ℕ} → InStep xs M l → NodesAt ns a M → binders_before ns a ≡ b → binders_before ns (a + length M) ≡ b + length (bound_in l)
binders_after {ns = ns} {a} {M} s h e =
    sum_append a (length M) 0 (binds_one ns)
    ∙ ap₂ ◌+◌ e (ap (λ (i : ℕ). sum (length M) i (binds_one ns)) (let q : 0 + a ≡ a = omega arith in q) ∙ bound_many s h)

-- past a node that binds nothing
past_none : {ns : List ℕ} (xs : List ℕ) {a : ℕ} {r : NodeRow} (b n p : ℕ) → NodeIs ns a r → row_binds r ≡ false
    → b + sum (first_of (suc n) a (binds xs ns p) - a) a (binds_one ns) ≡ b + sum (first_of n (a + 1) (binds xs ns p) - (a + 1)) (a + 1) (binds_one ns)
past_none {ns} xs {a} b n p h e =
    let z : first_of (suc n) a (binds xs ns p) ≡ first_of n (a + 1) (binds xs ns p) = first_later n a (binds xs ns p) (binds_none h xs p e)
    in ap (λ (k : ℕ). b + sum (k - a) a (binds_one ns)) z
    ∙ ap (λ (k : ℕ). b + k) (sum_step (first_of n (a + 1) (binds xs ns p)) a (binds_one ns) (first_from n (a + 1) (binds xs ns p)))
    ∙ (let q : b + (binds_one ns a + sum (first_of n (a + 1) (binds xs ns p) - (a + 1)) (a + 1) (binds_one ns)) ≡ b + sum (first_of n (a + 1) (binds xs ns p) - (a + 1)) (a + 1) (binds_one ns) = omega (arith, counts_none h e) in q)

number_at : {xs ns : List ℕ} {a : ℕ} {M : List NodeRow} {l : List Piece} (b : ℕ) (y : Name) → InStep xs M l → NodesAt ns a M → Here xs y → is_among (bound_in l) y ≡ true
    → b + sum (first_of (length M) a (binds xs ns y.start) - a) a (binds_one ns) ≡ number-among b (bound_in l) y.letters
unfolding bound_in is_among number-among
number_at b y no_step no_nodes k e = let z : ◌≡◌ {A = ℕ} 0 1 = cc in absurd (omega arith)
number_at b y (a_formula s) h k e = number_at b y s h k e
number_at {xs} {a = a} {M = M} b y (a_use {r = r} {M = L} d p g s) (node_then h more) k e = past_none xs b (length L) y.start h (use_binds_none r d) ∙ number_at {a = a + 1} b y s more k e
number_at {xs} {a = a} b y (a_field {M = L} d q f v s) (node_then h more) k e = past_none xs b (length L) y.start h q ∙ number_at {a = a + 1} b y s more k e
number_at {xs} {a = a} b y (another {r = r} {M = L} d q s) (node_then h more) k e = past_none xs b (length L) y.start h (other_binds_none r q) ∙ number_at {a = a + 1} b y s more k e
number_at {xs} {ns} {a} b y (a_binder {M = L} {x = x} {l = l} d q f v w z g s) (node_then h more) k e =
    ⊎_elim
    (λ (c : is_same x.letters y.letters ≡ true). found c)
    (λ (c : is_same x.letters y.letters ≡ false). onward c (number_at (suc b) y s more k (ap (λ (m : Bool). m || is_among (bound_in l) y) (sym c) ∙ e)))
    (which (is_same x.letters y.letters))
  where
    tested : binds xs ns y.start a ≡ is_same x.letters y.letters
    tested = binds_here h q z g k

    found : is_same x.letters y.letters ≡ true → b + sum (first_of (suc (length L)) a (binds xs ns y.start) - a) a (binds_one ns) ≡ cond (is_same x.letters y.letters) b (number-among (suc b) (bound_in l) y.letters)
    found c =
        ap (λ (m : ℕ). b + sum (m - a) a (binds_one ns)) (first_here (length L) a (binds xs ns y.start) (tested ∙ c))
        ∙ (let w : b + sum (a - a) a (binds_one ns) ≡ b = omega (arith, sum_none a (binds_one ns)) in w)
        ∙ sym (ap (λ (m : Bool). cond m b (number-among (suc b) (bound_in l) y.letters)) c)

    onward : is_same x.letters y.letters ≡ false → suc b + sum (first_of (length L) (a + 1) (binds xs ns y.start) - (a + 1)) (a + 1) (binds_one ns) ≡ number-among (suc b) (bound_in l) y.letters
        → b + sum (first_of (suc (length L)) a (binds xs ns y.start) - a) a (binds_one ns) ≡ cond (is_same x.letters y.letters) b (number-among (suc b) (bound_in l) y.letters)
    onward c m =
        ap (λ (i : ℕ). b + sum (i - a) a (binds_one ns)) (first_later (length L) a (binds xs ns y.start) (tested ∙ c))
        ∙ ap (λ (i : ℕ). b + i) (sum_step (first_of (length L) (a + 1) (binds xs ns y.start)) a (binds_one ns) (first_from (length L) (a + 1) (binds xs ns y.start)))
        ∙ counted (sum (first_of (length L) (a + 1) (binds xs ns y.start) - (a + 1)) (a + 1) (binds_one ns)) (binds_one ns a) (counts_one h q)
        ∙ m
        ∙ sym (ap (λ (i : Bool). cond i b (number-among (suc b) (bound_in l) y.letters)) c)
      where
        counted : (i j : ℕ) → j ≡ 1 → b + (j + i) ≡ suc b + i
        counted i j w = omega arith

-- ---- a variable that is used in node i of a rule whose nodes are these, from a on

among_bound : {xs ns : List ℕ} {a : ℕ} {M : List NodeRow} {l : List Piece} (y : Name) → InStep xs M l → NodesAt ns a M → Here xs y → any_of (length M) a (binds xs ns y.start) ≡ is_among (bound_in l) y
unfolding any_of bound_in is_among
among_bound y no_step no_nodes k = refl
among_bound y (a_formula s) h k = among_bound y s h k
among_bound {xs} {ns} {a} y (a_use {r = r} {M = L} d p g s) (node_then h more) k =
    any_suc (length L) a (binds xs ns y.start) ∙ ap (λ (b : Bool). b || any_of (length L) (a + 1) (binds xs ns y.start)) (binds_none h xs y.start (use_binds_none r d)) ∙ among_bound {a = a + 1} y s more k
among_bound {xs} {ns} {a} y (a_field {M = L} d q f v s) (node_then h more) k =
    any_suc (length L) a (binds xs ns y.start) ∙ ap (λ (b : Bool). b || any_of (length L) (a + 1) (binds xs ns y.start)) (binds_none h xs y.start q) ∙ among_bound y s more k
among_bound {xs} {ns} {a} y (a_binder {M = L} d q f v w z g s) (node_then h more) k =
    any_suc (length L) a (binds xs ns y.start) ∙ ap₂ ◌||◌ (binds_here h q z g k) (among_bound y s more k)
among_bound {xs} {ns} {a} y (another {r = r} {M = L} d q s) (node_then h more) k =
    any_suc (length L) a (binds xs ns y.start) ∙ ap (λ (b : Bool). b || any_of (length L) (a + 1) (binds xs ns y.start)) (binds_none h xs y.start (other_binds_none r q)) ∙ among_bound y s more k

any_more : (m n i : ℕ) (f : ℕ → Bool) → m ≤ n → any_of m i f ≡ true → any_of n i f ≡ true
any_more m n i f h e =
    ap (λ (k : ℕ). any_of k i f) (let q : n ≡ m + (n - m) = omega arith in q) ∙ any_append m (n - m) i f ∙ ap (λ (b : Bool). b || any_of (n - m) (i + m) f) e

-- the binders before the first of this name, of nodes from a on
before_first : (ns : List ℕ) (a F b : ℕ) → a ≤ F → binders_before ns a ≡ b → binders_before ns F ≡ b + sum (F - a) a (binds_one ns)
before_first ns a F b h e =
    ap (λ (k : ℕ). sum k 0 (binds_one ns)) (let q : F ≡ a + (F - a) = omega arith in q)
    ∙ sum_append a (F - a) 0 (binds_one ns)
    ∙ ap₂ (λ (i j : ℕ). i + sum (F - a) j (binds_one ns)) e (let q : 0 + a ≡ a = omega arith in q)

pub variable_number : {xs ns : List ℕ} {a : ℕ} {M : List NodeRow} {l : List Piece} (b i : ℕ) (y : Name) → InStep xs M l → NodesAt ns a M → Here xs y → binders_before ns a ≡ b → i ≤ a + length M → bound_between xs ns a i y.start ≡ true
    → variable_of xs ns a i y.start ≡ number-among b (bound_in l) y.letters
variable_number {xs} {ns} {a} {M} {l} b i y s h k e small bound =
    let m : i - a ≤ length M = omega arith
    in ap (binders_before ns) (first_prefix (i - a) (length M) a (binds xs ns y.start) m bound)
    ∙ before_first ns a (first_of (length M) a (binds xs ns y.start)) b (first_from (length M) a (binds xs ns y.start)) e
    ∙ number_at b y s h k (sym (among_bound y s h k) ∙ any_more (i - a) (length M) a (binds xs ns y.start) m bound)

-- ---- a variable's first binder

first_exact : (n i j : ℕ) (f : ℕ → Bool) → i ≤ j → j < i + n → any_of (j - i) i f ≡ false → f j ≡ true → first_of n i f ≡ j
first_exact zero i j f h g e z = absurd (omega arith)
first_exact (suc n) i j f h g e z =
    compared j i (λ y. absurd (omega arith))
    (λ (y : j ≡ i). first_here n i f (ap f (sym y) ∙ z) ∙ sym y)
    (λ y.
    let u : (f i || any_of (j - (i + 1)) (i + 1) f) ≡ false = sym (any_suc (j - (i + 1)) i f) ∙ ap (λ (k : ℕ). any_of k i f) (let q : suc (j - (i + 1)) ≡ j - i = omega arith in q) ∙ e
    in first_later n i f (neither_first (f i) (any_of (j - (i + 1)) (i + 1) f) u) ∙ first_exact n (i + 1) j f (omega arith) (omega arith) (neither_second (f i) (any_of (j - (i + 1)) (i + 1) f) u) z)

-- the number that node i binds, where no node of its rule before it binds the name
pub binder_number : {xs ns : List ℕ} {a : ℕ} {M : List NodeRow} {l : List Piece} (b i : ℕ) (x : Name) → InStep xs M l → NodesAt ns a M → Here xs x → binders_before ns a ≡ b → a ≤ i → i < a + length M → bound_between xs ns a i x.start ≡ false
    → binds xs ns x.start i ≡ true → binders_before ns i ≡ number-among b (bound_in l) x.letters
binder_number {xs} {ns} {a} {M} {l} b i x s h k e low high fresh bound =
    ap (binders_before ns) (sym (first_exact (length M) a i (binds xs ns x.start) low high fresh bound))
    ∙ before_first ns a (first_of (length M) a (binds xs ns x.start)) b (first_from (length M) a (binds xs ns x.start)) e
    ∙ number_at b x s h k (sym (among_bound x s h k) ∙ any_true (length M) a (binds xs ns x.start) i low high bound)
