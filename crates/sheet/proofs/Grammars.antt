-- Grammars of trees, node by node: that they have no conflict and no empty body.
-- Assumes nothing.
use Prim.Native.Nat.{ℕ, zero, suc, ◌≤◌, ◌<◌}
use mathlib.Core.Path.{◌≡◌, refl, sym, ap, subst}
use mathlib.Core.Logic.{inl, inr}
use mathlib.Core.Bool.{Bool, true, false, false≢true}
use mathlib.Core.List.Memᴰ
use mathlib.Core.List.{List, [], ◌∷◌}
use native.Mathlib.Omega.{arith}
use native.Mathlib.Decide.{dec_lt}
use borrow.Author.Tests.{ltb-true, ltb-false, eqb-true}
use lib.Dec.{ltb, eqb}
use lib.ListN.{length}
use Rattle.basis.specs.Bits.{Bits}
use Rattle.basis.specs.Lookahead.{lookahead}
use Rattle.basis.proofs.Booleans.{which}
use Rattle.theory.specs.Grammar.{alternative, concatenation, repetition, switch, use_of, field, eod, Grammar, ◌∈◌}
use Rattle.theory.specs.Derivation.{construct}
use Rattle.theory.specs.Lookahead.{First, Conflict, EmptyBody}
use Rattle.theory.proofs.Inversion.{first_by}
use Rattle.tree.specs.Tree.{Rules}
use Rattle.tree_meaning.specs.Grammar.{Context, Values, TreeNode, Construct, plain_at, use_node, tree_constructs, opening, tree_grammar}
use Rattle.tree_grammar.proofs.SameGrammar.{past_end}

-- ---- a property of each number below n

abbrev pub Upto : (ℕ → Type 0) → ℕ → Type 0
Upto P zero = Unit {0}
Upto P (suc n) = Upto P n × P n

pub upto : (P : ℕ → Type 0) (n : ℕ) → Upto P n → (i : ℕ) → i < n → P i
upto P zero u i l = absurd (omega arith)
upto P (suc n) u i l = elim (dec_lt i n) [ yes m ↦ upto P n u.0 i m | no m ↦ subst P (let z : n ≡ i = omega arith in z) u.1 ]

-- ---- a property of each node: of the opening use, of each number that is none, and of each construct

module _ (t : Rules) (n : ℕ) (count : length (tree_constructs t) ≡ n) where
  abbrev pub g : Grammar Context Values
  g = tree_grammar t

  no_node : (i : ℕ) → eqb i opening ≡ false → n ≤ i → g.node i ≡ alternative []
  unfolding tree_grammar
  no_node i e l = rw e (ap (λ (c : Construct). c.node) (past_end (tree_constructs t) i (plain_at 0 (alternative [])) (omega arith)))

  pub each_node : (P : ℕ → TreeNode → Type 0) → P opening (use_node 0) → ((i : ℕ) → n ≤ i → eqb i opening ≡ false → P i (alternative []))
      → Upto (λ i. P i (g.node i)) n → (i : ℕ) → P i (g.node i)
  unfolding tree_grammar
  each_node P o a u i =
      elim (which (ltb i n)) [
        | inl l ↦ upto (λ k. P k (g.node k)) n u i (ltb-true i n l)
        | inr l ↦ elim (which (eqb i opening)) [
          | inl e ↦ subst (λ (k : ℕ). P k (g.node k)) (sym (eqb-true i opening e)) o
          | inr e ↦ subst (P i) (sym (no_node i e (ltb-false i n l))) (a i (ltb-false i n l) e)
        ]
      ]

-- ---- no conflict, where nothing is chosen

abbrev pub branches_in : TreeNode → List ℕ
branches_in (alternative is) = is
branches_in (concatenation is) = []
branches_in (repetition counts static fixed b) = []
branches_in (switch chosen optional is) = []
branches_in (use_of enters opens closes b) = []
branches_in (field w admits static binds) = []
branches_in eod = []

-- neither branches nor a repetition that is not written `{n}`
abbrev pub Quiet : TreeNode → Type 0
Quiet (alternative is) = is ≡ []
Quiet (concatenation is) = Unit {0}
Quiet (repetition counts static fixed b) = fixed ≡ true
Quiet (switch chosen optional is) = Unit {0}
Quiet (use_of enters opens closes b) = Unit {0}
Quiet (field w admits static binds) = Unit {0}
Quiet eod = Unit {0}

pub quiet : (h : Grammar Context Values) (i : ℕ) (x : Bits) → Quiet (h.node i) → Conflict h i x → ⊥
quiet h i x q (Conflict.of_branches {a = a} e m n d p p') = Memᴰ.not-nil (subst (λ (l : List ℕ). a ∈ l) (subst Quiet e q) m)
quiet h i x q (Conflict.of_passes e c s) = false≢true (subst Quiet e q)

pub quiet_as : (t : Rules) (n : ℕ) → length (tree_constructs t) ≡ n → Upto (λ i. Quiet ((tree_grammar t).node i)) n → (i : ℕ) (x : Bits) → Conflict (tree_grammar t) i x → ⊥
quiet_as t n c u i x = quiet (tree_grammar t) i x (each_node t n c (λ k m. Quiet m) tt (λ k h e. refl) u i)

-- ---- no empty body

abbrev pub NotEmpty : Grammar Context Values → TreeNode → Type 0
NotEmpty h (alternative is) = Unit {0}
NotEmpty h (concatenation is) = Unit {0}
NotEmpty h (repetition counts static fixed b) = First h (construct b (h.node b)) [] → ⊥
NotEmpty h (switch chosen optional is) = Unit {0}
NotEmpty h (use_of enters opens closes b) = Unit {0}
NotEmpty h (field w admits static binds) = Unit {0}
NotEmpty h eod = Unit {0}

pub not_empty : (h : Grammar Context Values) (i : ℕ) → NotEmpty h (h.node i) → EmptyBody h i → ⊥
not_empty h i q (EmptyBody.empty_body e f) = subst (NotEmpty h) e q f

pub filled_as : (t : Rules) (n : ℕ) → length (tree_constructs t) ≡ n → Upto (λ i. NotEmpty (tree_grammar t) ((tree_grammar t).node i)) n → (i : ℕ) → EmptyBody (tree_grammar t) i → ⊥
filled_as t n c u i = not_empty (tree_grammar t) i (each_node t n c (λ k m. NotEmpty (tree_grammar t) m) tt (λ k h e. tt) u i)

-- a field takes some bits
some_bits : (bits : Bits) (w : ℕ) → length bits ≡ suc w → [] ≡ lookahead bits → ⊥
some_bits [] w l e = omega arith
some_bits (b ∷ bits) w l e = let z : ◌≡◌ {A = ℕ} 0 1 = cc in omega arith

pub field_first : (h : Grammar Context Values) (i w : ℕ) {admits : Context → Values → Bits → Bool} {static : Bits → Bool} {binds : Context → Values → Bits → Values}
    → First h (construct i (field (λ bits. suc w) admits static binds)) [] → ⊥
field_first h i w f = let (bits, l, s, z) = first_by h f in some_bits bits w l z
