-- Derivations. "A derivation of a frame starts at the start rule and covers every bit of it (H). It is the tree of its rule uses, members,
-- branches, cases and passes with the bits each covers, a field being one leaf whichever items of its set hold its value, defined
-- without windows, steps or weight; two differ where their trees do."
-- Assumes nothing.
use Rattle.std.specs.Prelude.{ℕ, zero, suc, ◌+◌, ◌≡◌, Bool, true, List, [], ◌∷◌, ◌++◌, length}
use Rattle.std.proofs.Math.Option.{Option, none, some}
use Rattle.basis.specs.Bits.{Bits}
use Rattle.basis.specs.Counts.{Counts, Allows}
use Rattle.theory.specs.Grammar.{Node, alternative, concatenation, repetition, switch, use_of, field, eod, Grammar, ◌∈◌}

-- The trees. The tree of a construct begins with the construct's number, so a tree says which branch or case was taken.
pub data Tree : Type 0 where
  -- a field and the bits that it covers
  leaf : (construct : ℕ) (bits : Bits) → Tree
  -- an eod
  end : (construct : ℕ) → Tree
  -- a construct over its branch, its case, its rule's body, its members or its passes; a switch with no true case over nothing
  node : (construct : ℕ) (below : Tree) → Tree
  -- the members of a concatenation and the passes of a repetition, in order: none, or one and the rest
  nil : Tree
  member : (first rest : Tree) → Tree
  pass : (first rest : Tree) → Tree

-- the bits that a tree covers
unfoldable pub covered : Tree → Bits
covered (leaf i bits) = bits
covered (end i) = []
covered (node i t) = covered t
covered nil = []
covered (member t u) = covered t ++ covered u
covered (pass t u) = covered t ++ covered u

-- A field recorded (an entry of document 01's reading): "construct number, first bit".
pub record Capture : Type 0 where
  pub construct : ℕ
  pub first_bit : ℕ

-- the fields of a tree that begins at bit `p`, in order
unfoldable pub captures : Tree → ℕ → List Capture
unfolding covered
captures (leaf i bits) p = record { construct = i; first_bit = p } ∷ []
captures (end i) p = []
captures (node i t) p = captures t p
captures nil p = []
captures (member t u) p = captures t p ++ captures u (p + length (covered t))
captures (pass t u) p = captures t p ++ captures u (p + length (covered t))

-- A tree replayed: the values after it, of those before it, where the fields bind in turn ("Values stay as last bound"). `leaf_after` is what
-- a node makes of a field's bits, `node_after` what it makes of what is below it.
unfoldable pub leaf_after : {Context Values : Type 0} → Node Context Values → Context → Values → Bits → Values
leaf_after (alternative is) c v bits = v
leaf_after (concatenation is) c v bits = v
leaf_after (repetition counts static fixed b) c v bits = v
leaf_after (switch chosen optional is) c v bits = v
leaf_after (use_of enters opens closes b) c v bits = v
leaf_after (field w admits static binds) c v bits = binds c v bits
leaf_after eod c v bits = v

unfoldable pub node_after : {Context Values : Type 0} → Node Context Values → (Context → Values → Values) → Context → Values → Values
node_after (alternative is) below c v = below c v
node_after (concatenation is) below c v = below c v
node_after (repetition counts static fixed b) below c v = below c v
node_after (switch chosen optional is) below c v = below c v
node_after (use_of enters opens closes b) below c v = elim (enters c) [ none ↦ v | some c' ↦ closes v (below c' (opens c v)) ]
node_after (field w admits static binds) below c v = below c v
node_after eod below c v = below c v

unfoldable pub replayed : {Context Values : Type 0} → Grammar Context Values → Tree → Context → Values → Values
unfolding leaf_after node_after
replayed g (leaf i bits) c v = leaf_after (g.node i) c v bits
replayed g (end i) c v = v
replayed g (node i t) c v = node_after (g.node i) (λ c v. replayed g t c v) c v
replayed g nil c v = v
replayed g (member t u) c v = replayed g u c (replayed g t c v)
replayed g (pass t u) c v = replayed g u c (replayed g t c v)

-- What is derived: a construct (with its node), the members of a concatenation, or so many passes of a body.
pub data Shape (Context Values : Type 0) : Type 0 where
  construct : (i : ℕ) (n : Node Context Values) → Shape Context Values
  members : (is : List ℕ) → Shape Context Values
  passes : (body count : ℕ) → Shape Context Values

-- `Derives g what t c v s v' r`: in context c and with values v, `what` is derived by the tree t from the front of the bits s;
-- r is left, and the values are v' then.
pub data Derives {Context Values : Type 0} (g : Grammar Context Values) : Shape Context Values → Tree → Context → Values → Bits → Values → Bits → Type 0 where
  of_alternative : {i b : ℕ} {is : List ℕ} {t : Tree} {c : Context} {v v' : Values} {s r : Bits} → b ∈ is → Derives g (construct b (g.node b)) t c v s v' r
      → Derives g (construct i (alternative is)) (node i t) c v s v' r
  of_concatenation : {i : ℕ} {is : List ℕ} {t : Tree} {c : Context} {v v' : Values} {s r : Bits} → Derives g (members is) t c v s v' r
      → Derives g (construct i (concatenation is)) (node i t) c v s v' r
  -- as many passes as the counts allow
  of_repetition : {i b : ℕ} {counts : Context → Values → Counts} {static : Counts} {fixed : Bool} {t : Tree} {c : Context} {v v' : Values} {s r : Bits} (k : ℕ)
      → Allows (counts c v) k → Derives g (passes b k) t c v s v' r
      → Derives g (construct i (repetition counts static fixed b)) (node i t) c v s v' r
  -- "A switch takes its first true case, else the default"
  of_switch : {i b : ℕ} {chosen : Context → Values → Option ℕ} {optional : Bool} {is : List ℕ} {t : Tree} {c : Context} {v v' : Values} {s r : Bits}
      → chosen c v ≡ some b → Derives g (construct b (g.node b)) t c v s v' r
      → Derives g (construct i (switch chosen optional is)) (node i t) c v s v' r
  -- "a switch of bits with no true case and no default takes no bits and goes on" (Req 02)
  of_no_case : {i : ℕ} {chosen : Context → Values → Option ℕ} {optional : Bool} {is : List ℕ} {c : Context} {v : Values} {s : Bits}
      → chosen c v ≡ none → optional ≡ true → Derives g (construct i (switch chosen optional is)) (node i nil) c v s v s
  of_use : {i b : ℕ} {enters : Context → Option Context} {opens : Context → Values → Values} {closes : Values → Values → Values} {t : Tree} {c c' : Context} {v v' v'' : Values} {s r : Bits}
      → enters c ≡ some c' → Derives g (construct b (g.node b)) t c' (opens c v) s v' r → v'' ≡ closes v v'
      → Derives g (construct i (use_of enters opens closes b)) (node i t) c v s v'' r
  of_field : {i : ℕ} {w : Bits → ℕ} {admits : Context → Values → Bits → Bool} {static : Bits → Bool} {binds : Context → Values → Bits → Values} {c : Context} {v v' : Values} {s r : Bits} (bits : Bits)
      → length bits ≡ w bits → s ≡ bits ++ r → admits c v bits ≡ true → v' ≡ binds c v bits
      → Derives g (construct i (field w admits static binds)) (leaf i bits) c v s v' r
  of_eod : {i : ℕ} {c : Context} {v : Values} → Derives g (construct i eod) (end i) c v [] v []
  no_members : {c : Context} {v : Values} {s : Bits} → Derives g (members []) nil c v s v s
  more_members : {m : ℕ} {is : List ℕ} {t u : Tree} {c : Context} {v v' v'' : Values} {s s' s'' : Bits}
      → Derives g (construct m (g.node m)) t c v s v' s' → Derives g (members is) u c v' s' v'' s''
      → Derives g (members (m ∷ is)) (member t u) c v s v'' s''
  no_passes : {b : ℕ} {c : Context} {v : Values} {s : Bits} → Derives g (passes b zero) nil c v s v s
  more_passes : {b k : ℕ} {t u : Tree} {c : Context} {v v' v'' : Values} {s s' s'' : Bits}
      → Derives g (construct b (g.node b)) t c v s v' s' → Derives g (passes b k) u c v' s' v'' s''
      → Derives g (passes b (suc k)) (pass t u) c v s v'' s''

-- a derivation of a frame, whose bits are s; v' are the values at its end
abbrev pub Derivation : {Context Values : Type 0} → Grammar Context Values → Bits → Tree → Values → Type 0
Derivation g s t v' = Derives g (construct g.start (g.node g.start)) t g.context g.values s v' []

-- `Leaves t s i r`: in the tree t over the bits s, a part for construct i leaves the bits r of s
pub data Leaves : Tree → Bits → ℕ → Bits → Type 0 where
  at_leaf : {i : ℕ} {bits s r : Bits} → s ≡ bits ++ r → Leaves (leaf i bits) s i r
  at_end : {i : ℕ} {s : Bits} → Leaves (end i) s i s
  at_node : {i : ℕ} {t : Tree} {s r : Bits} → s ≡ covered t ++ r → Leaves (node i t) s i r
  below : {i j : ℕ} {t : Tree} {s r : Bits} → Leaves t s j r → Leaves (node i t) s j r
  in_member : {j : ℕ} {t u : Tree} {s r : Bits} → Leaves t s j r → Leaves (member t u) s j r
  past_member : {j : ℕ} {t u : Tree} {s s' r : Bits} → s ≡ covered t ++ s' → Leaves u s' j r → Leaves (member t u) s j r
  in_pass : {j : ℕ} {t u : Tree} {s r : Bits} → Leaves t s j r → Leaves (pass t u) s j r
  past_pass : {j : ℕ} {t u : Tree} {s s' r : Bits} → s ≡ covered t ++ s' → Leaves u s' j r → Leaves (pass t u) s j r
