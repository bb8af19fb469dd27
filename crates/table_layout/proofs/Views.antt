-- A construct by its attributes: those that a question does not concern fall together.
-- Assumes nothing.
use Prim.Native.Nat.{ℕ, ◌+◌, ◌-◌, ◌≤◌, ◌<◌}
use mathlib.Core.Path.{◌≡◌, refl, sym, subst}
use mathlib.Core.Logic.{◌⊎◌, inl, inr}
use mathlib.Core.Bool.{Bool}
use mathlib.Core.List.{List, []}
use native.Mathlib.Omega.{arith}
use Rattle.basis.specs.Bits.{Bits}
use Rattle.theory.specs.Grammar.{alternative, field, eod}
use Rattle.table_layout.specs.Constructs.{construct_at}
use Rattle.table_layout.specs.Attributes.{attributes_of}
use Rattle.table_layout.specs.Held.{Context, Values, HeldNode, size_of, node_of}
use Rattle.table_layout.specs.declared.Construct.{Construct}
use Rattle.table_layout.specs.declared.Passes.{Passes}
use Rattle.table_layout.specs.declared.Below.{Below}
use Rattle.table_layout.specs.declared.OwnList.{OwnList}
use Rattle.table_layout.specs.declared.Attributes.{Attributes}
use Rattle.table_layout.proofs.Bounds.{fine_as, bounds}

-- ---- by what stands below it

-- nothing stands below it, and it uses no rule
pub record Leaf (c : Construct) : Type 0 where
  pub below : (attributes_of c).below ≡ Below.Nothing
  pub size : size_of c ≡ 1
  pub rule : (attributes_of c).rule ≡ 64

pub data Parted : Construct → Type 0 where
  missing : Parted Construct.Missing
  branches : (size : ℕ) → Parted (Construct.Alternative size)
  members : (size : ℕ) → Parted (Construct.Concatenation size)
  body : (size : ℕ) (passes : Passes) → Parted (Construct.Repetition size passes)
  cases : (size : ℕ) → Parted (Construct.Switch size)
  opens : (rule : ℕ) → Parted (Construct.Use rule)
  leaf : {c : Construct} → Leaf c → Parted c

pub parted : (c : Construct) → Parted c
parted Construct.Missing = missing
parted (Construct.Alternative size) = branches size
parted (Construct.Concatenation size) = members size
parted (Construct.Repetition size passes) = body size passes
parted (Construct.Switch size) = cases size
parted (Construct.Use rule) = opens rule
parted (Construct.Literal length) = leaf record { below = refl; size = refl; rule = refl }
parted (Construct.Range low high) = leaf record { below = refl; size = refl; rule = refl }
parted (Construct.Uint signed width start end binder) = leaf record { below = refl; size = refl; rule = refl }
parted Construct.Eod = leaf record { below = refl; size = refl; rule = refl }

-- its node is a field or eod
pub leaf_node : (ws : List ℕ) (i : ℕ) (P : HeldNode → Type 0)
    → ((w : Bits → ℕ) (admits : Context → Values → Bits → Bool) (static : Bits → Bool) (binds : Context → Values → Bits → Values) → P (field w admits static binds)) → P eod
    → (c : Construct) → Leaf c → P (node_of ws i c)
unfolding node_of
leaf_node ws i P f e Construct.Missing l = absurd (omega (arith, l.size))
leaf_node ws i P f e (Construct.Alternative size) l = let p = l.below in let z : ◌≡◌ {A = ℕ} 0 1 = cc in absurd (omega arith)
leaf_node ws i P f e (Construct.Concatenation size) l = let p = l.below in let z : ◌≡◌ {A = ℕ} 0 1 = cc in absurd (omega arith)
leaf_node ws i P f e (Construct.Repetition size passes) l = let p = l.below in let z : ◌≡◌ {A = ℕ} 0 1 = cc in absurd (omega arith)
leaf_node ws i P f e (Construct.Switch size) l = let p = l.below in let z : ◌≡◌ {A = ℕ} 0 1 = cc in absurd (omega arith)
leaf_node ws i P f e (Construct.Use rule) l = let p = l.below in let z : ◌≡◌ {A = ℕ} 0 1 = cc in absurd (omega arith)
leaf_node ws i P f e (Construct.Literal length) l = f _ _ _ _
leaf_node ws i P f e (Construct.Range low high) l = f _ _ _ _
leaf_node ws i P f e (Construct.Uint signed width start end binder) l = f _ _ _ _
leaf_node ws i P f e Construct.Eod l = e

-- a construct, from its attributes and what stands below it
abbrev pub Is : Construct → Attributes → Below → Type 0
Is c a Below.Nothing = (c ≡ Construct.Missing) ⊎ Leaf c
Is c a Below.Branches = c ≡ Construct.Alternative a.size
Is c a Below.Members = c ≡ Construct.Concatenation a.size
Is c a (Below.Body passes) = c ≡ Construct.Repetition a.size passes
Is c a Below.Cases = c ≡ Construct.Switch a.size
Is c a Below.Rule = c ≡ Construct.Use a.rule

is_parted : {c : Construct} → Parted c → Is c (attributes_of c) (attributes_of c).below
is_parted missing = inl refl
is_parted (branches size) = refl
is_parted (members size) = refl
is_parted (body size passes) = refl
is_parted (cases size) = refl
is_parted (opens rule) = refl
is_parted {c} (leaf l) = subst (Is c (attributes_of c)) (sym l.below) (inr l)

pub is_by : (c : Construct) (a : Attributes) → a ≡ attributes_of c → (b : Below) → a.below ≡ b → Is c a b
is_by c a e b h = subst (Is c a) h (subst (λ (x : Attributes). Is c x x.below) (sym e) (is_parted (parted c)))

-- what was read ends by 256, and names one of 64 rules
pub size_read : (ws : List ℕ) (i : ℕ) (a : Attributes) → a ≡ attributes_of (construct_at ws i) → i < 256 → i + a.size ≤ 256
size_read ws i a e h = let l : (attributes_of (construct_at ws i)).size ≤ 256 - i = (bounds ws i).whole in rw e (omega (arith, l))

pub rule_read : (ws : List ℕ) (i : ℕ) (a : Attributes) → a ≡ attributes_of (construct_at ws i) → a.below ≡ Below.Rule → a.rule < 64
rule_read ws i a e h = (fine_as ws i (construct_at ws i) refl (Construct.Use a.rule) (is_by (construct_at ws i) a e Below.Rule h)).1

-- with nothing below it: its node is a field, eod or, where it is missing, an alternative without branches
pub quiet_node : (ws : List ℕ) (i : ℕ) (P : HeldNode → Type 0) → P (alternative [])
    → ((w : Bits → ℕ) (admits : Context → Values → Bits → Bool) (static : Bits → Bool) (binds : Context → Values → Bits → Values) → P (field w admits static binds)) → P eod
    → (c : Construct) → (attributes_of c).below ≡ Below.Nothing → P (node_of ws i c)
unfolding node_of
quiet_node ws i P n f e c q =
    elim (is_by c (attributes_of c) refl Below.Nothing q) [ inl m ↦ subst (λ (d : Construct). P (node_of ws i d)) (sym m) n | inr l ↦ leaf_node ws i P f e c l ]

-- a use by the rule that it names
pub use_by : {c : Construct} → Parted c → (q : ℕ) → q < 64 → (attributes_of c).rule ≡ q → c ≡ Construct.Use q
use_by missing q h e = absurd (omega arith)
use_by (branches size) q h e = absurd (omega arith)
use_by (members size) q h e = absurd (omega arith)
use_by (body size passes) q h e = absurd (omega arith)
use_by (cases size) q h e = absurd (omega arith)
use_by (opens rule) q h e = cc
use_by (leaf l) q h e = absurd (omega (arith, l.rule))

-- ---- by its list of terms or its characters

-- it has none, and binds nothing
pub record Plain (c : Construct) : Type 0 where
  pub own : (attributes_of c).own ≡ OwnList.None
  pub binder : (attributes_of c).binder ≡ 0
  pub length : (attributes_of c).length ≡ 0

pub data Operands : Construct → Type 0 where
  counts : (size start end : ℕ) → Operands (Construct.Repetition size (Passes.Counted start end))
  characters : (length : ℕ) → Operands (Construct.Literal length)
  set : (signed : Bool) (width start end binder : ℕ) → Operands (Construct.Uint signed width start end binder)
  plain : {c : Construct} → Plain c → Operands c

pub operands : (c : Construct) → Operands c
operands Construct.Missing = plain record { own = refl; binder = refl; length = refl }
operands (Construct.Alternative size) = plain record { own = refl; binder = refl; length = refl }
operands (Construct.Concatenation size) = plain record { own = refl; binder = refl; length = refl }
operands (Construct.Repetition size Passes.Optional) = plain record { own = refl; binder = refl; length = refl }
operands (Construct.Repetition size Passes.Any) = plain record { own = refl; binder = refl; length = refl }
operands (Construct.Repetition size Passes.Some) = plain record { own = refl; binder = refl; length = refl }
operands (Construct.Repetition size (Passes.Counted start end)) = counts size start end
operands (Construct.Switch size) = plain record { own = refl; binder = refl; length = refl }
operands (Construct.Use rule) = plain record { own = refl; binder = refl; length = refl }
operands (Construct.Literal length) = characters length
operands (Construct.Range low high) = plain record { own = refl; binder = refl; length = refl }
operands (Construct.Uint signed width start end binder) = set signed width start end binder
operands Construct.Eod = plain record { own = refl; binder = refl; length = refl }
