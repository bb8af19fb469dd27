-- What FIRST, FOLLOW and derivations are made of, node by node: the ways to work the sets of a grammar out.
-- Assumes nothing.
use Prim.Native.Nat.{ℕ, zero, suc}
use mathlib.Core.Path.{◌≡◌, refl, sym, subst}
use mathlib.Core.Logic.{◌⊎◌, inl, inr}
use mathlib.Core.Bool.{true}
use mathlib.Core.List.{List, [], ◌∷◌, ◌++◌}
use lib.ListN.{length}
use Rattle.basis.specs.Bits.{Bits}
use Rattle.basis.specs.Counts.{Allows}
use Rattle.basis.specs.Lookahead.{lookahead, join}
use Rattle.theory.specs.Grammar.{Node, alternative, concatenation, repetition, switch, use_of, field, eod, Grammar, ◌∈◌}
use Rattle.theory.specs.Derivation.{Tree, Shape, construct, members, passes, Derives}
use Rattle.theory.specs.Lookahead.{First, Follow}

module _ {Context Values : Type 0} (g : Grammar Context Values) where
  abbrev pub First-of : ℕ → Bits → Type 0
  First-of i x = First g (construct i (g.node i)) x

  -- what the rules of FIRST say of a shape's strings
  abbrev pub FirstBy : Shape Context Values → Bits → Type 0
  FirstBy (construct i (alternative is)) x = (b : ℕ) × (b ∈ is) × First-of b x
  FirstBy (construct i (concatenation is)) x = First g (members is) x
  FirstBy (construct i (repetition counts static fixed b)) x = (k : ℕ) × Allows static k × First g (passes b k) x
  FirstBy (construct i (switch chosen optional is)) x = ((b : ℕ) × (b ∈ is) × First-of b x) ⊎ ((optional ≡ true) × (x ≡ []))
  FirstBy (construct i (use_of enters opens closes b)) x = First-of b x
  FirstBy (construct i (field w admits static binds)) x = (bits : Bits) × (length bits ≡ w bits) × (static bits ≡ true) × (x ≡ lookahead bits)
  FirstBy (construct i eod) x = x ≡ []
  FirstBy (members []) x = x ≡ []
  FirstBy (members (m ∷ is)) x = (y : Bits) × (z : Bits) × First-of m y × First g (members is) z × (x ≡ join y z)
  FirstBy (passes b zero) x = x ≡ []
  FirstBy (passes b (suc k)) x = (y : Bits) × (z : Bits) × First-of b y × First g (passes b k) z × (x ≡ join y z)

  pub first_by : {what : Shape Context Values} {x : Bits} → First g what x → FirstBy what x
  first_by (First.of_field bits l s e) = (bits, l, s, e)
  first_by First.of_eod = refl
  first_by (First.of_alternative {b = b} m f) = (b, m, f)
  first_by (First.of_switch {b = b} m f) = inl (b, m, f)
  first_by (First.of_no_case o) = inr (o, refl)
  first_by (First.of_use f) = f
  first_by (First.of_concatenation f) = f
  first_by First.no_members = refl
  first_by (First.more_members {x = x} {y = y} f fs e) = (x, y, f, fs, e)
  first_by (First.of_repetition k a f) = (k, a, f)
  first_by First.no_passes = refl
  first_by (First.more_passes {x = x} {y = y} f fs e) = (x, y, f, fs, e)

  -- the values after a derived field are those that it binds
  abbrev pub BindsBy : Shape Context Values → Context → Values → Values → Type 0
  BindsBy (construct i (alternative is)) c v v' = Unit {0}
  BindsBy (construct i (concatenation is)) c v v' = Unit {0}
  BindsBy (construct i (repetition counts static fixed b)) c v v' = Unit {0}
  BindsBy (construct i (switch chosen optional is)) c v v' = Unit {0}
  BindsBy (construct i (use_of enters opens closes b)) c v v' = Unit {0}
  BindsBy (construct i (field w admits static binds)) c v v' = (bits : Bits) × (v' ≡ binds c v bits)
  BindsBy (construct i eod) c v v' = v' ≡ v
  BindsBy (members is) c v v' = Unit {0}
  BindsBy (passes b k) c v v' = Unit {0}

  pub binds_by : {what : Shape Context Values} {t : Tree} {c : Context} {v v' : Values} {s r : Bits} → Derives g what t c v s v' r → BindsBy what c v v'
  binds_by (Derives.of_alternative m d) = tt
  binds_by (Derives.of_concatenation d) = tt
  binds_by (Derives.of_repetition k a d) = tt
  binds_by (Derives.of_switch e d) = tt
  binds_by (Derives.of_no_case e o) = tt
  binds_by (Derives.of_use e d q) = tt
  binds_by (Derives.of_field bits l e a q) = (bits, q)
  binds_by Derives.of_eod = refl
  binds_by Derives.no_members = tt
  binds_by (Derives.more_members d ds) = tt
  binds_by Derives.no_passes = tt
  binds_by (Derives.more_passes d ds) = tt

  -- FOLLOW is least: sets that hold the empty string for the start, and that each node's rule keeps to, hold it
  module _ (holds : ℕ → Bits → Type 0) where
    abbrev pub MembersKeep : ℕ → List ℕ → Type 0
    MembersKeep i [] = Unit {0}
    MembersKeep i (m ∷ is) = ((x y : Bits) → First g (members is) x → holds i y → holds m (join x y)) × MembersKeep i is

    abbrev pub Keeps : ℕ → Node Context Values → Type 0
    Keeps i (alternative is) = (b : ℕ) → b ∈ is → (x : Bits) → holds i x → holds b x
    Keeps i (concatenation is) = MembersKeep i is
    Keeps i (repetition counts static fixed b) = (k : ℕ) (x y : Bits) → First g (passes b k) x → holds i y → holds b (join x y)
    Keeps i (switch chosen optional is) = (b : ℕ) → b ∈ is → (x : Bits) → holds i x → holds b x
    Keeps i (use_of enters opens closes b) = (x : Bits) → holds i x → holds b x
    Keeps i (field w admits static binds) = Unit {0}
    Keeps i eod = Unit {0}

    member_kept : {i m : ℕ} (before after : List ℕ) → MembersKeep i (before ++ m ∷ after) → (x y : Bits) → First g (members after) x → holds i y → holds m (join x y)
    member_kept [] after k = k.0
    member_kept (b ∷ before) after k = member_kept before after k.1

    pub follow_least : holds g.start [] → ((i : ℕ) → Keeps i (g.node i)) → {i : ℕ} {x : Bits} → Follow g i x → holds i x
    follow_least s k (Follow.of_start e) = subst (λ (j : ℕ). holds j []) (sym e) s
    follow_least s k (Follow.of_rule {i = i} {x = x} e f) = subst (Keeps i) e (k i) x (follow_least s k f)
    follow_least s k (Follow.of_member {i = i} {m = m} {x = x} {y = y} before after e fs f q) =
        subst (holds m) (sym q) (member_kept before after (subst (Keeps i) e (k i)) x y fs (follow_least s k f))
    follow_least s k (Follow.of_branch {i = i} {b = b} {x = x} e m f) = subst (Keeps i) e (k i) b m x (follow_least s k f)
    follow_least s k (Follow.of_case {i = i} {b = b} {x = x} e m f) = subst (Keeps i) e (k i) b m x (follow_least s k f)
    follow_least s k (Follow.of_body {i = i} {b = b} {x = x} {y = y} n e fs f q) =
        subst (holds b) (sym q) (subst (Keeps i) e (k i) n x y fs (follow_least s k f))
