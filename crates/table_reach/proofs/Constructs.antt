-- What holds of a construct whatever the words: a use names one of 64 rules, a construct ends by 256, and words that are 0 say nothing.
-- Assumes nothing.
use Prim.Native.Nat.{ℕ, ◌+◌, ◌≤◌, ◌<◌}
use native.Mathlib.Omega.{arith}
use mathlib.Core.Path.{◌≡◌, refl, subst}
use mathlib.Core.Bool.{Bool, true, false, cond}
use mathlib.Core.List.{List}
use lib.Dec.{ltb}
use Rattle.basis.specs.Limits.{max_constructs}
use Rattle.table_layout.specs.Places.{construct_word}
use Rattle.table_layout.specs.Constructs.{construct_of, construct_at}
use Rattle.table_layout.specs.Held.{size_of}
use Rattle.table_layout.specs.declared.Construct.{Construct}
use Rattle.table_layout.proofs.Bounds.{Fine, fine, size_fits}

pub use_below : (ws : List ℕ) (i q : ℕ) → construct_at ws i ≡ Construct.Use q → (i < 256) × (q < 64)
use_below ws i q e = subst (Fine i) e (fine ws i)

-- a construct ends by 256
pub size_within : (ws : List ℕ) (i : ℕ) → i < 256 → i + size_of (construct_at ws i) ≤ 256
size_within ws i h = omega (arith, size_fits ws i)

-- where its kind and its size are 0 there is none
no_words : (i a b c d : ℕ) → construct_of i 0 0 a b c d ≡ Construct.Missing
unfolding construct_of
no_words i a b c d = refl

same_way : (b : Bool) (x : Construct) → cond b x x ≡ x
same_way true x = refl
same_way false x = refl

nothing : (i kind size a b c d : ℕ) → kind ≡ 0 → size ≡ 0 → cond (ltb i max_constructs) (construct_of i kind size a b c d) Construct.Missing ≡ Construct.Missing
nothing i kind size a b c d e f = rw (e, f, no_words i a b c d) (same_way (ltb i max_constructs) Construct.Missing)

pub missing_zero : (ws : List ℕ) (i : ℕ) → construct_word ws i 0 ≡ 0 → construct_word ws i 1 ≡ 0 → construct_at ws i ≡ Construct.Missing
unfolding construct_at
missing_zero ws i e f =
    nothing i (construct_word ws i 0) (construct_word ws i 1) (construct_word ws i 2) (construct_word ws i 3) (construct_word ws i 4) (construct_word ws i 5) e f
