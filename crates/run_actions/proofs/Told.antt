-- What an entry does by its construct's words: the same as by the construct.
-- Assumes nothing.
use Prim.Native.Nat.{ℕ, ◌+◌, ◌≤◌, ◌<◌}
use mathlib.Core.Path.{◌≡◌, refl, sym, ap, subst, ◌∙◌}
use mathlib.Core.Logic.{◌⊎◌, inl, inr}
use mathlib.Core.Bool.{Bool, true, false, cond, ◌&&◌, false≢true}
use mathlib.Core.List.{List}
use lib.Dec.{leb, eqb}
use lib.IntN.{ℤ}
use borrow.Author.Tests.{eqb-true, lt-ltb}
use Rattle.basis.specs.Limits.{max_constructs, max_variables, max_width, max_bound_width}
use Rattle.basis.proofs.Booleans.{which, picked}
use Rattle.table_layout.specs.Places.{construct_word, construct_count}
use Rattle.table_layout.specs.Constructs.{listed, widest_for, leaf_of, without_parts, construct_of, construct_at}
use Rattle.table_layout.specs.Held.{size_of}
use Rattle.table_layout.proofs.Bounds.{Fine, uint_fine}
use Rattle.table_layout.proofs.Sizes.{size_said}
use Rattle.table_layout.specs.declared.Construct.{Construct}
use Rattle.table_layout.specs.declared.Passes.{Passes}
use Rattle.run_actions.specs.Acts.{whole_in_table, ahead_at, counted, turn_act, literal_act, range_act, uint_act, construct_act}
use Rattle.run_actions.specs.declared.Act.{Act}
use Rattle.std.specs.Prelude.{Ok, Err}
use Rattle.term_words.specs.declared.TermError.{TermError}
use Rattle.term_evaluation.specs.declared.Allowed.{Allowed}

same_cond : {A : Type 0} (b : Bool) (x y : A) → x ≡ y → cond b x y ≡ y
same_cond true x y e = e
same_cond false x y e = refl

-- the size that the words say serves for the construct's: where they differ the construct is missing, and broken either way
pub by_size : (i size n : ℕ) (x : Construct) (act : Construct → Act) → act Construct.Missing ≡ Act.Broken → (size_of x ≡ size) ⊎ (x ≡ Construct.Missing)
    → cond (leb (i + size) n) (act x) Act.Broken ≡ cond (leb (i + size_of x) n) (act x) Act.Broken
by_size i size n x act m (inl e) = ap (λ (s : ℕ). cond (leb (i + s) n) (act x) Act.Broken) (sym e)
by_size i size n x act m (inr e) =
    same_cond (leb (i + size) n) (act x) Act.Broken (ap act e ∙ m) ∙ sym (same_cond (leb (i + size_of x) n) (act x) Act.Broken (ap act e ∙ m))

-- a repetition: of one against the layout the counts are malformed
pub repeats : (ws fs : List ℕ) (vs : List ℤ) (p i k size start end : ℕ) (a b c d : Bool)
    → turn_act ws (ahead_at fs p) i k
    (cond a (Ok (Allowed.Within 0 1)) (cond b (Ok (Allowed.From 0)) (cond c (Ok (Allowed.From 1)) (cond d (counted ws vs (Passes.Counted start end)) (Err TermError.Malformed)))))
    ≡ construct_act ws fs vs p i k
    (cond a (Construct.Repetition size Passes.Optional)
    (cond b (Construct.Repetition size Passes.Any)
    (cond c (Construct.Repetition size Passes.Some) (cond d (Construct.Repetition size (Passes.Counted start end)) Construct.Missing))))
repeats ws fs vs p i k size start end true b c d = refl
repeats ws fs vs p i k size start end false true c d = refl
repeats ws fs vs p i k size start end false false true d = refl
repeats ws fs vs p i k size start end false false false true = refl
repeats ws fs vs p i k size start end false false false false = refl

-- fields, where their operands pass a test
pub literals : (ws fs : List ℕ) (vs : List ℤ) (p i k n : ℕ) (b : Bool)
    → cond b (literal_act ws fs p i n) Act.Broken ≡ construct_act ws fs vs p i k (cond b (Construct.Literal n) Construct.Missing)
literals ws fs vs p i k n true = refl
literals ws fs vs p i k n false = refl

pub ranges : (ws fs : List ℕ) (vs : List ℤ) (p i k low high : ℕ) (b : Bool)
    → cond b (range_act fs p low high) Act.Broken ≡ construct_act ws fs vs p i k (cond b (Construct.Range low high) Construct.Missing)
ranges ws fs vs p i k low high true = refl
ranges ws fs vs p i k low high false = refl

uints : (ws fs : List ℕ) (vs : List ℤ) (p i k : ℕ) (signed : Bool) (width start end binder : ℕ) (b : Bool)
    → cond b (uint_act ws fs vs p signed width start end binder) Act.Broken ≡ construct_act ws fs vs p i k (cond b (Construct.Uint signed width start end binder) Construct.Missing)
uints ws fs vs p i k signed width start end binder true = refl
uints ws fs vs p i k signed width start end binder false = refl

-- a uint's or a sint's operands are within their limits
abbrev pub fits : ℕ → ℕ → ℕ → ℕ → Bool
fits width start end binder = (leb 1 width && leb width (widest_for binder)) && (listed start end && leb binder max_variables)

-- a uint or a sint: its kind is its sign
pub numbers : (ws fs : List ℕ) (vs : List ℤ) (p i k kind a b c d : ℕ) → cond (eqb kind 8) true (eqb kind 12) ≡ true
    → cond (fits a b c d) (uint_act ws fs vs p (eqb kind 12) a b c d) Act.Broken ≡ construct_act ws fs vs p i k (leaf_of kind a b c d)
numbers ws fs vs p i k kind a b c d e =
    elim (which (eqb kind 8)) [
      | inl t ↦ subst P (sym (eqb-true kind 8 t)) (uints ws fs vs p i k false a b c d (fits a b c d))
      | inr f ↦ subst P (sym (eqb-true kind 12 (subst (λ (x : Bool). cond x true (eqb kind 12) ≡ true) f e))) (uints ws fs vs p i k true a b c d (fits a b c d))
    ]
  where
    P : ℕ → Type 0
    P n = cond (fits a b c d) (uint_act ws fs vs p (eqb n 12) a b c d) Act.Broken ≡ construct_act ws fs vs p i k (leaf_of n a b c d)

-- kind 0 is none
pub no_kind : (ws fs : List ℕ) (vs : List ℤ) (p i k kind size a b c d : ℕ) → kind ≡ 0 → Act.Broken ≡ construct_act ws fs vs p i k (without_parts kind size a b c d)
no_kind ws fs vs p i k kind size a b c d e =
    rw e (picked (λ (x : Construct). Act.Broken ≡ construct_act ws fs vs p i k x) (eqb size 1) (λ h. refl) (λ h. refl))

-- neither a uint nor a sint
pub no_number : (b c : Bool) → cond b true c ≡ false → (b ≡ false) × (c ≡ false)
no_number true c e = absurd (false≢true (sym e))
no_number false c e = (refl, e)

-- how wide what fits is
pub fits_width : (i a b c d : ℕ) → i < max_constructs → fits a b c d ≡ true → (a ≤ max_width) × (0 < d → a ≤ max_bound_width)
fits_width i a b c d h e =
    let f : Fine i (Construct.Uint true a b c d) = subst (λ (t : Bool). Fine i (cond t (Construct.Uint true a b c d) Construct.Missing)) e (uint_fine true i a b c d h) in (f.2, f.6)

-- construct i, by its words
pub told_at : (ws : List ℕ) (i kind size a b c d : ℕ) → i < max_constructs → kind ≡ construct_word ws i 0 → size ≡ construct_word ws i 1 → a ≡ construct_word ws i 2
    → b ≡ construct_word ws i 3 → c ≡ construct_word ws i 4 → d ≡ construct_word ws i 5 → construct_of i kind size a b c d ≡ construct_at ws i
unfolding construct_at
told_at ws i kind size a b c d h e0 e1 e2 e3 e4 e5 = rw (lt-ltb i max_constructs h) (λ t. construct_of i (e0 t) (e1 t) (e2 t) (e3 t) (e4 t) (e5 t))

said_at : (ws : List ℕ) (i : ℕ) → i < max_constructs → (size_of (construct_at ws i) ≡ construct_word ws i 1) ⊎ (construct_at ws i ≡ Construct.Missing)
unfolding construct_at
said_at ws i h =
    rw (lt-ltb i max_constructs h) (size_said i (construct_word ws i 0) (construct_word ws i 1) (construct_word ws i 2) (construct_word ws i 3) (construct_word ws i 4) (construct_word ws i 5))

-- whether the table has a construct whole, by the size that its words say
pub by_word : (ws fs : List ℕ) (vs : List ℤ) (p i k : ℕ) → i < max_constructs
    → cond (leb (i + construct_word ws i 1) (construct_count ws)) (construct_act ws fs vs p i k (construct_at ws i)) Act.Broken
    ≡ cond (whole_in_table ws i) (construct_act ws fs vs p i k (construct_at ws i)) Act.Broken
by_word ws fs vs p i k h = by_size i (construct_word ws i 1) (construct_count ws) (construct_at ws i) (construct_act ws fs vs p i k) refl (said_at ws i h)
